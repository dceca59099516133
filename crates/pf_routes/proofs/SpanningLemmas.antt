-- Edges chosen between the numbers of names, as edges of the text.
use Rattle.std.proofs.Common.{◌≡◌, ℕ, zero, suc, ◌<◌, ◌+◌, List, [], ◌∷◌, ◌++◌, map, length, get_or, refl, sym, ap, ◌∙◌, subst, arith, true, nat_eq}
use Rattle.std.specs.Prelude.{All, Contains}
use Rattle.std.specs.List.{flat_map}
use Rattle.std.specs.List.Sorted.{IsSorted}
use Rattle.std.specs.Ordering.{nat_cmp, is_lt}
use Rattle.std.specs.Str.{bytes_eq}
use Rattle.std.proofs.lemmas.List.{get_or-map, length-map}
use Rattle.std.proofs.lemmas.List.Elements.{Contains-append_left, Contains-append_right, Contains-get_or}
use Rattle.std.proofs.lemmas.Bool.Decides.{nat_tests}
use Rattle.pf_graph.specs.Spanning.{IsForest, IsLeastUnderEveryBound, AreChosenFrom, AreBelow, AreNamedApart, named}
use Rattle.pf_graph.proofs.Spanning.NameLemmas.{forest_named, least_named}
use Rattle.pf_routes.specs.EdgeText.{Edge}
use Rattle.pf_routes.specs.Internal.Links.{name_at, edge_between, edges_between}
use Rattle.pf_routes.specs.Internal.Network.{LinksEdges}
use Rattle.pf_routes.specs.EdgeLine.{edge_line}
use Rattle.pf_routes.specs.SpanningText.{weighed_edge, AreSpanningLines}
use Rattle.pf_routes.specs.Internal.NumberedLines.{weighed_link, numbered_line, AreInTable}
use Rattle.pf_routes.specs.declared.routes.links.Link.{Link}
use Rattle.pf_routes.specs.declared.routes.network.Linked.{Linked}
use Rattle.pf_routes.proofs.NameGraph.{names-same, names-equivalence}

-- ---- lists

mapped_in : {A B : Type 0} (f : A → B) (xs : List A) (x : A) → Contains xs x → Contains (map f xs) (f x)
mapped_in f xs x c = (c.0, subst (λ (n : ℕ). c.0 < n) (sym (length-map xs f)) c.1, get_or-map f xs c.0 x (f x) c.1 ∙ ap f c.2)

in_mapped : {A B : Type 0} (f : A → B) (xs : List A) (y : B) → Contains (map f xs) y → (x : A) × Contains xs x × (f x ≡ y)
in_mapped f [] y c = absurd (omega (arith, c.1))
in_mapped f (x ∷ xs) y (zero, lt, e) = (x, (0, omega arith, refl), e)
in_mapped f (x ∷ xs) y (suc k, lt, e) = let r = in_mapped f xs y (k, omega (arith, lt), e) in (r.0, (suc r.1.0, omega (arith, r.1.1), r.1.2), r.2)

all_in : {A : Type 0} (P : A → Type 0) (xs : List A) → ((x : A) → Contains xs x → P x) → All P xs
all_in P xs h = λ k d lt. h (get_or xs k d) (Contains-get_or xs k d lt)

pub of_all : {A : Type 0} (P : A → Type 0) (xs : List A) → All P xs → (x : A) → Contains xs x → P x
of_all P xs h x c = subst P c.2 (h c.0 x c.1)

-- what holds of all holds of those between some and others
pub all_between : {A : Type 0} (P : A → Type 0) (before xs after : List A) → All P (before ++ xs ++ after) → All P xs
all_between P before xs after h = all_in P xs (λ x c. of_all P (before ++ xs ++ after) h x (Contains-append_left (before ++ xs) after x (Contains-append_right before xs x c)))

-- ---- edges between numbers of names

module _ {A : Type 0} (linked : Linked A) (edges : List Edge) (s : LinksEdges linked edges) where
  -- the edge between the names of two numbers
  abbrev edge_named : ℕ × ℕ × ℕ → Edge
  edge_named e = record { from = name_at s.names e.0; to = name_at s.names e.1; cost = e.2 }

  apart : AreNamedApart bytes_eq (length s.names) (name_at s.names)
  apart = λ i j a b e. let k : nat_eq i j ≡ true = names-same s.names s.distinct i j a b ∙ e in grind (arith, nat_tests)

  weighed_names : (ls : List Link) → map weighed_edge (edges_between s.names ls) ≡ named (name_at s.names) (map weighed_link ls)
  weighed_names [] = refl
  weighed_names (l ∷ ls) = ap (λ es. (name_at s.names l.source, name_at s.names l.target, l.cost) ∷ es) (weighed_names ls)

  named_names : (es : List (ℕ × ℕ × ℕ)) → map weighed_edge (map edge_named es) ≡ named (name_at s.names) es
  named_names [] = refl
  named_names (e ∷ es) = ap (λ fs. (name_at s.names e.0, name_at s.names e.1, e.2) ∷ fs) (named_names es)

  -- the ends of the links are numbers of names
  pub weighed_below : AreBelow (length s.names) (map weighed_link linked.links.items)
  weighed_below = all_in (λ e. (e.0 < length s.names) × (e.1 < length s.names)) (map weighed_link linked.links.items) (λ e c.
      let r = in_mapped weighed_link linked.links.items e c in
      subst (λ (d : ℕ × ℕ × ℕ). (d.0 < length s.names) × (d.1 < length s.names)) r.2 (of_all (λ (l : Link). (l.source < length s.names) × (l.target < length s.names)) linked.links.items s.below r.0 r.1))

  module _ (chosen : List (ℕ × ℕ × ℕ)) (given : AreChosenFrom (λ (w u : ℕ). u ≡ w) (map weighed_link linked.links.items) chosen) where
    chosen_in : (e : ℕ × ℕ × ℕ) → Contains chosen e → Contains (map weighed_link linked.links.items) e
    chosen_in e c =
        let r = given.as_written e c in
        let is : r.0 ≡ e = λ i. (r.2 i, r.3 i, sym r.4 i) in
        subst (λ d. Contains (map weighed_link linked.links.items) d) is r.1

    chosen_below : AreBelow (length s.names) chosen
    chosen_below = all_in (λ e. (e.0 < length s.names) × (e.1 < length s.names)) chosen (λ e c. of_all (λ e. (e.0 < length s.names) × (e.1 < length s.names)) (map weighed_link linked.links.items) weighed_below e (chosen_in e c))

    pub chosen_in_table : AreInTable linked.names chosen
    chosen_in_table = subst (λ n. All (λ e. (e.0 < n) × (e.1 < n)) chosen) (sym s.kept.count) chosen_below

    lines_named : (es : List (ℕ × ℕ × ℕ)) → AreBelow (length s.names) es → flat_map (numbered_line linked.names) es ≡ flat_map (λ (e : Edge). edge_line e.from e.to e.cost) (map edge_named es)
    lines_named [] below = refl
    lines_named (e ∷ es) below =
        let here = below 0 e (omega arith) in
        λ i. edge_line (s.kept.same e.0 here.0 i) (s.kept.same e.1 here.1 i) e.2 ++ lines_named es (λ k d lt. below (suc k) d (omega (arith, lt))) i

    pub spanning_written : (text : List ℕ) → IsForest nat_eq chosen → IsLeastUnderEveryBound nat_eq nat_cmp (map weighed_link linked.links.items) chosen → IsSorted (λ (e f : ℕ × ℕ × ℕ). nat_cmp e.2 f.2) chosen
        → text ≡ flat_map (numbered_line linked.names) chosen → AreSpanningLines edges text
    spanning_written text forest least sorted written = record {
      chosen = map edge_named chosen;
      given = λ e c.
          let r = in_mapped edge_named chosen e c in
          let l = in_mapped weighed_link linked.links.items r.0 (chosen_in r.0 r.1) in
          subst (λ f. Contains edges f) (ap edge_named l.2 ∙ r.2) (subst (λ es. Contains es (edge_between s.names l.0)) (sym s.spelled) (mapped_in (edge_between s.names) linked.links.items l.0 l.1));
      forest = subst (λ es. IsForest bytes_eq es) (sym (named_names chosen)) (forest_named names-equivalence (length s.names) (name_at s.names) apart chosen chosen_below forest);
      least = subst (λ es. IsLeastUnderEveryBound bytes_eq nat_cmp (map weighed_edge es) (map weighed_edge (map edge_named chosen))) (sym s.spelled)
          (subst (λ es. IsLeastUnderEveryBound bytes_eq nat_cmp es (map weighed_edge (map edge_named chosen))) (sym (weighed_names linked.links.items))
          (subst (λ es. IsLeastUnderEveryBound bytes_eq nat_cmp (named (name_at s.names) (map weighed_link linked.links.items)) es) (sym (named_names chosen))
          (least_named names-equivalence (length s.names) (name_at s.names) apart nat_cmp (map weighed_link linked.links.items) chosen weighed_below chosen_below least)));
      sorted = λ k d low inside.
          let here : k + 1 < length chosen = subst (λ (n : ℕ). k + 1 < n) (length-map chosen edge_named) inside in
          let one = get_or-map edge_named chosen k (0, 0, 0) d (omega (arith, here)) in
          let two = get_or-map edge_named chosen (k + 1) (0, 0, 0) d here in
          (λ i. is_lt (nat_cmp (two i).cost (one i).cost)) ∙ sorted k (0, 0, 0) low here;
      written = written ∙ lines_named chosen chosen_below;
    }
