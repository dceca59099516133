-- Edges chosen by number are chosen by name.
use Rattle.std.proofs.Common.{ℕ, ◌+◌, ◌<◌, ◌≡◌, ◌≢◌, refl, sym, ◌∙◌, subst, arith, List, [], ◌∷◌, ◌++◌, get_or, inl, inr, Bool, true, false, eq-eqb, length, nat_eq, Ordering}
use Rattle.std.specs.Prelude.{All, Contains}
use Rattle.std.specs.declared.cmp.Ordering.TheVariants.{Equal, Greater}
use Rattle.std.specs.Borrow.{Bor}
use Rattle.std.specs.Ordering.{is_eq, is_lt}
use Rattle.std.specs.Cmp.{IsEquivalence, IsTotalOrder, Equal-is}
use Rattle.std.specs.List.{AllZip}
use Rattle.std.specs.List.Sorted.{IsSorted}
use Rattle.std.proofs.lemmas.Bool.Decides.{nat_tests}
use Rattle.std.proofs.lemmas.Cmp.{nat_eq_equiv}
use Rattle.std.proofs.lemmas.Option.{slice_get-get_or, slice_get_within, get_or_from_slice_get}
use Rattle.std.proofs.lemmas.List.Elements.{Contains-get_or}
use Rattle.std.proofs.lemmas.Slice.Zip.{AllZip-long}
use Rattle.pf_base.specs.Answers.{IsLawfulClone}
use Rattle.pf_graph.specs.declared.undirected.weighed.Weighed.{Weighed}
use Rattle.pf_union_find.specs.Joined.{same, linked}
use Rattle.pf_graph.specs.Spanning.{Links, LinksUnder, JoinedUnder, IsForest, IsLeastUnderEveryBound, AreChosenFrom, AreBelow, named, AreNamedApart}
use Rattle.pf_graph.specs.Internal.NumberedEdges.{IsNumbered, IsWritten}
use Rattle.pf_union_find.specs.Nodes.{StandsFor}
use Rattle.pf_union_find.proofs.ListLemmas.{zip_get, zip_get_left, zip_append, zip_split, get_contains, contains_get, contains_middle, contains_around}
use Rattle.pf_graph.proofs.CarryLemmas.{StandsAlike, Joined-carried_some, Joined-carried}
use Rattle.pf_graph.proofs.NumberLemmas.{numbers_alike, nodes_alike}
use Rattle.pf_graph.proofs.Spanning.ForestLemmas.{link_of}
use Rattle.pf_graph.proofs.Spanning.OrderLemmas.{le_equal}

-- where numbers stand for nodes, and edges by number are written, place by place, as edges between nodes for which their ends stand
module _ {N A C : Type 0} {eq : N → N → Bool} (laws : IsEquivalence eq) {stands : ℕ → N → Type 0}
    (numbers : StandsAlike nat_eq eq stands) (nodes : StandsAlike eq nat_eq (λ x i. stands i x))
    (R : (ℕ × ℕ × A) → (N × N × C) → Type 0) (chosen : List (ℕ × ℕ × A)) (written : List (N × N × C)) (zipped : AllZip R chosen written)
    (first : (e : ℕ × ℕ × A) (f : N × N × C) → Contains chosen e → R e f → stands e.0 f.0)
    (second : (e : ℕ × ℕ × A) (f : N × N × C) → Contains chosen e → R e f → stands e.1 f.1) where
  forest_carried : IsForest nat_eq chosen → IsForest eq written
  forest_carried forest = record {
    apart = λ before after f e j.
        let s = zip_split R chosen before f after (subst (λ xs. AllZip R chosen xs) e zipped) in
        let front = s.0 in
        let g = s.1 in
        let rest = s.2 in
        let in_chosen : (d : ℕ × ℕ × A) → Contains (front ++ rest) d → Contains chosen d = λ d c. subst (λ xs. Contains xs d) (sym s.3) (contains_around front g rest d c) in
        let g_in : Contains chosen g = subst (λ xs. Contains xs g) (sym s.3) (contains_middle front g rest) in
        let others = zip_append R front rest before after s.4 s.6 in
        forest.apart front rest g s.3 (Joined-carried laws nodes (λ (x y : N) (l : Links (before ++ after) x y).
        let at = contains_get (before ++ after) l.0 l.1 in
        let d = zip_get R (front ++ rest) (before ++ after) at.0 l.0 others at.1 in
        let d_in = get_contains (front ++ rest) at.0 d.0 d.1 in
        (d.0.0, d.0.1, subst (λ z. stands d.0.0 z) l.2 (first d.0 l.0 (in_chosen d.0 d_in) d.2), subst (λ z. stands d.0.1 z) l.3 (second d.0 l.0 (in_chosen d.0 d_in) d.2), linked (link_of (front ++ rest) d.0 d_in)))
        f.0 f.1 g.0 g.1 (first g f g_in s.5) (second g f g_in s.5) j);
  }

  -- where the edges within a bound are numbered within a bound on their numbers
  module _ (cmp : C → C → Ordering) (cmp' : A → A → Ordering) (edges : List (N × N × C)) (numbered : List (ℕ × ℕ × A)) (b : C) (b' : A)
      (number : (f : N × N × C) → Contains edges f → cmp f.2 b ≢ Greater → (e : ℕ × ℕ × A) × Contains numbered e × (cmp' e.2 b' ≢ Greater) × stands e.0 f.0 × stands e.1 f.1)
      (light : (e : ℕ × ℕ × A) (f : N × N × C) → R e f → cmp' e.2 b' ≢ Greater → cmp f.2 b ≢ Greater) where
    joined_carried : ((p q : ℕ) → JoinedUnder nat_eq cmp' b' numbered p q → JoinedUnder nat_eq cmp' b' chosen p q) → (x y : N) → JoinedUnder eq cmp b edges x y → JoinedUnder eq cmp b written x y
    joined_carried least x y j =
        elim (Joined-carried_some laws nodes {link' = LinksUnder cmp' b' numbered} (λ (p q : N) (l : LinksUnder cmp b edges p q).
        let e = number l.0 l.1 l.2 in
        (e.0.0, e.0.1, subst (λ z. stands e.0.0 z) l.3 e.3, subst (λ z. stands e.0.1 z) l.4 e.4, linked (e.0, e.1, e.2, refl, refl))) j) [
          | inl e ↦ same e
          | inr r ↦ Joined-carried nat_eq_equiv numbers (λ (p q : ℕ) (l : LinksUnder cmp' b' chosen p q).
              let at = contains_get chosen l.0 l.1 in
              let f = zip_get_left R chosen written at.0 l.0 zipped at.1 in
              (f.0.0, f.0.1, subst (λ k. stands k f.0.0) l.3 (first l.0 f.0 l.1 f.2), subst (λ k. stands k f.0.1) l.4 (second l.0 f.0 l.1 f.2), linked (f.0, get_contains written at.0 f.0 f.1, light l.0 f.0 f.2 l.2, refl, refl)))
              r.0 r.1 x y r.2 r.3 (least r.0 r.1 r.4)
        ]

-- ---- numbers of the nodes that were kept

-- numbered edges have ends below the number of nodes
pub numbered_below : {N C W : Type 0} {eq : N → N → Bool} (nodes : List (Bor N)) (edges : List (N × N × C)) (numbered : List (ℕ × ℕ × Weighed N C W)) → IsNumbered eq nodes edges numbered → (n : ℕ) → length nodes ≡ n → AreBelow n numbered
numbered_below {N} nodes edges numbered h n len = λ k d inside.
    let r = h.from (get_or numbered k d) (Contains-get_or numbered k d inside) in
    (subst (λ (m : ℕ). (get_or numbered k d).0 < m) len (slice_get_within nodes _ r.1.0 r.1.1), subst (λ (m : ℕ). (get_or numbered k d).1 < m) len (slice_get_within nodes _ r.2.0 r.2.1))

module _ {N C : Type 0} {eq : N → N → Bool} (laws : IsEquivalence eq)
    (nodes : List (Bor N)) (edges : List (N × N × C)) (numbered : List (ℕ × ℕ × Weighed N C C)) (h : IsNumbered eq nodes edges numbered)
    (chosen : List (ℕ × ℕ × Weighed N C C)) (written : List (N × N × C)) (w : AllZip IsWritten chosen written) (given : (e : ℕ × ℕ × Weighed N C C) → Contains chosen e → Contains numbered e) where
  -- the ends of a written edge have the numbers of the edge that it is written from
  stands_first : (e : ℕ × ℕ × Weighed N C C) (f : N × N × C) → Contains chosen e → IsWritten e f → StandsFor eq nodes e.0 f.0
  stands_first e f c r = subst (λ x. StandsFor eq nodes e.0 x) (sym r.0) (h.from e (given e c)).1

  stands_second : (e : ℕ × ℕ × Weighed N C C) (f : N × N × C) → Contains chosen e → IsWritten e f → StandsFor eq nodes e.1 f.1
  stands_second e f c r = subst (λ x. StandsFor eq nodes e.1 x) (sym r.1) (h.from e (given e c)).2

  pub written_forest : IsForest nat_eq chosen → IsForest eq written
  written_forest = forest_carried laws (numbers_alike laws nodes h.apart) (nodes_alike laws nodes h.apart) IsWritten chosen written w stands_first stands_second

  -- where each edge is weighed by a clone of its weight
  module _ (is_clone : C → C → Type 0) (weighed : All (λ (e : ℕ × ℕ × Weighed N C C). is_clone e.2.edge.now.2 e.2.weight) numbered) where
    clone_of : (e : ℕ × ℕ × Weighed N C C) → Contains numbered e → is_clone e.2.edge.now.2 e.2.weight
    clone_of e c = subst (λ (d : ℕ × ℕ × Weighed N C C). is_clone d.2.edge.now.2 d.2.weight) c.2 (weighed c.0 e c.1)

    pub written_given : AreChosenFrom is_clone edges written
    written_given = record {
      as_written = λ f c.
          let at = contains_get written f c in
          let e = zip_get IsWritten chosen written at.0 f w at.1 in
          let c = given e.0 (get_contains chosen at.0 e.0 e.1) in
          (e.0.2.edge.now, (h.from e.0 c).0, sym e.2.0, sym e.2.1, subst (λ (v : C). is_clone e.0.2.edge.now.2 v) (sym e.2.2) (clone_of e.0 c));
    }

    module _ {cmp : C → C → Ordering} (total : IsTotalOrder cmp) {ceq : C → C → Bool} (agree : (x y : C) → ceq x y ≡ is_eq (cmp x y)) (lawful : IsLawfulClone ceq is_clone) where
      equal_weight : (e : ℕ × ℕ × Weighed N C C) → Contains numbered e → cmp e.2.edge.now.2 e.2.weight ≡ Equal
      equal_weight e c = (Equal-is _).0 (sym (agree e.2.edge.now.2 e.2.weight) ∙ lawful e.2.edge.now.2 e.2.weight (clone_of e c))

      pub written_least : IsLeastUnderEveryBound nat_eq (λ (s t : Weighed N C C). cmp s.weight t.weight) numbered chosen → IsLeastUnderEveryBound eq cmp edges written
      written_least least = record {
        joins = λ b x y j.
            let bound : Weighed N C C = record { edge = record { ref_ptr = (0, 0); now = (x, y, b) }; weight = b } in
            joined_carried laws (numbers_alike laws nodes h.apart) (nodes_alike laws nodes h.apart) IsWritten chosen written w stands_first stands_second
            cmp (λ (s t : Weighed N C C). cmp s.weight t.weight) edges numbered b bound
            (λ f c l.
            let e = h.all f c in
            let s = h.from e.0 e.1 in
            let light : cmp e.0.2.edge.now.2 b ≢ Greater = subst (λ (d : N × N × C). cmp d.2 b ≢ Greater) (sym e.2) l in
            (e.0, e.1, le_equal total e.0.2.edge.now.2 e.0.2.weight b (equal_weight e.0 e.1) light, subst (λ (d : N × N × C). StandsFor eq nodes e.0.0 d.0) e.2 s.1, subst (λ (d : N × N × C). StandsFor eq nodes e.0.1 d.1) e.2 s.2))
            (λ e f r l. subst (λ (v : C). cmp v b ≢ Greater) (sym r.2) l)
            (least.joins bound) x y j;
      }

-- what is sorted by number is sorted as it is written
pub written_sorted : {N C : Type 0} (cmp : C → C → Ordering) (chosen : List (ℕ × ℕ × Weighed N C C)) (written : List (N × N × C)) → AllZip IsWritten chosen written → IsSorted (λ (e f : ℕ × ℕ × Weighed N C C). cmp e.2.weight f.2.weight) chosen → IsSorted (λ (e f : N × N × C). cmp e.2 f.2) written
written_sorted {N} {C} cmp chosen written w sorted = λ k d low inside.
    let first = zip_get IsWritten chosen written k (get_or written k d) w (slice_get-get_or written k d (omega (arith, inside))) in
    let second = zip_get IsWritten chosen written (k + 1) (get_or written (k + 1) d) w (slice_get-get_or written (k + 1) d inside) in
    let len = AllZip-long IsWritten chosen written w in
    let here = sorted k first.0 low (omega (arith, inside, len)) in
    let one : get_or chosen k first.0 ≡ first.0 = get_or_from_slice_get chosen k first.0 first.0 first.1 in
    let two : get_or chosen (k + 1) first.0 ≡ second.0 = get_or_from_slice_get chosen (k + 1) second.0 first.0 second.1 in
    let there = subst (λ (e : ℕ × ℕ × Weighed N C C). is_lt (cmp second.0.2.weight e.2.weight) ≡ false) one (subst (λ (e : ℕ × ℕ × Weighed N C C). is_lt (cmp e.2.weight (get_or chosen k first.0).2.weight) ≡ false) two here) in
    subst (λ (v : C). is_lt (cmp (get_or written (k + 1) d).2 v) ≡ false) (sym first.2.2) (subst (λ (v : C). is_lt (cmp v first.0.2.weight) ≡ false) (sym second.2.2) there)

-- ---- numbers of names, for callers that number their nodes

module _ {N : Type 0} (name : ℕ → N) {C : Type 0} where
  -- f is e with nodes for its numbers
  abbrev IsNamed : (ℕ × ℕ × C) → (N × N × C) → Type 0
  IsNamed e f = f ≡ (name e.0, name e.1, e.2)

  zip_named : (edges : List (ℕ × ℕ × C)) → AllZip IsNamed edges (named name edges)
  zip_named [] = tt
  zip_named (e ∷ es) = (refl, zip_named es)

below_at : {C : Type 0} (count : ℕ) (edges : List (ℕ × ℕ × C)) → AreBelow count edges → (e : ℕ × ℕ × C) → Contains edges e → (e.0 < count) × (e.1 < count)
below_at count edges below e c = subst (λ d. (d.0 < count) × (d.1 < count)) c.2 (below c.0 e c.1)

module _ {N : Type 0} {eq : N → N → Bool} (laws : IsEquivalence eq) (count : ℕ) (name : ℕ → N) (apart : AreNamedApart eq count name) where
  -- x is the same node as the i-th name
  abbrev HasName : ℕ → N → Type 0
  HasName i x = (i < count) × (eq (name i) x ≡ true)

  number_of : (i : ℕ) (x y : N) → eq x y ≡ true → eq (name i) y ≡ true → eq (name i) x ≡ true
  number_of i x y e a = laws.symm (name i) x ∙ laws.congr x y (name i) e ∙ laws.symm y (name i) ∙ a

  numbers_named : StandsAlike nat_eq eq HasName
  numbers_named = record {
    across = λ i j x y a b e. let k : i ≡ j = grind (arith, nat_tests) in sym (laws.congr (name i) x y a.1) ∙ subst (λ n. eq (name n) y ≡ true) (sym k) b.1;
    closed = λ i j x e a. let k : i ≡ j = grind (arith, nat_tests) in subst (λ n. HasName n x) (sym k) a;
  }

  nodes_named : StandsAlike eq nat_eq (λ x i. HasName i x)
  nodes_named = record {
    across = λ x y i j a b e. eq-eqb i j (apart i j a.0 b.0 (laws.congr (name i) x (name j) a.1 ∙ laws.symm x (name j) ∙ number_of j x y e b.1));
    closed = λ x y i e a. (a.0, number_of i x y e a.1);
  }

  module _ {C : Type 0} where
    first_named : (edges : List (ℕ × ℕ × C)) → AreBelow count edges → (e : ℕ × ℕ × C) (f : N × N × C) → Contains edges e → IsNamed name e f → HasName e.0 f.0
    first_named edges below e f c r = ((below_at count edges below e c).0, subst (λ (d : N × N × C). eq (name e.0) d.0 ≡ true) (sym r) (laws.refl (name e.0)))

    second_named : (edges : List (ℕ × ℕ × C)) → AreBelow count edges → (e : ℕ × ℕ × C) (f : N × N × C) → Contains edges e → IsNamed name e f → HasName e.1 f.1
    second_named edges below e f c r = ((below_at count edges below e c).1, subst (λ (d : N × N × C). eq (name e.1) d.1 ≡ true) (sym r) (laws.refl (name e.1)))

    pub forest_named : (chosen : List (ℕ × ℕ × C)) → AreBelow count chosen → IsForest nat_eq chosen → IsForest eq (named name chosen)
    forest_named chosen below = forest_carried laws numbers_named nodes_named (IsNamed name) chosen (named name chosen) (zip_named name chosen) (first_named chosen below) (second_named chosen below)

    pub least_named : (cmp : C → C → Ordering) (edges chosen : List (ℕ × ℕ × C)) → AreBelow count edges → AreBelow count chosen → IsLeastUnderEveryBound nat_eq cmp edges chosen → IsLeastUnderEveryBound eq cmp (named name edges) (named name chosen)
    least_named cmp edges chosen below chosen_below least = record {
      joins = λ w.
          joined_carried laws numbers_named nodes_named (IsNamed name) chosen (named name chosen) (zip_named name chosen) (first_named chosen chosen_below) (second_named chosen chosen_below)
          cmp cmp (named name edges) edges w w
          (λ f c l.
          let at = contains_get (named name edges) f c in
          let d = zip_get (IsNamed name) edges (named name edges) at.0 f (zip_named name edges) at.1 in
          let d_in = get_contains edges at.0 d.0 d.1 in
          (d.0, d_in, subst (λ (g : N × N × C). cmp g.2 w ≢ Greater) d.2 l, first_named edges below d.0 f d_in d.2, second_named edges below d.0 f d_in d.2))
          (λ e f r l. subst (λ (d : N × N × C). cmp d.2 w ≢ Greater) (sym r) l)
          (least.joins w);
    }
