-- Lists of edges between names that are laid out as graphs.
use Rattle.std.proofs.Common.{◌≡◌, inl, inr, ℕ, zero, suc, ◌+◌, ◌-◌, ◌<◌, refl, sym, subst, ◌∙◌, ap, arith, Bool, true, false, true≢false, nat_eq, cond, List, [], ◌∷◌, length, map, if◌then◌else◌}
use Rattle.std.specs.Prelude.{◌≤ℤ◌, ℤ, pos, Option, Some, None, MatchOption, slice_get}
use Rattle.std.specs.Borrow.{Bor}
use Rattle.std.specs.Cmp.{IsEquivalence}
use Rattle.std.specs.List.{cons_option, position, position_from}
use Rattle.std.specs.Option.{option_map_or}
use Rattle.std.proofs.lemmas.Iterator.Adapters.{position_from-zero}
use Rattle.std.proofs.lemmas.Option.{slice_get_within}
use Rattle.pf_base.specs.Walks.{HasNode}
use Rattle.pf_base.specs.NodeRefs.{nodes_of}
use Rattle.pf_base.specs.Places.{number_of}
use Rattle.pf_base.proofs.ListLemmas.{get_within, none_in}
use Rattle.pf_core.specs.Nodes.{StandsFor}
use Rattle.pf_tables.specs.Graphs.{IsGraph, between, filled}
use Rattle.pf_tables.proofs.Faulty.{less_or_same, some_same}
use Rattle.pf_adjacency.specs.NumberedEdges.{AreSoundEdges, IsSoundEdge, ends_from}
use Rattle.pf_edge_lists.specs.EdgeLists.{CostsFromZeroTo, HasEdgesByName, NamesAndEdges, names_of, numbered_from, places_of}
use Rattle.pf_edge_lists.specs.Internal.Layouts.{IsLaidOutByName}
use Rattle.pf_edge_lists.proofs.NumberedNames.{AreNamed, all_named, from_number, names_apart, number_inside, numbered}

map_at : {A B : Type 0} (f : A → B) (xs : List A) (k : ℕ) (y : B) → slice_get (map f xs) k ≡ Some y → (x : A) × (slice_get xs k ≡ Some x) × (f x ≡ y)
map_at f [] k y h = absurd (none_in k y h)
map_at f (x ∷ xs) zero y h = (x, refl, some_same h)
map_at f (x ∷ xs) (suc k) y h = map_at f xs k y h

-- one more edge that does not cost less than 0
pub one_more_edge : {N C : Type 0} (value : C → ℤ) (edges : List (N × N × C)) (number : ℕ) (e : N × N × C) → slice_get edges number ≡ Some e → pos 0 ≤ℤ value e.2 → CostsFromZeroTo value edges number → CostsFromZeroTo value edges (number + 1)
one_more_edge value edges number e stands sound before k d l h = elim (less_or_same k number l) as (λ _. pos 0 ≤ℤ value d.2) [
  | inl b ↦ before k d b h
  | inr s ↦ subst (λ x. pos 0 ≤ℤ value x.2) (some_same (sym stands ∙ ap (slice_get edges) (sym s) ∙ h)) sound
]

module _ {N C : Type 0} {eq : N → N → Bool} (laws : IsEquivalence eq) where
  -- equal names have the same edges
  pub ends_alike : (edges : List (N × N × C)) (x y : N) → eq x y ≡ true → ends_from eq edges x ≡ ends_from eq edges y
  ends_alike [] x y h = refl
  ends_alike (e ∷ es) x y h =
      let same : eq e.0 x ≡ eq e.0 y = laws.symm e.0 x ∙ laws.congr x y e.0 h ∙ laws.symm y e.0 in
      ap (λ (b : Bool). cons_option (if b then Some (e.1, e.2) else None) (ends_from eq es x)) same ∙ ap (λ r. cons_option (if eq e.0 y then Some (e.1, e.2) else None) r) (ends_alike es x y h)

  pub has_edges_by_name : (list : NamesAndEdges N C) → HasEdgesByName eq list
  has_edges_by_name list node x s =
      ap (λ o. option_map_or (λ y. filled (numbered_from eq list y)) o []) s.1
      ∙ ap (λ es. filled (map (λ (e : N × C). (number_of eq (names_of eq list) e.0, e.1)) es)) (ends_alike list.edges s.0 x s.2)

module _ {N C : Type 0} {eq : N → N → Bool} (laws : IsEquivalence eq) where
  -- edges between the numbers of names lead from one of these to another, at the same costs
  pub sound_numbers : (value : C → ℤ) (names : List N) (edges : List (N × N × C)) → AreNamed eq names edges → CostsFromZeroTo value edges (length edges) → AreSoundEdges value (length names) (map (numbered eq names) edges)
  sound_numbers value names edges named costs k e h =
      let d = map_at (numbered eq names) edges k e h in
      let both = named k d.0 d.1 in
      subst (IsSoundEdge value (length names)) d.2
      (record { source = number_inside laws names d.0.0 both.0; target = number_inside laws names d.0.1 both.1; from_zero = costs k d.0 (slice_get_within edges k d.0 d.1) d.1 })

  module _ (list : NamesAndEdges N C) (names : List N) (graph : List ℕ × List (ℕ × C)) (laid : IsLaidOutByName eq list names graph) where
    pub size_is : length graph.0 - 1 ≡ length (names_of eq list)
    size_is = omega (arith, laid.rows.size, ap length laid.named)

    pub inside_rows : (node : ℕ) → node < length (names_of eq list) → node < length graph.0 - 1
    inside_rows node l = omega (arith, l, size_is)

    -- the row of a node has the edges from its name
    pub places_are : (node : ℕ) → node < length (names_of eq list) → filled (between graph.0 graph.1 node) ≡ places_of eq list node
    places_are node inside =
        let x = get_within (names_of eq list) node inside in
        let row : between graph.0 graph.1 node ≡ numbered_from eq list x.0 =
        laid.rows.rows node (omega (arith, inside, ap length laid.named)) ∙ ap (λ ns. ends_from nat_eq (map (numbered eq ns) list.edges) node) laid.named
        ∙ from_number laws (names_of eq list) (names_apart laws list) node x.0 x.1 list.edges (all_named laws list) in
        ap filled row ∙ sym (ap (λ o. option_map_or (λ y. filled (numbered_from eq list y)) o []) x.1)

    pub edge_list_graph : (value : C → ℤ) → IsGraph value (length graph.0 - 1) (λ n. filled (between graph.0 graph.1 n)) → IsGraph value (length (names_of eq list)) (places_of eq list)
    edge_list_graph value rows = record {
      inside = λ node place edge l h. subst (λ (n : ℕ). edge.0 < n) size_is (rows.inside node place edge (inside_rows node l) (ap (λ ps. slice_get ps place) (places_are node l) ∙ h));
      from_zero = λ node place edge l h. rows.from_zero node place edge (inside_rows node l) (ap (λ ps. slice_get ps place) (places_are node l) ∙ h);
    }

-- what a look-up by name answers
module _ {N : Type 0} {eq : N → N → Bool} (laws : IsEquivalence eq) where
  found_from : (refs : List (Bor N)) (x : N) (first : ℕ) (r : Option ℕ) → r ≡ position_from (λ (q : Bor N). eq x q.now) first refs
      → MatchOption r (¬ (HasNode eq (nodes_of refs) x)) (λ k. (j : ℕ) × (k ≡ first + j) × StandsFor eq (nodes_of refs) j x)
  found_from [] x first r e = subst (λ o. MatchOption o (¬ (HasNode eq [] x)) (λ k. (j : ℕ) × (k ≡ first + j) × StandsFor eq [] j x)) (sym e) (λ h. h)
  found_from (q ∷ refs) x first r e = by (eq x q.now) refl r e (found_from refs x (first + 1))
    where
      by : (b : Bool) → eq x q.now ≡ b → (o : Option ℕ) → o ≡ cond b (Some first) (position_from (λ (p : Bor N). eq x p.now) (first + 1) refs)
          → ((u : Option ℕ) → u ≡ position_from (λ (p : Bor N). eq x p.now) (first + 1) refs → MatchOption u (¬ (HasNode eq (nodes_of refs) x)) (λ k. (j : ℕ) × (k ≡ first + 1 + j) × StandsFor eq (nodes_of refs) j x))
          → MatchOption o (¬ (HasNode eq (nodes_of (q ∷ refs)) x)) (λ k. (j : ℕ) × (k ≡ first + j) × StandsFor eq (nodes_of (q ∷ refs)) j x)
      by true t o f rest = subst (λ u. MatchOption u (¬ (HasNode eq (nodes_of (q ∷ refs)) x)) (λ k. (j : ℕ) × (k ≡ first + j) × StandsFor eq (nodes_of (q ∷ refs)) j x)) (sym f) (0, omega arith, (q.now, refl, laws.symm q.now x ∙ t))
      by false t None f rest = λ h. elim h as (λ _. ⊥) [ inl s ↦ true≢false (sym (laws.symm x q.now ∙ s) ∙ t) | inr s ↦ rest None f s ]
      by false t (Some k) f rest = let m = rest (Some k) f in (suc m.0, omega (arith, m.1), m.2)

  pub found_name : (refs : List (Bor N)) (x : N) (r : Option ℕ) → r ≡ position (λ (q : Bor N). eq x q.now) refs → MatchOption r (¬ (HasNode eq (nodes_of refs) x)) (λ k. StandsFor eq (nodes_of refs) k x)
  found_name refs x None e = found_from refs x 0 None (e ∙ position_from-zero (λ (q : Bor N). eq x q.now) refs)
  found_name refs x (Some k) e = let m = found_from refs x 0 (Some k) (e ∙ position_from-zero (λ (q : Bor N). eq x q.now) refs) in subst (λ (n : ℕ). StandsFor eq (nodes_of refs) n x) (let f : m.0 ≡ k = omega (arith, m.1) in f) m.2
