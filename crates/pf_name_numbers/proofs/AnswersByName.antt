-- What is answered over the numbers of a list says the same of its names.
use Rattle.std.proofs.Common.{◌≡◌, ℕ, ℤ, nat_eq, sym, subst, ◌∙◌, ap, Bool, true≢false, List, [], ◌∷◌, length, map}
use Rattle.std.specs.Prelude.{Option, Some, None, MatchOption, Vec}
use Rattle.std.specs.Borrow.{Bor}
use Rattle.std.specs.Cmp.{IsEquivalence}
use Rattle.std.specs.Option.{option_map}
use Rattle.pf_base.specs.Edges.{IsSuccessor, IsCheapestGoalPath, CostOverflows}
use Rattle.pf_base.specs.NodeRefs.{nodes_of}
use Rattle.pf_base.specs.Successors.{HasSuccessor, IsFewestEdgesGoalPath}
use Rattle.pf_base.specs.Walks.{HasNoGoalWalk, end_of}
use Rattle.pf_tables.specs.Graphs.{graph_of, successors_of}
use Rattle.pf_edge_lists.specs.EdgeLists.{NamesAndEdges, edges_from, names_of, places_of, targets_from}
use Rattle.pf_edge_lists.proofs.NameWalks.{carried_edges, carried_next, cheapest_out, fewest_out, goal_named, none_out, past_out}
use Rattle.pf_name_numbers.specs.Numbered.{found_by, found_in, is_numbered, names_with}
use Rattle.pf_name_numbers.proofs.NamedNumbers.{With, edges_with, name_at, targets_with, with_apart, zip_named}

-- the names of what is answered
pub answered : {N A : Type 0} (name : ℕ → N) (answer : Option (Vec (Bor N) A)) (path : Option (Vec ℕ A)) → option_map (λ names. nodes_of names.items) answer ≡ option_map (λ numbers. map name numbers.items) path
    → (PM PN : Type 0) (QM : Vec ℕ A → Type 0) (QN : List N → Type 0) → (PM → PN) → ((w : Vec ℕ A) → QM w → QN (map name w.items)) → MatchOption path PM QM → MatchOption answer PN (λ names. QN (nodes_of names.items))
answered name None None e PM PN QM QN none some h = none h
answered name None (Some w) e PM PN QM QN none some h = cc
answered name (Some v) None e PM PN QM QN none some h = cc
answered name (Some v) (Some w) e PM PN QM QN none some h = let f : nodes_of v.items ≡ map name w.items = cc in subst QN (sym f) (some w h)

-- the same of a path and what it costs
pub found_answered : {N C A : Type 0} (name : ℕ → N) (answer : Option (Vec (Bor N) A × C)) (found : Option (Vec ℕ A × C))
    → found_in answer ≡ found_by name found
    → (PM PN : Type 0) (QM : List ℕ → C → Type 0) (QN : List N → C → Type 0) → (PM → PN) → ((w : List ℕ) (t : C) → QM w t → QN (map name w) t) → MatchOption found PM (λ f. QM f.0.items f.1) → MatchOption answer PN (λ a. QN (nodes_of a.0.items) a.1)
found_answered name None None e PM PN QM QN none some h = none h
found_answered name None (Some w) e PM PN QM QN none some h = cc
found_answered name (Some v) None e PM PN QM QN none some h = cc
found_answered {N} {C} {A} name (Some v) (Some w) e PM PN QM QN none some h =
    let named : List N × C = (nodes_of v.0.items, v.1) in
    let numbered : List N × C = (map name w.0.items, w.1) in
    let same : named ≡ numbered = cc in
    subst (λ (p : List N × C). QN p.0 p.1) (sym same) (some w.0.items w.1 h)

module _ {N C : Type 0} {eq : N → N → Bool} (laws : IsEquivalence eq) (value : C → ℤ) (list : NamesAndEdges N C) (from : N) (start : ℕ) (begins : With laws list from start from) (testM : ℕ → Bool) (testN : N → Bool) (tests : (k : ℕ) (x : N) → With laws list from k x → testM k ≡ testN x) where
  abbrev pub NextM : ℕ → List ℕ
  NextM = successors_of value (length (names_of eq list)) (places_of eq list)

  abbrev pub NextN : N → List N
  NextN = targets_from eq list

  pub no_way_by_name : HasNoGoalWalk nat_eq (HasSuccessor nat_eq NextM) (start ∷ []) testM → HasNoGoalWalk eq (HasSuccessor eq NextN) (from ∷ []) testN
  no_way_by_name = none_out laws (names_with eq list from) (with_apart laws list from) _ _ (carried_next laws (names_with eq list from) (with_apart laws list from) NextM NextN (targets_with laws list from value)) start from begins testM testN tests

  pub fewest_by_name : (w : List ℕ) → IsFewestEdgesGoalPath nat_eq NextM (start ∷ []) testM w → IsFewestEdgesGoalPath eq NextN (from ∷ []) testN (map (name_at eq list from) w)
  fewest_by_name w b =
      let v = goal_named laws (names_with eq list from) (with_apart laws list from) _ _ (carried_next laws (names_with eq list from) (with_apart laws list from) NextM NextN (targets_with laws list from value)) start from begins testM w b.goes.goes in
      fewest_out laws (names_with eq list from) (with_apart laws list from) NextM NextN (targets_with laws list from value) start from begins testM testN tests w (map (name_at eq list from) w) (zip_named laws list from w v.0 v.1) b

  abbrev pub EdgesM : ℕ → List (ℕ × ℤ)
  EdgesM = graph_of value (length (names_of eq list)) (places_of eq list)

  abbrev pub EdgesN : N → List (N × ℤ)
  EdgesN = edges_from eq value list

  pub no_walk_by_name : HasNoGoalWalk nat_eq (IsSuccessor nat_eq EdgesM) (start ∷ []) testM → HasNoGoalWalk eq (IsSuccessor eq EdgesN) (from ∷ []) testN
  no_walk_by_name = none_out laws (names_with eq list from) (with_apart laws list from) _ _ (carried_edges laws (names_with eq list from) (with_apart laws list from) EdgesM EdgesN (edges_with laws list from value)) start from begins testM testN tests

  pub cheapest_by_name : (w : List ℕ) (t : ℤ) → IsCheapestGoalPath nat_eq EdgesM (start ∷ []) testM w t → IsCheapestGoalPath eq EdgesN (from ∷ []) testN (map (name_at eq list from) w) t
  cheapest_by_name w t b =
      let v = goal_named laws (names_with eq list from) (with_apart laws list from) _ _ (carried_edges laws (names_with eq list from) (with_apart laws list from) EdgesM EdgesN (edges_with laws list from value)) start from begins testM w b.goes.goes in
      cheapest_out laws (names_with eq list from) (with_apart laws list from) EdgesM EdgesN (edges_with laws list from value) start from begins testM testN tests w (map (name_at eq list from) w) t (zip_named laws list from w v.0 v.1) b

  pub overflow_by_name : (fits : ℤ → Type 0) → CostOverflows nat_eq EdgesM (start ∷ []) testM fits → CostOverflows eq EdgesN (from ∷ []) testN fits
  overflow_by_name = past_out laws (names_with eq list from) (with_apart laws list from) EdgesM EdgesN (edges_with laws list from value) start from begins testM testN tests

-- a goal that has no number
module _ {N C : Type 0} {eq : N → N → Bool} (laws : IsEquivalence eq) (value : C → ℤ) (list : NamesAndEdges N C) (from : N) (start : ℕ) (begins : With laws list from start from) (to : N) (goal : Option ℕ) (tests : (k : ℕ) (x : N) → With laws list from k x → is_numbered goal k ≡ eq x to) (is : goal ≡ None) where
  none_ends : (step : ℕ → ℕ → Type 0) → HasNoGoalWalk nat_eq step (start ∷ []) (is_numbered goal)
  none_ends step [] g = g.walks
  none_ends step (a ∷ w) g = true≢false (sym g.ends ∙ ap (λ o. is_numbered o (end_of a w)) is)

  pub no_walk_nowhere : HasNoGoalWalk eq (IsSuccessor eq (edges_from eq value list)) (from ∷ []) (λ x. eq x to)
  no_walk_nowhere = no_walk_by_name laws value list from start begins (is_numbered goal) (λ x. eq x to) tests (none_ends _)

  pub no_way_nowhere : HasNoGoalWalk eq (HasSuccessor eq (targets_from eq list)) (from ∷ []) (λ x. eq x to)
  no_way_nowhere = no_way_by_name laws value list from start begins (is_numbered goal) (λ x. eq x to) tests (none_ends _)
