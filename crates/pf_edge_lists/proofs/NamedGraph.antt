-- The graph over the numbers of an edge list and the graph over its names.
use Rattle.std.proofs.Common.{◌≡◌, ◌<◌, ℕ, suc, ℤ, nat_eq, refl, sym, subst, ◌∙◌, ap, Bool, true, false, List, [], ◌∷◌, length, map, if◌then◌else◌}
use Rattle.std.specs.Prelude.{◌==◌, Some, None, Contains, slice_get}
use Rattle.std.specs.Cmp.{IsEquivalence}
use Rattle.std.specs.List.{AllZip, cons_option, list_any}
use Rattle.pf_base.specs.Walks.{HasNode, HasNoGoalWalk}
use Rattle.pf_base.specs.Edges.{IsSuccessor, IsCheapestGoalPath, CostOverflows}
use Rattle.pf_base.specs.Successors.{HasSuccessor, IsFewestEdgesGoalPath}
use Rattle.pf_core.specs.NodeLaws.{StandsFor-inside}
use Rattle.pf_core.proofs.NodeLemmas.{eq-trans}
use Rattle.pf_core.proofs.PathLemmas.{AllZip-map}
use Rattle.pf_tables.specs.Graphs.{edges_at, filled, graph_of, successors_of}
use Rattle.pf_base.specs.Places.{number_of}
use Rattle.pf_adjacency.specs.NumberedEdges.{ends_from}
use Rattle.pf_edge_lists.specs.EdgeLists.{NamesAndEdges, edges_from, names_of, places_of, targets_from}
use Rattle.pf_edge_lists.proofs.EdgeListLemmas.{ends_alike, has_edges_by_name}
use Rattle.pf_edge_lists.proofs.NameWalks.{Stands, SameEdges, carried_edges, carried_next, cheapest_out, ends_named, ends_zip, fewest_out, goal_named, none_out, numbers_inside, past_out, test_stands}
use Rattle.pf_edge_lists.proofs.NumberedNames.{all_named, each_end, has_at, names_apart, number_stands}
use Rattle.pf_tables.proofs.GraphLemmas.{edges_within}

module _ {N C : Type 0} {eq : N → N → Bool} (laws : IsEquivalence eq) (value : C → ℤ) (list : NamesAndEdges N C) where
  numbered_same : (es : List (N × C)) → ((k : ℕ) (t : N × C) → slice_get es k ≡ Some t → list_any (eq t.0) (names_of eq list) ≡ true)
      → SameEdges laws (names_of eq list) (names_apart laws list) (edges_at value (filled (map (λ (e : N × C). (number_of eq (names_of eq list) e.0, e.1)) es))) (map (λ (e : N × C). (e.0, value e.1)) es)
  numbered_same [] h = tt
  numbered_same (e ∷ es) h = ((number_stands laws (names_of eq list) e.0 (h 0 e refl), refl), numbered_same es (λ k t s. h (suc k) t s))

  pub targets_same : (es : List (N × C)) → map (λ (f : N × ℤ). f.0) (map (λ (e : N × C). (e.0, value e.1)) es) ≡ map (λ (e : N × C). e.0) es
  targets_same [] = refl
  targets_same (e ∷ es) = ap (λ xs. e.0 ∷ xs) (targets_same es)

  -- a number has the edges of the name that it stands for
  pub same_edges : (a : ℕ) (x : N) → Stands laws (names_of eq list) a x
      → SameEdges laws (names_of eq list) (names_apart laws list) (graph_of value (length (names_of eq list)) (places_of eq list) a) (edges_from eq value list x)
  same_edges a x s =
      let is = edges_within value (length (names_of eq list)) (places_of eq list) a (StandsFor-inside eq (names_of eq list) a x s) ∙ ap (edges_at value) (has_edges_by_name laws list a x s) in
      subst (λ es. SameEdges laws (names_of eq list) (names_apart laws list) es (edges_from eq value list x)) (sym is)
      (numbered_same (ends_from eq list.edges x) (λ k t h. each_end eq (λ (e : N × C). list_any (eq e.0) (names_of eq list) ≡ true) list.edges x (λ i e u. (all_named laws list i e u).1) k t h))

  pub same_targets : (a : ℕ) (x : N) → Stands laws (names_of eq list) a x → AllZip (Stands laws (names_of eq list)) (successors_of value (length (names_of eq list)) (places_of eq list) a) (targets_from eq list x)
  same_targets a x s = subst (AllZip (Stands laws (names_of eq list)) (successors_of value (length (names_of eq list)) (places_of eq list) a)) (targets_same (ends_from eq list.edges x))
      (ends_zip laws (names_of eq list) (names_apart laws list) _ _ (same_edges a x s))

  -- a name that no edge has is one that no edge comes from
  no_ends : (es : List (N × N × C)) (names : List N) (x : N) → ((k : ℕ) (e : N × N × C) → slice_get es k ≡ Some e → list_any (eq e.0) names ≡ true) → ¬ (HasNode eq names x) → ends_from eq es x ≡ []
  no_ends [] names x named none = refl
  no_ends (e ∷ es) names x named none = by (eq e.0 x) refl (no_ends es names x (λ k d s. named (suc k) d s) none)
    where
      by : (b : Bool) → eq e.0 x ≡ b → ends_from eq es x ≡ [] → cons_option (if b then Some (e.1, e.2) else None) (ends_from eq es x) ≡ []
      by true h rest =
          let m = number_stands laws names e.0 (named 0 e refl) in
          absurd (none (has_at laws names (number_of eq names e.0) m.0 x m.1 (eq-trans eq laws m.0 e.0 x m.2 h)))
      by false h rest = rest

  unnamed_ends : (x : N) → ¬ (HasNode eq (names_of eq list) x) → ends_from eq list.edges x ≡ []
  unnamed_ends x none = no_ends list.edges (names_of eq list) x (λ k e s. (all_named laws list k e s).0) none

  module _ (x : N) (none : ¬ (HasNode eq (names_of eq list) x)) (y : N) (same : eq x y ≡ true) where
    pub no_edges_from : edges_from eq value list y ≡ []
    no_edges_from = ap (map (λ (e : N × C). (e.0, value e.1))) (sym (ends_alike laws list.edges x y same) ∙ unnamed_ends x none)

    pub no_targets_from : targets_from eq list y ≡ []
    no_targets_from = ap (map (λ (e : N × C). e.0)) (sym (ends_alike laws list.edges x y same) ∙ unnamed_ends x none)

  -- ---- searches from one name to another

  stand_all : (path : List ℕ) (names : List N) → AllZip (λ node name. slice_get (names_of eq list) node ≡ Some name) path names → AllZip (Stands laws (names_of eq list)) path names
  stand_all path names z = AllZip-map _ (Stands laws (names_of eq list)) (λ k x h. (x, h, laws.refl x)) path names z

  module _ (start : ℕ) (from : N) (begins : Stands laws (names_of eq list) start from) where
    pub no_walk_to : (to : N) → ¬ (HasNode eq (names_of eq list) to) → HasNoGoalWalk eq (IsSuccessor eq (edges_from eq value list)) (from ∷ []) (λ x. eq x to)
    no_walk_to to none = ends_named laws (names_of eq list) (names_apart laws list) _ _ (carried_edges laws (names_of eq list) (names_apart laws list) _ _ same_edges) start from begins (λ x. eq x to) to (λ x e. e) none

    pub no_way_to : (to : N) → ¬ (HasNode eq (names_of eq list) to) → HasNoGoalWalk eq (HasSuccessor eq (targets_from eq list)) (from ∷ []) (λ x. eq x to)
    no_way_to to none = ends_named laws (names_of eq list) (names_apart laws list) _ _ (carried_next laws (names_of eq list) (names_apart laws list) _ _ same_targets) start from begins (λ x. eq x to) to (λ x e. e) none

    module _ (goal : ℕ) (to : N) (ends : Stands laws (names_of eq list) goal to) where
      tests : (k : ℕ) (x : N) → Stands laws (names_of eq list) k x → nat_eq k goal ≡ eq x to
      tests = test_stands laws (names_of eq list) (names_apart laws list) goal to ends

      pub no_walk_named : HasNoGoalWalk nat_eq (IsSuccessor nat_eq (graph_of value (length (names_of eq list)) (places_of eq list))) (start ∷ []) (λ (n : ℕ). n == goal)
          → HasNoGoalWalk eq (IsSuccessor eq (edges_from eq value list)) (from ∷ []) (λ x. eq x to)
      no_walk_named none = none_out laws (names_of eq list) (names_apart laws list) _ _ (carried_edges laws (names_of eq list) (names_apart laws list) _ _ same_edges) start from begins (λ (n : ℕ). n == goal) (λ x. eq x to) tests none

      pub past_named : (fits : ℤ → Type 0) → CostOverflows nat_eq (graph_of value (length (names_of eq list)) (places_of eq list)) (start ∷ []) (λ (n : ℕ). n == goal) fits → CostOverflows eq (edges_from eq value list) (from ∷ []) (λ x. eq x to) fits
      past_named fits p = past_out laws (names_of eq list) (names_apart laws list) _ _ same_edges start from begins (λ (n : ℕ). n == goal) (λ x. eq x to) tests fits p

      pub cheapest_inside : (path : List ℕ) (t : ℤ) → IsCheapestGoalPath nat_eq (graph_of value (length (names_of eq list)) (places_of eq list)) (start ∷ []) (λ (n : ℕ). n == goal) path t → (k : ℕ) → Contains path k → k < length (names_of eq list)
      cheapest_inside path t b =
          let v = goal_named laws (names_of eq list) (names_apart laws list) _ _ (carried_edges laws (names_of eq list) (names_apart laws list) _ _ same_edges) start from begins (λ (n : ℕ). n == goal) path b.goes.goes in
          numbers_inside laws (names_of eq list) path v.0 v.1

      pub cheapest_named : (path : List ℕ) (names : List N) (t : ℤ) → IsCheapestGoalPath nat_eq (graph_of value (length (names_of eq list)) (places_of eq list)) (start ∷ []) (λ (n : ℕ). n == goal) path t
          → AllZip (λ node name. slice_get (names_of eq list) node ≡ Some name) path names → IsCheapestGoalPath eq (edges_from eq value list) (from ∷ []) (λ x. eq x to) names t
      cheapest_named path names t b z = cheapest_out laws (names_of eq list) (names_apart laws list) _ _ same_edges start from begins (λ (n : ℕ). n == goal) (λ x. eq x to) tests path names t (stand_all path names z) b

      pub no_way_named : HasNoGoalWalk nat_eq (HasSuccessor nat_eq (successors_of value (length (names_of eq list)) (places_of eq list))) (start ∷ []) (λ (n : ℕ). n == goal)
          → HasNoGoalWalk eq (HasSuccessor eq (targets_from eq list)) (from ∷ []) (λ x. eq x to)
      no_way_named none = none_out laws (names_of eq list) (names_apart laws list) _ _ (carried_next laws (names_of eq list) (names_apart laws list) _ _ same_targets) start from begins (λ (n : ℕ). n == goal) (λ x. eq x to) tests none

      pub fewest_inside : (path : List ℕ) → IsFewestEdgesGoalPath nat_eq (successors_of value (length (names_of eq list)) (places_of eq list)) (start ∷ []) (λ (n : ℕ). n == goal) path → (k : ℕ) → Contains path k → k < length (names_of eq list)
      fewest_inside path b =
          let v = goal_named laws (names_of eq list) (names_apart laws list) _ _ (carried_next laws (names_of eq list) (names_apart laws list) _ _ same_targets) start from begins (λ (n : ℕ). n == goal) path b.goes.goes in
          numbers_inside laws (names_of eq list) path v.0 v.1

      pub fewest_named : (path : List ℕ) (names : List N) → IsFewestEdgesGoalPath nat_eq (successors_of value (length (names_of eq list)) (places_of eq list)) (start ∷ []) (λ (n : ℕ). n == goal) path
          → AllZip (λ node name. slice_get (names_of eq list) node ≡ Some name) path names → IsFewestEdgesGoalPath eq (targets_from eq list) (from ∷ []) (λ x. eq x to) names
      fewest_named path names b z = fewest_out laws (names_of eq list) (names_apart laws list) _ _ same_targets start from begins (λ (n : ℕ). n == goal) (λ x. eq x to) tests path names (stand_all path names z) b
