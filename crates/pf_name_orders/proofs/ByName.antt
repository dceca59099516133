-- What the calls over the numbers of a list say of its names.
use Rattle.std.proofs.Common.{◌≡◌, ◌≤◌, true, ℕ, ℤ, nat_eq, refl, sym, subst, ◌∙◌, arith, Bool, List, [], ◌∷◌, length, map, slice_get}
use Rattle.std.specs.Prelude.{Some, Vec}
use Rattle.std.specs.Cmp.{IsEquivalence}
use Rattle.std.specs.List.{AllZip, filter_map, range_with_len}
use Rattle.pf_base.specs.Walks.{HasNode, IsReachable}
use Rattle.pf_base.specs.Successors.{HasSuccessor}
use Rattle.pf_tables.specs.Graphs.{successors_of}
use Rattle.pf_edge_lists.specs.EdgeLists.{NamesAndEdges, mentions_of, names_of, places_of, targets_from}
use Rattle.pf_edge_lists.proofs.NamedGraph.{same_targets}
use Rattle.pf_edge_lists.proofs.NameWalks.{carried_next}
use Rattle.pf_edge_lists.proofs.NumberedNames.{names_apart}
use Rattle.pf_name_numbers.specs.Numbered.{lists_in, names_with}
use Rattle.pf_name_numbers.proofs.ListedNames.{Listed, all_starts, listed_inside, listed_mention, zip_listed}
use Rattle.pf_name_numbers.proofs.NameReach.{SameStarts}
use Rattle.pf_name_numbers.proofs.NamedNumbers.{name_at, targets_with, with_apart, zip_named}
use Rattle.pf_name_orders.specs.NameGroups.{AreNameGroups}
use Rattle.pf_name_orders.proofs.OrderNames.{cycle_out, order_named, order_out, reached_name}
use Rattle.pf_name_orders.proofs.GroupNames.{depths_out, groups_out, none_named, none_out}
use Rattle.pf_name_orders.proofs.ComponentNames.{component_named, component_out, components_out}
use Rattle.pf_orders.specs.GroupDepths.{AreDepthGroups, HasDepth, HaveNoDepth}
use Rattle.pf_orders.specs.StrongComponents.{AreStrongComponents, IsStrongComponentOf}
use Rattle.pf_orders.specs.TopologicalOrders.{IsOnCycle, IsTopologicalOrder}

module _ {N C : Type 0} {eq : N → N → Bool} (laws : IsEquivalence eq) (value : C → ℤ) (list : NamesAndEdges N C) where
  abbrev NextM : ℕ → List ℕ
  NextM = successors_of value (length (names_of eq list)) (places_of eq list)

  abbrev NextN : N → List N
  NextN = targets_from eq list

  -- the names of these numbers
  abbrev Named : List ℕ → List N
  Named = filter_map (slice_get (names_of eq list))

  -- all numbers are in reach of these
  module _ (starts : List ℕ) (all : starts ≡ range_with_len 0 (length (names_of eq list))) where
    begin : SameStarts laws (names_of eq list) (names_apart laws list) starts (mentions_of list)
    begin = subst (λ ss. SameStarts laws (names_of eq list) (names_apart laws list) ss (mentions_of list)) (sym all) (all_starts laws list)

    pub order_by_name : (order : List ℕ) → IsTopologicalOrder nat_eq NextM (IsReachable nat_eq (HasSuccessor nat_eq NextM) starts) order → (names : List N) → names ≡ Named order → IsTopologicalOrder eq NextN (HasNode eq (mentions_of list)) names
    order_by_name order o names e =
        let v = order_named laws (names_of eq list) (names_apart laws list) NextM NextN (same_targets laws value list) starts (mentions_of list) begin (listed_mention laws list) order o in
        subst (IsTopologicalOrder eq NextN (HasNode eq (mentions_of list))) (sym e)
        (order_out laws (names_of eq list) (names_apart laws list) NextM NextN (same_targets laws value list) starts (mentions_of list) begin (listed_mention laws list) order (Named order) (zip_listed laws list order v.0 v.1) o)

    module _ (k : ℕ) (found : IsReachable nat_eq (HasSuccessor nat_eq NextM) starts k × IsOnCycle nat_eq NextM k) where
      pub cycle_by_name : (x : N) → slice_get (names_of eq list) k ≡ Some x → HasNode eq (mentions_of list) x × IsOnCycle eq NextN x
      cycle_by_name x at =
          let s : Listed laws list k x = (x, at, laws.refl x) in
          (listed_mention laws list k x s, cycle_out laws (names_of eq list) (names_apart laws list) NextM NextN (same_targets laws value list) k x s found.1)

      pub cycle_is_listed : length (names_of eq list) ≤ k → ⊥
      cycle_is_listed past =
          let x = reached_name laws (names_of eq list) (names_apart laws list) NextM NextN (same_targets laws value list) starts (mentions_of list) begin (listed_mention laws list) k found.0 in
          let inside = listed_inside laws list k x.0 x.1 in
          omega (arith, past, inside)

    pub groups_by_name : {A : Type 0} (groups : List (Vec ℕ A)) → AreDepthGroups nat_eq NextM starts groups → (named : List (List N)) → named ≡ map Named (lists_in groups) → AreNameGroups eq NextN (mentions_of list) named
    groups_by_name groups h named e = subst (AreNameGroups eq NextN (mentions_of list)) (sym e)
        (groups_out laws (names_of eq list) (names_apart laws list) NextM NextN (same_targets laws value list) starts (mentions_of list) begin Named (zip_listed laws list) groups h)

    pub depths_by_name : ((k : ℕ) → HasNode nat_eq starts k → (d : ℕ) × HasDepth nat_eq NextM starts k d) → (x : N) → HasNode eq (mentions_of list) x → (d : ℕ) × HasDepth eq NextN (mentions_of list) x d
    depths_by_name = depths_out laws (names_of eq list) (names_apart laws list) NextM NextN (same_targets laws value list) starts (mentions_of list) begin

    pub remaining_by_name : (left : List ℕ) → HaveNoDepth nat_eq NextM starts left → (names : List N) → names ≡ Named left → HaveNoDepth eq NextN (mentions_of list) names × (¬ (left ≡ []) → ¬ (names ≡ []))
    remaining_by_name left h names e =
        let v = none_named laws (names_of eq list) (names_apart laws list) NextM NextN (same_targets laws value list) starts (mentions_of list) begin left h in
        let z = zip_listed laws list left v.0 v.1 in (
          subst (HaveNoDepth eq NextN (mentions_of list)) (sym e) (none_out laws (names_of eq list) (names_apart laws list) NextM NextN (same_targets laws value list) starts (mentions_of list) begin left (Named left) z h),
          λ some none. some (empty left (Named left) z (sym e ∙ none)),
        )
      where
        empty : (w : List ℕ) (v : List N) → AllZip (Listed laws list) w v → v ≡ [] → w ≡ []
        empty [] v z f = refl
        empty (k ∷ w) [] z f = absurd z
        empty (k ∷ w) (x ∷ v) z f = cc

    -- no edge leads elsewhere
    pub none_unknown : (j k : ℕ) → HasNode nat_eq starts j → HasSuccessor nat_eq NextM j k → ¬ (HasNode nat_eq starts k) → ⊥
    none_unknown j k h s none =
        let x = begin.named j h in
        let c = carried_next laws (names_of eq list) (names_apart laws list) NextM NextN (same_targets laws value list) in
        let y = c.named j k x.0 x.1 s in
        none (begin.inside k y.0 y.1 (listed_mention laws list k y.0 y.1))

    pub components_by_name : (lists : List (List ℕ)) → AreStrongComponents nat_eq NextM starts lists → (named : List (List N)) → named ≡ map Named lists → AreStrongComponents eq NextN (mentions_of list) named
    components_by_name lists h named e = subst (AreStrongComponents eq NextN (mentions_of list)) (sym e)
        (components_out laws (names_of eq list) (names_apart laws list) NextM NextN (same_targets laws value list) starts (mentions_of list) begin Named (zip_listed laws list) lists h)

  -- the component of a name that is handed in
  module _ (from : N) (k : ℕ) (s : (m : N) × (slice_get (names_with eq list from) k ≡ Some m) × (eq m from ≡ true)) where
    pub component_with : (component : List ℕ) → IsStrongComponentOf nat_eq NextM k component → (names : List N) → names ≡ map (name_at eq list from) component → IsStrongComponentOf eq NextN from names
    component_with component h names e =
        let v = component_named laws (names_with eq list from) (with_apart laws list from) NextM NextN (targets_with laws list from value) k from s component h in
        subst (IsStrongComponentOf eq NextN from) (sym e)
        (component_out laws (names_with eq list from) (with_apart laws list from) NextM NextN (targets_with laws list from value) k from s component (map (name_at eq list from) component) (zip_named laws list from component v.0 v.1) h)
