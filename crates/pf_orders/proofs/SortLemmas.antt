-- From numbers in order to nodes in order.
use Rattle.std.proofs.Common.{◌≡◌, ℕ, refl, sym, subst, arith, inl, inr, ◌≤◌, ◌+◌, ◌-◌, Bool, true, List, [], ◌∷◌, length, map, nat_eq, eq-eqb, ℤ, pos}
use Rattle.std.specs.Prelude.{Contains}
use Rattle.std.specs.Cmp.{IsEquivalence}
use Rattle.std.specs.List.{AllZip}
use borrow.Author.Tests.{eqb-true}
use Rattle.pf_base.specs.NodeRefs.{HasSameNodes}
use Rattle.pf_base.specs.Successors.{HasSuccessor}
use Rattle.pf_base.specs.Walks.{HasNode, Follows, IsWalk, BeginsAt, EndsAt, end_of, IsReachable, IsAtMostNumberOf}
use Rattle.pf_core.specs.Hops.{unit_edges, hops_from}
use Rattle.pf_core.specs.NodeLaws.{StandsFor-one}
use Rattle.pf_base.specs.Edges.{targets}
use Rattle.pf_core.specs.Nodes.{StandsFor, Explores}
use Rattle.pf_core.specs.Numbered.{Grows}
use Rattle.pf_core.specs.HopLaws.{reach_next}
use Rattle.pf_base.proofs.ListLemmas.{Contains-head, Contains-tail, Contains-cases}
use Rattle.pf_core.proofs.NodeLemmas.{StandsFor-same, InReach-same, at_most}
use Rattle.pf_core.proofs.UnitLemmas.{starts_stand}
use Rattle.pf_core.proofs.WalkLemmas.{same_of, HasNode-same, distinct_nodes}
use Rattle.pf_orders.specs.Internal.Orderings.{LeadsInto, IsOrdered, IsOrderedReach, IsOnNumberedCycle}
use Rattle.pf_orders.specs.TopologicalOrders.{LeadsForward, IsTopologicalOrder, IsOnCycle}

-- the nodes that edges of cost 1 lead to
abbrev pub unit_targets : {N : Type 0} → (N → List N) → N → List N
unit_targets next = targets (unit_edges next)

module _ {N : Type 0} (eq : N → N → Bool) (laws : IsEquivalence eq) where
  target_in : (xs : List N) (b : N) → HasNode eq xs b → (y : N) × Contains (map (λ (e : N × ℤ). e.0) (map (λ y. (y, pos 1)) xs)) y × (eq y b ≡ true)
  target_in [] b h = absurd h
  target_in (x ∷ xs) b (inl e) = (x, Contains-head (map (λ (e : N × ℤ). e.0) (map (λ y. (y, pos 1)) xs)) x, e)
  target_in (x ∷ xs) b (inr h) = let q = target_in xs b h in (q.0, Contains-tail (map (λ (e : N × ℤ). e.0) (map (λ y. (y, pos 1)) xs)) x q.0 q.1, q.2)

  -- a successor is the same as some target
  pub target_of : (next : N → List N) (a b : N) → HasSuccessor eq next a b → (y : N) × Contains (unit_targets next a) y × (eq y b ≡ true)
  target_of next a b h = target_in (next a) b h

  in_target : (xs : List N) (y : N) → Contains (map (λ (e : N × ℤ). e.0) (map (λ y. (y, pos 1)) xs)) y → HasNode eq xs y
  in_target [] y h = absurd (omega (arith, h.1))
  in_target (x ∷ xs) y h = elim (Contains-cases (map (λ (e : N × ℤ). e.0) (map (λ z. (z, pos 1)) xs)) x y h) as (λ _. HasNode eq (x ∷ xs) y) [
    | inl e ↦ inl (subst (λ (z : N). eq x z ≡ true) e (laws.refl x))
    | inr i ↦ inr (in_target xs y i)
  ]

  pub of_target : (next : N → List N) (a y : N) → Contains (unit_targets next a) y → HasSuccessor eq next a y
  of_target next a y h = in_target (next a) y h

  module _ (keys : List N) where
    stand_same : (k : ℕ) (x y : N) → StandsFor eq keys k x → StandsFor eq keys k y → eq x y ≡ true
    stand_same k x y s t = (same_of eq laws keys (k ∷ []) (x ∷ []) (y ∷ []) (s, tt) (t, tt)).0

    -- a node whose number is in the row is among the row's nodes
    pub node_in : (ks : List ℕ) (xs : List N) (k : ℕ) (x : N) → AllZip (StandsFor eq keys) ks xs → HasNode nat_eq ks k → StandsFor eq keys k x → HasNode eq xs x
    node_in [] xs k x z h s = absurd h
    node_in (j ∷ ks) [] k x z h s = absurd z
    node_in (j ∷ ks) (y ∷ xs) k x z (inl e) s = inl (stand_same j y x z.0 (subst (λ (i : ℕ). StandsFor eq keys i x) (sym (eqb-true j k e)) s))
    node_in (j ∷ ks) (y ∷ xs) k x z (inr h) s = inr (node_in ks xs k x z.1 h s)

    -- a node of the row has a number
    pub number_in : (ks : List ℕ) (xs : List N) (x : N) → AllZip (StandsFor eq keys) ks xs → HasNode eq xs x → (k : ℕ) × HasNode nat_eq ks k × StandsFor eq keys k x
    number_in [] [] x z h = absurd h
    number_in [] (y ∷ xs) x z h = absurd z
    number_in (j ∷ ks) [] x z h = absurd z
    number_in (j ∷ ks) (y ∷ xs) x z (inl e) = (j, inl (eq-eqb j j refl), StandsFor-same eq laws keys j y x z.0 e)
    number_in (j ∷ ks) (y ∷ xs) x z (inr h) = let q = number_in ks xs x z.1 h in (q.0, inr q.1, q.2)

    module _ (next : N → List N) where
      pub leads_forward : (ks : List ℕ) (xs : List N) → AllZip (StandsFor eq keys) ks xs → IsOrdered (unit_targets next) (StandsFor eq keys) ks → LeadsForward eq next xs
      leads_forward [] [] z o = tt
      leads_forward [] (x ∷ xs) z o = absurd z
      leads_forward (k ∷ ks) [] z o = absurd z
      leads_forward (k ∷ ks) (x ∷ xs) z o = (
        (λ y h.
            let q = target_of next x y h in
            let r = o.0 x z.0 q.0 q.1 in
            HasNode-same eq laws xs q.0 y q.2 (node_in ks xs r.0 q.0 z.1 r.1 r.2)),
        leads_forward ks xs z.1 o.1,
      )

      ordered_at : (ks : List ℕ) (k : ℕ) → IsOrdered (unit_targets next) (StandsFor eq keys) ks → HasNode nat_eq ks k → LeadsInto (unit_targets next) (StandsFor eq keys) k (HasNode nat_eq ks)
      ordered_at [] k o h = absurd h
      ordered_at (j ∷ ks) k o (inl e) = λ x s y c. let q = o.0 x (subst (λ (i : ℕ). StandsFor eq keys i x) (sym (eqb-true j k e)) s) y c in (q.0, inr q.1, q.2)
      ordered_at (j ∷ ks) k o (inr h) = λ x s y c. let q = ordered_at ks k o.1 h x s y c in (q.0, inr q.1, q.2)

      -- the row has a number for the node
      abbrev pub IsListed : List ℕ → N → Type 0
      IsListed ks x = (k : ℕ) × HasNode nat_eq ks k × StandsFor eq keys k x

      walk_listed : (ks : List ℕ) (a : N) (w : List N) → IsOrdered (unit_targets next) (StandsFor eq keys) ks → IsListed ks a → Follows (HasSuccessor eq next) a w → IsListed ks (end_of a w)
      walk_listed ks a [] o h f = h
      walk_listed ks a (b ∷ w) o h f =
          let q = target_of next a b f.0 in
          let r = ordered_at ks h.0 o h.1 a h.2 q.0 q.1 in
          walk_listed ks b w o (r.0, r.1, StandsFor-same eq laws keys r.0 q.0 b r.2 q.2) f.1

      pub reach_listed : (roots : List N) (ks : List ℕ) → IsOrdered (unit_targets next) (StandsFor eq keys) ks → ((a : N) → HasNode eq roots a → IsListed ks a) → (x : N) → IsReachable eq (HasSuccessor eq next) roots x → IsListed ks x
      reach_listed roots ks o first x r = by r.walk r.goes.walks r.goes.begins r.goes.ends
        where
          by : (w : List N) → IsWalk (HasSuccessor eq next) w → BeginsAt eq roots w → EndsAt eq (λ y. eq y x) w → IsListed ks x
          by [] f b e = absurd f
          by (a ∷ w) f b e = let q = walk_listed ks a w o (first a b) f in (q.0, q.1, StandsFor-same eq laws keys q.0 (end_of a w) x q.2 e)

      module _ {S : Type 0} {answers : S → List N → (N → List (N × ℤ)) → Type 0} {roots : List N} {source : S} (explores : Explores eq answers (hops_from roots next) keys source) where
        -- a node that a number stands for is in reach
        pub stands_in_reach : (k : ℕ) (x : N) → StandsFor eq keys k x → IsReachable eq (HasSuccessor eq next) roots x
        stands_in_reach k x s = reach_next eq next roots x (InReach-same eq laws (unit_edges next) roots s.0 x (explores.reached k s.0 s.1) s.2)

        -- no more nodes were found than are in reach
        pub asked_in_reach : (before after : ℕ) → after ≤ before + length keys → IsAtMostNumberOf eq (IsReachable eq (HasSuccessor eq next) roots) (after - before)
        asked_in_reach = at_most eq laws _ keys explores.distinct (λ k x h. reach_next eq next roots x (explores.reached k x h))

        pub topological_order : (first : List N) → HasSameNodes eq first roots → Grows (length first) (length keys) (StandsFor eq first) (StandsFor eq keys)
            → (ks : List ℕ) (xs : List N) → AllZip (StandsFor eq keys) ks xs → IsOrderedReach (unit_targets next) (StandsFor eq keys) (length first) (length keys) ks → IsTopologicalOrder eq next (IsReachable eq (HasSuccessor eq next) roots) xs
        topological_order first same grown ks xs z o = record {
          complete = λ x r. let q = reach_listed roots ks o.ordered (λ a h. let s = (starts_stand eq laws roots first same a).1 h in (s.0, o.all_roots s.0 s.1, grown.stays s.0 a s.2)) x r in node_in ks xs q.0 x z q.1 q.2;
          sound = λ x h. let q = number_in ks xs x z h in stands_in_reach q.0 x q.2;
          distinct = distinct_nodes eq laws keys (StandsFor-one eq laws keys explores.distinct) ks xs z o.once;
          forward = leads_forward ks xs z o.ordered;
        }

      follows_targets : (w : List N) (a : N) → Follows (λ x y. Contains (unit_targets next x) y) a w → Follows (HasSuccessor eq next) a w
      follows_targets [] a f = tt
      follows_targets (b ∷ w) a f = (of_target next a b f.0, follows_targets w b f.1)

      pub node_on_cycle : (k : ℕ) (x : N) → StandsFor eq keys k x → IsOnNumberedCycle (unit_targets next) (StandsFor eq keys) k → IsOnCycle eq next x
      node_on_cycle k x s c =
          let q = c x s in (
            x ∷ q.0,
            record {
              walks = follows_targets q.0 x q.2;
              long = omega (arith, q.1);
              begins = inl (laws.refl x);
              ends = inl (stand_same k x (end_of x q.0) s q.3);
            },
          )
