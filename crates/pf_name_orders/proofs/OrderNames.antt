-- Topological orders and cycles over numbers and over the names that they stand for.
use Rattle.std.proofs.Common.{ℕ, nat_eq, eq-eqb, refl, Bool, List, [], ◌∷◌}
use Rattle.std.specs.Cmp.{IsEquivalence}
use Rattle.std.specs.List.{AllZip}
use Rattle.pf_base.specs.Walks.{HasNode, NoRepeats, IsReachable}
use Rattle.pf_base.specs.Successors.{HasSuccessor}
use Rattle.pf_edge_lists.proofs.NameWalks.{IsCarried, Stands, carried_next, node_out, repeats_out}
use Rattle.pf_name_numbers.proofs.NameReach.{SameStarts, Zip, node_numbered, one_start, reach_named, zip_all}
use Rattle.pf_name_numbers.proofs.NameLoops.{loop_named, loop_out}
use Rattle.pf_orders.specs.TopologicalOrders.{IsOnCycle, IsTopologicalOrder, LeadsForward}

module _ {N : Type 0} {eq : N → N → Bool} (laws : IsEquivalence eq) (names : List N) (distinct : NoRepeats eq names) (nextM : ℕ → List ℕ) (nextN : N → List N) (alike : (a : ℕ) (x : N) → Stands laws names a x → AllZip (Stands laws names) (nextM a) (nextN x)) where
  carried : IsCarried laws names (HasSuccessor nat_eq nextM) (HasSuccessor eq nextN)
  carried = carried_next laws names distinct nextM nextN alike

  forward_out : (w : List ℕ) (v : List N) → Zip laws names distinct w v → LeadsForward nat_eq nextM w → LeadsForward eq nextN v
  forward_out [] [] z h = tt
  forward_out [] (x ∷ v) z h = absurd z
  forward_out (k ∷ w) [] z h = absurd z
  forward_out (k ∷ w) (x ∷ v) z h = (
    λ y s.
        let b = carried.numbered k x y z.0 s in
        node_out laws names distinct w v b.0 y z.1 b.1 (h.0 b.0 (carried.back k b.0 x y z.0 b.1 s)),
    forward_out w v z.1 h.1,
  )

  -- a number on a cycle stands for a name on a cycle
  pub cycle_out : (k : ℕ) (x : N) → Stands laws names k x → IsOnCycle nat_eq nextM k → IsOnCycle eq nextN x
  cycle_out k x s c =
      let begin = one_start laws names distinct k x s in
      let v = loop_named laws names distinct nextM nextN alike (k ∷ []) (x ∷ []) begin c.0 c.1 in
      (v.0, loop_out laws names distinct nextM nextN alike (k ∷ []) (x ∷ []) begin c.0 v.0 v.1 c.1)

  module _ (startsM : List ℕ) (startsN : List N) (begin : SameStarts laws names distinct startsM startsN) (all : (k : ℕ) (x : N) → Stands laws names k x → HasNode eq startsN x) where
    -- a number in reach stands for a name
    pub reached_name : (k : ℕ) → IsReachable nat_eq (HasSuccessor nat_eq nextM) startsM k → (x : N) × Stands laws names k x
    reached_name k r = reach_named laws names distinct _ _ carried startsM startsN begin k r

    at_start : (k : ℕ) → HasNode nat_eq startsM k → IsReachable nat_eq (HasSuccessor nat_eq nextM) startsM k
    at_start k h = record { walk = k ∷ []; goes = record { walks = tt; begins = h; ends = eq-eqb k k refl } }

    -- an order of the numbers in reach is one of names
    pub order_named : (w : List ℕ) → IsTopologicalOrder nat_eq nextM (IsReachable nat_eq (HasSuccessor nat_eq nextM) startsM) w → (v : List N) × Zip laws names distinct w v
    order_named w o = zip_all laws names distinct w (λ k h. reached_name k (o.sound k h))

    pub order_out : (w : List ℕ) (v : List N) → Zip laws names distinct w v → IsTopologicalOrder nat_eq nextM (IsReachable nat_eq (HasSuccessor nat_eq nextM) startsM) w → IsTopologicalOrder eq nextN (HasNode eq startsN) v
    order_out w v z o = record {
      complete = λ x h.
          let a = begin.back x h in
          node_out laws names distinct w v a.0 x z a.1 (o.complete a.0 (at_start a.0 a.2));
      sound = λ x h. let k = node_numbered laws names distinct w v x z h in all k.0 x k.1;
      distinct = repeats_out laws names distinct w v z o.distinct;
      forward = forward_out w v z o.forward;
    }
