-- How a caller shows that an estimate falls by no more than each move costs.
use Rattle.std.proofs.Common.{◌≡◌, ℕ, subst, zero, suc, Bool, true, false, List, [], ◌∷◌, Option, Some, None}
use Rattle.std.specs.Prelude.{IfSome, if◌then◌else◌, slice_get}
use Rattle.std.specs.List.{AllByRecursion}

module _ {N C : Type 0} (P : N → C → Type 0) where
  -- what holds of each move that a list tells holds of the move at a place
  pub each_move : (places : List (Option (N × C))) → AllByRecursion (λ move. IfSome move (λ (m : N × C). P m.0 m.1)) places → (next : N) (cost : C) (place : ℕ) → slice_get places place ≡ Some (Some (next, cost)) → P next cost
  each_move [] all next cost place e = cc
  each_move (None ∷ places) all next cost zero e = cc
  each_move (Some m ∷ places) all next cost zero e = let same : m ≡ (next, cost) = cc in subst (λ (q : N × C). P q.0 q.1) same all.0
  each_move (move ∷ places) all next cost (suc place) e = each_move places all.1 next cost place e

  -- what holds of what stands at a place holds of it under a condition
  pub on_condition : (condition : Bool) (move : Option (N × C)) → IfSome move (λ (m : N × C). P m.0 m.1) → IfSome (if condition then move else None) (λ (m : N × C). P m.0 m.1)
  on_condition true move holds = holds
  on_condition false move holds = tt
