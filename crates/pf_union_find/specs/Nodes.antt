-- Nodes that others own, which are numbered.
use Rattle.std.specs.Prelude.{◌≡◌, ℕ, Bool, true, List, Some, slice_get}
use Rattle.std.specs.Borrow.{Bor}

module _ {N : Type 0} (eq : N → N → Bool) where
  -- the number k stands for x: the k-th node is the same as x
  abbrev pub StandsFor : List (Bor N) → ℕ → N → Type 0
  StandsFor nodes k x = (m : Bor N) × (slice_get nodes k ≡ Some m) × (eq m.now x ≡ true)
