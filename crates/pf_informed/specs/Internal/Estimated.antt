-- The estimates that were asked for, by number.
use Rattle.std.specs.Prelude.{◌≡◌, ℕ, ℤ, List, Option, Some, slice_get}

-- each estimate that is kept is that of the node of its number
abbrev pub IsEstimated : {N C : Type 0} → (C → ℤ) → (N → ℤ) → (ℕ → Option N) → List C → Type 0
IsEstimated {N} {C} value h at estimates = (k : ℕ) (x : N) (c : C) → at k ≡ Some x → slice_get estimates k ≡ Some c → value c ≡ h x
