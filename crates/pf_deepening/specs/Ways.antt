-- What a search to a limit keeps by number, and of what it cut off.
use Rattle.std.specs.Prelude.{◌≡◌, ◌⊎◌, ◌≤ℤ◌, ℕ, ℤ, Bool, true, List, Option, Some, slice_get}
use Rattle.pf_deepening.specs.declared.rows.Span.{Span}

-- the steps of this number stand there
abbrev pub HasSpan : List (Option Span) → ℕ → Span → Type 0
HasSpan spans k s = slice_get spans k ≡ Some (Some s)

-- the number is marked
abbrev pub IsMarked : List Bool → ℕ → Type 0
IsMarked marks k = slice_get marks k ≡ Some true

-- What is known of each cost of a walk to a goal that was cut off: it is not below the least sum that was cut off, or it does not fit, and some sum did not.
abbrev pub IsCutOff : {C : Type 0} → (C → ℤ) → (ℤ → Type 0) → Option C → Bool → ℤ → Type 0
IsCutOff {C} value fits least past u = ((n : C) × (least ≡ Some n) × (value n ≤ℤ u)) ⊎ ((past ≡ true) × ¬ (fits u))
