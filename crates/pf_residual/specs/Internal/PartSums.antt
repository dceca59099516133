-- A sum of what is left of the capacities, as far as a loop has come.
use Rattle.std.specs.Prelude.{◌≡◌, ◌+ℤ◌, ◌<◌, ◌≤◌, ℕ, ℤ, List, Some, slice_get}
use Rattle.pf_base.specs.Sums.{sum_to}
use Rattle.pf_residual.specs.Networks.{Network}

-- the sum of the rows before `from`, and of its row up to the first i of these ends
pub record IsPartSum {C : Type 0} (N : Network) (from : ℕ) (ends : List (ℕ × C)) (i : ℕ) (z : ℤ) : Type 0 where
  pub bound : ℕ
  pub inside : bound ≤ N.vertices
  pub sum : z ≡ sum_to (λ a. sum_to (N.residual a) N.vertices) from +ℤ sum_to (N.residual from) bound
  pub before : (j : ℕ) (e : ℕ × C) → j < i → slice_get ends j ≡ Some e → e.0 < bound
  pub after : (j : ℕ) (e : ℕ × C) → i ≤ j → slice_get ends j ≡ Some e → bound ≤ e.0
