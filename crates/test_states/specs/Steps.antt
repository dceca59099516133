-- Steps down and to the right over a board of three rows and three columns, and how many are left.
use Rattle.std.proofs.Common.{◌≡◌, refl, arith}
use Rattle.std.specs.Prelude.{ℕ, Bool, true, false, pos, ◌+◌, ◌-◌, ◌==◌, ◌&&◌, ◌≤ℤ◌, ◌+ℤ◌, nat_lt, slice_get, if◌then◌else◌, List, [], ◌∷◌, Option, Some, None}
use Rattle.std.proofs.lemmas.Int.{ints}
use Rattle.std.proofs.lemmas.Bool.{eqb-true}
use Rattle.pf_state_estimates.proofs.Callers.{each_move, on_condition}
use Rattle.test_states.specs.declared.cells.Cell.{Cell}

-- the steps from a cell, down and to the right, each at a cost of 1
abbrev pub steps_from : Cell → List (Option (Cell × ℕ))
steps_from s =
    (if nat_lt s.row 2 then Some (record { row = s.row + 1; column = s.column }, 1) else None)
    ∷ (if nat_lt s.column 2 then Some (record { row = s.row; column = s.column + 1 }, 1) else None) ∷ []

both : (a b : Bool) → (a && b) ≡ true → (a ≡ true) × (b ≡ true)
both true b e = (refl, e)
both false b e = cc

module _ (row column : ℕ) where
  -- how many rows and columns are left to a cell
  abbrev pub distance : Cell → ℕ
  distance s = (row - s.row) + (column - s.column)

  -- none are left at that cell
  pub none_left : (s : Cell) → (s.row == row && s.column == column) ≡ true → pos (distance s) ≡ pos 0
  none_left s e =
      let are = both (s.row == row) (s.column == column) e in
      let down = eqb-true s.row row are.0 in
      let right = eqb-true s.column column are.1 in
      omega (arith, ints, down, right)

  -- a step takes one at most
  pub distance_falls : (s next : Cell) (cost place : ℕ) → slice_get (steps_from s) place ≡ Some (Some (next, cost)) → pos (distance s) ≤ℤ (pos cost +ℤ pos (distance next))
  distance_falls s next cost place e =
      let F : Cell → ℕ → Type 0 = λ n c. pos (distance s) ≤ℤ (pos c +ℤ pos (distance n)) in
      each_move F (steps_from s) (on_condition F (nat_lt s.row 2) (Some (_, 1)) (omega (arith, ints)), (on_condition F (nat_lt s.column 2) (Some (_, 1)) (omega (arith, ints)), tt)) next cost place e
