-- The cell that a step leads to, by its number.
use Rattle.std.proofs.Common.{◌≡◌, ◌∙◌, ℕ, zero, suc, ◌+◌, ◌-◌, ◌*◌, ◌/◌, ◌<◌, ◌≤◌, ap, refl, arith, length, get_or}
use Rattle.std.specs.Prelude.{◌%◌, ℤ, pos, negsuc, Option, Some, None}
use Rattle.std.specs.Option.{SomeIff, option_and_then, option_map}
use Rattle.std.proofs.lemmas.Int.{ints}
use Rattle.std.proofs.lemmas.Nat.{mul-add-lt}
use Rattle.std.proofs.Math.Nat.{le-div_iff_mul-le, mod-lt, mul-le-mul_right, suc-mul}
use Rattle.pf_base.specs.Moves.{Finds, IsMove, target_of}
use Rattle.pf_utils.proofs.MoveLemmas.{target_is, target_of-finds}
use Rattle.pf_boards.specs.Boards.{Cells, cost_at, node_at, position_at, step_from}
use Rattle.pf_boards.proofs.BoardLemmas.{cost_read, row_inside, some_column}

-- a row above, and two rows below
row_less : (row columns column : ℕ) → 0 < row → (row - 1) * columns + column ≡ (row * columns + column) - columns
row_less zero columns column h = absurd (omega arith)
row_less (suc row) columns column h = let e : suc row - 1 ≡ row = omega arith in rw e (omega (arith, suc-mul row columns))

rows_more : (row columns column rows : ℕ) → column < columns → suc row < rows → columns < rows * columns - (row * columns + column)
rows_more row columns column rows c r = omega (arith, c, mul-le-mul_right columns (r), suc-mul row columns, suc-mul (suc row) columns)

module _ (rows columns node : ℕ) (inside : node < rows * columns) where
  abbrev Leads : ℤ × ℤ → Option ℕ → Type 0
  Leads direction number = number ≡ option_map (λ (t : ℕ × ℕ). t.0 * columns + t.1) (target_of (node / columns, node % columns) direction (rows, columns))

  some : 0 < columns
  some = some_column rows columns (rows * columns) node (omega arith) inside

  row : node / columns < rows
  row = row_inside rows columns (rows * columns) node (omega arith) inside

  parts : node ≡ node / columns * columns + node % columns
  parts = let s = some in omega arith

  finds : (direction : ℤ × ℤ) (target : Option (ℕ × ℕ)) → Finds (IsMove (node / columns, node % columns) direction (rows, columns)) target → Leads direction (option_map (λ (t : ℕ × ℕ). t.0 * columns + t.1) target)
  finds direction target f = ap (option_map (λ (t : ℕ × ℕ). t.0 * columns + t.1)) (target_is (node / columns, node % columns) direction (rows, columns) target f)

  pub up : (number : Option ℕ) → SomeIff number (columns ≤ node) (node - columns) → Leads (negsuc 0, pos 0) number
  up None h = finds (negsuc 0, pos 0) None (λ t m. let r = m.row in let above : 1 ≤ node / columns = omega (arith, ints) in h (omega (arith, (le-div_iff_mul-le {x = 1} {y = node} some).0 above)))
  up (Some number) h =
      let above : 1 ≤ node / columns = (le-div_iff_mul-le {x = 1} {y = node} some).1 (omega (arith, h.0)) in
      let found = finds (negsuc 0, pos 0) (Some (node / columns - 1, node % columns)) (record {
        from_inside = (row, mod-lt node some);
        moves = λ e. let z : negsuc 0 ≡ pos 0 = ap (λ p. p.0) e in cc;
        row = omega (arith, ints, above);
        column = omega (arith, ints);
        to_inside = (omega (arith, row), mod-lt node some);
      }) in
      ap Some (h.1 ∙ omega (arith, parts, row_less (node / columns) columns (node % columns) above)) ∙ found

  pub down_off : (columns < rows * columns - node → ⊥) → Leads (pos 1, pos 0) None
  down_off h = finds (pos 1, pos 0) None (λ t m. let r = m.row in let i = m.to_inside.0 in h (omega (arith, parts, rows_more (node / columns) columns (node % columns) rows (mod-lt node some) (omega (arith, ints)))))

-- a cell that a step leads to is one of the board
led_inside : (rows columns : ℕ) (start : ℕ × ℕ) (direction : ℤ × ℤ) (target : Option (ℕ × ℕ)) (number : ℕ) → Finds (IsMove start direction (rows, columns)) target → Some number ≡ option_map (λ (t : ℕ × ℕ). t.0 * columns + t.1) target → number < rows * columns
led_inside rows columns start direction None number f e = absurd (cc)
led_inside rows columns start direction (Some target) number f e = let same : number ≡ target.0 * columns + target.1 = cc in omega (arith, same, mul-add-lt target.0 columns target.1 rows f.to_inside.0 f.to_inside.1)

pub number_inside : (rows columns : ℕ) (start : ℕ × ℕ) (direction : ℤ × ℤ) (number : ℕ) → Some number ≡ option_map (λ (t : ℕ × ℕ). t.0 * columns + t.1) (target_of start direction (rows, columns)) → number < rows * columns
number_inside rows columns start direction number e = led_inside rows columns start direction (target_of start direction (rows, columns)) number (target_of-finds start direction (rows, columns)) e

-- a step from an open cell, by the cell that it leads to
pub step_by : {C : Type 0} (board : Cells C) (node : ℕ) (direction : ℤ × ℤ) (price : C) → cost_at board.cells node ≡ Some price → (number : Option ℕ) → number ≡ option_map (node_at board) (target_of (position_at board node) direction (board.rows, board.columns))
    → step_from board node direction ≡ option_and_then {T = ℕ} {U = ℕ × C} (λ n. option_map (λ cost. (n, cost)) (cost_at board.cells n)) number
step_by {C} board node direction price open_cell number e = rw (open_cell, e) (by (target_of (position_at board node) direction (board.rows, board.columns)))
  where
    by : (target : Option (ℕ × ℕ)) → option_and_then {T = ℕ × ℕ} {U = ℕ × C} (λ t. option_map (λ cost. (node_at board t, cost)) (cost_at board.cells (node_at board t))) target ≡ option_and_then {T = ℕ} {U = ℕ × C} (λ n. option_map (λ cost. (n, cost)) (cost_at board.cells n)) (option_map (node_at board) target)
    by None = refl
    by (Some t) = refl

-- the cell that a step leads to, which was read
pub cell_entered : {C : Type 0} (board : Cells C) (node : ℕ) (direction : ℤ × ℤ) (number : ℕ) (cell : Option C) → length board.cells ≡ board.rows * board.columns
    → Some number ≡ option_map (node_at board) (target_of (position_at board node) direction (board.rows, board.columns)) → cell ≡ get_or board.cells number cell → cost_at board.cells number ≡ cell
cell_entered board node direction number cell sized led read = cost_read board.cells number cell (omega (arith, sized, number_inside board.rows board.columns (position_at board node) direction number led)) read
