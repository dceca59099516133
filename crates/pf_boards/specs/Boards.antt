-- Boards of cells, which stand by rows. A cell that is open has the cost of entering it, a blocked one has none.
use Rattle.std.specs.Prelude.{◌≡◌, ◌≢◌, ◌<◌, ◌≤ℤ◌, ◌<ℤ◌, ◌+◌, ◌*◌, ◌/◌, ◌%◌, ℕ, ℤ, pos, negsuc, refl, List, [], ◌∷◌, Option, Some, length, map, slice_get}
use Rattle.std.specs.Coded.{Coded, code_by, coded×, coded_ℕ, coded_ℤ, coded_list, coded_option}
use Rattle.std.specs.Option.{option_and_then, option_map}
use Rattle.pf_base.specs.Moves.{target_of}
use Rattle.pf_tables.specs.declared.error.TableError.{TableError}
use Rattle.pf_tables.specs.declared.error.TableError.TheVariants.{WrongNumberOfCells, NegativeCell}
use Rattle.pf_boards.specs.declared.steps.Steps.{Steps}
use Rattle.pf_boards.specs.declared.steps.Steps.TheVariants.{Four, Eight}

-- up, right, down and left
abbrev pub four : List (ℤ × ℤ)
four = (negsuc 0, pos 0) ∷ (pos 0, pos 1) ∷ (pos 1, pos 0) ∷ (pos 0, negsuc 0) ∷ []

-- the same, and then up right, down right, down left and up left
abbrev pub eight : List (ℤ × ℤ)
eight = (negsuc 0, pos 0) ∷ (pos 0, pos 1) ∷ (pos 1, pos 0) ∷ (pos 0, negsuc 0) ∷ (negsuc 0, pos 1) ∷ (pos 1, pos 1) ∷ (pos 1, negsuc 0) ∷ (negsuc 0, negsuc 0) ∷ []

-- what a step adds to the row and the column, for each place of a node
abbrev pub directions_of : Steps → List (ℤ × ℤ)
directions_of Four = four
directions_of Eight = eight

pub record Cells (C : Type 0) : Type 0 where
  pub rows : ℕ
  pub columns : ℕ
  pub cells : List (Option C)
  pub directions : List (ℤ × ℤ)

-- such a board as a code, as `Model` asks for
abbrev pub cells_code : {C : Type 0} → Coded C → Coded (Cells C)
cells_code {C} c = code_by (ℕ × (ℕ × (List (Option C) × List (ℤ × ℤ)))) (coded× coded_ℕ (coded× coded_ℕ (coded× (coded_list (coded_option c)) (coded_list (coded× coded_ℤ coded_ℤ))))) (λ b. (b.rows, (b.columns, (b.cells, b.directions)))) (λ p. record { rows = p.0; columns = p.1.0; cells = p.1.1.0; directions = p.1.1.1 }) (λ _. refl)

-- what it costs to enter the cell of a number; nothing where it is blocked, and where there is none
abbrev pub cost_at : {C : Type 0} → List (Option C) → ℕ → Option C
cost_at cells number = option_and_then (λ cell. cell) (slice_get cells number)

-- the row and the column of a node
abbrev pub position_at : {C : Type 0} → Cells C → ℕ → ℕ × ℕ
position_at board node = (node / board.columns, node % board.columns)

-- the node at a row and a column
abbrev pub node_at : {C : Type 0} → Cells C → ℕ × ℕ → ℕ
node_at board position = position.0 * board.columns + position.1

-- where a step leads from an open cell, and what it costs; nothing where it leaves the board or enters a blocked cell
abbrev pub step_from : {C : Type 0} → Cells C → ℕ → ℤ × ℤ → Option (ℕ × C)
step_from board node direction = option_and_then
    (λ _. option_and_then
    (λ target. option_map (λ cost. (node_at board target, cost)) (cost_at board.cells (node_at board target)))
    (target_of (position_at board node) direction (board.rows, board.columns)))
    (cost_at board.cells node)

-- the steps from a node, one for each direction
abbrev pub steps_from : {C : Type 0} → Cells C → ℕ → List (Option (ℕ × C))
steps_from board node = map (step_from board node) board.directions

module _ {C : Type 0} (value : C → ℤ) where
  -- no cell below the number costs less than 0
  abbrev pub IsFromZeroTo : List (Option C) → ℕ → Type 0
  IsFromZeroTo cells number = (k : ℕ) (cost : C) → k < number → slice_get cells k ≡ Some (Some cost) → pos 0 ≤ℤ value cost

  -- the board has a cell for each row and column, and none costs less than 0
  pub record IsBoard (board : Cells C) : Type 0 where
    pub sized : length board.cells ≡ board.rows * board.columns
    pub from_zero : IsFromZeroTo board.cells (length board.cells)

  -- the number of cells is wrong, or it is right and the error names the first cell that costs less than 0
  abbrev pub IsBoardFault : ℕ → ℕ → List (Option C) → TableError → Type 0
  IsBoardFault rows columns cells WrongNumberOfCells = length cells ≢ rows * columns
  IsBoardFault rows columns cells (NegativeCell number) = (length cells ≡ rows * columns) × ((cost : C) × (slice_get cells number ≡ Some (Some cost)) × (value cost <ℤ pos 0)) × IsFromZeroTo cells number
  IsBoardFault rows columns cells _ = ⊥
