-- Estimates of the cost that remains from each cell of a board to one cell: so many steps as there are if no cell is blocked, each at the least cost of a cell.
use Rattle.std.specs.Prelude.{◌≡◌, ◌≢◌, ◌⊎◌, ◌≤ℤ◌, ◌+◌, ◌*ℤ◌, ◌&&◌, ℕ, ℤ, pos, nat_lt, if◌then◌else◌, List, Option, Some, length, max, slice_get}
use Rattle.std.specs.Int.{abs_diff, int_min}
use Rattle.pf_boards.specs.Boards.{Cells, IsBoard, directions_of, position_at}
use Rattle.pf_boards.specs.declared.steps.Steps.{Steps}
use Rattle.pf_boards.specs.declared.steps.Steps.TheVariants.{Four, Eight}

-- how many steps lead from one position to another, if no cell is blocked
abbrev pub steps_between : Steps → ℕ × ℕ → ℕ × ℕ → ℕ
steps_between Four from to = abs_diff from.0 to.0 + abs_diff from.1 to.1
steps_between Eight from to = max (abs_diff from.0 to.0) (abs_diff from.1 to.1)

-- what a caller sees of the estimates of a board: the board, its steps, the goal, and the least cost of an open cell
pub record EstimatedBoard (C : Type 0) : Type 0 where
  pub board : Cells C
  pub steps : Steps
  pub goal : ℕ
  pub least : C

module _ {C : Type 0} (value : C → ℤ) where
  -- no open cell costs less, and some open cell costs so much; 0 where no cell is open
  pub record IsLeastCost (cells : List (Option C)) (least : C) : Type 0 where
    pub below : (number : ℕ) (cost : C) → slice_get cells number ≡ Some (Some cost) → value least ≤ℤ value cost
    pub reached : ((number : ℕ) × (cost : C) × (slice_get cells number ≡ Some (Some cost)) × (value cost ≡ value least))
        ⊎ (((number : ℕ) (cost : C) → slice_get cells number ≢ Some (Some cost)) × (value least ≡ pos 0))

  -- the board is one, the steps are its steps, and the least cost is that of its open cells
  pub record IsEstimatedBoard (estimated : EstimatedBoard C) : Type 0 where
    pub board : IsBoard value estimated.board
    pub steps : directions_of estimated.steps ≡ estimated.board.directions
    pub least : IsLeastCost estimated.board.cells estimated.least

  -- The steps to the goal times the least cost, or the greatest cost of the type where that is less. It is 0 for a number that is no node, and for each where the goal is none.
  abbrev pub estimate_on_board : (greatest : ℤ) → EstimatedBoard C → ℕ → ℤ
  estimate_on_board greatest estimated node =
      if nat_lt node (length estimated.board.cells) && nat_lt estimated.goal (length estimated.board.cells) then
      int_min (pos (steps_between estimated.steps (position_at estimated.board node) (position_at estimated.board estimated.goal)) *ℤ value estimated.least) greatest
      else pos 0
