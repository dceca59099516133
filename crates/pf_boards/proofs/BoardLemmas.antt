-- Boards of cells.
use Rattle.std.proofs.Common.{◌≡◌, ◌≢◌, eq-eqb, inl, inr, ℕ, zero, suc, ◌+◌, ◌*◌, ◌/◌, ◌^◌, ◌<◌, Bool, true, false, not, true≢false, nat_eq, sym, ◌∙◌, refl, ap, subst, arith, List, [], ◌∷◌, length, get_or}
use Rattle.std.specs.Prelude.{◌≤ℤ◌, ◌%◌, ℤ, pos, Option, Some, None, ⊤, slice_get, map}
use Rattle.std.specs.List.{AllByRecursion}
use Rattle.std.specs.Option.{SomeIff, option_eq, option_and_then, option_map}
use Rattle.std.proofs.lemmas.Bool.{eqb-true}
use Rattle.std.proofs.lemmas.Option.{slice_get-map, slice_get-get_or, slice_get_read, slice_get_within, option_and_then_some}
use Rattle.std.proofs.lemmas.Nat.{mul-add-lt}
use Rattle.std.proofs.Math.Nat.{add-mul-mod_self_right, div-eq_of_lt, div-lt_iff_lt-mul, mod-eq_of_lt, mul-add-div_right}
use Rattle.pf_base.specs.Moves.{Finds, IsMove, target_of}
use Rattle.pf_utils.proofs.MoveLemmas.{target_of-finds}
use Rattle.pf_boards.specs.declared.steps.Steps.{Steps}
use Rattle.pf_boards.specs.declared.steps.Steps.TheVariants.{Four, Eight}
use Rattle.pf_tables.specs.Graphs.{IsGraph, HasEdgeAt}
use Rattle.pf_boards.specs.Boards.{Cells, IsBoard, IsFromZeroTo, cost_at, directions_of, eight, node_at, position_at, step_from, steps_from}
use Rattle.pf_tables.proofs.Faulty.{less_or_same, some_same}

-- a cell that was read
pub cost_read : {C : Type 0} (cells : List (Option C)) (number : ℕ) (cell : Option C) → number < length cells → cell ≡ get_or cells number cell → cost_at cells number ≡ cell
cost_read cells number cell inside read = ap (option_and_then (λ x. x)) (slice_get_read cells (length cells) number cell refl inside read)

pub one_more_cell : {C : Type 0} {value : C → ℤ} (cells : List (Option C)) (number : ℕ) (cell : Option C) → number < length cells → cell ≡ get_or cells number cell → ((cost : C) → cell ≡ Some cost → pos 0 ≤ℤ value cost)
    → IsFromZeroTo value cells number → IsFromZeroTo value cells (number + 1)
one_more_cell cells number cell inside read sound before k cost l e = elim (less_or_same k number l) [
  | inl b ↦ before k cost b e
  | inr s ↦ sound cost (some_same (sym (slice_get_read cells (length cells) number cell refl inside read) ∙ ap (slice_get cells) (sym s) ∙ e))
]

-- the number of cells that is the product of the rows and columns
pub sized_as : (r : Option ℕ) (product count : ℕ) → SomeIff r (product < 2 ^ 64) product → false ≡ not (option_eq nat_eq r (Some count)) → count ≡ product
sized_as None product count h e = absurd (true≢false (sym e))
sized_as (Some x) product count h e = by (nat_eq x count) refl e
  where
    by : (b : Bool) → nat_eq x count ≡ b → false ≡ not b → count ≡ product
    by true t f = sym (eqb-true x count t) ∙ h.1
    by false t f = absurd (true≢false (sym f))

-- the number of cells that is not the product
pub not_sized : (r : Option ℕ) (product count : ℕ) → SomeIff r (product < 2 ^ 64) product → true ≡ not (option_eq nat_eq r (Some count)) → count < 2 ^ 64 → count ≢ product
not_sized None product count h e small same = h (omega (arith, small, same))
not_sized (Some x) product count h e small same = true≢false (e ∙ ap not (eq-eqb x count (h.1 ∙ sym same)))

-- ---- rows and columns

-- where there is a cell, there is a column
pub some_column : (rows columns cells node : ℕ) → cells ≡ rows * columns → node < cells → 0 < columns
some_column rows zero cells node sized inside = absurd (omega (arith, sized, inside))
some_column rows (suc n) cells node sized inside = omega arith

pub row_inside : (rows columns cells node : ℕ) → cells ≡ rows * columns → node < cells → node / columns < rows
row_inside rows columns cells node sized inside = (div-lt_iff_lt-mul (some_column rows columns cells node sized inside)).1 (omega (arith, sized, inside))

pub place_inside : (rows columns cells row column : ℕ) → cells ≡ rows * columns → row < rows → column < columns → row * columns + column < cells
place_inside rows columns cells row column sized r c = omega (arith, sized, mul-add-lt row columns column rows r c)

-- ---- a step

-- the step at a place of a node, of which all directions are those of `eight`
pub direction_at : (steps : Steps) (place : ℕ) (d : ℤ × ℤ) → place < length (directions_of steps) → slice_get (directions_of steps) place ≡ Some (get_or eight place d)
direction_at Four zero d h = refl
direction_at Four (suc zero) d h = refl
direction_at Four (suc (suc zero)) d h = refl
direction_at Four (suc (suc (suc zero))) d h = refl
direction_at Four (suc (suc (suc (suc n)))) d h = absurd (omega (arith, h))
direction_at Eight place d h = slice_get-get_or eight place d h

pub place_bound : (steps : Steps) (place : ℕ) → place < length (directions_of steps) → place < 8
place_bound Four place l = omega arith
place_bound Eight place l = l

pub step_at : {C : Type 0} (board : Cells C) (node place : ℕ) (direction : ℤ × ℤ) → slice_get board.directions place ≡ Some direction → slice_get (steps_from board node) place ≡ Some (step_from board node direction)
step_at board node place direction e = slice_get-map _ board.directions place ∙ ap (option_map (step_from board node)) e

-- ---- a board is a graph

entered : {C : Type 0} (number : ℕ) (o : Option C) (edge : ℕ × C) → option_map (λ cost. (number, cost)) o ≡ Some edge → (number ≡ edge.0) × (o ≡ Some edge.1)
entered number None edge e = cc
entered number (Some cost) edge e = let s = some_same e in (ap (λ p. p.0) s, ap (λ p. Some p.1) s)

open_cell : {C : Type 0} (cells : List (Option C)) (number : ℕ) (cost : C) → cost_at cells number ≡ Some cost → slice_get cells number ≡ Some (Some cost)
open_cell cells number cost e = option_and_then_some (λ x. x) (slice_get cells number) cost e (λ x at is. at ∙ ap Some is)

module _ {C : Type 0} (board : Cells C) (node : ℕ) where
  -- an edge is a move in this direction, and its cost is that of the cell that it enters
  pub record LeadsTo (edge : ℕ × C) (direction : ℤ × ℤ) : Type 0 where
    pub target : ℕ × ℕ
    pub move : IsMove (position_at board node) direction (board.rows, board.columns) target
    pub number : node_at board target ≡ edge.0
    pub cell : slice_get board.cells edge.0 ≡ Some (Some edge.1)

  leads : (direction : ℤ × ℤ) (edge : ℕ × C) → step_from board node direction ≡ Some edge → LeadsTo edge direction
  leads direction edge e =
      option_and_then_some _ (cost_at board.cells node) edge e (λ price o rest.
      option_and_then_some _ (target_of (position_at board node) direction (board.rows, board.columns)) edge rest (λ target t last.
      let h = entered (node_at board target) (cost_at board.cells (node_at board target)) edge last in record {
        target = target;
        move = subst (Finds (IsMove (position_at board node) direction (board.rows, board.columns))) t (target_of-finds (position_at board node) direction (board.rows, board.columns));
        number = h.0;
        cell = open_cell board.cells edge.0 edge.1 (ap (cost_at board.cells) (sym h.0) ∙ h.1);
      }))

  -- the edge at a place, where each direction is as P says
  pub stands : {P : ℤ × ℤ → Type 0} (directions : List (ℤ × ℤ)) (place : ℕ) (edge : ℕ × C) → AllByRecursion P directions → HasEdgeAt (map (step_from board node) directions) place edge
      → (direction : ℤ × ℤ) × P direction × LeadsTo edge direction
  stands [] place edge all h = absurd (none h)
    where
      none : None ≡ Some (Some edge) → ⊥
      none e = cc
  stands (d ∷ ds) zero edge all h = (d, all.0, leads d edge (some_same h))
  stands (d ∷ ds) (suc place) edge all h = stands ds place edge all.1 h

any : (directions : List (ℤ × ℤ)) → AllByRecursion (λ d. ⊤) directions
any [] = tt
any (d ∷ ds) = (tt, any ds)

-- the row and the column of the node at a row and a column
pub position_of_node : {C : Type 0} (board : Cells C) (position : ℕ × ℕ) → position.1 < board.columns → position_at board (node_at board position) ≡ position
position_of_node board position c =
    let some : 0 < board.columns = omega (arith, c) in
    let row : node_at board position / board.columns ≡ position.0 = mul-add-div_right some position.0 position.1 ∙ omega (arith, div-eq_of_lt c) in
    let column : node_at board position % board.columns ≡ position.1 = mod_there board.columns position.0 position.1 c in
    ap (λ r. (r, node_at board position % board.columns)) row ∙ ap (λ x. (position.0, x)) column
  where
    mod_there : (columns row column : ℕ) → column < columns → (row * columns + column) % columns ≡ column
    mod_there columns row column c = ap (λ n. n % columns) (omega arith) ∙ add-mul-mod_self_right column row columns ∙ mod-eq_of_lt c

pub board_graph : {C : Type 0} {value : C → ℤ} (board : Cells C) → IsBoard value board → IsGraph value (length board.cells) (steps_from board)
board_graph board sound = record {
  inside = λ n k e l h. slice_get_within board.cells e.0 (Some e.1) (stands board n board.directions k e (any board.directions) h).2.cell;
  from_zero = λ n k e l h.
      let at = (stands board n board.directions k e (any board.directions) h).2.cell in
      sound.from_zero e.0 e.1 (slice_get_within board.cells e.0 (Some e.1) at) at;
}
