use Rattle.std.proofs.Common.{sym, ◌∙◌, ap, arith, get_or}
use Rattle.std.specs.Prelude.{pos, ◌/◌, ◌%◌, None, Some}
use Rattle.std.specs.Option.{option_map}
use Rattle.pf_boards.specs.Boards.{Cells, eight}
use Rattle.pf_boards.proofs.BoardLemmas.{cost_read}
use Rattle.pf_boards.proofs.NeighbourLemmas.{cell_entered, number_inside, step_by}
use Rattle.pf_boards.proofs.board.step.Goals as goal

pub bounds-cells-number : goal.bounds-cells-number
bounds-cells-number g c =
    let columns = c.args.columns in
    omega (arith, c.requires.sized, number_inside c.args.rows columns (c.args.node / columns, c.args.node % columns) (get_or eight c.args.place (pos 0, pos 0)) c.in_ok-number.number c.in_ok-number.ensures)

pub offset_bounds-cells-number : goal.offset_bounds-cells-number
offset_bounds-cells-number g c = omega (arith, bounds-cells-number g c)

pub returns-in_err-cost : goal.returns-in_err-cost
returns-in_err-cost g c =
    let board : Cells g.row.C.Denot = record { rows = c.args.rows; columns = c.args.columns; cells = c.args.cells.now; directions = eight } in
    let number = c.in_ok-number.number in
    let opened = cost_read c.args.cells.now c.args.node _ c.requires.inside c.index-cells-node.is ∙ c.in_ok-_open.was in
    let direction = get_or eight c.args.place (pos 0, pos 0) in
    let entered = cell_entered board c.args.node direction number _ c.requires.sized c.in_ok-number.ensures c.index-cells-number.is in
    let led = step_by board c.args.node direction _ opened (Some number) c.in_ok-number.ensures in
    c.from_residual-in_err-cost.ensures ∙ sym (led ∙ ap (option_map (λ cost. (number, cost))) (entered ∙ c.in_err-cost.was))

pub returns : goal.returns
returns g c =
    let board : Cells g.row.C.Denot = record { rows = c.args.rows; columns = c.args.columns; cells = c.args.cells.now; directions = eight } in
    let number = c.in_ok-number.number in
    let opened = cost_read c.args.cells.now c.args.node _ c.requires.inside c.index-cells-node.is ∙ c.in_ok-_open.was in
    let direction = get_or eight c.args.place (pos 0, pos 0) in
    let entered = cell_entered board c.args.node direction number _ c.requires.sized c.in_ok-number.ensures c.index-cells-number.is in
    let led = step_by board c.args.node direction _ opened (Some number) c.in_ok-number.ensures in
    sym (led ∙ ap (option_map (λ cost. (number, cost))) (entered ∙ c.in_ok-cost.was))

pub offset_bounds-cells-node : goal.offset_bounds-cells-node
offset_bounds-cells-node g c = omega (arith, c.requires.inside)

pub bounds-cells-node : goal.bounds-cells-node
bounds-cells-node g c = c.requires.inside

pub returns-in_err-_open : goal.returns-in_err-_open
returns-in_err-_open g c =
    let blocked = cost_read c.args.cells.now c.args.node _ c.requires.inside c.index-cells-node.is ∙ c.in_err-_open.was in
    rw (c.from_residual.ensures, blocked)

pub neighbour-requires-clause-small : goal.neighbour-requires-clause-small
neighbour-requires-clause-small g c = omega (arith, c.requires.sized, c.well_formed.1.1.0.0)

pub neighbour-requires-clause-inside : goal.neighbour-requires-clause-inside
neighbour-requires-clause-inside g c = omega (arith, c.requires.sized, c.requires.inside)

pub neighbour-requires-clause-place : goal.neighbour-requires-clause-place
neighbour-requires-clause-place g c = c.requires.place

pub returns-in_err-number : goal.returns-in_err-number
returns-in_err-number g c =
    let board : Cells g.row.C.Denot = record { rows = c.args.rows; columns = c.args.columns; cells = c.args.cells.now; directions = eight } in
    let opened = cost_read c.args.cells.now c.args.node _ c.requires.inside c.index-cells-node.is ∙ c.in_ok-_open.was in
    c.from_residual-in_err-number.ensures ∙ sym (step_by board c.args.node (get_or eight c.args.place (pos 0, pos 0)) _ opened None c.in_err-number.ensures)
