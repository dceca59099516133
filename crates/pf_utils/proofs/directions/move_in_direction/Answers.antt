use Rattle.std.proofs.Common.{rules, arith, sym, subst, FitsSigned, w64}
use Rattle.std.proofs.lemmas.Int.{ints}
use Rattle.pf_base.specs.Moves.{Finds, IsMove}
use Rattle.pf_utils.proofs.directions.move_in_direction.Goals as goal

-- no column, no target
pub returns-in_err-column : goal.returns-in_err-column
returns-in_err-column c =
    let f : FitsSigned w64 c.args.direction.1 = search rules in
    subst (Finds (IsMove c.args.start c.args.direction c.args.dimensions)) (sym c.from_residual-in_err-column.ensures)
    (λ x m. c.in_err-column.ensures x.1 (let e = m.column in record { sum = omega (arith, ints); inside = m.to_inside.1 }))
