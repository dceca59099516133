use Rattle.std.proofs.Common.{arith}
use Rattle.std.proofs.lemmas.Result.{err_from_is_err_and}
use Rattle.pf_tables.proofs.Faulty.{one_more, part_sound, part_fault}
use Rattle.pf_tables.proofs.checks.check_part.Goals as goal

pub loop-number-preserved : goal.loop-number-preserved
loop-number-preserved g c = one_more c.args.first c.args.end c.loop-number.number _ c.edge.result (omega arith) (omega arith) c.edge.ensures c.in_ok-check_edge.ensures c.loop-number.invariant

pub returns-in_err-check_edge : goal.returns-in_err-check_edge
returns-in_err-check_edge g c =
    let p = err_from_is_err_and c.from_residual.result c.from_residual.ensures.1 in
    rw (p.1, p.2) (part_fault c.args.first c.args.end c.loop-number.number c.args.node _ c.edge.result _ (omega arith) (omega arith) c.edge.ensures c.in_err-check_edge.ensures c.loop-number.invariant)

pub returns : goal.returns
returns g c = part_sound c.args.first c.args.end c.loop-number.number _ c.requires.rising c.requires.within (omega arith) c.loop-number.invariant
