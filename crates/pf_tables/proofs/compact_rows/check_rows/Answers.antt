use Rattle.std.proofs.Common.{arith}
use Rattle.std.proofs.lemmas.Result.{err_from_is_err_and}
use Rattle.pf_tables.specs.Graphs.{between}
use Rattle.pf_tables.proofs.OffsetLemmas.{next_within, one_more_row, first_fault}
use Rattle.pf_tables.proofs.compact_rows.check_rows.Goals as goal

pub check_part-requires-clause-rising : goal.check_part-requires-clause-rising
check_part-requires-clause-rising g c = c.requires.rising c.loop-node.node (omega arith)

pub check_part-requires-clause-within : goal.check_part-requires-clause-within
check_part-requires-clause-within g c = next_within c.args.offsets.now (g.R.Row.edges c.args.edges.now) c.requires c.loop-node.node (omega arith)

pub loop-node-preserved : goal.loop-node-preserved
loop-node-preserved g c = one_more_row _ _ (between c.args.offsets.now (g.R.Row.edges c.args.edges.now)) c.loop-node.node c.in_ok-check_part.ensures c.loop-node.invariant

pub returns-in_err-check_part : goal.returns-in_err-check_part
returns-in_err-check_part g c =
    let p = err_from_is_err_and c.from_residual.result c.from_residual.ensures.1 in
    rw (p.1, p.2) (first_fault _ _ (between c.args.offsets.now (g.R.Row.edges c.args.edges.now)) c.loop-node.node _ (omega arith) c.in_err-check_part.ensures c.loop-node.invariant)

pub returns : goal.returns
returns g c = λ n l. c.loop-node.invariant n (omega (arith, l))
