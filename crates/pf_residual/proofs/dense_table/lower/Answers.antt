use Rattle.std.proofs.Common.{neg_ℤ, arith}
use Rattle.std.proofs.lemmas.Int.{ints}
use Rattle.pf_residual.proofs.DenseLemmas.{table_written}
use Rattle.pf_residual.proofs.dense_table.lower.Goals as goal

pub returns : goal.returns
returns g c = table_written g.C.Number.value c.args.table.now c.args.from c.args.to c.minus-left.result (neg_ℤ (g.C.Number.value c.args.amount)) c.requires.matrix c.requires.inside.0 c.requires.inside.1
    (omega (arith, ints, c.minus-left.ensures, c.number_at.ensures))
