use Rattle.std.proofs.Common.{◌∙◌, ap, ◌+ℤ◌}
use Rattle.pf_residual.proofs.DenseLemmas.{table_written}
use Rattle.pf_residual.proofs.dense_table.raise.Goals as goal

pub returns : goal.returns
returns g c = table_written g.C.Number.value c.args.table.now c.args.from c.args.to c.plus-sum.result (g.C.Number.value c.args.amount) c.requires.matrix c.requires.inside.0 c.requires.inside.1
    (c.plus-sum.ensures ∙ ap (λ z. z +ℤ g.C.Number.value c.args.amount) c.number_at.ensures)
