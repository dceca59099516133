use Rattle.std.proofs.Common.{◌∙◌, sym, ap, ◌+◌, ◌*◌}
use Rattle.pf_matrix.proofs.TableLemmas.{place_in}
use Rattle.pf_residual.proofs.DenseLemmas.{number_is}
use Rattle.pf_residual.proofs.dense_table.number_at.Goals as goal

pub returns : goal.returns
returns g c =
    let m = c.args.table.now in
    ap g.C.Number.value c.index.ensures
    ∙ sym (number_is g.C.Number.value m.values (c.args.from * m.columns + c.args.to) c.index.result.now (place_in m c.requires.matrix c.args.from c.args.to c.requires.inside.0 c.requires.inside.1))
