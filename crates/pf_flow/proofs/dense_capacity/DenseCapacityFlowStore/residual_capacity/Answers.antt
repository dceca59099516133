use Rattle.std.proofs.Common.{◌∙◌, sym}
use Rattle.pf_residual.proofs.DenseLemmas.{number_inside}
use Rattle.pf_flow.proofs.dense_capacity.DenseCapacityFlowStore.residual_capacity.Goals as goal

pub returns : goal.returns
returns g c =
    let s = c.args.self.now in
    c.number_at.ensures ∙ sym (number_inside g.C.Number.value s.residuals.rows s.residuals c.args.from c.args.to c.requires.from c.requires.to)
