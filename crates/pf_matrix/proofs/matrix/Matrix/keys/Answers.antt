use Rattle.std.proofs.Common.{◌*◌, ap, ◌∙◌, arith, length}
use Rattle.pf_matrix.proofs.PositionLemmas.{length-positions}
use Rattle.pf_matrix.proofs.matrix.Matrix.keys.Goals as goal

pub returns-clause-len : goal.returns-clause-len
returns-clause-len g c = ap length c.of.ensures ∙ length-positions c.self.inside.rows c.self.inside.columns ∙ ap (λ t. t.rows * t.columns) c.self.view_is

pub returns-clause-bound : goal.returns-clause-bound
returns-clause-bound g c =
    let sized = c.self.invariant.sized in
    let len = ap length c.of.ensures ∙ length-positions c.self.inside.rows c.self.inside.columns in
    omega (arith, len, sized, c.self.inside.values.ok.0)
