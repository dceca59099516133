use Rattle.std.proofs.Common.{◌%◌, arith}
use Rattle.pf_matrix.specs.Arrange.{itself}
use Rattle.pf_matrix.proofs.ArrangeLemmas.{copied_itself, turned_by}
use Rattle.pf_matrix.proofs.matrix.Matrix.rotate_cw.Goals as goal
use Rattle.pf_matrix.proofs.matrix.Matrix.rotate_cw.Goals.{then-times-eq1, else-times-eq1}

pub returns : goal.returns
returns g c =
    let m = c.args.self.now in
    let n = c.if-times-eq1.self in
    let k = c.args.times % 4 in
    elim c.if-times-eq1.branch [
      | then-times-eq1 w ↦ turned_by itself m n c.flip_for.new.self k (omega arith) (λ e. absurd (omega arith)) (λ e. rw w.self-is w.transpose_in_place.ensures) c.flip_for.ensures
      | else-times-eq1 w ↦ turned_by itself m n c.flip_for.new.self k (omega arith) (λ e. rw (w.self-is, ← c.self.view_is) (copied_itself _ c.self.invariant)) (λ e. absurd (omega arith)) c.flip_for.ensures
    ]
