use Rattle.std.proofs.Common.{◌%◌, arith}
use Rattle.pf_matrix.proofs.ArrangeLemmas.{copied_table, turned_by}
use Rattle.pf_matrix.proofs.matrix.Matrix.rotated_cw.Goals as goal
use Rattle.pf_matrix.proofs.matrix.Matrix.rotated_cw.Goals.{then-times-eq0+in_ok-turned, else-times-eq0+in_ok-turned-2}

pub returns-clause-rotated : goal.returns-clause-rotated
returns-clause-rotated g c =
    let like = g.C.Clone.is_clone in
    let m = c.args.self.now in
    let n = c.if-times-eq0.turned in
    let k = c.args.times % 4 in
    elim c.if-times-eq0.branch [
      | then-times-eq0+in_ok-turned w ↦ turned_by like m n c.flip_for.new.self k (omega arith) (λ e. copied_table like m n (rw w.turned-is w.in_ok-turned.ensures.cases)) (λ e. absurd (omega arith)) c.flip_for.ensures
      | else-times-eq0+in_ok-turned-2 w ↦ turned_by like m n c.flip_for.new.self k (omega arith) (λ e. absurd (omega arith)) (λ e. rw w.turned-is w.in_ok-turned-2.ensures.transposed) c.flip_for.ensures
    ]
