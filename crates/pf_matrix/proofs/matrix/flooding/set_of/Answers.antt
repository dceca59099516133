use Rattle.std.proofs.lemmas.Result.{IfOk-weaker}
use Rattle.pf_matrix.proofs.MarkLemmas.{set_of_marks}
use Rattle.pf_matrix.proofs.matrix.flooding.set_of.Goals as goal

pub returns : goal.returns
returns g c =
    let marks = c.mark.ensures in
    let now = c.mark.new.table in
    IfOk-weaker c.set_of_marked.result _ _
    (λ set made. set_of_marks now c.set_of_marked.ensures.matrix c.args.positions.items (λ p h. let at = c.requires p h in (rw marks.sizes.0 at.0, rw marks.sizes.1 at.1))
    (λ p h. marks.marked p (rw (← marks.sizes.0) h.0, rw (← marks.sizes.1) h.1)) set made) c.set_of_marked.ensures.marked
