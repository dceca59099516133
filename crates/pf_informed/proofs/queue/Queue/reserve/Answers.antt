use Rattle.std.proofs.Common.{◌∙◌, ◌++◌, List, ap, refl}
use Rattle.pf_base.proofs.Outcomes.{on_refused, refused_as}
use Rattle.pf_informed.specs.Internal.Waiting.{Entry, Queued}
use Rattle.pf_informed.proofs.queue.Queue.reserve.Goals as goal

pub invariant_of-self : goal.invariant_of-self
invariant_of-self g c = rw c.reserve.ensures.same.0 c.self.invariant

pub returns-in_err-reserve-clause-entries : goal.returns-in_err-reserve-clause-entries
returns-in_err-reserve-clause-entries g c = ap (λ (es : List (Entry g.row.C.Denot)). c.self.inside.bucket.items ++ es) c.reserve.ensures.same.0 ∙ ap (λ (q : Queued g.row.C.Denot). q.entries) c.self.view_is

pub returns-in_err-reserve-clause-room : goal.returns-in_err-reserve-clause-room
returns-in_err-reserve-clause-room g c = on_refused _ c.from_residual.result _ c.from_residual.ensures.1

pub returns-in_err-reserve-clause-refused : goal.returns-in_err-reserve-clause-refused
returns-in_err-reserve-clause-refused g c = refused_as _ c.from_residual.result _ c.from_residual.ensures.1 c.in_err-reserve.ensures.refused

pub invariant_of-self-in_err-reserve-2 : goal.invariant_of-self-in_err-reserve-2
invariant_of-self-in_err-reserve-2 g c = rw (c.reserve-2.ensures.items, c.reserve.ensures.same.0) c.self.invariant

pub returns-in_err-reserve-2-clause-entries : goal.returns-in_err-reserve-2-clause-entries
returns-in_err-reserve-2-clause-entries g c =
    ap (λ (es : List (Entry g.row.C.Denot)). es ++ c.reserve.new.self.items) c.reserve-2.ensures.items
    ∙ (ap (λ (es : List (Entry g.row.C.Denot)). c.self.inside.bucket.items ++ es) c.reserve.ensures.same.0 ∙ ap (λ (q : Queued g.row.C.Denot). q.entries) c.self.view_is)

pub returns-in_err-reserve-2-clause-room : goal.returns-in_err-reserve-2-clause-room
returns-in_err-reserve-2-clause-room g c = on_refused _ c.from_residual-in_err-reserve-2.result _ c.from_residual-in_err-reserve-2.ensures.1

pub returns-in_err-reserve-2-clause-refused : goal.returns-in_err-reserve-2-clause-refused
returns-in_err-reserve-2-clause-refused g c = refused_as _ c.from_residual-in_err-reserve-2.result _ c.from_residual-in_err-reserve-2.ensures.1 refl

pub invariant_of-self-2 : goal.invariant_of-self-2
invariant_of-self-2 g c = rw (c.reserve-2.ensures.items, c.reserve.ensures.same.0) c.self.invariant

pub returns-clause-entries : goal.returns-clause-entries
returns-clause-entries g c =
    ap (λ (es : List (Entry g.row.C.Denot)). es ++ c.reserve.new.self.items) c.reserve-2.ensures.items
    ∙ (ap (λ (es : List (Entry g.row.C.Denot)). c.self.inside.bucket.items ++ es) c.reserve.ensures.same.0 ∙ ap (λ (q : Queued g.row.C.Denot). q.entries) c.self.view_is)

pub returns-clause-room : goal.returns-clause-room
returns-clause-room g c = c.in_ok-reserve.ensures.room
