use Rattle.std.proofs.Common.{◌-◌}
use Rattle.pf_cycles.specs.Cycles.{AnswersStep, IsAfter, IsMet}
use Rattle.pf_cycles.proofs.FloydLemmas.{IsLengthSearch}
use Rattle.pf_cycles.proofs.directed.cycle_detection.floyd_method.length_at.Given as goal

abbrev pub invariant-loop-ahead : goal.invariant-loop-ahead
invariant-loop-ahead g l = (start : g.row.T.Denot) (next : g.row.T.Denot → g.row.T.Denot)
    → AnswersStep g.S.Fn g.T.PartialEq.eq l.step (IsMet g.T.PartialEq.eq next start) next
    → IsAfter g.T.PartialEq.eq next start l.steps l.value
    → IsLengthSearch g.T.PartialEq.eq next start l.ahead l.steps l.length

abbrev pub decreases-loop-ahead : goal.decreases-loop-ahead
decreases-loop-ahead g l = l.steps - l.length
