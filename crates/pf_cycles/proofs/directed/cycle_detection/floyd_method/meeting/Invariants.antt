use Rattle.std.proofs.Common.{◌-◌, ◌^◌}
use Rattle.pf_cycles.specs.Cycles.{AnswersStep, IsMet}
use Rattle.pf_cycles.proofs.FloydLemmas.{IsFloydRound}
use Rattle.pf_cycles.proofs.directed.cycle_detection.floyd_method.meeting.Given as goal

abbrev pub invariant-loop-steps : goal.invariant-loop-steps
invariant-loop-steps g l = (next : g.row.T.Denot → g.row.T.Denot)
    → AnswersStep g.S.Fn g.T.PartialEq.eq l.step (IsMet g.T.PartialEq.eq next l.start) next
    → IsFloydRound g.T.PartialEq.eq next l.start l.slow l.fast l.steps

abbrev pub decreases-loop-steps : goal.decreases-loop-steps
decreases-loop-steps g l = 2 ^ 64 - l.steps
