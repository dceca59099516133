use Rattle.std.proofs.Common.{◌+◌, ◌-◌, ◌/◌, ◌^◌}
use Rattle.std.specs.Prelude.{IfSome}
use Rattle.pf_cycles.specs.Cycles.{AnswersStep, IsAfter, IsMet}
use Rattle.pf_cycles.proofs.BrentLemmas.{IsBrentRound}
use Rattle.pf_cycles.proofs.directed.cycle_detection.brent_method.meeting.Given as goal

abbrev pub invariant-loop-power : goal.invariant-loop-power
invariant-loop-power g l = (next : g.row.T.Denot → g.row.T.Denot)
    → AnswersStep g.S.Fn g.T.PartialEq.eq l.step (IsMet g.T.PartialEq.eq next l.start) next
    → record {
      round : IsBrentRound g.T.PartialEq.eq next l.start l.waiting l.moving l.power l.length;
      before : IfSome l.before (IsAfter g.T.PartialEq.eq next l.start ((l.power - 1) / 2));
    }

abbrev pub decreases-loop-power : goal.decreases-loop-power
decreases-loop-power g l = 2 ^ 65 - (l.power + l.length)
