use Rattle.std.proofs.Common.{◌-◌}
use Rattle.pf_cycles.specs.Cycles.{AnswersStep, IsAfter, IsMet}
use Rattle.pf_cycles.proofs.ChaseLemmas.{IsChase}
use Rattle.pf_cycles.proofs.directed.cycle_detection.first_value.first_value.Given as goal

abbrev pub invariant-loop : goal.invariant-loop
invariant-loop g l = (next : g.row.T.Denot → g.row.T.Denot)
    → AnswersStep g.S.Fn g.T.PartialEq.eq l.step (IsMet g.T.PartialEq.eq next l.start) next
    → IsAfter g.T.PartialEq.eq next l.start l.fn.known.1 l.fn.known.0
    → IsAfter g.T.PartialEq.eq next l.start l.counter l.ahead

abbrev pub invariant-loop-value : goal.invariant-loop-value
invariant-loop-value g l = (next : g.row.T.Denot → g.row.T.Denot)
    → AnswersStep g.S.Fn g.T.PartialEq.eq l.step (IsMet g.T.PartialEq.eq next l.fn.start) next
    → IsAfter g.T.PartialEq.eq next l.fn.start l.fn.known.1 l.fn.known.0
    → IsChase g.T.PartialEq.eq next l.fn.start l.value l.ahead l.distance l.index

abbrev pub decreases-loop-value : goal.decreases-loop-value
decreases-loop-value g l = l.most - l.index
