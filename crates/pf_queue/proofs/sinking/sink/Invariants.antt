use Rattle.std.proofs.Common.{◌-◌, length}
use Rattle.pf_queue.proofs.MarkLemmas.{IsPassing}
use Rattle.pf_queue.proofs.sinking.sink.Given as goal

abbrev pub invariant-marks : goal.invariant-marks
invariant-marks g l = IsPassing g.C.Number.value l.first l.near (length l.fn.entries - 1) l.fn.entries l.cost l.index l.hole l.entries l.marks

abbrev pub decreases-marks : goal.decreases-marks
decreases-marks g l = length l.marks - l.index
