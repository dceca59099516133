use Rattle.std.proofs.Common.{◌≡◌, take}
use Rattle.std.specs.Prelude.{map}
use Rattle.pf_deepening.specs.declared.way.Frame.{Frame}
use Rattle.pf_informed.proofs.directed.idastar.round.numbers_to.Given as goal

abbrev pub invariant-frames : goal.invariant-frames
invariant-frames g l = l.numbers.items ≡ map (λ (f : Frame g.row.C.Denot). f.number) (take l.frame-index l.trail)
