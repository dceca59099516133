use Rattle.std.proofs.Common.{◌≡◌, length}
use Rattle.std.specs.List.{filter_map}
use Rattle.pf_bench.proofs.inputs.steps.StepsIterator.next.Given as goal

-- no step leads on in the directions so far
abbrev pub invariant-loop-direction : goal.invariant-loop-direction
invariant-loop-direction g l = (filter_map (g.M.Moves.step l.self-inside.from) l.self-inside.rest.now ≡ l.fn.self) × (l.self-inside.from ≡ l.initial.self-inside.from)

abbrev pub decreases-loop-direction : goal.decreases-loop-direction
decreases-loop-direction g l = length l.self-inside.rest.now
