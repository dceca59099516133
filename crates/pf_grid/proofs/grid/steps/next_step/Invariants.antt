use Rattle.std.proofs.Common.{◌≡◌, ◌<◌, ◌≤◌, ◌-◌, drop, length}
use Rattle.std.specs.List.{filter_map}
use Rattle.pf_grid.specs.GridPositions.{IsInside}
use Rattle.pf_grid.specs.Steps.{target}
use Rattle.pf_grid.proofs.grid.steps.next_step.Given as goal

-- the steps so far lead to no vertex
abbrev pub invariant-loop-next : goal.invariant-loop-next
invariant-loop-next g l =
    record {
      next : l.next ≤ length l.ways;
      inside : l.next < length l.ways → IsInside l.grid l.from;
      left : filter_map (target l.grid l.from) (drop l.fn.next l.ways) ≡ filter_map (target l.grid l.from) (drop l.next l.ways);
    }

abbrev pub decreases-loop-next : goal.decreases-loop-next
decreases-loop-next g l = length l.ways - l.next
