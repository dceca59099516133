use Rattle.pf_residual.specs.Internal.CurrentArcs.{IsPartialPath, work_left}
use Rattle.pf_residual.proofs.level_paths.find_augmenting_path.Given as goal

-- the search so far
abbrev pub invariant-moves : goal.invariant-moves
invariant-moves g l = IsPartialPath (g.S.FlowStore.network l.store) l.levels l.arcs.targets.items l.arcs.places.items l.arcs.ends.items l.path l.depth

abbrev pub decreases-moves : goal.decreases-moves
decreases-moves g l = work_left (g.S.FlowStore.network l.store) l.levels l.arcs.places.items l.arcs.ends.items l.depth
