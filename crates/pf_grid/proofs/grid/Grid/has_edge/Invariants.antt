use Rattle.std.proofs.Common.{◌≡◌}
use Rattle.pf_grid.specs.Steps.{neighbours_of}
use Rattle.pf_grid.specs.Vertices.{listed}
use Rattle.pf_grid.proofs.grid.Grid.has_edge.Given as goal

-- the neighbours so far are others
abbrev pub invariant-loop-neighbour : goal.invariant-loop-neighbour
invariant-loop-neighbour g l = listed l.neighbour-iterator l.to.0 l.to.1 ≡ listed (neighbours_of l.self l.fn.from) l.to.0 l.to.1
