use Rattle.std.proofs.Common.{take}
use Rattle.pf_tables.proofs.own_numbers.list_places.Given as goal
use Rattle.pf_tables.specs.Graphs.{present}

abbrev pub invariant-loop-place : goal.invariant-loop-place
invariant-loop-place g l = g.R.Row.holds l.row (present (take l.place (g.G.Graph.places l.graph l.node)))
