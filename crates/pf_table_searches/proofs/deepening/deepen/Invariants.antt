use Rattle.std.proofs.Common.{◌^◌}
use Rattle.pf_tables.specs.Graphs.{successors_of}
use Rattle.pf_table_searches.specs.Internal.Trails.{IsSearchedTo}
use Rattle.pf_table_searches.proofs.TrailMeasure.{left_to}
use Rattle.pf_table_searches.proofs.deepening.deepen.Given as goal

abbrev pub invariant-steps : goal.invariant-steps
invariant-steps g l =
    let size = g.G.Graph.size l.graph in
    let places = g.G.Graph.places l.graph in
    IsSearchedTo (successors_of g.C.Number.value size places) l.from (g.T.Goals.passes l.goals) places size l.limit l.cut l.entries.items l.node l.place l.marked.items

abbrev pub decreases-steps : goal.decreases-steps
decreases-steps g l = left_to (2 ^ 64) l.limit l.entries.items l.place
