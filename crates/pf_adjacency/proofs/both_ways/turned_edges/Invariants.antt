use Rattle.std.proofs.Common.{◌≡◌}
use Rattle.pf_adjacency.specs.Reverses.{turned_below}
use Rattle.pf_adjacency.proofs.both_ways.turned_edges.Given as goal

-- the edges of the nodes so far are turned
abbrev pub invariant-loop-node : goal.invariant-loop-node
invariant-loop-node g l = l.turned.items ≡ turned_below (g.G.Graph.places l.graph) l.node
