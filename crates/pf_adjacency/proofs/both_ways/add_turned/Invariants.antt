use Rattle.std.proofs.Common.{◌≡◌, ◌++◌, take}
use Rattle.pf_adjacency.specs.Reverses.{turned_row}
use Rattle.pf_adjacency.proofs.both_ways.add_turned.Given as goal

-- the edges at the places so far are turned
abbrev pub invariant-loop-place : goal.invariant-loop-place
invariant-loop-place g l = l.turned.items ≡ l.initial.turned.items ++ turned_row l.node (take l.place (g.G.Graph.places l.graph l.node))
