use Rattle.std.proofs.Common.{◌≡◌, length}
use Rattle.test_edge_lists.specs.Chosen.{chosen}
use Rattle.test_edge_lists.proofs.nodes.NodesAfterIterator.next.Given as goal

abbrev pub invariant-loop-edge : goal.invariant-loop-edge
invariant-loop-edge g l = chosen g.N.PartialEq.eq g.E.Edge.start g.E.Edge.end l.self-inside.rest.now l.self-inside.node ≡ l.fn.self

abbrev pub decreases-loop-edge : goal.decreases-loop-edge
decreases-loop-edge g l = length l.self-inside.rest.now
