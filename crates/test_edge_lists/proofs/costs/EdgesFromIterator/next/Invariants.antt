use Rattle.std.proofs.Common.{◌≡◌, length}
use Rattle.test_edge_lists.specs.Lists.{ends_from}
use Rattle.test_edge_lists.proofs.costs.EdgesFromIterator.next.Given as goal

abbrev pub invariant-loop-edge : goal.invariant-loop-edge
invariant-loop-edge g l = ends_from g.N.PartialEq.eq l.self-inside.rest.now l.self-inside.node ≡ l.fn.self

abbrev pub decreases-loop-edge : goal.decreases-loop-edge
decreases-loop-edge g l = length l.self-inside.rest.now
