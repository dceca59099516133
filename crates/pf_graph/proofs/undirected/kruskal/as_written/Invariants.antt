use Rattle.std.specs.Prelude.{map}
use Rattle.std.specs.List.{AllZip}
use Rattle.pf_graph.specs.EdgesByReference.{shown}
use Rattle.pf_graph.specs.Internal.NumberedEdges.{IsWritten}
use Rattle.pf_graph.proofs.undirected.kruskal.as_written.Given as goal

-- the edges so far are written
abbrev pub invariant-loop-numbered : goal.invariant-loop-numbered
invariant-loop-numbered g l = AllZip IsWritten l.yielded (map shown l.edges.items)
