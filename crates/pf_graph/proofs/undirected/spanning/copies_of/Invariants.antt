use Rattle.std.proofs.Common.{take}
use Rattle.pf_graph.specs.Internal.Spanning.SpanningSteps.{HoldsCopies, placed}
use Rattle.pf_graph.proofs.undirected.spanning.copies_of.Given as goal

abbrev pub invariant-loop-edge : goal.invariant-loop-edge
invariant-loop-edge g l = HoldsCopies g.C.Clone.is_clone (take l.edge-index l.edges) (placed g.V.VertexNumber.stands_for l.copies.items)
