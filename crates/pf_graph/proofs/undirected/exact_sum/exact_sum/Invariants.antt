use Rattle.std.proofs.Common.{◌≡◌, length}
use Rattle.std.specs.Prelude.{◌+ℤ◌}
use Rattle.pf_graph.specs.Internal.Spanning.SpanningSteps.{values_sum}
use Rattle.pf_graph.proofs.Spanning.SumLemmas.{Rises}
use Rattle.pf_graph.proofs.undirected.exact_sum.exact_sum.Given as goal

abbrev pub invariant-weights : goal.invariant-weights
invariant-weights g l = record {
  fits : g.C.Number.fits (g.C.Number.value l.sum);
  rises : Rises g.C.Number.value l.left;
  whole : (g.C.Number.value l.sum +ℤ values_sum g.C.Number.value l.left) ≡ values_sum g.C.Number.value l.fn.weights;
}

abbrev pub decreases-weights : goal.decreases-weights
decreases-weights g l = length l.left
