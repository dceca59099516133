use Rattle.std.proofs.Common.{◌≡◌, ℕ, ℤ, Some, length, slice_get}
use Rattle.pf_base.specs.Edges.{InReach}
use Rattle.pf_core.specs.Nodes.{NodeGraph}
use Rattle.pf_informed.specs.Internal.Estimated.{IsEstimated}
use Rattle.pf_informed.proofs.estimates.ask.Given as goal

abbrev pub invariant-nodes : goal.invariant-nodes
invariant-nodes g l =
    let eq = g.N.PartialEq.eq in
    let answers = g.H.EstimateFunction.answers in
    let at = slice_get (g.M.Numbering.keys l.fn.nodes) in
    record {
      len : length l.estimates.items ≡ l.number;
      kept : (k : ℕ) (c : g.row.C.Denot) → slice_get l.fn.estimates.items k ≡ Some c → slice_get l.estimates.items k ≡ Some c;
      answered : (s : NodeGraph g.row.N.Denot) (h : g.row.N.Denot → ℤ) → answers l.fn.estimate (InReach eq s.edges s.starts) h → ((k : ℕ) (x : g.row.N.Denot) → at k ≡ Some x → InReach eq s.edges s.starts x)
          → answers l.estimate (InReach eq s.edges s.starts) h × (IsEstimated g.C.Number.value h at l.fn.estimates.items → IsEstimated g.C.Number.value h at l.estimates.items);
    }
