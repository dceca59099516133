use Rattle.std.proofs.Common.{Bool, ℤ, length}
use Rattle.pf_core.specs.Nodes.{NodeGraph, StandsFor}
use Rattle.pf_informed.specs.Internal.Forest.{nat_of}
use Rattle.pf_informed.specs.Internal.Informed.{work_left}
use Rattle.pf_informed.specs.Internal.Led.{IsLed, IsReady, IsInformedOn}
use Rattle.pf_informed.proofs.directed.astar.search_on.Given as goal

abbrev pub invariant-turns : goal.invariant-turns
invariant-turns g l =
    let eq = g.N.PartialEq.eq in
    let value = g.C.Number.value in
    let led = IsLed g.M.Numbering.keys eq value g.S.EdgeSource.answers g.T.NodeTest.answers g.H.EstimateFunction.answers in
    let first = g.M.Numbering.keys l.fn.graph.discovery.nodes in
    let keys = g.M.Numbering.keys l.graph.discovery.nodes in
    let known = l.search.estimates.items in
    let entries = l.search.queue.entries in
    record {
      ready : IsReady value g.C.Number.fits (length keys) l.search;
      begins : (x : g.row.N.Denot) → StandsFor eq first 0 x → StandsFor eq keys 0 x;
      searched : (h : NodeGraph g.row.N.Denot) (test : g.row.N.Denot → Bool) (least : g.row.N.Denot → ℤ)
          → led h test least l.fn.graph l.fn.estimate l.fn.search.estimates.items
          → led h test least l.graph l.estimate known
          × IsInformedOn g.M.Numbering.keys eq value g.C.Number.fits h test l.graph l.search entries;
    }

abbrev pub decreases-turns : goal.decreases-turns
decreases-turns g l = work_left g.C.Number.value (nat_of (g.C.Number.value g.C.Cost.greatest)) l.search.labels.items (length l.search.queue.entries)
