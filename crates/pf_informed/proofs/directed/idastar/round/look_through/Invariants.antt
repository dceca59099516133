use Rattle.std.proofs.Common.{ℤ, Bool}
use Rattle.std.specs.Prelude.{◌≤ℤ◌}
use Rattle.pf_core.specs.Nodes.{NodeGraph, StandsFor}
use Rattle.pf_informed.specs.Internal.Rows.{found_in, KnowsStart, IsKnown}
use Rattle.pf_informed.specs.Internal.Deepening.{turns_on, IsStacked, IsUnderWay, IsMarkedOn}
use Rattle.pf_informed.proofs.directed.idastar.round.look_through.Given as goal

abbrev pub invariant-turns : goal.invariant-turns
invariant-turns g l =
    let eq = g.N.PartialEq.eq in
    let value = g.C.Number.value in
    let answers = IsKnown g.M.Numbering.keys eq value g.S.EdgeSource.answers g.T.NodeTest.answers g.H.EstimateFunction.answers in
    record {
      start : KnowsStart g.M.Numbering.keys eq l.fn.known l.known;
      marked : IsMarkedOn l.way value l.limit (found_in g.M.Numbering.keys l.known);
      stack : IsStacked l.way g.M.Numbering.keys l.known;
      searched : (h : NodeGraph g.row.N.Denot) (test : g.row.N.Denot → Bool) (least : g.row.N.Denot → ℤ) (first : g.row.N.Denot)
          → answers h test least l.fn.known → StandsFor eq (g.M.Numbering.keys l.fn.known.graph.discovery.nodes) 0 first → least first ≤ℤ value l.limit
          → answers h test least l.known × IsUnderWay l.way g.M.Numbering.keys eq value g.C.Number.fits h test least first l.known;
    }

abbrev pub decreases-turns : goal.decreases-turns
decreases-turns g l = turns_on l.way
