use Rattle.std.proofs.Common.{refl, length}
use Rattle.pf_core.specs.Nodes.{StandsFor}
use Rattle.pf_informed.specs.Internal.Rows.{IsCheapStep}
use Rattle.pf_informed.proofs.KnownLemmas.{no_span, no_rows, no_table}
use Rattle.pf_informed.proofs.directed.idastar.known.Known.new.Goals as goal

pub returns : goal.returns
returns g c =
    let rows = c.new-2.result in
    let keys = g.M.Numbering.keys c.args.graph.discovery.nodes in
    let none = c.new.ensures.items in
    record {
      graph = refl;
      unasked = none;
      table = no_table (length keys) rows.steps.items rows.spans.items c.new-2.ensures.steps c.new-2.ensures.spans;
      unopened = no_span rows.spans.items c.new-2.ensures.spans;
      known = λ h test least d. record {
        led = rw none d;
        rows = no_rows g.C.Number.value (IsCheapStep g.N.PartialEq.eq h) test (StandsFor g.N.PartialEq.eq keys) rows.steps.items rows.spans.items c.new-2.ensures.spans;
      };
    }
