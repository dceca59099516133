use Rattle.std.proofs.Common.{refl}
use Rattle.pf_table_estimates.proofs.EstimateLemmas.{table_led}
use Rattle.pf_table_estimates.proofs.guide.begin.Goals as goal

pub returns : goal.returns
returns g c =
    let n = c.in_ok-nodes.ensures.one in
    record {
      nodes = rw (c.edge_discovery.ensures, n) refl;
      led = rw (c.edge_discovery.ensures, n, c.new.ensures) (table_led g.C.Number.value g.E.Graph.size g.E.Graph.places g.E.Goals.passes g.E.EstimatedGraph.estimates c.args.estimates.now c.args.from c.known.ensures c.consistent.ensures);
      refused = tt;
    }
