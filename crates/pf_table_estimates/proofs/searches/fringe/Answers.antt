use Rattle.std.proofs.Common.{inl, refl}
use Rattle.pf_base.proofs.Callers.{nat_refl}
use Rattle.pf_base.proofs.Outcomes.{if_refused, no_overflow, refused_as}
use Rattle.pf_tables.specs.Graphs.{graph_of}
use Rattle.pf_table_estimates.proofs.searches.fringe.Goals as goal

pub fringe_of-requires-clause-one : goal.fringe_of-requires-clause-one
fringe_of-requires-clause-one g c = rw c.in_ok-graph.ensures.nodes refl

pub fringe_of-requires-clause-graph : goal.fringe_of-requires-clause-graph
fringe_of-requires-clause-graph g c =
    let given = c.args.estimates.now in
    let e = c.in_ok-graph.ensures in
    (c.args.from, graph_of g.C.Number.value (g.E.Graph.size given) (g.E.Graph.places given), g.E.Goals.passes given, g.E.EstimatedGraph.estimates given, rw e.nodes (c.args.from, refl, nat_refl c.args.from), rw c.new.ensures e.led)

pub returns : goal.returns
returns g c =
    let given = c.args.estimates.now in
    let edges = graph_of g.C.Number.value (g.E.Graph.size given) (g.E.Graph.places given) in
    let passes = g.E.Goals.passes given in
    let estimate = g.E.EstimatedGraph.estimates given in
    let begun = c.in_ok-graph.ensures in
    let e = c.fringe_of.ensures in
    record { best = e.best c.args.from edges passes estimate (rw begun.nodes (c.args.from, refl, nat_refl c.args.from)) (rw c.new.ensures begun.led); overflow = e.overflow c.args.from edges passes estimate (rw begun.nodes (c.args.from, refl, nat_refl c.args.from)) (rw c.new.ensures begun.led); errors = e.errors }

pub returns-in_err-graph : goal.returns-in_err-graph
returns-in_err-graph g c = record {
  best = if_refused _ c.from_residual.result _ c.from_residual.ensures.1;
  overflow = λ e. absurd (no_overflow c.from_residual.result _ c.from_residual.ensures.1 c.in_err-graph.ensures.refused e);
  errors = refused_as _ c.from_residual.result _ c.from_residual.ensures.1 (inl c.in_err-graph.ensures.refused);
}
