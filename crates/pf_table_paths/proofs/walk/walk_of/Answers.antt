use Rattle.std.proofs.Common.{ap, sym, inl, length, ◌∷◌, []}
use Rattle.std.proofs.lemmas.Result.{IfOk-from_err}
use Rattle.pf_base.proofs.Callers.{nat_refl}
use Rattle.pf_base.proofs.Outcomes.{refused_as}
use Rattle.pf_tables.specs.Graphs.{graph_of}
use Rattle.pf_tables.proofs.GraphLemmas.{no_negative_cost}
use Rattle.pf_table_paths.proofs.walk.walk_of.Goals as goal

pub over-walk-requires : goal.over-walk-requires
over-walk-requires g c = record { one = ap length c.in_ok-nodes.ensures.one }

pub returns-in_err-nodes : goal.returns-in_err-nodes
returns-in_err-nodes g c = record {
  begins = IfOk-from_err _ _ c.from_residual.ensures.0;
  graph = IfOk-from_err _ _ c.from_residual.ensures.0;
  refused = refused_as _ c.from_residual.result c.in_err-nodes.field-0.0 c.from_residual.ensures.1 c.in_err-nodes.ensures.refused;
}

pub returns-clause-graph : goal.returns-clause-graph
returns-clause-graph g c =
    let size = g.G.Graph.size c.args.graph.now in
    let places = g.G.Graph.places c.args.graph.now in
    c.over-walk.ensures.graph c.args.from (rw c.in_ok-nodes.ensures.one (inl (nat_refl c.args.from))) (graph_of g.C.Number.value size places) (g.T.Goals.passes c.args.goals) (record {
      edges_answered = ap (λ t. graph_of g.C.Number.value (g.G.Graph.size t) (g.G.Graph.places t)) (sym c.new.ensures);
      test_answered = ap g.T.Goals.passes (sym c.new-2.ensures);
      costs = no_negative_cost g.C.Number.value size places c.known.ensures (c.args.from ∷ []);
    })
