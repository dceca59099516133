use Rattle.std.proofs.Common.{[], ◌∷◌, List, ℤ, inl}
use Rattle.pf_core.specs.Nodes.{NodeGraph}
use Rattle.pf_discovery.proofs.SourceLemmas.{Explores-edges_of}
use Rattle.std.proofs.lemmas.Result.{IfOk-from_err}
use Rattle.pf_base.proofs.Outcomes.{no_overflow, refused_as}
use Rattle.pf_search.proofs.directed.dijkstra_all.dijkstra_partial.Goals as goal

abbrev graph_of : {N : Type 0} → N → (N → List (N × ℤ)) → NodeGraph N
graph_of start edges = record { starts = start ∷ []; edges = edges }

pub partial_map-requires-clause-graph : goal.partial_map-requires-clause-graph
partial_map-requires-clause-graph g c =
    let r = c.requires.graph in
    let found = c.in_ok-clone_of in
    let x = Explores-edges_of g.N.PartialEq.eq g.met.N.Eq.laws _ _ _ _ _ _ (graph_of c.args.start.now r.0) found.field-0.keys _ found.ensures.distinct found.ensures.same r.2.edges_answered in
    (r.0, c.args.start.now, r.1, record { begins = found.ensures.begins; explores = x; tested = r.2.test_answered }, r.2.costs)

pub partial_map-requires-clause-clones : goal.partial_map-requires-clause-clones
partial_map-requires-clause-clones g c = c.requires.clones

pub returns : goal.returns
returns g c = record {
  partial = λ edges test s.
      let found = c.in_ok-clone_of in
      let x = Explores-edges_of g.N.PartialEq.eq g.met.N.Eq.laws _ _ _ _ _ _ (graph_of c.args.start.now edges) found.field-0.keys _ found.ensures.distinct found.ensures.same s.edges_answered in
      c.partial_map.ensures.partial edges c.args.start.now test (record { begins = found.ensures.begins; explores = x; tested = s.test_answered }) s.costs;
  overflow = λ edges test s.
      let found = c.in_ok-clone_of in
      let x = Explores-edges_of g.N.PartialEq.eq g.met.N.Eq.laws _ _ _ _ _ _ (graph_of c.args.start.now edges) found.field-0.keys _ found.ensures.distinct found.ensures.same s.edges_answered in
      c.partial_map.ensures.overflow edges c.args.start.now test (record { begins = found.ensures.begins; explores = x; tested = s.test_answered }) s.costs;
  errors = c.partial_map.ensures.errors;
}

pub partial_map-requires-clause-one : goal.partial_map-requires-clause-one
partial_map-requires-clause-one g c = c.in_ok-clone_of.ensures.one

pub returns-in_err-clone_of : goal.returns-in_err-clone_of
returns-in_err-clone_of g c = record {
  errors = refused_as _ c.from_residual.result c.in_err-clone_of.field-0.0 c.from_residual.ensures.1 (inl c.in_err-clone_of.ensures.refused);
  partial = λ _ _ _. IfOk-from_err _ _ c.from_residual.ensures.0;
  overflow = λ _ _ _ e. absurd (no_overflow c.from_residual.result c.in_err-clone_of.field-0.0 c.from_residual.ensures.1 c.in_err-clone_of.ensures.refused e);
}
