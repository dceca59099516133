use Rattle.std.proofs.Common.{[], ◌∷◌, List, ℤ, inl}
use Rattle.pf_core.specs.Nodes.{NodeGraph}
use Rattle.pf_discovery.proofs.SourceLemmas.{Explores-edges_of}
use Rattle.std.proofs.lemmas.Result.{IfOk-from_err}
use Rattle.pf_base.proofs.Outcomes.{no_overflow, refused_as}
use Rattle.pf_search.proofs.directed.dijkstra.dijkstra_tallied.Goals as goal

abbrev graph_of : {N : Type 0} → N → (N → List (N × ℤ)) → NodeGraph N
graph_of start edges = record { starts = start ∷ []; edges = edges }

pub path_tallied-requires-clause-graph : goal.path_tallied-requires-clause-graph
path_tallied-requires-clause-graph g c =
    let r = c.requires.graph in
    let found = c.in_ok-clone_of in
    let x = Explores-edges_of g.N.PartialEq.eq g.met.N.Eq.laws _ _ _ _ _ _ (graph_of c.args.start.now r.0) found.field-0.keys _ found.ensures.distinct found.ensures.same r.2.edges_answered in
    (r.0, c.args.start.now, r.1, record { begins = found.ensures.begins; explores = x; tested = r.2.test_answered })

pub path_tallied-requires-clause-clones : goal.path_tallied-requires-clause-clones
path_tallied-requires-clause-clones g c = c.requires.clones

pub returns-in_err-clone_of-clause-best : goal.returns-in_err-clone_of-clause-best
returns-in_err-clone_of-clause-best g c = λ _ _ _. IfOk-from_err _ _ c.from_residual.ensures.0

pub returns-in_err-clone_of-clause-errors : goal.returns-in_err-clone_of-clause-errors
returns-in_err-clone_of-clause-errors g c = refused_as _ c.from_residual.result c.in_err-clone_of.field-0.0 c.from_residual.ensures.1 (inl c.in_err-clone_of.ensures.refused)

pub returns : goal.returns
returns g c = record {
  best = λ edges test s.
      let found = c.in_ok-clone_of in
      let x = Explores-edges_of g.N.PartialEq.eq g.met.N.Eq.laws _ _ _ _ _ _ (graph_of c.args.start.now edges) found.field-0.keys _ found.ensures.distinct found.ensures.same s.edges_answered in
      c.path_tallied.ensures.best edges c.args.start.now test (record { begins = found.ensures.begins; explores = x; tested = s.test_answered }) s.costs;
  overflow = λ edges test s.
      let found = c.in_ok-clone_of in
      let x = Explores-edges_of g.N.PartialEq.eq g.met.N.Eq.laws _ _ _ _ _ _ (graph_of c.args.start.now edges) found.field-0.keys _ found.ensures.distinct found.ensures.same s.edges_answered in
      c.path_tallied.ensures.overflow edges c.args.start.now test (record { begins = found.ensures.begins; explores = x; tested = s.test_answered }) s.costs;
  asked = λ edges test a t.
      let found = c.in_ok-clone_of in
      let x = Explores-edges_of g.N.PartialEq.eq g.met.N.Eq.laws _ _ _ _ _ _ (graph_of c.args.start.now edges) found.field-0.keys _ found.ensures.distinct found.ensures.same a in
      c.path_tallied.ensures.asked edges c.args.start.now test (record { begins = found.ensures.begins; explores = x; tested = t });
  errors = c.path_tallied.ensures.errors;
  ticked = c.path_tallied.ensures.ticked;
}

pub path_tallied-requires-clause-one : goal.path_tallied-requires-clause-one
path_tallied-requires-clause-one g c = c.in_ok-clone_of.ensures.one

pub returns-in_err-clone_of-clause-overflow : goal.returns-in_err-clone_of-clause-overflow
returns-in_err-clone_of-clause-overflow g c = λ _ _ _ e. absurd (no_overflow c.from_residual.result c.in_err-clone_of.field-0.0 c.from_residual.ensures.1 c.in_err-clone_of.ensures.refused e)
