use Rattle.pf_core.proofs.UnitLemmas.{tests_in_reach}
use Rattle.pf_discovery.proofs.SourceLemmas.{Explores-successors_of}
use Rattle.std.proofs.lemmas.Result.{IfOk-from_err}
use Rattle.pf_base.proofs.Outcomes.{refused_as}
use Rattle.pf_search.proofs.directed.bfs.bfs.Goals as goal

pub path_from-requires-clause-graph : goal.path_from-requires-clause-graph
path_from-requires-clause-graph g c =
    let r = c.requires.graph in
    let eq = g.N.PartialEq.eq in
    let starts = c.args.starts.now in
    let found = c.in_ok-clones_of in
    let x = Explores-successors_of eq g.met.N.Eq.laws _ _ _ _ _ starts found.field-0.keys r.0 _ found.ensures.distinct (rw c.as_slice.ensures.nodes at found.ensures.same) r.2.successors_answered in
    (r.0, starts, r.1, x, tests_in_reach eq _ starts r.0 r.1 _ r.2.test_answered)

pub path_from-requires-clause-clones : goal.path_from-requires-clause-clones
path_from-requires-clause-clones g c = c.requires.clones

pub returns-in_err-clones_of : goal.returns-in_err-clones_of
returns-in_err-clones_of g c = record {
  best = λ _ _ _. IfOk-from_err _ _ c.from_residual.ensures.0;
  errors = refused_as _ c.from_residual.result c.in_err-clones_of.field-0.0 c.from_residual.ensures.1 c.in_err-clones_of.ensures.refused;
}

pub returns : goal.returns
returns g c = record {
  best = λ next test s.
      let eq = g.N.PartialEq.eq in
      let starts = c.args.starts.now in
      let found = c.in_ok-clones_of in
      let x = Explores-successors_of eq g.met.N.Eq.laws _ _ _ _ _ starts found.field-0.keys next _ found.ensures.distinct (rw c.as_slice.ensures.nodes at found.ensures.same) s.successors_answered in
      c.path_from.ensures.best next starts test x (tests_in_reach eq _ starts next test _ s.test_answered) (rw c.as_slice.ensures.nodes at found.ensures.same);
  errors = c.path_from.ensures.errors;
}
