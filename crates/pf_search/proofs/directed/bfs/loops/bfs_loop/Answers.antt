use Rattle.pf_discovery.proofs.SourceLemmas.{Explores-successors_of}
use Rattle.std.proofs.lemmas.Result.{IfOk-from_err}
use Rattle.pf_base.proofs.Outcomes.{refused_as}
use Rattle.pf_search.proofs.directed.bfs.loops.bfs_loop.Goals as goal

pub loop_from-requires-clause-graph : goal.loop_from-requires-clause-graph
loop_from-requires-clause-graph g c =
    let r = c.requires.graph in
    let starts = c.args.starts.now in
    let found = c.in_ok-clones_of in
    (r.0, starts, Explores-successors_of g.N.PartialEq.eq g.met.N.Eq.laws _ _ _ _ _ starts found.field-0.keys r.0 _ found.ensures.distinct (rw c.as_slice.ensures.nodes at found.ensures.same) r.1)

pub loop_from-requires-clause-clones : goal.loop_from-requires-clause-clones
loop_from-requires-clause-clones g c = c.requires.clones

pub returns-in_err-clones_of : goal.returns-in_err-clones_of
returns-in_err-clones_of g c = record {
  best = λ _ _. IfOk-from_err _ _ c.from_residual.ensures.0;
  errors = refused_as _ c.from_residual.result c.in_err-clones_of.field-0.0 c.from_residual.ensures.1 c.in_err-clones_of.ensures.refused;
}

pub returns : goal.returns
returns g c = record {
  best = λ next a.
      let starts = c.args.starts.now in
      let found = c.in_ok-clones_of in
      c.loop_from.ensures.best next starts (Explores-successors_of g.N.PartialEq.eq g.met.N.Eq.laws _ _ _ _ _ starts found.field-0.keys next _ found.ensures.distinct (rw c.as_slice.ensures.nodes at found.ensures.same) a) (rw c.as_slice.ensures.nodes at found.ensures.same);
  errors = c.loop_from.ensures.errors;
}
