use Rattle.pf_discovery.proofs.SourceLemmas.{Explores-successors_of}
use Rattle.std.proofs.lemmas.Result.{IfOk-from_err}
use Rattle.pf_base.proofs.Outcomes.{refused_as}
use Rattle.pf_both_ends.proofs.bfs.bfs_bidirectional.Goals as goal

pub fewest_edges_path-requires-clause-graph : goal.fewest_edges_path-requires-clause-graph
fewest_edges_path-requires-clause-graph g c =
    let r = c.requires.graph in
    let eq = g.N.PartialEq.eq in
    let laws = g.met.N.Eq.laws in
    let starts = c.args.starts.now in
    let ends = c.args.ends.now in
    let found = c.in_ok-clones_of in
    let found_back = c.in_ok-clones_of-2 in (
      r.0,
      r.1,
      starts,
      ends,
      Explores-successors_of eq laws _ _ _ _ _ starts found.field-0.keys r.0 _ found.ensures.distinct (rw c.as_slice.ensures.nodes at found.ensures.same) r.2.successors_answered,
      Explores-successors_of eq laws _ _ _ _ _ ends found_back.field-0.keys r.1 _ found_back.ensures.distinct (rw c.as_slice-2.ensures.nodes at found_back.ensures.same) r.2.predecessors_answered,
    )

pub fewest_edges_path-requires-clause-clones : goal.fewest_edges_path-requires-clause-clones
fewest_edges_path-requires-clause-clones g c = c.requires.clones

pub returns-in_err-clones_of-2 : goal.returns-in_err-clones_of-2
returns-in_err-clones_of-2 g c = record {
  best = λ _ _ _. IfOk-from_err _ _ c.from_residual-in_err-clones_of-2.ensures.0;
  errors = refused_as _ c.from_residual-in_err-clones_of-2.result c.in_err-clones_of-2.field-0.0 c.from_residual-in_err-clones_of-2.ensures.1 c.in_err-clones_of-2.ensures.refused;
}

pub returns-in_err-clones_of : goal.returns-in_err-clones_of
returns-in_err-clones_of g c = record {
  best = λ _ _ _. IfOk-from_err _ _ c.from_residual.ensures.0;
  errors = refused_as _ c.from_residual.result c.in_err-clones_of.field-0.0 c.from_residual.ensures.1 c.in_err-clones_of.ensures.refused;
}

pub returns : goal.returns
returns g c = record {
  best = λ next previous s.
      let eq = g.N.PartialEq.eq in
      let laws = g.met.N.Eq.laws in
      let starts = c.args.starts.now in
      let ends = c.args.ends.now in
      let found = c.in_ok-clones_of in
      let found_back = c.in_ok-clones_of-2 in
      let x = Explores-successors_of eq laws _ _ _ _ _ starts found.field-0.keys next _ found.ensures.distinct (rw c.as_slice.ensures.nodes at found.ensures.same) s.successors_answered in
      let y = Explores-successors_of eq laws _ _ _ _ _ ends found_back.field-0.keys previous _ found_back.ensures.distinct (rw c.as_slice-2.ensures.nodes at found_back.ensures.same) s.predecessors_answered in
      c.fewest_edges_path.ensures.best next previous starts ends x y (rw c.as_slice.ensures.nodes at found.ensures.same) (rw c.as_slice-2.ensures.nodes at found_back.ensures.same) s.mirror;
  errors = c.fewest_edges_path.ensures.errors;
}
