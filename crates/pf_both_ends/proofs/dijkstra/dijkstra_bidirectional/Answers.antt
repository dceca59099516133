use Rattle.pf_discovery.proofs.SourceLemmas.{Explores-edges_of}
use Rattle.pf_both_ends.specs.Internal.BothEnds.{from_one}
use Rattle.std.proofs.lemmas.Result.{IfOk-from_err}
use Rattle.std.proofs.Common.{inl}
use Rattle.pf_base.proofs.Outcomes.{no_overflow, refused_as}
use Rattle.pf_both_ends.proofs.dijkstra.dijkstra_bidirectional.Goals as goal

pub cheapest_path-requires-clause-ends : goal.cheapest_path-requires-clause-ends
cheapest_path-requires-clause-ends g c =
    let r = c.requires.graph in
    let s = r.2 in
    let eq = g.N.PartialEq.eq in
    let laws = g.met.N.Eq.laws in
    let start = c.args.start.now in
    let end = c.args.end.now in
    let found = c.in_ok-clone_of in
    let found_back = c.in_ok-clone_of-2 in (
      r.0,
      r.1,
      start,
      end,
      Explores-edges_of eq laws _ _ _ _ _ _ (from_one start r.0) found.field-0.keys _ found.ensures.distinct found.ensures.same s.edges_answered,
      Explores-edges_of eq laws _ _ _ _ _ _ (from_one end r.1) found_back.field-0.keys _ found_back.ensures.distinct found_back.ensures.same s.previous_answered,
      record { begins = found.ensures.begins; begins_back = found_back.ensures.begins; mirror = s.mirror; costs = s.costs; costs_back = s.costs_back },
    )

pub cheapest_path-requires-clause-clones : goal.cheapest_path-requires-clause-clones
cheapest_path-requires-clause-clones g c = c.requires.clones

pub returns : goal.returns
returns g c = record {
  best = λ edges previous s.
      let eq = g.N.PartialEq.eq in
      let laws = g.met.N.Eq.laws in
      let start = c.args.start.now in
      let end = c.args.end.now in
      let found = c.in_ok-clone_of in
      let found_back = c.in_ok-clone_of-2 in
      let x = Explores-edges_of eq laws _ _ _ _ _ _ (from_one start edges) found.field-0.keys _ found.ensures.distinct found.ensures.same s.edges_answered in
      let y = Explores-edges_of eq laws _ _ _ _ _ _ (from_one end previous) found_back.field-0.keys _ found_back.ensures.distinct found_back.ensures.same s.previous_answered in
      (c.cheapest_path.ensures.best edges previous start end x y (record { begins = found.ensures.begins; begins_back = found_back.ensures.begins; mirror = s.mirror; costs = s.costs; costs_back = s.costs_back })).0;
  overflow = λ edges previous s.
      let eq = g.N.PartialEq.eq in
      let laws = g.met.N.Eq.laws in
      let start = c.args.start.now in
      let end = c.args.end.now in
      let found = c.in_ok-clone_of in
      let found_back = c.in_ok-clone_of-2 in
      let x = Explores-edges_of eq laws _ _ _ _ _ _ (from_one start edges) found.field-0.keys _ found.ensures.distinct found.ensures.same s.edges_answered in
      let y = Explores-edges_of eq laws _ _ _ _ _ _ (from_one end previous) found_back.field-0.keys _ found_back.ensures.distinct found_back.ensures.same s.previous_answered in
      (c.cheapest_path.ensures.best edges previous start end x y (record { begins = found.ensures.begins; begins_back = found_back.ensures.begins; mirror = s.mirror; costs = s.costs; costs_back = s.costs_back })).1;
  errors = c.cheapest_path.ensures.errors;
}

pub cheapest_path-requires-clause-one_forth : goal.cheapest_path-requires-clause-one_forth
cheapest_path-requires-clause-one_forth g c = c.in_ok-clone_of.ensures.one

pub cheapest_path-requires-clause-one_back : goal.cheapest_path-requires-clause-one_back
cheapest_path-requires-clause-one_back g c = c.in_ok-clone_of-2.ensures.one

pub returns-in_err-clone_of : goal.returns-in_err-clone_of
returns-in_err-clone_of g c = record {
  best = λ _ _ _. IfOk-from_err _ _ c.from_residual.ensures.0;
  errors = refused_as _ c.from_residual.result c.in_err-clone_of.field-0.0 c.from_residual.ensures.1 (inl c.in_err-clone_of.ensures.refused);
  overflow = λ _ _ _ e. absurd (no_overflow c.from_residual.result c.in_err-clone_of.field-0.0 c.from_residual.ensures.1 c.in_err-clone_of.ensures.refused e);
}

pub returns-in_err-clone_of-2 : goal.returns-in_err-clone_of-2
returns-in_err-clone_of-2 g c = record {
  best = λ _ _ _. IfOk-from_err _ _ c.from_residual-in_err-clone_of-2.ensures.0;
  errors = refused_as _ c.from_residual-in_err-clone_of-2.result c.in_err-clone_of-2.field-0.0 c.from_residual-in_err-clone_of-2.ensures.1 (inl c.in_err-clone_of-2.ensures.refused);
  overflow = λ _ _ _ e. absurd (no_overflow c.from_residual-in_err-clone_of-2.result c.in_err-clone_of-2.field-0.0 c.from_residual-in_err-clone_of-2.ensures.1 c.in_err-clone_of-2.ensures.refused e);
}
