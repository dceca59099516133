use Rattle.std.proofs.Common.{◌≡◌, ap, subst, length, Err, [], inl, refl, None}
use Rattle.pf_base.specs.declared.error.PathError.TheVariants.{CostOverflow}
use Rattle.pf_core.specs.Steps.{NumberedOverflows}
use Rattle.pf_yen.specs.Internal.Adjacency.{AdjacencyLists, AdjacencyStep, is_goal}
use Rattle.pf_yen.specs.Internal.Filtered.{FilteredLists, StandsForItself}
use Rattle.pf_yen.specs.Internal.Splits.{IsFilteredTo}
use Rattle.pf_yen.proofs.SplitLemmas.{filtered_first}
use Rattle.pf_yen.proofs.CandidateLemmas.{begun_partition, all_overflows}
use Rattle.std.proofs.lemmas.Result.{IfOk-from_err}
use Rattle.pf_base.proofs.Outcomes.{no_overflow, ok_is_no_error, overflow_kept, refused_as}
use Rattle.std.proofs.lemmas.List.{length-replicate}
use Rattle.pf_yen.proofs.candidates.Candidates.begin.Goals as goal

pub returns-in_err-filtered : goal.returns-in_err-filtered
returns-in_err-filtered g c = record {
  begun = IfOk-from_err _ _ c.from_residual.ensures.0;
  errors = refused_as _ c.from_residual.result c.in_err-filtered.field-0.0 c.from_residual.ensures.1 (inl c.in_err-filtered.ensures.refused);
  partition = IfOk-from_err _ _ c.from_residual.ensures.0;
  overflow = λ e. absurd (no_overflow c.from_residual.result c.in_err-filtered.field-0.0 c.from_residual.ensures.1 c.in_err-filtered.ensures.refused e);
  kept = refused_as _ c.from_residual.result c.in_err-filtered.field-0.0 c.from_residual.ensures.1 (refl, refl);
  waiting = refl;
  is_given = refl;
}

pub least_of_class-requires-clause-whole : goal.least_of_class-requires-clause-whole
least_of_class-requires-clause-whole g c = rw c.in_ok-filtered.ensures.graph.0 c.requires.whole

pub least_of_class-requires-clause-some : goal.least_of_class-requires-clause-some
least_of_class-requires-clause-some g c = rw c.in_ok-filtered.ensures.graph.0 c.requires.some

pub least_of_class-requires-clause-wide : goal.least_of_class-requires-clause-wide
least_of_class-requires-clause-wide g c = rw (c.in_ok-filtered.ensures.onward, c.in_ok-filtered.ensures.graph.0) (length-replicate (length c.args.adjacency.now.rows) None)

pub returns-in_err-self : goal.returns-in_err-self
returns-in_err-self g c = record {
  overflow = λ x.
      let e = c.in_ok-filtered.ensures in
      let s = c.in_ok-filtered.filtered in
      let here : FilteredLists g.row.C.Denot = record { adjacency = s.adjacency.now; onward = s.onward.items; spur = s.spur; banned = s.banned } in
      let f : c.in_err-self.field-0.0 ≡ CostOverflow = overflow_kept c.from_residual-in_err-self.result c.in_err-self.field-0.0 c.from_residual-in_err-self.ensures.1 x in
      subst (λ (k : AdjacencyLists g.row.C.Denot). NumberedOverflows (AdjacencyStep g.C.Number.value k) (is_goal k) (StandsForItself (length k.rows) 0) (StandsForItself (length k.rows)) g.C.Number.fits) e.graph.0
      (all_overflows g.C.Number.value here (length c.args.adjacency.now.rows) e.onward e.graph.2 g.C.Number.fits (length s.adjacency.now.rows) (c.in_err-self.ensures.overflow (ap Err f)));
  begun = IfOk-from_err _ _ c.from_residual-in_err-self.ensures.0;
  errors = refused_as _ c.from_residual-in_err-self.result c.in_err-self.field-0.0 c.from_residual-in_err-self.ensures.1 c.in_err-self.ensures.errors;
  partition = IfOk-from_err _ _ c.from_residual-in_err-self.ensures.0;
  kept = refused_as _ c.from_residual-in_err-self.result c.in_err-self.field-0.0 c.from_residual-in_err-self.ensures.1 (refl, refl);
  waiting = refl;
  is_given = refl;
}

pub returns : goal.returns
returns g c = record {
  partition =
      let e = c.in_ok-filtered.ensures in
      let s = c.in_ok-filtered.filtered in
      let n : IsFilteredTo s.adjacency.now s.onward.items s.spur [] = rw (e.graph.0, e.onward, e.graph.1) (filtered_first c.args.adjacency.now (length c.args.adjacency.now.rows) c.requires.some) in
      begun_partition g.C.Number.value c.args.adjacency.now c.requires.whole c.in_ok-self.field-0 (rw (e.graph.0, e.graph.2) at (c.in_ok-self.ensures.least [] n)) (rw e.graph.2 at c.in_ok-self.ensures.parts);
  errors = tt;
  overflow = λ e. absurd (ok_is_no_error _ _ _ refl e);
  kept = tt;
  waiting = refl;
  is_given = refl;
  begun = refl;
}
