use Rattle.pf_yen.proofs.CandidateLemmas.{goes_on_both, still_plans, all_begun}
use Rattle.std.proofs.lemmas.Result.{IfOk-from_err}
use Rattle.pf_base.proofs.Outcomes.{ok_is_no_error, overflow_kept, refused_as}
use Rattle.std.proofs.Common.{refl, ◌∙◌, sym, ap, true≢false, Err}
use Rattle.pf_yen.proofs.candidates.Candidates.choose.Goals as goal

pub begin-requires-clause-whole : goal.begin-requires-clause-whole
begin-requires-clause-whole g c = c.requires.whole

pub begin-requires-clause-some : goal.begin-requires-clause-some
begin-requires-clause-some g c = c.requires.some

pub split_given-requires-clause-whole : goal.split_given-requires-clause-whole
split_given-requires-clause-whole g c = c.requires.whole

pub split_given-requires-clause-some : goal.split_given-requires-clause-some
split_given-requires-clause-some g c = c.requires.some

pub split_given-requires-clause-partition : goal.split_given-requires-clause-partition
split_given-requires-clause-partition g c = c.requires.partition c.if-self.true

pub split_given-requires-clause-ordered : goal.split_given-requires-clause-ordered
split_given-requires-clause-ordered g c = c.requires.ordered

pub returns-in_err-split_given : goal.returns-in_err-split_given
returns-in_err-split_given g c = record {
  begins = IfOk-from_err _ _ c.from_residual.ensures.0;
  begun = IfOk-from_err _ _ c.from_residual.ensures.0;
  errors = refused_as _ c.from_residual.result c.in_err-split_given.field-0.0 c.from_residual.ensures.1 c.in_err-split_given.ensures.errors;
  first = IfOk-from_err _ _ c.from_residual.ensures.0;
  goes_on = IfOk-from_err _ _ c.from_residual.ensures.0;
  none = IfOk-from_err _ _ c.from_residual.ensures.0;
  ordered = c.in_err-split_given.ensures.ordered;
  due = refused_as _ c.from_residual.result c.in_err-split_given.field-0.0 c.from_residual.ensures.1 (λ _. c.in_err-split_given.ensures.due);
  kept =
      let e = c.in_err-split_given.ensures in
      let s = still_plans _ _ _ _ e.kept.0 e.kept.1 in
      refused_as _ c.from_residual.result c.in_err-split_given.field-0.0 c.from_residual.ensures.1 (s.0, s.1, e.kept.2, e.has_begun);
  overflow = λ e. rw c.if-self.true (c.in_err-split_given.ensures.overflow (ap Err (overflow_kept c.from_residual.result c.in_err-split_given.field-0.0 c.from_residual.ensures.1 e)));
}

pub choose_first-requires-clause-ordered : goal.choose_first-requires-clause-ordered
choose_first-requires-clause-ordered g c = c.in_ok-split_given.ensures.ordered

pub choose_first-requires-clause-new : goal.choose_first-requires-clause-new
choose_first-requires-clause-new g c = c.in_ok-split_given.ensures.is_given

pub returns-in_err-begin : goal.returns-in_err-begin
returns-in_err-begin g c = record {
  begins = IfOk-from_err _ _ c.from_residual-in_err-begin.ensures.0;
  begun = IfOk-from_err _ _ c.from_residual-in_err-begin.ensures.0;
  errors = refused_as _ c.from_residual-in_err-begin.result c.in_err-begin.field-0.0 c.from_residual-in_err-begin.ensures.1 c.in_err-begin.ensures.errors;
  first = IfOk-from_err _ _ c.from_residual-in_err-begin.ensures.0;
  goes_on = IfOk-from_err _ _ c.from_residual-in_err-begin.ensures.0;
  none = IfOk-from_err _ _ c.from_residual-in_err-begin.ensures.0;
  ordered = rw c.in_err-begin.ensures.waiting c.requires.ordered;
  kept =
      let e = c.in_err-begin.ensures in
      let s = still_plans _ _ _ _ e.kept.0 e.waiting in
      refused_as _ c.from_residual-in_err-begin.result c.in_err-begin.field-0.0 c.from_residual-in_err-begin.ensures.1 (s.0, s.1, e.is_given, e.kept.1);
  due = refused_as _ c.from_residual-in_err-begin.result c.in_err-begin.field-0.0 c.from_residual-in_err-begin.ensures.1 (λ t. absurd (true≢false (sym t ∙ c.if-self.false)));
  overflow = λ e. rw c.if-self.false (c.in_err-begin.ensures.overflow (ap Err (overflow_kept c.from_residual-in_err-begin.result c.in_err-begin.field-0.0 c.from_residual-in_err-begin.ensures.1 e)));
}

pub returns-in_ok-split_given : goal.returns-in_ok-split_given
returns-in_ok-split_given g c = record {
  goes_on = λ b. goes_on_both g.C.Number.value c.args.adjacency.now _ _ _ _ c.in_ok-split_given.ensures.goes_on (c.choose_first.ensures.goes_on c.args.adjacency.now);
  errors = tt;
  overflow = λ e. absurd (ok_is_no_error _ _ _ refl e);
  kept = tt;
  due = tt;
  ordered = c.choose_first.ensures.ordered;
  begun = (c.choose_first.ensures.has_begun ∙ c.in_ok-split_given.ensures.has_begun ∙ c.if-self.true, c.choose_first.ensures.is_given);
  none = c.choose_first.ensures.none;
  first = λ f _. c.choose_first.ensures.first (c.in_ok-split_given.ensures.first f);
  begins = λ b. absurd (true≢false (sym c.if-self.true ∙ b));
}

pub returns-in_ok-begin : goal.returns-in_ok-begin
returns-in_ok-begin g c = record {
  errors = tt;
  overflow = λ e. absurd (ok_is_no_error _ _ _ refl e);
  kept = tt;
  due = tt;
  ordered = rw c.in_ok-begin.ensures.waiting c.requires.ordered;
  begun = (c.in_ok-begin.ensures.begun, c.in_ok-begin.ensures.is_given ∙ (c.requires.fresh c.if-self.false).1);
  none = λ _. rw (c.in_ok-begin.ensures.waiting, (c.requires.fresh c.if-self.false).0) refl;
  first = λ _ t. absurd (true≢false (sym t ∙ c.if-self.false));
  goes_on = λ t. absurd (true≢false (sym t ∙ c.if-self.false));
  begins = λ _. all_begun g.C.Number.value c.args.adjacency.now _ _ (c.in_ok-begin.ensures.waiting ∙ (c.requires.fresh c.if-self.false).0) c.in_ok-begin.ensures.partition;
}
