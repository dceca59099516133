use Rattle.std.proofs.Common.{inl, refl, ap, Err}
use Rattle.std.proofs.lemmas.Result.{IfOk-from_err}
use Rattle.pf_base.proofs.Outcomes.{no_overflow, ok_is_no_error, overflow_kept, refused_as}
use Rattle.pf_yen.proofs.classes.split.Goals as goal

pub filtered_along-requires-clause-whole : goal.filtered_along-requires-clause-whole
filtered_along-requires-clause-whole g c = c.requires.whole

pub filtered_along-requires-clause-some : goal.filtered_along-requires-clause-some
filtered_along-requires-clause-some g c = c.requires.some

pub filtered_along-requires-clause-clean : goal.filtered_along-requires-clause-clean
filtered_along-requires-clause-clean g c = rw c.deref.ensures.value (_, c.requires.cheapest.clean)

pub filtered_along-requires-clause-inside : goal.filtered_along-requires-clause-inside
filtered_along-requires-clause-inside g c = rw c.deref.ensures.value c.requires.cheapest.inside

pub split_along-requires : goal.split_along-requires
split_along-requires g c =
    let e = c.in_ok-filtered.ensures in
    record {
      whole = rw e.adjacency c.requires.whole;
      some = rw e.adjacency c.requires.some;
      wide = rw e.adjacency e.wide;
      cheapest = rw e.adjacency c.requires.cheapest;
      filtered = rw e.adjacency (rw c.deref.ensures.value at e.filtered);
      spent = rw e.adjacency (rw c.deref.ensures.value at e.spent);
      banned = e.banned;
      empty = c.new-plans.ensures.items;
    }

pub returns-in_err-filtered : goal.returns-in_err-filtered
returns-in_err-filtered g c = record {
  errors = refused_as _ c.from_residual.result c.in_err-filtered.field-0.0 c.from_residual.ensures.1 (inl c.in_err-filtered.ensures.refused);
  split = IfOk-from_err _ _ c.from_residual.ensures.0;
  overflow = λ e. absurd (no_overflow c.from_residual.result c.in_err-filtered.field-0.0 c.from_residual.ensures.1 c.in_err-filtered.ensures.refused e);
}

pub returns-in_err-split_along : goal.returns-in_err-split_along
returns-in_err-split_along g c = record {
  errors = refused_as _ c.from_residual-in_err-split_along.result c.in_err-split_along.field-0.0 c.from_residual-in_err-split_along.ensures.1 c.in_err-split_along.ensures.errors;
  split = IfOk-from_err _ _ c.from_residual-in_err-split_along.ensures.0;
  overflow = λ e. rw c.in_ok-filtered.ensures.adjacency at (c.in_err-split_along.ensures.overflow (ap Err (overflow_kept c.from_residual-in_err-split_along.result c.in_err-split_along.field-0.0 c.from_residual-in_err-split_along.ensures.1 e)));
}

pub returns : goal.returns
returns g c = record {
  split = rw c.in_ok-filtered.ensures.adjacency at c.in_ok-split_along.ensures.split;
  errors = tt;
  overflow = λ e. absurd (ok_is_no_error _ _ _ refl e);
}
