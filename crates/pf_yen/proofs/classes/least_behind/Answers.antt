use Rattle.std.proofs.Common.{refl, inl, take, drop}
use Rattle.std.proofs.lemmas.Result.{IfOk-from_err}
use Rattle.pf_base.proofs.Outcomes.{no_overflow, ok_is_no_error, refused_as}
use Rattle.pf_yen.proofs.ResultLemmas.{ok_so}
use Rattle.pf_yen.proofs.classes.least_behind.Goals as goal

pub returns-in_err-path : goal.returns-in_err-path
returns-in_err-path g c = record {
  adjacency = refl;
  onward = refl;
  spur = refl;
  spent = IfOk-from_err _ _ c.from_residual.ensures.0;
  banned = IfOk-from_err _ _ c.from_residual.ensures.0;
  least = IfOk-from_err _ _ c.from_residual.ensures.0;
  parts = IfOk-from_err _ _ c.from_residual.ensures.0;
  overflow = λ e. absurd (no_overflow c.from_residual.result c.in_err-path.field-0.0 c.from_residual.ensures.1 c.in_err-path.ensures.refused e);
  errors = refused_as _ c.from_residual.result c.in_err-path.field-0.0 c.from_residual.ensures.1 (inl c.in_err-path.ensures.refused);
}

pub returns-in-Way : goal.returns-in-Way
returns-in-Way g c = record {
  adjacency = refl;
  onward = refl;
  spur = refl;
  spent = refl;
  banned = c.take.ensures.nothing;
  least = rw c.in-Way.is at c.in_ok-path.ensures.named;
  parts = (refl, c.take.ensures.taken);
  overflow = λ e. absurd (ok_is_no_error _ _ _ refl e);
  errors = tt;
}

pub returns-in-Nothing : goal.returns-in-Nothing
returns-in-Nothing g c = record {
  adjacency = refl;
  onward = refl;
  spur = refl;
  spent = refl;
  banned = c.take-banned.ensures.nothing;
  least = rw c.in-Nothing.is at c.in_ok-path.ensures.named;
  parts = tt;
  overflow = λ e. absurd (ok_is_no_error _ _ _ refl e);
  errors = tt;
}

pub returns-in-Unknown : goal.returns-in-Unknown
returns-in-Unknown g c =
    let e = c.searched.ensures in
    record {
      adjacency = e.adjacency;
      onward = e.onward;
      spur = e.spur;
      spent = e.spent;
      banned = e.banned;
      least = ok_so c.searched.result _ _ (λ answer h. h (take c.args.spur (drop 1 c.args.path.now)) c.requires.prefix.filtered) e.least;
      parts = e.parts;
      overflow = e.overflow;
      errors = e.errors;
    }
