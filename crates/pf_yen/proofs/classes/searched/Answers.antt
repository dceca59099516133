use Rattle.std.proofs.Common.{refl, ap, Err}
use Rattle.std.proofs.lemmas.Result.{IfOk-from_err}
use Rattle.pf_base.proofs.Outcomes.{ok_is_no_error, overflow_kept, refused_as}
use Rattle.pf_yen.proofs.classes.searched.Goals as goal

pub returns-in_err-answer : goal.returns-in_err-answer
returns-in_err-answer g c =
    let e = c.in_err-answer.ensures in
    record {
      adjacency = e.adjacency;
      onward = e.onward;
      spur = e.spur;
      spent = IfOk-from_err _ _ c.from_residual.ensures.0;
      banned = IfOk-from_err _ _ c.from_residual.ensures.0;
      least = IfOk-from_err _ _ c.from_residual.ensures.0;
      parts = IfOk-from_err _ _ c.from_residual.ensures.0;
      overflow = λ x. e.overflow (ap Err (overflow_kept c.from_residual.result c.in_err-answer.field-0.0 c.from_residual.ensures.1 x));
      errors = refused_as _ c.from_residual.result c.in_err-answer.field-0.0 c.from_residual.ensures.1 e.errors;
    }

pub returns : goal.returns
returns g c =
    let e = c.in_ok-answer.ensures in
    record {
      adjacency = e.adjacency;
      onward = e.onward;
      spur = e.spur;
      spent = refl;
      banned = e.banned;
      least = e.least;
      parts = e.parts;
      overflow = λ x. absurd (ok_is_no_error _ _ _ refl x);
      errors = tt;
    }
