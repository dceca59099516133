use Rattle.std.proofs.Common.{◌≡◌, ap, ◌∙◌, of_calls, arith, length, [], ◌∷◌, append_assoc, length-append, refl}
use Rattle.std.proofs.lemmas.List.{append-nil}
use Rattle.pf_matrix.specs.Positions.{positions}
use Rattle.pf_matrix.proofs.CallLemmas.{callable_first, callable_rest}
use Rattle.pf_matrix.proofs.PositionLemmas.{length-positions}
use Rattle.std.proofs.lemmas.Result.{IfOk-from_err}
use Rattle.pf_base.proofs.Outcomes.{refused_as}
use Rattle.pf_matrix.specs.declared.error.MatrixFormatError.TheVariants.{OutOfMemory}
use Rattle.pf_matrix.proofs.matrix.Matrix.from_fn.Goals as goal

pub of-position-items-requires : goal.of-position-items-requires
of-position-items-requires g c = c.requires.filled

pub loop-position-init : goal.loop-position-init
loop-position-init g c =
    let all : c.into_iter-position-iterator.result ≡ positions c.args.rows c.args.columns = c.into_iter-position-iterator.ensures.into_iter_gives ∙ c.of-position-items.ensures in
    record {
      callable = rw all c.requires.callable;
      count = omega (arith, ap length c.in_ok-values.ensures.items, ap length all, length-positions c.args.rows c.args.columns);
      calls = λ ys h. rw (c.in_ok-values.ensures.items, ← all) h;
    }

pub cb-requires : goal.cb-requires
cb-requires g c = callable_first c.loop-position.cb c.in-Some.position c.next.new.self (rw c.in-Some.ensures.steps at c.loop-position.invariant.callable)

pub loop-position-preserved : goal.loop-position-preserved
loop-position-preserved g c =
    let steps = c.in-Some.ensures.steps in
    record {
      callable = callable_rest c.loop-position.cb c.cb.new.self c.in-Some.position c.cb.result c.next.new.self (search of_calls) (rw steps at c.loop-position.invariant.callable);
      count = omega (arith, c.loop-position.invariant.count, ap length steps, simp length-append at (ap length c.in_ok-push.ensures.items));
      calls = λ ys h. rw (c.in_ok-push.ensures.items, append_assoc) (c.loop-position.invariant.calls (c.cb.result ∷ ys) (rw steps (c.cb.new.self, search of_calls, h)));
    }

pub returns-clause-values : goal.returns-clause-values
returns-clause-values g c =
    record { each = simp append-nil at (c.loop-position.invariant.calls [] (rw c.in-None.ensures.steps.0 tt)) }

pub invariant_of-result : goal.invariant_of-result
invariant_of-result g c = record {
  sized = omega (arith, c.loop-position.invariant.count, ap length c.in-None.ensures.steps.0);
  filled = c.requires.filled;
  fits = c.requires.fits;
}

pub returns-clause-matrix : goal.returns-clause-matrix
returns-clause-matrix g c = record {
  sized = omega (arith, c.loop-position.invariant.count, ap length c.in-None.ensures.steps.0);
  filled = c.requires.filled;
  fits = c.requires.fits;
}

pub returns-in_err-values : goal.returns-in_err-values
returns-in_err-values g c = record {
  rows = IfOk-from_err _ _ c.from_residual.ensures.0;
  columns = IfOk-from_err _ _ c.from_residual.ensures.0;
  values = IfOk-from_err _ _ c.from_residual.ensures.0;
  matrix = IfOk-from_err _ _ c.from_residual.ensures.0;
  refused = refused_as (λ e. e ≡ OutOfMemory) c.from_residual.result OutOfMemory c.from_residual.ensures.1 refl;
}

pub returns-in_err-push : goal.returns-in_err-push
returns-in_err-push g c = record {
  rows = IfOk-from_err _ _ c.from_residual-in_err-push.ensures.0;
  columns = IfOk-from_err _ _ c.from_residual-in_err-push.ensures.0;
  values = IfOk-from_err _ _ c.from_residual-in_err-push.ensures.0;
  matrix = IfOk-from_err _ _ c.from_residual-in_err-push.ensures.0;
  refused = refused_as (λ e. e ≡ OutOfMemory) c.from_residual-in_err-push.result OutOfMemory c.from_residual-in_err-push.ensures.1 refl;
}

pub returns-clause-refused : goal.returns-clause-refused
returns-clause-refused g c = tt

pub returns-clause-rows : goal.returns-clause-rows
returns-clause-rows g c = refl

pub returns-clause-columns : goal.returns-clause-columns
returns-clause-columns g c = refl
