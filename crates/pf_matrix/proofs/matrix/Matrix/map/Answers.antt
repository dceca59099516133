use Rattle.std.proofs.Common.{◌≡◌, sym, ap, ◌∙◌, of_calls, arith, length, [], ◌∷◌, append_assoc, length-append, refl}
use Rattle.std.specs.Vec.Iter.{into_iter_items}
use Rattle.std.proofs.lemmas.List.{append-nil, nil_from_length}
use Rattle.pf_matrix.proofs.CallLemmas.{callable_first, callable_rest}
use Rattle.std.proofs.lemmas.Result.{IfOk-from_err}
use Rattle.pf_base.proofs.Outcomes.{refused_as}
use Rattle.pf_matrix.specs.declared.error.MatrixFormatError.TheVariants.{OutOfMemory}
use Rattle.pf_matrix.proofs.matrix.Matrix.map.Goals as goal

pub loop-value-init : goal.loop-value-init
loop-value-init g c =
    let gives = c.into_iter-value-iterator.ensures.into_iter_gives in
    let all : into_iter_items c.into_iter-value-iterator.result ≡ c.args.self.values = gives.0 ∙ ap (λ t. t.values) c.self.view_is in
    record {
      callable = rw all c.requires;
      count = omega (arith, ap length c.in_ok-answers.ensures.items, ap length all);
      len = gives.1 ∙ c.self.inside.values.ok.0 ∙ ap length (sym gives.0);
      calls = λ ys h. rw (c.in_ok-answers.ensures.items, ← all) h;
    }

pub f-requires : goal.f-requires
f-requires g c = callable_first c.loop-value.f c.in-Some.value (into_iter_items c.next.new.self) (rw c.in-Some.ensures.steps.0 at c.loop-value.invariant.callable)

pub loop-value-preserved : goal.loop-value-preserved
loop-value-preserved g c =
    let steps = c.in-Some.ensures.steps in
    record {
      callable = callable_rest c.loop-value.f c.f.new.self c.in-Some.value c.f.result (into_iter_items c.next.new.self) (search of_calls) (rw steps.0 at c.loop-value.invariant.callable);
      count = omega (arith, c.loop-value.invariant.count, ap length steps.0, simp length-append at (ap length c.in_ok-push.ensures.items));
      len = omega (arith, c.loop-value.invariant.len, ap length steps.0, steps.1);
      calls = λ ys h. rw (c.in_ok-push.ensures.items, append_assoc) (c.loop-value.invariant.calls (c.f.result ∷ ys) (rw steps.0 (c.f.new.self, search of_calls, h)));
    }

pub invariant_of-result : goal.invariant_of-result
invariant_of-result g c =
    let none : into_iter_items c.loop-value.value-iterator ≡ [] = nil_from_length (into_iter_items c.loop-value.value-iterator) (omega (arith, c.loop-value.invariant.len, c.in-None.ensures.steps.0)) in
    record {
      sized = omega (arith, c.loop-value.invariant.count, ap length none, ap (λ t. length t.values) c.self.view_is, c.self.invariant.sized);
      filled = c.self.invariant.filled;
      fits = c.self.invariant.fits;
    }

pub returns-in_err-answers : goal.returns-in_err-answers
returns-in_err-answers g c = record {
  rows = IfOk-from_err _ _ c.from_residual.ensures.0;
  columns = IfOk-from_err _ _ c.from_residual.ensures.0;
  values = IfOk-from_err _ _ c.from_residual.ensures.0;
  matrix = IfOk-from_err _ _ c.from_residual.ensures.0;
  refused = refused_as (λ e. e ≡ OutOfMemory) c.from_residual.result OutOfMemory c.from_residual.ensures.1 refl;
}

pub returns-in_err-push : goal.returns-in_err-push
returns-in_err-push g c = record {
  rows = IfOk-from_err _ _ c.from_residual-in_err-push.ensures.0;
  columns = IfOk-from_err _ _ c.from_residual-in_err-push.ensures.0;
  values = IfOk-from_err _ _ c.from_residual-in_err-push.ensures.0;
  matrix = IfOk-from_err _ _ c.from_residual-in_err-push.ensures.0;
  refused = refused_as (λ e. e ≡ OutOfMemory) c.from_residual-in_err-push.result OutOfMemory c.from_residual-in_err-push.ensures.1 refl;
}

pub returns : goal.returns
returns g c = record {
  values =
      let none : into_iter_items c.loop-value.value-iterator ≡ [] = nil_from_length (into_iter_items c.loop-value.value-iterator) (omega (arith, c.loop-value.invariant.len, c.in-None.ensures.steps.0)) in
      record { each = simp append-nil at (c.loop-value.invariant.calls [] (rw none tt)) };
  rows = ap (λ t. t.rows) c.self.view_is;
  columns = ap (λ t. t.columns) c.self.view_is;
  matrix = invariant_of-result g c.before;
  refused = tt;
}
