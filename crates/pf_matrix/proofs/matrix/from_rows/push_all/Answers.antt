use Rattle.std.proofs.Common.{◌≡◌, refl, ap, ◌∙◌, arith, [], ◌∷◌, ◌++◌, length, length-append, append_assoc}
use Rattle.std.proofs.lemmas.Result.{IfOk-from_err}
use Rattle.pf_base.proofs.Outcomes.{refused_as}
use Rattle.pf_matrix.specs.declared.error.MatrixFormatError.TheVariants.{OutOfMemory}
use Rattle.pf_matrix.proofs.matrix.from_rows.push_all.Goals as goal

pub loop-value-preserved : goal.loop-value-preserved
loop-value-preserved g c = c.in_ok-push.ensures.items ∙ ap (λ xs. xs ++ c.in-Some.value ∷ []) c.loop-value.invariant ∙ append_assoc c.args.values.now.items c.loop-value.yielded (c.in-Some.value ∷ [])

pub overflow_sub-result : goal.overflow_sub-result
overflow_sub-result g c =
    let before : c.len-before.result ≡ length c.args.values.now.items = c.len-before.ensures ∙ c.args.values.now.ok.0 in
    let after : c.len.result ≡ length c.loop-value.values.items = c.len.ensures ∙ c.loop-value.values.ok.0 in
    omega (arith, before, after, ap length c.loop-value.invariant ∙ length-append c.args.values.now.items c.loop-value.yielded)

pub returns : goal.returns
returns g c = record {
  given =
      let before : c.len-before.result ≡ length c.args.values.now.items = c.len-before.ensures ∙ c.args.values.now.ok.0 in
      let after : c.len.result ≡ length c.loop-value.values.items = c.len.ensures ∙ c.loop-value.values.ok.0 in (
        c.loop-value.yielded,
        record {
          iterator = c.into_iter-value-iterator.result;
          made = c.into_iter-value-iterator.ensures.into_iter_gives;
          drains = (c.next.new.self, (c.loop-value.value-iterator, c.loop-value.yielded_by, c.in-None.ensures.steps));
        },
        c.loop-value.invariant,
        omega (arith, before, after, ap length c.loop-value.invariant ∙ length-append c.args.values.now.items c.loop-value.yielded),
      );
  refused = tt;
}

pub returns-in_err-push : goal.returns-in_err-push
returns-in_err-push g c = record {
  given = IfOk-from_err _ _ c.from_residual.ensures.0;
  refused = refused_as (λ e. e ≡ OutOfMemory) c.from_residual.result OutOfMemory c.from_residual.ensures.1 refl;
}
