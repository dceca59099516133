use Rattle.std.proofs.Common.{◌+◌, ◌∙◌, ◌∷◌, ◌++◌, [], ℕ, length, ap, sym, subst, refl, arith}
use Rattle.std.proofs.lemmas.List.{length_push}
use Rattle.pf_residual.specs.Internal.SparseTables.{AreEmpty}
use Rattle.pf_residual.proofs.SparseStoreLemmas.{empty_more}
use Rattle.std.proofs.lemmas.Result.{IfOk-from_err}
use Rattle.pf_base.proofs.Outcomes.{refused_by}
use Rattle.pf_flow.proofs.sparse_capacity.empty_rows.Goals as goal

pub loop-init : goal.loop-init
loop-init g c = (ap length c.in_ok-rows.ensures.items, subst AreEmpty (sym c.in_ok-rows.ensures.items) (record { at = λ a. refl }))

pub loop-smaller : goal.loop-smaller
loop-smaller g c = omega arith

pub loop-preserved : goal.loop-preserved
loop-preserved g c =
    let rows = c.loop.rows.items in (
      ap length c.in_ok-push.ensures.items ∙ length_push rows c.new.result ∙ ap (λ (n : ℕ). n + 1) c.loop.invariant.0,
      subst AreEmpty (sym (c.in_ok-push.ensures.items ∙ ap (λ r. rows ++ r ∷ []) c.new.ensures)) (empty_more rows c.loop.invariant.1),
    )

pub returns-clause-len : goal.returns-clause-len
returns-clause-len g c = omega (arith, c.loop.invariant.0)

pub returns-clause-empty : goal.returns-clause-empty
returns-clause-empty g c = c.loop.invariant.1

pub returns-in_err-rows : goal.returns-in_err-rows
returns-in_err-rows g c = record {
  len = IfOk-from_err _ _ c.from_residual.ensures.0;
  empty = IfOk-from_err _ _ c.from_residual.ensures.0;
  refused = refused_by _ c.from_residual.result c.from_residual.ensures.1;
}

pub returns-in_err-push : goal.returns-in_err-push
returns-in_err-push g c = record {
  len = IfOk-from_err _ _ c.from_residual-in_err-push.ensures.0;
  empty = IfOk-from_err _ _ c.from_residual-in_err-push.ensures.0;
  refused = refused_by _ c.from_residual-in_err-push.result c.from_residual-in_err-push.ensures.1;
}
