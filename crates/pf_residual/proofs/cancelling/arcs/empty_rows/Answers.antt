use Rattle.std.proofs.Common.{◌≡◌, ◌+◌, ◌∙◌, ◌∷◌, [], ℕ, List, Some, Vec, slice_get, sym, ap, subst, length}
use Rattle.std.proofs.lemmas.List.{length-append}
use Rattle.pf_residual.specs.Internal.Cancelling.{Has}
use Rattle.pf_residual.proofs.SearchLemmas.{rows_none}
use Rattle.std.proofs.lemmas.Result.{IfOk-from_err}
use Rattle.pf_base.proofs.Outcomes.{refused_by}
use Rattle.pf_residual.proofs.cancelling.arcs.empty_rows.Goals as goal

pub rows-preserved : goal.rows-preserved
rows-preserved g c = record {
  len = ap length c.in_ok-push.ensures.items ∙ length-append c.rows.rows.items (c.new.result ∷ []) ∙ ap (λ (n : ℕ). n + 1) c.rows.invariant.len;
  empty = subst (λ (rows : List (Vec ℕ g.row.A.Denot)). (b k : ℕ) (row : Vec ℕ g.row.A.Denot) → slice_get rows b ≡ Some row → ¬ (Has row.items k)) (sym c.in_ok-push.ensures.items) (rows_none c.rows.rows.items c.new.result c.new.ensures.items c.rows.invariant.empty);
}

pub returns-in_err-rows : goal.returns-in_err-rows
returns-in_err-rows g c = record {
  len = IfOk-from_err _ _ c.from_residual.ensures.0;
  empty = IfOk-from_err _ _ c.from_residual.ensures.0;
  refused = refused_by _ c.from_residual.result c.from_residual.ensures.1;
}

pub returns-in_err-push : goal.returns-in_err-push
returns-in_err-push g c = record {
  len = IfOk-from_err _ _ c.from_residual-in_err-push.ensures.0;
  empty = IfOk-from_err _ _ c.from_residual-in_err-push.ensures.0;
  refused = refused_by _ c.from_residual-in_err-push.result c.from_residual-in_err-push.ensures.1;
}
