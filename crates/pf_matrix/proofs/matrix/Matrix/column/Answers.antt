use Rattle.std.proofs.Common.{◌≡◌, ap, sym, ◌∙◌, arith, length, map, [], ◌∷◌, ◌++◌, refl}
use Rattle.std.specs.Borrow.{Bor}
use Rattle.std.proofs.lemmas.List.{map_push}
use Rattle.std.proofs.lemmas.Nat.{mul-add-lt}
use Rattle.pf_matrix.proofs.LineLemmas.{column_more, column_none}
use Rattle.std.proofs.lemmas.Result.{IfOk-from_err}
use Rattle.pf_base.proofs.Outcomes.{refused_as}
use Rattle.pf_matrix.specs.declared.error.MatrixFormatError.TheVariants.{OutOfMemory}
use Rattle.pf_matrix.proofs.matrix.Matrix.column.Goals as goal

pub loop-row-init : goal.loop-row-init
loop-row-init g c =
    ap (map (λ (x : Bor g.row.C.Denot). x.now)) c.in_ok-refs.ensures.items ∙ sym (column_none c.self.inside.columns c.args.column c.as_slice-values.result.now)

pub overflow_mul-row : goal.overflow_mul-row
overflow_mul-row g c =
    let s = c.self.inside in
    let inside = rw (← c.self.view_is) at c.requires in
    let below = mul-add-lt c.loop-row.row s.columns c.args.column s.rows (omega arith) (omega (arith, inside)) in
    omega (arith, below, c.self.invariant.sized, c.self.invariant.fits)

pub overflow_add-row : goal.overflow_add-row
overflow_add-row g c =
    let s = c.self.inside in
    let inside = rw (← c.self.view_is) at c.requires in
    let below = mul-add-lt c.loop-row.row s.columns c.args.column s.rows (omega arith) (omega (arith, inside)) in
    omega (arith, below, c.self.invariant.sized, c.self.invariant.fits)

pub bounds-values-row : goal.bounds-values-row
bounds-values-row g c =
    let s = c.self.inside in
    let inside = rw (← c.self.view_is) at c.requires in
    let below = mul-add-lt c.loop-row.row s.columns c.args.column s.rows (omega arith) (omega (arith, inside)) in
    omega (arith, below, c.self.invariant.sized, ap length c.as_slice-values.ensures.value)

pub offset_bounds-values-row : goal.offset_bounds-values-row
offset_bounds-values-row g c = omega (arith, bounds-values-row g c)

pub loop-row-preserved : goal.loop-row-preserved
loop-row-preserved g c =
    let now = λ (x : Bor g.row.C.Denot). x.now in
    let s = c.self.inside in
    let values = c.as_slice-values.result.now in
    let row = c.loop-row.row in
    let x = c.index-values-row.result in
    let columns : c.args.self.now.columns ≡ s.columns = sym (ap (λ t. t.columns) c.self.view_is) in
    let below = mul-add-lt row s.columns c.args.column s.rows (omega arith) (omega arith) in
    ap (map now) c.in_ok-push.ensures.items
    ∙ map_push now c.loop-row.refs.items _
    ∙ (λ i. c.loop-row.invariant i ++ c.index-values-row.is i ∷ [])
    ∙ sym (column_more row s.columns c.args.column values x (omega (arith, below)))

pub returns-in_err-refs : goal.returns-in_err-refs
returns-in_err-refs g c = record {
  values = IfOk-from_err _ _ c.from_residual.ensures.0;
  refused = refused_as (λ e. e ≡ OutOfMemory) c.from_residual.result OutOfMemory c.from_residual.ensures.1 refl;
}

pub returns-in_err-push : goal.returns-in_err-push
returns-in_err-push g c = record {
  values = IfOk-from_err _ _ c.from_residual-in_err-push.ensures.0;
  refused = refused_as (λ e. e ≡ OutOfMemory) c.from_residual-in_err-push.result OutOfMemory c.from_residual-in_err-push.ensures.1 refl;
}

pub returns-clause-refused : goal.returns-clause-refused
returns-clause-refused g c = tt
