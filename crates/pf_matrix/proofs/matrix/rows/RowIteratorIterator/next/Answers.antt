use Rattle.std.proofs.Common.{◌-◌, sym, ap, ◌∙◌, arith, length, ◌∷◌}
use Rattle.pf_matrix.specs.Lines.{rows_by}
use Rattle.pf_matrix.proofs.Ends.{progress_one}
use Rattle.pf_matrix.proofs.LineLemmas.{rows_none, rows_first}
use Rattle.pf_matrix.proofs.matrix.rows.RowIteratorIterator.next.Goals as goal

pub returns-then-self-eq0-clause-steps : goal.returns-then-self-eq0-clause-steps
returns-then-self-eq0-clause-steps g c =
    let s = c.self.inside in
    let z = sym c.self.view_is ∙ rows_none s.rows s.columns s.values.now c.if-self-eq0.true in
    (z, z)

pub returns-clause-steps : goal.returns-clause-steps
returns-clause-steps g c =
    let s = c.self.inside in
    sym c.self.view_is ∙ rows_first s.rows s.columns s.values.now (omega arith)
    ∙ (λ i. sym c.split_at.ensures.front i ∷ rows_by (s.rows - 1) s.columns (sym c.split_at.ensures.back i))

pub returns-clause-goes : goal.returns-clause-goes
returns-clause-goes g c =
    let e = returns-clause-steps g c in
    progress_one (λ rows. rows) _ _ _ tt (omega (arith, ap length e))
