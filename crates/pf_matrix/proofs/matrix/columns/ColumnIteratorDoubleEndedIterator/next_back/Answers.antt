use Rattle.std.proofs.Common.{◌-◌, sym, ap, ◌∙◌, arith, length, length-append}
use Rattle.pf_matrix.specs.Lines.{column_of}
use Rattle.pf_matrix.proofs.Ends.{progress_one, match_result}
use Rattle.pf_matrix.proofs.LineLemmas.{columns_none, columns_last}
use Rattle.pf_matrix.proofs.matrix.columns.ColumnIteratorDoubleEndedIterator.next_back.Goals as goal

pub returns-then-self-clause-steps : goal.returns-then-self-clause-steps
returns-then-self-clause-steps g c =
    let s = c.self.inside in
    let z = sym c.self.view_is ∙ columns_none s.matrix.now s.first (s.end - s.first) (omega arith) in
    (z, z)

pub returns : goal.returns
returns g c = record {
  steps = let s = c.self.inside in
      (column_of s.matrix.now (s.end - 1), sym c.self.view_is ∙ columns_last s.matrix.now s.first s.end (omega arith), match_result _ _ c.column.result c.column.ensures.values c.column.ensures.refused);
  goes =
      let s = c.self.inside in
      let e = sym c.self.view_is ∙ columns_last s.matrix.now s.first s.end (omega arith) in
      progress_one (λ columns. columns) _ _ _ tt (omega (arith, simp length-append at (ap length e)));
}
