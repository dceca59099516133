use Rattle.std.proofs.Common.{◌≡◌, ℕ, ◌+◌, ◌*◌, ◌∙◌, sym, subst, ap, get_or, length}
use Rattle.pf_row_major.specs.Parts.{row_from}
use Rattle.pf_matrix.proofs.matrix.Matrix.square_by_columns.Goals as goal

pub cloned_square-requires : goal.cloned_square-requires
cloned_square-requires g c =
    let s = c.self.inside in
    let square : s.columns ≡ s.rows = sym (rw (← c.self.view_is) at c.requires) in
    ap length c.as_slice.ensures.value ∙ c.self.invariant.sized ∙ ap (λ (n : ℕ). s.rows * n) square

pub invariant_of-result : goal.invariant_of-result
invariant_of-result g c =
    let s = c.self.inside in
    let square : s.rows ≡ s.columns = rw (← c.self.view_is) at c.requires in
    record {
      sized = sym c.in_ok-values.values.ok.0 ∙ c.in_ok-values.ensures.len ∙ ap (λ (n : ℕ). s.rows * n) square;
      filled = c.self.invariant.filled;
      fits = c.self.invariant.fits;
    }

pub returns-clause-arranged : goal.returns-clause-arranged
returns-clause-arranged g c =
    let s = c.self.inside in
    let ws = c.in_ok-values.values.items in
    let like = g.C.Clone.is_clone in
    let square : s.rows ≡ s.columns = rw (← c.self.view_is) at c.requires in
    rw (← c.self.view_is) (record {
      rows = square;
      columns = sym square;
      values = λ r k d p q.
          subst (λ (w : ℕ). like (get_or s.values.items (row_from c.args.upwards s.rows k * w + r) d) (get_or ws (r * w + k) d)) square
          (subst (λ xs. like (get_or xs (row_from c.args.upwards s.rows k * s.rows + r) d) (get_or ws (r * s.rows + k) d)) c.as_slice.ensures.value
          (c.in_ok-values.ensures.values r k d (rw square p) q));
      matrix = invariant_of-result g c;
    })
