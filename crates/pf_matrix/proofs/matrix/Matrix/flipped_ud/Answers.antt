use Rattle.std.proofs.Common.{◌+◌, ◌-◌, ◌*◌, refl, sym, subst, ap, ◌∙◌, get_or, length}
use Rattle.pf_matrix.proofs.matrix.Matrix.flipped_ud.Goals as goal

pub cloned_upwards-requires : goal.cloned_upwards-requires
cloned_upwards-requires g c = ap length c.as_slice.ensures.value ∙ c.self.invariant.sized

pub invariant_of-result : goal.invariant_of-result
invariant_of-result g c = record {
  sized = sym c.in_ok-values.values.ok.0 ∙ c.in_ok-values.ensures.len;
  filled = c.self.invariant.filled;
  fits = c.self.invariant.fits;
}

pub returns-clause-flipped : goal.returns-clause-flipped
returns-clause-flipped g c =
    let s = c.self.inside in
    let ws = c.in_ok-values.values.items in
    rw (← c.self.view_is) (record {
      rows = refl;
      columns = refl;
      values = λ r k d p q. subst (λ xs. g.C.Clone.is_clone (get_or xs ((s.rows - 1 - r) * s.columns + k) d) (get_or ws (r * s.columns + k) d)) c.as_slice.ensures.value (c.in_ok-values.ensures.values r k d p q);
      matrix = invariant_of-result g c;
    })
