use Rattle.std.proofs.Common.{◌+◌, ◌*◌, refl, sym, subst, ap, ◌∙◌, arith, length, get_or}
use Rattle.std.proofs.lemmas.Nat.{mul-le}
use Rattle.pf_matrix.proofs.matrix.Matrix.part.Goals as goal

pub cloned_part-requires-clause-rows : goal.cloned_part-requires-clause-rows
cloned_part-requires-clause-rows g c =
    let s = c.self.inside in
    let rows = rw (← c.self.view_is) at c.requires.rows in
    omega (arith, mul-le (c.args.from.0 + c.args.height) s.columns s.rows s.columns rows (omega arith), c.self.invariant.sized, ap length c.as_slice.ensures.value)

pub cloned_part-requires-clause-fits : goal.cloned_part-requires-clause-fits
cloned_part-requires-clause-fits g c =
    let s = c.self.inside in
    let rows = rw (← c.self.view_is) at c.requires.rows in
    let columns = rw (← c.self.view_is) at c.requires.columns in
    omega (arith, mul-le c.args.height c.args.width s.rows s.columns (omega (arith, rows)) (omega (arith, columns)), c.self.invariant.fits)

pub invariant_of-result : goal.invariant_of-result
invariant_of-result g c =
    let s = c.self.inside in
    let rows = rw (← c.self.view_is) at c.requires.rows in
    let columns = rw (← c.self.view_is) at c.requires.columns in
    let fits = mul-le c.args.height c.args.width s.rows s.columns (omega (arith, rows)) (omega (arith, columns)) in
    record {
      sized = sym c.in_ok-values.values.ok.0 ∙ c.in_ok-values.ensures.len;
      filled = c.requires.filled;
      fits = omega (arith, fits, c.self.invariant.fits);
    }

pub returns-clause-part : goal.returns-clause-part
returns-clause-part g c =
    let s = c.self.inside in
    let from = c.args.from in
    let ws = c.in_ok-values.values.items in
    rw (← c.self.view_is) (record {
      rows = refl;
      columns = refl;
      values = λ r k d p q. subst (λ xs. g.C.Clone.is_clone (get_or xs ((from.0 + r) * s.columns + (from.1 + k)) d) (get_or ws (r * c.args.width + k) d)) c.as_slice.ensures.value (c.in_ok-values.ensures.values r k d p q);
      matrix = invariant_of-result g c;
    })
