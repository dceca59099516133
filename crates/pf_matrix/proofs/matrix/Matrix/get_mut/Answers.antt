use Rattle.std.proofs.Common.{◌+◌, ◌*◌, ap, refl, arith, inr, length-set, set}
use Rattle.std.proofs.lemmas.Nat.{mul-add-lt}
use Rattle.std.proofs.lemmas.Bool.{false≢true}
use Rattle.pf_matrix.specs.Tables.{Table}
use Rattle.pf_matrix.proofs.TableLemmas.{matrix_anew}
use Rattle.pf_matrix.proofs.matrix.Matrix.get_mut.Goals as goal

pub overflow_mul-place : goal.overflow_mul-place
overflow_mul-place g c =
    let s = c.self.inside in
    let here = c.if-within_bounds.ensures.0 refl in
    omega (arith, mul-add-lt c.args.position.0 s.columns c.args.position.1 s.rows here.0 here.1, c.self.invariant.fits)

pub overflow_add-place : goal.overflow_add-place
overflow_add-place g c =
    let s = c.self.inside in
    let here = c.if-within_bounds.ensures.0 refl in
    omega (arith, mul-add-lt c.args.position.0 s.columns c.args.position.1 s.rows here.0 here.1, c.self.invariant.fits)

pub invariant_of-self-lent : goal.invariant_of-self-lent
invariant_of-self-lent g c = λ _.
    let s = c.self.inside in
    let m : Table g.row.C.Denot = record { rows = s.rows; columns = s.columns; values = s.values.items } in
    let place = c.args.position.0 * s.columns + c.args.position.1 in
    (λ w. matrix_anew m (set s.values.items place w) c.self.invariant (length-set s.values.items place w), c.self.invariant)

pub returns-else-within_bounds : goal.returns-else-within_bounds
returns-else-within_bounds g c = (
  ap (λ t. inr t) c.self.view_is,
  record { writes_back = tt; inside = (λ q. absurd (false≢true q), λ h. c.if-within_bounds.ensures.1 (rw (← c.self.view_is) at h)); value = tt },
)

pub invariant_of-self : goal.invariant_of-self
invariant_of-self g c = c.self.invariant

pub invariant_of-self-else-within_bounds : goal.invariant_of-self-else-within_bounds
invariant_of-self-else-within_bounds g c = c.self.invariant

pub returns-then-within_bounds : goal.returns-then-within_bounds
returns-then-within_bounds g c =
    let s = c.self.inside in
    let here = c.if-within_bounds.ensures.0 refl in
    rw (← c.self.view_is) (
      refl,
      record {
        writes_back = tt;
        inside = (λ q. here, λ h. c.get_mut.ensures.variant.1 (omega (arith, mul-add-lt c.args.position.0 s.columns c.args.position.1 s.rows here.0 here.1, c.self.invariant.sized, s.values.ok.0)));
        value = c.get_mut.ensures.value;
      },
    )
