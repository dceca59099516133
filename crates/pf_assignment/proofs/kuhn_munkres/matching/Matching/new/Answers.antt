use Rattle.std.proofs.Common.{◌≡◌, refl, ap, sym, subst, ◌∙◌, ℕ, zero, suc, None, replicate, length}
use Rattle.std.specs.Prelude.{ℤ, pos}
use Rattle.pf_base.specs.Places.{number}
use Rattle.pf_assignment.specs.Internal.AssignmentSteps.{holder}
use Rattle.pf_base.proofs.Outcomes.{if_refused, refused_as}
use Rattle.pf_assignment.proofs.kuhn_munkres.matching.Matching.new.Goals as goal

none_held : (n j : ℕ) → holder (replicate n None) j ≡ None
none_held zero j = refl
none_held (suc n) zero = refl
none_held (suc n) (suc j) = none_held n j

all_zero : {C : Type 0} (value : C → ℤ) (z : C) → value z ≡ pos 0 → (n j : ℕ) → number value (replicate n z) j ≡ pos 0
all_zero value z e zero j = refl
all_zero value z e (suc n) zero = e
all_zero value z e (suc n) (suc j) = all_zero value z e n j

pub returns-in_err-row_of : goal.returns-in_err-row_of
returns-in_err-row_of g c = record {
  rows = if_refused _ c.from_residual.result _ c.from_residual.ensures.1;
  row_potentials = if_refused _ c.from_residual.result _ c.from_residual.ensures.1;
  row_of = if_refused _ c.from_residual.result _ c.from_residual.ensures.1;
  column_potentials = if_refused _ c.from_residual.result _ c.from_residual.ensures.1;
  free = if_refused _ c.from_residual.result _ c.from_residual.ensures.1;
  zero = if_refused _ c.from_residual.result _ c.from_residual.ensures.1;
  refused = refused_as _ c.from_residual.result _ c.from_residual.ensures.1 c.in_err-row_of.ensures.refused;
}

pub returns-in_err-column_potentials : goal.returns-in_err-column_potentials
returns-in_err-column_potentials g c = record {
  rows = if_refused _ c.from_residual-in_err-column_potentials.result _ c.from_residual-in_err-column_potentials.ensures.1;
  row_potentials = if_refused _ c.from_residual-in_err-column_potentials.result _ c.from_residual-in_err-column_potentials.ensures.1;
  row_of = if_refused _ c.from_residual-in_err-column_potentials.result _ c.from_residual-in_err-column_potentials.ensures.1;
  column_potentials = if_refused _ c.from_residual-in_err-column_potentials.result _ c.from_residual-in_err-column_potentials.ensures.1;
  free = if_refused _ c.from_residual-in_err-column_potentials.result _ c.from_residual-in_err-column_potentials.ensures.1;
  zero = if_refused _ c.from_residual-in_err-column_potentials.result _ c.from_residual-in_err-column_potentials.ensures.1;
  refused = refused_as _ c.from_residual-in_err-column_potentials.result _ c.from_residual-in_err-column_potentials.ensures.1 c.in_err-column_potentials.ensures.refused;
}

pub returns : goal.returns
returns g c = record {
  free = subst (λ xs. (j : ℕ) → holder xs j ≡ None) (sym c.in_ok-row_of.ensures.items) (none_held c.args.columns);
  zero =
      let z : g.C.Number.value c.zero.result ≡ pos 0 = ap g.C.Number.value c.zero.ensures ∙ g.met.C.Zero.zero_law g.met.C.Integral.exact_law in
      subst (λ xs. (j : ℕ) → number g.C.Number.value xs j ≡ pos 0) (sym c.in_ok-column_potentials.ensures.items) (all_zero g.C.Number.value c.zero.result z c.args.columns);
  row_of = c.in_ok-row_of.ensures.len;
  column_potentials = c.in_ok-column_potentials.ensures.len;
  rows = ap length c.new.ensures.items;
  row_potentials = ap length c.new-2.ensures.items;
  refused = tt;
}
