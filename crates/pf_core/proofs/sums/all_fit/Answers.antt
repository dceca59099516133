use Rattle.std.proofs.Common.{◌∙◌, ap, subst, inl, inr, ℕ}
use Rattle.std.specs.Prelude.{◌+ℤ◌}
use Rattle.pf_base.proofs.ListLemmas.{Contains-take_more, Contains-take_all}
use Rattle.pf_core.proofs.sums.all_fit.Goals as goal

pub steps-preserved : goal.steps-preserved
steps-preserved g c = λ j p h. elim (Contains-take_more c.args.row.now c.steps.price-index c.steps-item.result (j, p) h) as (λ _. g.C.Number.fits (g.C.Number.value c.args.cost +ℤ g.C.Number.value p)) [
  | inl b ↦ c.steps.invariant j p b
  | inr e ↦ subst (λ (d : g.row.C.Denot). g.C.Number.fits (g.C.Number.value c.args.cost +ℤ g.C.Number.value d)) (ap (λ (x : ℕ × g.row.C.Denot). x.1) (c.steps-item.is ∙ e)) c.if-not-fits.ensures
]

pub returns : goal.returns
returns g c = λ j p h. c.steps.invariant j p (Contains-take_all _ _ _ c.steps-test.false h)
