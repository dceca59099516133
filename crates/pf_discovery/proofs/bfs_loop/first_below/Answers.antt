use Rattle.std.proofs.Common.{◌∙◌, ap, arith, inl, inr, ℕ, ◌≤◌}
use Rattle.pf_base.proofs.ListLemmas.{Contains-take_more, Contains-take_all}
use Rattle.pf_discovery.proofs.bfs_loop.first_below.Goals as goal

pub steps-preserved : goal.steps-preserved
steps-preserved g c = λ j p h. elim (Contains-take_more c.args.row.now c.steps.number-index c.steps-item.result (j, p) h) as (λ _. c.args.limit ≤ j) [
  | inl b ↦ c.steps.invariant j p b
  | inr e ↦ let same = ap (λ (x : ℕ × g.row.C.Denot). x.0) (c.steps-item.is ∙ e) in omega (arith, c.if-number-limit.false, same)
]

pub returns : goal.returns
returns g c = λ j p h. c.steps.invariant j p (Contains-take_all _ _ _ c.steps-test.false h)
