use Rattle.std.proofs.Common.{◌+◌, take, Some}
use Rattle.pf_base.proofs.ListLemmas.{Contains-take_all}
use Rattle.pf_yen.proofs.FilteredLemmas.{in_none}
use Rattle.pf_yen.proofs.RemainingLemmas.{IsLeastOver, over_more, over_same}
use Rattle.pf_yen.proofs.remaining.least_on.Goals.{in-Some+in_ok-sum, in_default}
use Rattle.pf_yen.proofs.remaining.least_on.Goals as goal

pub steps-init : goal.steps-init
steps-init g c = λ b d y h k. absurd (in_none (b, d) h)

pub steps-preserved : goal.steps-preserved
steps-preserved g c =
    let value = g.C.Number.value in
    let fits = g.C.Number.fits in
    let i = c.steps.next-index in
    let item = c.steps-item.result in
    let over = c.steps.invariant in
    elim c.match-cost_at.branch as (λ _. IsLeastOver value fits c.args.costs.now (take (i + 1) c.args.row.now) c.match-cost_at.least) [
      | in-Some+in_ok-sum w ↦
          let adds = g.met.C.CheckedAdd.checked_add_law item.1 w.in-Some.rest (Some w.in_ok-sum.sum) (rw w.in_ok-sum.was at w.checked_add.ensures) in
          let known = rw w.in-Some.is at c.cost_at.ensures in
          rw w.least-is (over_more value fits c.args.costs.now c.args.row.now i item c.steps-item.is c.steps.least over w.in-Some.rest w.in_ok-sum.sum w.lesser.result known adds.1 adds.0 w.lesser.ensures.0 w.lesser.ensures.1)
      | in_default w ↦
          let none = rw w.in_default.is at c.cost_at.ensures in
          rw w.least-is (over_same value fits c.args.costs.now c.args.row.now i item c.steps-item.is c.steps.least over none)
    ]

pub returns : goal.returns
returns g c = λ b d y h k. c.steps.invariant b d y (Contains-take_all _ _ _ c.steps-test.false h) k
