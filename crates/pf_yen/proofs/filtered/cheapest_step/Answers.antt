use Rattle.std.proofs.Common.{◌+◌, subst, take, take_all, ℕ, List}
use Rattle.std.specs.Prelude.{Contains, IfSome, ◌≤ℤ◌}
use Rattle.pf_yen.proofs.NamedLemmas.{IsCheapestTo, cheapest_taken, cheapest_kept, cheapest_is}
use Rattle.pf_yen.proofs.filtered.cheapest_step.Goals.{then-next-to, else-next-to}
use Rattle.pf_yen.proofs.filtered.cheapest_step.Goals as goal

pub steps-preserved : goal.steps-preserved
steps-preserved g c =
    let value = g.C.Number.value in
    let row = c.args.row.now in
    let i = c.steps.next-index in
    let item = c.steps-item.result in
    elim c.if-next-to.branch as (λ _. IsCheapestTo value c.args.to (take (i + 1) row) c.if-next-to.least) [
      | then-next-to w ↦ rw w.least-is (cheapest_taken value c.args.to row i item c.steps-test.true c.steps-item.is c.steps.least c.steps.invariant w.lesser.result w.if-next-to.true w.lesser.ensures.0 w.lesser.ensures.1 w.lesser.ensures.2)
      | else-next-to w ↦ rw w.least-is (cheapest_kept value c.args.to row i item c.steps-test.true c.steps-item.is c.steps.least c.steps.invariant w.if-next-to.false)
    ]

pub returns : goal.returns
returns g c =
    let value = g.C.Number.value in
    subst (λ (row : List (ℕ × g.row.C.Denot)). IfSome c.steps.least (λ x. Contains row (c.args.to, x) × ((d : g.row.C.Denot) → Contains row (c.args.to, d) → value x ≤ℤ value d))) (take_all _ _ c.steps-test.false)
    (cheapest_is value c.args.to (take c.steps.next-index c.args.row.now) c.steps.least c.steps.invariant)
