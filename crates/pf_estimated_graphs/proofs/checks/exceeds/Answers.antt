use Rattle.std.proofs.Common.{◌∙◌, ap, subst, arith, pos, inl, inr}
use Rattle.std.specs.Prelude.{◌≤ℤ◌, ◌<ℤ◌, ◌+ℤ◌, MatchBool}
use Rattle.std.specs.Ordering.{is_some_and, is_lt}
use Rattle.std.proofs.lemmas.Int.{ints}
use Rattle.pf_base.proofs.ListLemmas.{int_dec, lt_means}
use Rattle.pf_estimated_graphs.proofs.checks.exceeds.Goals as goal

pub returns-in-Some : goal.returns-in-Some
returns-in-Some g c =
    let value = g.C.Number.value in
    let estimate = value c.args.estimate in
    let sum = g.met.C.CheckedAdd.checked_add_law c.args.cost c.args.behind _ c.in-Some.ensures in
    subst (λ z. MatchBool c.lt.result (z <ℤ estimate) (estimate ≤ℤ z)) sum.1 (lt_means _ estimate c.lt.result (c.lt.ensures ∙ ap (is_some_and is_lt) (g.met.C.Number.order_law _ c.args.estimate g.met.C.Integral.exact_law)))

pub returns-in-None : goal.returns-in-None
returns-in-None g c =
    let value = g.C.Number.value in
    let exact = g.met.C.Integral.exact_law in
    let sum = value c.args.cost +ℤ value c.args.behind in
    let estimate = value c.args.estimate in
    let too_great = g.met.C.CheckedAdd.checked_add_law c.args.cost c.args.behind _ c.in-None.ensures in
    elim (int_dec estimate sum) as (λ _. estimate ≤ℤ sum) [
      | inl l ↦ l
      | inr l ↦ absurd (too_great (g.C.Number.between_law (pos 0) sum estimate exact (g.met.C.Zero.zero_fits_law exact) c.known.ensures (omega (arith, ints, c.requires.cost, c.requires.behind)) (omega (arith, ints, l))))
    ]
