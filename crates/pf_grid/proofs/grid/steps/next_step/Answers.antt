use Rattle.std.proofs.Common.{◌∙◌, ◌+◌, sym, ap, drop, refl, arith, rules}
use Rattle.std.specs.List.{filter_map, cons_option}
use Rattle.std.proofs.lemmas.List.{drop_all, drop_more}
use Rattle.pf_grid.specs.Steps.{target}
use Rattle.pf_grid.proofs.grid.steps.next_step.Goals as goal

pub returns-in-Some-clause-step : goal.returns-in-Some-clause-step
returns-in-Some-clause-step g c =
    let ways = c.args.ways.now in
    let t = target c.args.grid.now c.args.from in
    let n = c.loop-next.next in
    c.loop-next.invariant.left
    ∙ ap (filter_map t) (drop_more ways n _ c.loop-next-test.true)
    ∙ ap (λ o. cons_option o (filter_map t (drop (n + 1) ways))) (sym c.target.ensures ∙ c.in-Some.is)

pub loop-next-init : goal.loop-next-init
loop-next-init g c = record { next = c.requires.steps; inside = c.requires.inside; left = refl }

pub bounds-ways-next : goal.bounds-ways-next
bounds-ways-next g c = c.loop-next-test.true

pub overflow_add-next : goal.overflow_add-next
overflow_add-next g c = search (c.loop-next-test.true, rules)

pub target-requires : goal.target-requires
target-requires g c = c.loop-next.invariant.inside c.loop-next-test.true

pub returns-in-Some-clause-steps : goal.returns-in-Some-clause-steps
returns-in-Some-clause-steps g c = omega (arith, c.loop-next-test.true)

pub returns-in-Some-clause-inside : goal.returns-in-Some-clause-inside
returns-in-Some-clause-inside g c = λ _. c.loop-next.invariant.inside c.loop-next-test.true

pub loop-next-smaller : goal.loop-next-smaller
loop-next-smaller g c = omega (arith, c.loop-next-test.true)

pub loop-next-preserved : goal.loop-next-preserved
loop-next-preserved g c =
    let ways = c.args.ways.now in
    let t = target c.args.grid.now c.args.from in
    let n = c.loop-next.next in
    record {
      next = omega (arith, c.loop-next-test.true);
      inside = λ _. c.loop-next.invariant.inside c.loop-next-test.true;
      left = c.loop-next.invariant.left ∙ ap (filter_map t) (drop_more ways n _ c.loop-next-test.true) ∙ ap (λ o. cons_option o (filter_map t (drop (n + 1) ways))) (sym c.target.ensures ∙ c.in_default.is);
    }

pub returns-clause-steps : goal.returns-clause-steps
returns-clause-steps g c = c.loop-next.invariant.next

pub returns-clause-inside : goal.returns-clause-inside
returns-clause-inside g c = c.loop-next.invariant.inside

pub returns-clause-step : goal.returns-clause-step
returns-clause-step g c =
    let t = target c.args.grid.now c.args.from in (
      c.loop-next.invariant.left ∙ ap (filter_map t) (drop_all c.loop-next.next c.args.ways.now c.loop-next-test.false),
      omega (arith, c.loop-next.invariant.next, c.loop-next-test.false),
    )
