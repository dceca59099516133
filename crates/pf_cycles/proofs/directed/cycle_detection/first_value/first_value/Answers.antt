use Rattle.std.proofs.Common.{rules, ◌≡◌, ◌+◌, arith, subst}
use Rattle.pf_cycles.specs.Cycles.{IsAfter}
use Rattle.pf_cycles.proofs.CycleLemmas.{after_next, same_after, differ, agree}
use Rattle.pf_cycles.proofs.ChaseLemmas.{chase_on, chase_below}
use Rattle.pf_cycles.proofs.directed.cycle_detection.first_value.first_value.Goals as goal

pub loop-init : goal.loop-init
loop-init g c = λ next a k. k

pub step-ahead-requires : goal.step-ahead-requires
step-ahead-requires g c =
    let r = c.requires.steps in
    let may : g.S.Fn.pre c.args.step.now (c.loop.ahead, tt) = r.1.callable c.loop.ahead (c.loop.counter, c.loop.invariant r.0 r.1 r.2) in
    search (rules, may)

pub loop-preserved : goal.loop-preserved
loop-preserved g c = λ next a k.
    let here = c.loop.invariant next a k in
    after_next g.met.T.Eq.laws a.alike c.loop.counter c.loop.ahead c.step-ahead.result here (a.answers c.loop.ahead c.step-ahead.result (c.loop.counter, here) c.step-ahead.ensures)

pub loop-value-init : goal.loop-value-init
loop-value-init g c = λ next a k. record {
  follows = g.met.T.Eq.laws.refl c.args.start;
  leads =
      let e : c.loop.counter ≡ 0 + c.args.distance = omega (arith, c.loop.auto.counter-end, c.requires.within, c.loop-test.false) in
      subst (λ n. IsAfter g.T.PartialEq.eq next c.args.start n c.loop.ahead) e (c.loop.invariant next a k);
  before = λ i l. absurd (omega arith);
}

pub step-value-requires : goal.step-value-requires
step-value-requires g c =
    let r = c.requires.steps in
    let may : g.S.Fn.pre c.args.step.now (c.loop-value.value, tt) = r.1.callable c.loop-value.value (c.loop-value.index, (c.loop-value.invariant r.0 r.1 r.2).follows) in
    search (rules, may)

pub step-ahead-requires-in-loop-value : goal.step-ahead-requires-in-loop-value
step-ahead-requires-in-loop-value g c =
    let r = c.requires.steps in
    let may : g.S.Fn.pre c.args.step.now (c.loop-value.ahead, tt) = r.1.callable c.loop-value.ahead (c.loop-value.index + c.args.distance, (c.loop-value.invariant r.0 r.1 r.2).leads) in
    search (rules, may)

pub overflow_add-index : goal.overflow_add-index
overflow_add-index g c =
    let r = c.requires.steps in
    let differs = differ (g.T.PartialEq.eq c.loop-value.value c.loop-value.ahead) c.ne.result c.ne.ensures c.loop-value-test.true in
    let below = chase_below g.met.T.Eq.laws r.1.alike c.loop-value.value c.loop-value.ahead c.args.distance c.loop-value.index c.args.most (c.loop-value.invariant r.0 r.1 r.2) differs r.3 in
    omega (arith, below, c.ranges.most.fits)

pub loop-value-smaller : goal.loop-value-smaller
loop-value-smaller g c =
    let r = c.requires.steps in
    let differs = differ (g.T.PartialEq.eq c.loop-value.value c.loop-value.ahead) c.ne.result c.ne.ensures c.loop-value-test.true in
    let below = chase_below g.met.T.Eq.laws r.1.alike c.loop-value.value c.loop-value.ahead c.args.distance c.loop-value.index c.args.most (c.loop-value.invariant r.0 r.1 r.2) differs r.3 in
    omega (arith, below)

pub loop-value-preserved : goal.loop-value-preserved
loop-value-preserved g c = λ next a k.
    let i = c.loop-value.invariant next a k in
    let differs = differ (g.T.PartialEq.eq c.loop-value.value c.loop-value.ahead) c.ne.result c.ne.ensures c.loop-value-test.true in
    chase_on g.met.T.Eq.laws a.alike c.loop-value.value c.loop-value.ahead c.step-value.result c.step-ahead-in-loop-value.result c.args.distance c.loop-value.index i differs
    (a.answers c.loop-value.value c.step-value.result (c.loop-value.index, i.follows) c.step-value.ensures)
    (a.answers c.loop-value.ahead c.step-ahead-in-loop-value.result (c.loop-value.index + c.args.distance, i.leads) c.step-ahead-in-loop-value.ensures)

pub returns : goal.returns
returns g c = record {
  value = λ next a k. (c.loop-value.invariant next a k).follows;
  repeats = λ next a k.
      let i = c.loop-value.invariant next a k in
      same_after g.met.T.Eq.laws a.alike c.loop-value.index (c.loop-value.index + c.args.distance) c.loop-value.value c.loop-value.ahead i.follows i.leads
      (agree (g.T.PartialEq.eq c.loop-value.value c.loop-value.ahead) c.ne.result c.ne.ensures c.loop-value-test.false);
  first = λ next a k. (c.loop-value.invariant next a k).before;
}
