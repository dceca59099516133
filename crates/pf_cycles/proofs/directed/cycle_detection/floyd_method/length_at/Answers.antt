use Rattle.std.proofs.Common.{rules, ◌+◌, arith}
use Rattle.pf_cycles.proofs.CycleLemmas.{after_equal, same_after, differ, agree}
use Rattle.pf_cycles.proofs.FloydLemmas.{begin_search, next_search, search_below}
use Rattle.pf_cycles.proofs.directed.cycle_detection.floyd_method.length_at.Goals as goal

pub call-ahead-requires : goal.call-ahead-requires
call-ahead-requires g c =
    let r = c.requires.steps in
    let copy = c.requires.clones c.args.value.now c.in_ok-clone.field-0 c.in_ok-clone.ensures.cases in
    let may : g.S.Fn.pre c.args.step.now (c.in_ok-clone.field-0, tt) = r.2.callable c.in_ok-clone.field-0 (c.args.steps, after_equal g.met.T.Eq.laws r.2.alike c.args.steps c.args.value.now c.in_ok-clone.field-0 r.3 copy) in
    search (rules, may)

pub loop-ahead-init : goal.loop-ahead-init
loop-ahead-init g c = λ start next a v.
    let copy = c.requires.clones c.args.value.now c.in_ok-clone.field-0 c.in_ok-clone.ensures.cases in
    begin_search g.met.T.Eq.laws a.alike c.args.value.now c.in_ok-clone.field-0 c.call-ahead.result c.args.steps v copy
    (a.answers c.in_ok-clone.field-0 c.call-ahead.result (c.args.steps, after_equal g.met.T.Eq.laws a.alike c.args.steps c.args.value.now c.in_ok-clone.field-0 v copy) c.call-ahead.ensures)

pub step-ahead-requires : goal.step-ahead-requires
step-ahead-requires g c =
    let r = c.requires.steps in
    let may : g.S.Fn.pre c.args.step.now (c.loop-ahead.ahead, tt) = r.2.callable c.loop-ahead.ahead (c.args.steps + c.loop-ahead.length, (c.loop-ahead.invariant r.0 r.1 r.2 r.3).ahead_at) in
    search (rules, may)

pub overflow_add-length : goal.overflow_add-length
overflow_add-length g c =
    let r = c.requires.steps in
    let differs = differ (g.T.PartialEq.eq c.args.value.now c.loop-ahead.ahead) c.ne.result c.ne.ensures c.loop-ahead-test.true in
    let below = search_below g.met.T.Eq.laws r.2.alike c.args.value.now c.loop-ahead.ahead c.args.steps c.loop-ahead.length r.3 (c.loop-ahead.invariant r.0 r.1 r.2 r.3) differs r.4 r.5 in
    omega (arith, below, c.ranges.steps.fits)

pub loop-ahead-smaller : goal.loop-ahead-smaller
loop-ahead-smaller g c =
    let r = c.requires.steps in
    let differs = differ (g.T.PartialEq.eq c.args.value.now c.loop-ahead.ahead) c.ne.result c.ne.ensures c.loop-ahead-test.true in
    let below = search_below g.met.T.Eq.laws r.2.alike c.args.value.now c.loop-ahead.ahead c.args.steps c.loop-ahead.length r.3 (c.loop-ahead.invariant r.0 r.1 r.2 r.3) differs r.4 r.5 in
    omega (arith, below)

pub loop-ahead-preserved : goal.loop-ahead-preserved
loop-ahead-preserved g c = λ start next a v.
    let i = c.loop-ahead.invariant start next a v in
    let differs = differ (g.T.PartialEq.eq c.args.value.now c.loop-ahead.ahead) c.ne.result c.ne.ensures c.loop-ahead-test.true in
    next_search g.met.T.Eq.laws a.alike c.args.value.now c.loop-ahead.ahead c.step-ahead.result c.args.steps c.loop-ahead.length v i differs
    (a.answers c.loop-ahead.ahead c.step-ahead.result (c.args.steps + c.loop-ahead.length, i.ahead_at) c.step-ahead.ensures)

pub returns : goal.returns
returns g c = record {
  positive =
      let r = c.requires.steps in
      (c.loop-ahead.invariant r.0 r.1 r.2 r.3).positive;
  repeats = λ start next a v.
      let i = c.loop-ahead.invariant start next a v in
      same_after g.met.T.Eq.laws a.alike c.args.steps (c.args.steps + c.loop-ahead.length) c.args.value.now c.loop-ahead.ahead v i.ahead_at
      (agree (g.T.PartialEq.eq c.args.value.now c.loop-ahead.ahead) c.ne.result c.ne.ensures c.loop-ahead-test.false);
  least = λ start next a v. (c.loop-ahead.invariant start next a v).passed;
  refused = tt;
}
