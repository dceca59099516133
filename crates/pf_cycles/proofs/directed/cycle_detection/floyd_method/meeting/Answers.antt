use Rattle.std.proofs.Common.{rules, ◌+◌, arith, inr, inl}
use Rattle.pf_cycles.specs.Cycles.{IsStepRefusal}
use Rattle.pf_cycles.proofs.CycleLemmas.{after_next, after_equal, same_after, differ, agree}
use Rattle.pf_cycles.proofs.FloydLemmas.{begin_round, next_round, round_met, round_refused}
use Rattle.std.specs.Prelude.{Result, Ok, Err, IfErr, IsErrAnd}
use Rattle.std.proofs.lemmas.Result.{IfOk-from_err}
use Rattle.pf_base.proofs.Outcomes.{refused_as}
use Rattle.pf_cycles.proofs.directed.cycle_detection.floyd_method.meeting.Goals as goal

-- what an error that a call hands on is
refusal : {T E : Type 0} (P Q : E → Type 0) → ((e : E) → P e → Q e) → (r : Result T E) → IsErrAnd r P → IfErr r Q
refusal P Q f (Ok x) h = absurd h
refusal P Q f (Err x) h = f x h

pub call-fast-requires : goal.call-fast-requires
call-fast-requires g c =
    let r = c.requires.steps in
    let first = c.requires.clones c.args.start.now c.in_ok-clone.field-0 c.in_ok-clone.ensures.cases in
    let slow = after_next g.met.T.Eq.laws r.1.alike 0 c.in_ok-clone.field-0 c.call-slow.result first (r.1.answers c.in_ok-clone.field-0 c.call-slow.result (0, first) c.call-slow.ensures) in
    let copy = c.requires.clones c.call-slow.result c.in_ok-clone-2.field-0 c.in_ok-clone-2.ensures.cases in
    let may : g.S.Fn.pre c.args.step.now (c.in_ok-clone-2.field-0, tt) = r.1.callable c.in_ok-clone-2.field-0 (1, after_equal g.met.T.Eq.laws r.1.alike 1 c.call-slow.result c.in_ok-clone-2.field-0 slow copy) in
    search (rules, may)

pub loop-steps-init : goal.loop-steps-init
loop-steps-init g c = λ next a.
    let first = c.requires.clones c.args.start.now c.in_ok-clone.field-0 c.in_ok-clone.ensures.cases in
    let stepped = a.answers c.in_ok-clone.field-0 c.call-slow.result (0, first) c.call-slow.ensures in
    let slow = after_next g.met.T.Eq.laws a.alike 0 c.in_ok-clone.field-0 c.call-slow.result first stepped in
    let copy = c.requires.clones c.call-slow.result c.in_ok-clone-2.field-0 c.in_ok-clone-2.ensures.cases in
    begin_round g.met.T.Eq.laws a.alike c.in_ok-clone.field-0 c.call-slow.result c.in_ok-clone-2.field-0 c.call-fast.result first stepped copy
    (a.answers c.in_ok-clone-2.field-0 c.call-fast.result (1, after_equal g.met.T.Eq.laws a.alike 1 c.call-slow.result c.in_ok-clone-2.field-0 slow copy) c.call-fast.ensures)

pub step-slow-requires : goal.step-slow-requires
step-slow-requires g c =
    let r = c.requires.steps in
    let may : g.S.Fn.pre c.args.step.now (c.loop-steps.slow, tt) = r.1.callable c.loop-steps.slow (c.loop-steps.steps, (c.loop-steps.invariant r.0 r.1).slow_at) in
    search (rules, may)

pub step-requires : goal.step-requires
step-requires g c =
    let r = c.requires.steps in
    let may : g.S.Fn.pre c.args.step.now (c.loop-steps.fast, tt) = r.1.callable c.loop-steps.fast (c.loop-steps.steps + c.loop-steps.steps, (c.loop-steps.invariant r.0 r.1).fast_at) in
    search (rules, may)

pub step-fast-requires : goal.step-fast-requires
step-fast-requires g c =
    let r = c.requires.steps in
    let i = c.loop-steps.invariant r.0 r.1 in
    let here = after_next g.met.T.Eq.laws r.1.alike (c.loop-steps.steps + c.loop-steps.steps) c.loop-steps.fast c.step.result i.fast_at (r.1.answers c.loop-steps.fast c.step.result (c.loop-steps.steps + c.loop-steps.steps, i.fast_at) c.step.ensures) in
    let may : g.S.Fn.pre c.args.step.now (c.step.result, tt) = r.1.callable c.step.result (c.loop-steps.steps + c.loop-steps.steps + 1, here) in
    search (rules, may)

pub loop-steps-smaller : goal.loop-steps-smaller
loop-steps-smaller g c = omega (arith, c.in_ok-steps.ensures.more)

pub loop-steps-preserved : goal.loop-steps-preserved
loop-steps-preserved g c = λ next a.
    let i = c.loop-steps.invariant next a in
    let differs = differ (g.T.PartialEq.eq c.loop-steps.slow c.loop-steps.fast) c.ne.result c.ne.ensures c.loop-steps-test.true in
    let moved = a.answers c.loop-steps.fast c.step.result (c.loop-steps.steps + c.loop-steps.steps, i.fast_at) c.step.ensures in
    let here = after_next g.met.T.Eq.laws a.alike (c.loop-steps.steps + c.loop-steps.steps) c.loop-steps.fast c.step.result i.fast_at moved in
    rw c.in_ok-steps.ensures.more
    (next_round g.met.T.Eq.laws a.alike c.loop-steps.slow c.loop-steps.fast c.step-slow.result c.step.result c.step-fast.result c.loop-steps.steps i differs
    (a.answers c.loop-steps.slow c.step-slow.result (c.loop-steps.steps, i.slow_at) c.step-slow.ensures) moved
    (a.answers c.step.result c.step-fast.result (c.loop-steps.steps + c.loop-steps.steps + 1, here) c.step-fast.ensures))

pub length_at-requires-clause-steps : goal.length_at-requires-clause-steps
length_at-requires-clause-steps g c =
    let r = c.requires.steps in
    let i = c.loop-steps.invariant r.0 r.1 in
    let met = same_after g.met.T.Eq.laws r.1.alike c.loop-steps.steps (c.loop-steps.steps + c.loop-steps.steps) c.loop-steps.slow c.loop-steps.fast i.slow_at i.fast_at
    (agree (g.T.PartialEq.eq c.loop-steps.slow c.loop-steps.fast) c.ne.result c.ne.ensures c.loop-steps-test.false) in
    (c.args.start.now, r.0, r.1, i.slow_at, i.positive, met)

pub returns : goal.returns
returns g c = record {
  cycle = λ next a.
      let i = c.loop-steps.invariant next a in
      let met = same_after g.met.T.Eq.laws a.alike c.loop-steps.steps (c.loop-steps.steps + c.loop-steps.steps) c.loop-steps.slow c.loop-steps.fast i.slow_at i.fast_at
      (agree (g.T.PartialEq.eq c.loop-steps.slow c.loop-steps.fast) c.ne.result c.ne.ensures c.loop-steps-test.false) in
      let l = c.in_ok-length.ensures in
      round_met g.met.T.Eq.laws a.alike c.loop-steps.slow c.loop-steps.fast c.loop-steps.steps c.in_ok-length.length i l.positive
      (l.repeats c.args.start.now next a i.slow_at) (l.least c.args.start.now next a i.slow_at) met;
  value = λ next a. (c.loop-steps.invariant next a).slow_at;
  refused = λ next a. tt;
}

pub returns-in_err-steps : goal.returns-in_err-steps
returns-in_err-steps g c = record {
  refused = λ next a.
      let differs = differ (g.T.PartialEq.eq c.loop-steps.slow c.loop-steps.fast) c.ne.result c.ne.ensures c.loop-steps-test.true in
      let past = round_refused g.met.T.Eq.laws a.alike c.loop-steps.slow c.loop-steps.fast c.loop-steps.steps (c.loop-steps.invariant next a) differs c.in_err-steps.ensures.refused.1 in
      let refused : IsStepRefusal g.T.PartialEq.eq next c.args.start.now c.in_err-steps.field-0.0 = inr (c.in_err-steps.ensures.refused.0, past) in
      refused_as (IsStepRefusal g.T.PartialEq.eq next c.args.start.now) c.from_residual-in_err-steps.result c.in_err-steps.field-0.0 c.from_residual-in_err-steps.ensures.1 refused;
  cycle = λ next a. IfOk-from_err _ _ c.from_residual-in_err-steps.ensures.0;
  value = λ next a. IfOk-from_err _ _ c.from_residual-in_err-steps.ensures.0;
}

pub returns-in_err-clone : goal.returns-in_err-clone
returns-in_err-clone g c = record {
  cycle = λ next a. IfOk-from_err _ _ c.from_residual.ensures.0;
  value = λ next a. IfOk-from_err _ _ c.from_residual.ensures.0;
  refused = λ next a. refusal _ (IsStepRefusal g.T.PartialEq.eq next c.args.start.now) (λ e m. inl m) c.from_residual.result c.from_residual.ensures.1;
}

pub returns-in_err-clone-2 : goal.returns-in_err-clone-2
returns-in_err-clone-2 g c = record {
  cycle = λ next a. IfOk-from_err _ _ c.from_residual-in_err-clone-2.ensures.0;
  value = λ next a. IfOk-from_err _ _ c.from_residual-in_err-clone-2.ensures.0;
  refused = λ next a. refusal _ (IsStepRefusal g.T.PartialEq.eq next c.args.start.now) (λ e m. inl m) c.from_residual-in_err-clone-2.result c.from_residual-in_err-clone-2.ensures.1;
}

pub returns-in_err-length : goal.returns-in_err-length
returns-in_err-length g c = record {
  cycle = λ next a. IfOk-from_err _ _ c.from_residual-in_err-length.ensures.0;
  value = λ next a. IfOk-from_err _ _ c.from_residual-in_err-length.ensures.0;
  refused = λ next a. refused_as (IsStepRefusal g.T.PartialEq.eq next c.args.start.now) c.from_residual-in_err-length.result _ c.from_residual-in_err-length.ensures.1 (inl c.in_err-length.ensures.refused);
}
