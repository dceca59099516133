use Rattle.std.proofs.Common.{rules, ◌≡◌, ℕ, ◌+◌, ◌-◌, ◌*◌, ◌/◌, subst, arith, inr, inl}
use Rattle.pf_cycles.specs.Cycles.{IsAfter, IsStepRefusal}
use Rattle.pf_cycles.proofs.CycleLemmas.{differ, agree}
use Rattle.pf_cycles.proofs.BrentLemmas.{begin_round, next_step, next_power, round_met, round_refused, power_fits}
use Rattle.pf_cycles.proofs.directed.cycle_detection.brent_method.meeting.Goals.{then-length-power+in_ok-power+in_ok-copy, else-length-power}
use Rattle.std.specs.Prelude.{Result, Ok, Err, IfErr, IfSome, IsErrAnd}
use Rattle.std.proofs.lemmas.Result.{IfOk-from_err}
use Rattle.pf_base.proofs.Outcomes.{refused_as}
use Rattle.pf_cycles.proofs.directed.cycle_detection.brent_method.meeting.Goals as goal

-- what an error that a call hands on is
refusal : {T E : Type 0} (P Q : E → Type 0) → ((e : E) → P e → Q e) → (r : Result T E) → IsErrAnd r P → IfErr r Q
refusal P Q f (Ok x) h = absurd h
refusal P Q f (Err x) h = f x h

pub loop-power-init : goal.loop-power-init
loop-power-init g c = λ next a.
    let first = c.requires.clones c.args.start.now c.in_ok-clone.field-0 c.in_ok-clone.ensures.cases in
    record {
      round = begin_round g.met.T.Eq.laws a.alike c.in_ok-waiting.waiting c.in_ok-clone.field-0 c.call-moving.result
          (c.requires.clones c.args.start.now c.in_ok-waiting.waiting c.in_ok-waiting.ensures.cases) first
          (a.answers c.in_ok-clone.field-0 c.call-moving.result (0, first) c.call-moving.ensures);
      before = tt;
    }

pub step-moving-requires : goal.step-moving-requires
step-moving-requires g c =
    let r = c.requires.steps in
    let may : g.S.Fn.pre c.args.step.now (c.loop-power.moving, tt) = r.1.callable c.loop-power.moving (c.loop-power.power - 1 + c.loop-power.length, (c.loop-power.invariant r.0 r.1).round.moves) in
    search (rules, may)

pub overflow_add-length : goal.overflow_add-length
overflow_add-length g c =
    let r = c.requires.steps in
    let i = (c.loop-power.invariant r.0 r.1).round in
    elim c.if-length-power.branch [
      | then-length-power+in_ok-power+in_ok-copy w ↦ omega (arith, w.length-is)
      | else-length-power w ↦ omega (arith, w.length-is, w.if-length-power.false, i.within, c.loop-power.auto.power-fits)
    ]

pub loop-power-smaller : goal.loop-power-smaller
loop-power-smaller g c =
    let r = c.requires.steps in
    let i = (c.loop-power.invariant r.0 r.1).round in
    elim c.if-length-power.branch [
      | then-length-power+in_ok-power+in_ok-copy w ↦ omega (arith, w.length-is, w.power-is, w.if-length-power.true, w.in_ok-power.ensures.twice, i.within, i.positive, c.loop-power.auto.power-fits)
      | else-length-power w ↦ omega (arith, w.length-is, w.power-is, i.within, c.loop-power.auto.power-fits)
    ]

pub loop-power-preserved : goal.loop-power-preserved
loop-power-preserved g c = λ next a.
    let i = (c.loop-power.invariant next a).round in
    let differs = differ (g.T.PartialEq.eq c.loop-power.waiting c.loop-power.moving) c.ne.result c.ne.ensures c.loop-power-test.true in
    let moved = a.answers c.loop-power.moving c.step-moving.result (c.loop-power.power - 1 + c.loop-power.length, i.moves) c.step-moving.ensures in
    elim c.if-length-power.branch [
      | then-length-power+in_ok-power+in_ok-copy w ↦ rw w.waiting-is (rw w.before-is (rw w.power-is (rw w.length-is (rw w.in_ok-power.ensures.twice
          (record {
            round = next_power g.met.T.Eq.laws a.alike c.loop-power.waiting c.loop-power.moving w.in_ok-copy.copy c.step-moving.result c.loop-power.power c.loop-power.length i differs w.if-length-power.true
                (c.requires.clones c.loop-power.moving w.in_ok-copy.copy w.in_ok-copy.ensures.cases) moved;
            before =
                let half : c.loop-power.power - 1 ≡ (c.loop-power.power * 2 - 1) / 2 = omega arith in
                subst (λ (n : ℕ). IsAfter g.T.PartialEq.eq next c.args.start.now n c.loop-power.waiting) half i.waits;
          })))))
      | else-length-power w ↦ rw w.waiting-is (rw w.before-is (rw w.power-is (rw w.length-is
          (record {
            round = next_step g.met.T.Eq.laws a.alike c.loop-power.waiting c.loop-power.moving c.step-moving.result c.loop-power.power c.loop-power.length i differs w.if-length-power.false moved;
            before = (c.loop-power.invariant next a).before;
          }))))
    ]

pub overflow_sub-result : goal.overflow_sub-result
overflow_sub-result g c =
    let r = c.requires.steps in
    let i = (c.loop-power.invariant r.0 r.1).round in
    omega (arith, i.within, i.positive)

pub overflow_add-result : goal.overflow_add-result
overflow_add-result g c =
    let r = c.requires.steps in
    let i = (c.loop-power.invariant r.0 r.1).round in
    omega (arith, i.within, power_fits i.exponent c.loop-power.power i.is_power (omega (arith, c.loop-power.auto.power-fits)))

pub returns : goal.returns
returns g c = record {
  cycle = λ next a.
      round_met g.met.T.Eq.laws a.alike c.loop-power.waiting c.loop-power.moving c.loop-power.power c.loop-power.length (c.loop-power.invariant next a).round
      (agree (g.T.PartialEq.eq c.loop-power.waiting c.loop-power.moving) c.ne.result c.ne.ensures c.loop-power-test.false);
  value = λ next a. (c.loop-power.invariant next a).round.moves;
  before = λ next a.
      let steps : c.loop-power.power - 1 ≡ c.loop-power.power - 1 + c.loop-power.length - c.loop-power.length = omega arith in
      subst (λ (n : ℕ). IfSome c.loop-power.before (IsAfter g.T.PartialEq.eq next c.args.start.now (n / 2))) steps (c.loop-power.invariant next a).before;
  longer = omega arith;
  refused = λ next a. tt;
}

pub returns-in_err-power : goal.returns-in_err-power
returns-in_err-power g c = record {
  refused = λ next a.
      let differs = differ (g.T.PartialEq.eq c.loop-power.waiting c.loop-power.moving) c.ne.result c.ne.ensures c.loop-power-test.true in
      let past = round_refused g.met.T.Eq.laws a.alike c.loop-power.waiting c.loop-power.moving c.loop-power.power c.loop-power.length (c.loop-power.invariant next a).round differs c.if-length-power.true c.in_err-power.ensures.refused.1 in
      let refused : IsStepRefusal g.T.PartialEq.eq next c.args.start.now c.in_err-power.field-0.0 = inr (c.in_err-power.ensures.refused.0, past) in
      refused_as (IsStepRefusal g.T.PartialEq.eq next c.args.start.now) c.from_residual-in_err-power.result c.in_err-power.field-0.0 c.from_residual-in_err-power.ensures.1 refused;
  cycle = λ next a. IfOk-from_err _ _ c.from_residual-in_err-power.ensures.0;
  value = λ next a. IfOk-from_err _ _ c.from_residual-in_err-power.ensures.0;
  before = λ next a. IfOk-from_err _ _ c.from_residual-in_err-power.ensures.0;
  longer = IfOk-from_err _ _ c.from_residual-in_err-power.ensures.0;
}

pub returns-in_err-waiting : goal.returns-in_err-waiting
returns-in_err-waiting g c = record {
  cycle = λ next a. IfOk-from_err _ _ c.from_residual.ensures.0;
  value = λ next a. IfOk-from_err _ _ c.from_residual.ensures.0;
  before = λ next a. IfOk-from_err _ _ c.from_residual.ensures.0;
  longer = IfOk-from_err _ _ c.from_residual.ensures.0;
  refused = λ next a. refusal _ (IsStepRefusal g.T.PartialEq.eq next c.args.start.now) (λ e m. inl m) c.from_residual.result c.from_residual.ensures.1;
}

pub returns-in_err-clone : goal.returns-in_err-clone
returns-in_err-clone g c = record {
  cycle = λ next a. IfOk-from_err _ _ c.from_residual-in_err-clone.ensures.0;
  value = λ next a. IfOk-from_err _ _ c.from_residual-in_err-clone.ensures.0;
  before = λ next a. IfOk-from_err _ _ c.from_residual-in_err-clone.ensures.0;
  longer = IfOk-from_err _ _ c.from_residual-in_err-clone.ensures.0;
  refused = λ next a. refusal _ (IsStepRefusal g.T.PartialEq.eq next c.args.start.now) (λ e m. inl m) c.from_residual-in_err-clone.result c.from_residual-in_err-clone.ensures.1;
}

pub returns-in_err-copy : goal.returns-in_err-copy
returns-in_err-copy g c = record {
  cycle = λ next a. IfOk-from_err _ _ c.from_residual-in_err-copy.ensures.0;
  value = λ next a. IfOk-from_err _ _ c.from_residual-in_err-copy.ensures.0;
  before = λ next a. IfOk-from_err _ _ c.from_residual-in_err-copy.ensures.0;
  longer = IfOk-from_err _ _ c.from_residual-in_err-copy.ensures.0;
  refused = λ next a. refusal _ (IsStepRefusal g.T.PartialEq.eq next c.args.start.now) (λ e m. inl m) c.from_residual-in_err-copy.result c.from_residual-in_err-copy.ensures.1;
}
