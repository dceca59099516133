use Rattle.std.proofs.Common.{◌≡◌, ◌∙◌, ap, ℕ, ◌<◌, ◌+◌, ◌++◌, ◌∷◌, [], length, get_or, slice_get, Some, subst, sym, refl, arith, Bool, true, false, true≢false}
use mathlib.Core.Bool.{beq}
use Rattle.std.specs.Prelude.{Vec, nat_lt}
use Rattle.std.proofs.lemmas.Option.{slice_get-get_or}
use Rattle.std.proofs.lemmas.Result.{IfOk-from_err}
use Rattle.pf_base.proofs.Outcomes.{refused_as}
use Rattle.pf_orders.proofs.RoundLemmas.{AreNumbersWith, numbers_none, numbers_more, numbers_same, numbers_end}
use Rattle.pf_orders.proofs.rounds.numbers_with.Goals.{then-counts-number+in_ok-push, else-counts-number}
use Rattle.pf_orders.proofs.rounds.numbers_with.Goals as goal

-- what a test says of two others
same_test : (a b : Bool) → beq a b ≡ true → a ≡ b
same_test true true h = refl
same_test true false h = absurd (true≢false (sym h))
same_test false true h = absurd (true≢false (sym h))
same_test false false h = refl

other_test : (a b : Bool) → beq a b ≡ false → ¬ (a ≡ b)
other_test true true h e = true≢false h
other_test true false h e = true≢false e
other_test false true h e = true≢false (sym e)
other_test false false h e = true≢false h

pub numbers-preserved : goal.numbers-preserved
numbers-preserved g c =
    let counts = c.args.counts.now in
    let i = c.numbers.number in
    let old = c.numbers.numbers.items in
    let inside : i < length counts = c.numbers-test.true in
    let at : slice_get counts i ≡ Some (get_or counts i 0) = slice_get-get_or counts i 0 inside in
    elim c.if-counts-number.branch as (λ _. AreNumbersWith counts c.args.waiting (i + 1) c.if-counts-number.numbers.items) [
      | then-counts-number+in_ok-push w ↦
          let test : nat_lt 0 (get_or counts i 0) ≡ c.args.waiting = same_test _ _ w.if-counts-number.true in
          let e : c.if-counts-number.numbers.items ≡ old ++ i ∷ [] = ap (λ (v : Vec ℕ g.row.A.Denot). v.items) w.numbers-is ∙ w.in_ok-push.ensures.items in
          subst (AreNumbersWith counts c.args.waiting (i + 1)) (sym e) (numbers_more counts c.args.waiting i (get_or counts i 0) at old c.numbers.invariant test)
      | else-counts-number w ↦
          let test : ¬ (nat_lt 0 (get_or counts i 0) ≡ c.args.waiting) = other_test _ _ w.if-counts-number.false in
          let e : c.if-counts-number.numbers.items ≡ old = ap (λ (v : Vec ℕ g.row.A.Denot). v.items) w.numbers-is in
          subst (AreNumbersWith counts c.args.waiting (i + 1)) (sym e) (numbers_same counts c.args.waiting i (get_or counts i 0) at old c.numbers.invariant test)
    ]

pub numbers-init : goal.numbers-init
numbers-init g c = subst (AreNumbersWith c.args.counts.now c.args.waiting 0) (sym c.new-numbers.ensures.items) (numbers_none c.args.counts.now c.args.waiting)

pub numbers-smaller : goal.numbers-smaller
numbers-smaller g c = omega (arith, c.numbers-test.true)

pub returns-in_err-push : goal.returns-in_err-push
returns-in_err-push g c =
    let r = c.from_residual in
    record {
      exact = IfOk-from_err _ _ r.ensures.0;
      once = IfOk-from_err _ _ r.ensures.0;
      refused = refused_as _ r.result _ r.ensures.1 refl;
    }

pub returns : goal.returns
returns g c =
    let v = c.numbers.invariant in
    record { exact = numbers_end c.args.counts.now c.args.waiting c.numbers.number c.numbers.numbers.items c.numbers-test.false v; once = v.once; refused = tt }
