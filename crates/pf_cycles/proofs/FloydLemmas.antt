-- Rounds of Floyd's method.
use Rattle.std.proofs.Common.{ℕ, zero, suc, ◌+◌, ◌*◌, ◌^◌, ◌<◌, ◌≤◌, ◌≡◌, refl, ◌∙◌, subst, arith, Bool, true, false, inl, inr}
use Rattle.std.specs.Cmp.{IsEquivalence}
use Rattle.std.specs.Fn.{iterate}
use Rattle.std.proofs.lemmas.Bool.{cases_lt}
use Rattle.pf_cycles.specs.Cycles.{IsAfter, IsMet, Repeats, IsCycle, IsMeetingOfFloyd, IsMultipleOfFloyd}
use Rattle.pf_cycles.proofs.CycleLemmas.{after_next, after_equal, same_after, not_same_after, cycle_at, cycle_repeats, repeats_rounds, repeats_multiple}

-- the fast value has made twice as many steps as the slow one, and no value before came again after as many steps as led to it
pub record IsFloydRound {N : Type 0} (eq : N → N → Bool) (next : N → N) (start slow fast : N) (steps : ℕ) : Type 0 where
  pub positive : 0 < steps
  pub slow_at : IsAfter eq next start steps slow
  pub fast_at : IsAfter eq next start (steps + steps) fast
  pub before : (k : ℕ) → 0 < k → k < steps → ¬ (Repeats eq next start k k)

-- the value ahead stands so many places behind the steps, and the value after the steps did not come again before
pub record IsLengthSearch {N : Type 0} (eq : N → N → Bool) (next : N → N) (start ahead : N) (steps length : ℕ) : Type 0 where
  pub positive : 0 < length
  pub ahead_at : IsAfter eq next start (steps + length) ahead
  pub passed : (k : ℕ) → 0 < k → k < length → ¬ (Repeats eq next start steps k)

zero_add : (n : ℕ) → n ≡ 0 + n
zero_add n = omega arith

-- some positive multiple of a length, from an index up, is at most their sum
pub multiple_above : (length index : ℕ) → 0 < length → (k : ℕ) × (0 < k * length) × (index ≤ k * length) × (k * length ≤ index + length)
multiple_above length zero p = (1, omega arith, omega arith, omega arith)
multiple_above length (suc index) p =
    let r = multiple_above length index p in
    elim (cases_lt index (r.0 * length)) [
      | inl l ↦ (r.0, r.1, omega arith, omega (arith, r.3))
      | inr l ↦ (suc r.0, omega (arith, r.1), omega (arith, r.1), omega (arith, r.1, r.2, r.3))
    ]

module _ {N : Type 0} {eq : N → N → Bool} (laws : IsEquivalence eq) {next : N → N} {start : N} (alike : (x y : N) → IsMet eq next start x → eq x y ≡ true → eq (next x) (next y) ≡ true) where
  pub none_here : (slow fast : N) (steps : ℕ) → IsFloydRound eq next start slow fast steps → eq slow fast ≡ false → ¬ (Repeats eq next start steps steps)
  none_here slow fast steps r f = not_same_after laws alike steps (steps + steps) slow fast r.slow_at r.fast_at f

  none_up_to : (slow fast : N) (steps : ℕ) → IsFloydRound eq next start slow fast steps → eq slow fast ≡ false → (k : ℕ) → 0 < k → k ≤ steps → ¬ (Repeats eq next start k k)
  none_up_to slow fast steps r f k p l = elim (cases_lt k steps) [
    | inl b ↦ r.before k p b
    | inr b ↦ let e : steps ≡ k = omega arith in subst (λ i. ¬ (Repeats eq next start i i)) e (none_here slow fast steps r f)
  ]

  pub next_round : (slow fast slow' between fast' : N) (steps : ℕ) → IsFloydRound eq next start slow fast steps → eq slow fast ≡ false → eq (next slow) slow' ≡ true → eq (next fast) between ≡ true → eq (next between) fast' ≡ true
      → IsFloydRound eq next start slow' fast' (steps + 1)
  next_round slow fast slow' between fast' steps r f s b t = record {
    positive = omega arith;
    slow_at = after_next laws alike steps slow slow' r.slow_at s;
    fast_at =
        let e : steps + steps + 1 + 1 ≡ steps + 1 + (steps + 1) = omega arith in
        subst (λ i. IsAfter eq next start i fast') e (after_next laws alike (steps + steps + 1) between fast' (after_next laws alike (steps + steps) fast between r.fast_at b) t);
    before = λ k p l. none_up_to slow fast steps r f k p (omega arith);
  }

  pub round_met : (slow fast : N) (steps length : ℕ) → IsFloydRound eq next start slow fast steps → 0 < length → Repeats eq next start steps length → ((k : ℕ) → 0 < k → k < length → ¬ (Repeats eq next start steps k))
      → Repeats eq next start steps steps → (index : ℕ) × IsCycle eq next start length index × IsMeetingOfFloyd length index steps
  round_met slow fast steps length r p again least met =
      let c = cycle_at laws alike steps length p again least in (
        c.0,
        c.2,
        record {
          positive = r.positive;
          multiple = repeats_multiple laws alike steps length p again least steps met;
          from_index = c.1;
          least = λ k q i. elim (cases_lt (k * length) steps) [
            | inl l ↦ absurd (r.before (k * length) q l (repeats_rounds laws alike (k * length) length k (cycle_repeats laws alike length c.0 (k * length) c.2 i)))
            | inr h ↦ h
          ];
        },
      )

  pub round_refused : (slow fast : N) (steps : ℕ) → IsFloydRound eq next start slow fast steps → eq slow fast ≡ false → 2 ^ 64 ≤ steps + 1
      → (length index : ℕ) → IsCycle eq next start length index → 2 ^ 64 ≤ 4 * (index + length)
  round_refused slow fast steps r f b length index c =
      let m = multiple_above length index c.positive in
      elim (cases_lt steps (m.0 * length)) [
        | inl l ↦ omega (arith, m.3)
        | inr l ↦ absurd (none_up_to slow fast steps r f (m.0 * length) m.1 l (repeats_rounds laws alike (m.0 * length) length m.0 (cycle_repeats laws alike length index (m.0 * length) c m.2)))
      ]

  begin_none : (steps k : ℕ) → 0 < k → k < 1 → ¬ (Repeats eq next start steps k)
  begin_none steps k p l = absurd (omega arith)

  pub begin_search : (value copy ahead : N) (steps : ℕ) → IsAfter eq next start steps value → eq value copy ≡ true → eq (next copy) ahead ≡ true → IsLengthSearch eq next start ahead steps 1
  begin_search value copy ahead steps v e a = record {
    positive = omega arith;
    ahead_at = after_next laws alike steps copy ahead (after_equal laws alike steps value copy v e) a;
    passed = begin_none steps;
  }

  none_at : (value ahead : N) (steps length : ℕ) → IsAfter eq next start steps value → IsLengthSearch eq next start ahead steps length → eq value ahead ≡ false → (k : ℕ) → 0 < k → k ≤ length → ¬ (Repeats eq next start steps k)
  none_at value ahead steps length v s f k p l = elim (cases_lt k length) [
    | inl b ↦ s.passed k p b
    | inr b ↦ let e : length ≡ k = omega arith in subst (λ n. ¬ (Repeats eq next start steps n)) e (not_same_after laws alike steps (steps + length) value ahead v s.ahead_at f)
  ]

  pub next_search : (value ahead ahead' : N) (steps length : ℕ) → IsAfter eq next start steps value → IsLengthSearch eq next start ahead steps length → eq value ahead ≡ false → eq (next ahead) ahead' ≡ true
      → IsLengthSearch eq next start ahead' steps (length + 1)
  next_search value ahead ahead' steps length v s f a = record {
    positive = omega arith;
    ahead_at = let e : steps + length + 1 ≡ steps + (length + 1) = omega arith in subst (λ i. IsAfter eq next start i ahead') e (after_next laws alike (steps + length) ahead ahead' s.ahead_at a);
    passed = λ k p l. none_at value ahead steps length v s f k p (omega arith);
  }

  pub search_below : (value ahead : N) (steps length : ℕ) → IsAfter eq next start steps value → IsLengthSearch eq next start ahead steps length → eq value ahead ≡ false → 0 < steps → Repeats eq next start steps steps → length < steps
  search_below value ahead steps length v s f p r = elim (cases_lt length steps) [
    | inl b ↦ b
    | inr b ↦ absurd (none_at value ahead steps length v s f steps p b r)
  ]

  pub begin_round : (first slow copy fast : N) → eq start first ≡ true → eq (next first) slow ≡ true → eq slow copy ≡ true → eq (next copy) fast ≡ true → IsFloydRound eq next start slow fast 1
  begin_round first slow copy fast e s d f =
      let at_one = after_next laws alike 0 first slow e s in
      record {
        positive = omega arith;
        slow_at = at_one;
        fast_at = after_next laws alike 1 copy fast (after_equal laws alike 1 slow copy at_one d) f;
        before = λ k p l. absurd (omega arith);
      }

  -- a cycle whose meeting is at the start begins there
  pub at_start : (value : N) (length index steps : ℕ) → IsCycle eq next start length index → IsMeetingOfFloyd length index steps → IsAfter eq next start steps value → eq value start ≡ true → IsMultipleOfFloyd length index 0
  at_start value length index steps c m v e =
      let again = same_after laws alike 0 steps start value (laws.refl start) v (laws.symm start value ∙ e) in
      let low = c.least_index 0 steps m.positive (subst (λ i. IsAfter eq next start 0 (iterate next i start)) (zero_add steps) again) in
      record { at_start = λ z. refl; behind_start = λ p. absurd (omega arith) }

  pub behind_start : (value : N) (length index steps : ℕ) → IsCycle eq next start length index → IsMeetingOfFloyd length index steps → IsAfter eq next start steps value → eq value start ≡ false → IsMultipleOfFloyd length index steps
  behind_start value length index steps c m v f = record {
    at_start = λ z.
        let again = repeats_rounds laws alike 0 length m.multiple.0 (subst (λ i. Repeats eq next start i length) z c.repeats) in
        let here : 0 + m.multiple.0 * length ≡ steps = omega (arith, m.multiple.1) in
        absurd (not_same_after laws alike 0 steps start value (laws.refl start) v (laws.symm start value ∙ f) (subst (λ i. IsAfter eq next start 0 (iterate next i start)) here again));
    behind_start = λ p. m;
  }
