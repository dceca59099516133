-- Rounds of Brent's method.
use Rattle.std.proofs.Common.{ℕ, ◌+◌, ◌-◌, ◌*◌, ◌^◌, ◌<◌, ◌≤◌, ◌≡◌, ◌≢◌, refl, ◌∙◌, ap, subst, arith, add-one, Bool, true, false, inl, inr}
use Rattle.std.specs.Cmp.{IsEquivalence}
use Rattle.std.proofs.lemmas.Bool.{cases_lt}
use Rattle.std.proofs.lemmas.Nat.{pow_pos}
use Rattle.std.proofs.Math.Nat.{pow-le-pow_right}
use Rattle.pf_cycles.specs.Cycles.{IsAfter, IsMet, Repeats, IsCycle, IsMeetingOfBrent}
use Rattle.pf_cycles.proofs.CycleLemmas.{after_next, after_equal, same_after, not_same_after, cycle_at, cycle_repeats}

-- The waiting value stands one place before a power of two, and the moving one so many places on. No value one place before a power came again within as many steps.
pub record IsBrentRound {N : Type 0} (eq : N → N → Bool) (next : N → N) (start waiting moving : N) (power length : ℕ) : Type 0 where
  pub exponent : ℕ
  pub is_power : power ≡ 2 ^ exponent
  pub positive : 0 < length
  pub within : length ≤ power
  pub waits : IsAfter eq next start (power - 1) waiting
  pub moves : IsAfter eq next start (power - 1 + length) moving
  pub passed : (k : ℕ) → 0 < k → k < length → ¬ (Repeats eq next start (power - 1) k)
  pub earlier : (j : ℕ) → j < exponent → (k : ℕ) → 0 < k → k ≤ 2 ^ j → ¬ (Repeats eq next start (2 ^ j - 1) k)

-- a power of two that fits `usize` is at most its greatest one
pub power_fits : (j power : ℕ) → power ≡ 2 ^ j → power < 2 ^ 64 → power ≤ 2 ^ 63
power_fits j power e l = elim (cases_lt j 64) [
  | inl b ↦ rw e (pow-le-pow_right {n = 2} (omega arith) {i = j} {j = 63} (omega arith))
  | inr b ↦ let h = pow-le-pow_right {n = 2} (omega arith) {i = 64} {j = j} b in absurd (omega arith)
]

module _ {N : Type 0} {eq : N → N → Bool} (laws : IsEquivalence eq) {next : N → N} {start : N} (alike : (x y : N) → IsMet eq next start x → eq x y ≡ true → eq (next x) (next y) ≡ true) where
  pub begin_round : (waiting first moving : N) → eq start waiting ≡ true → eq start first ≡ true → eq (next first) moving ≡ true → IsBrentRound eq next start waiting moving 1 1
  begin_round waiting first moving w f m = record {
    exponent = 0;
    is_power = refl;
    positive = omega arith;
    within = omega arith;
    waits = w;
    moves = after_next laws alike 0 first moving f m;
    passed = λ k p l. absurd (omega arith);
    earlier = λ j l. absurd (omega arith);
  }

  -- the places up to the moving one have not come back to the waiting one
  passed_here : (waiting moving : N) (power length : ℕ) → IsBrentRound eq next start waiting moving power length → eq waiting moving ≡ false
      → (k : ℕ) → 0 < k → k ≤ length → ¬ (Repeats eq next start (power - 1) k)
  passed_here waiting moving power length r f k p l = elim (cases_lt k length) [
    | inl b ↦ r.passed k p b
    | inr b ↦
        let e : length ≡ k = omega arith in
        subst (λ n. ¬ (Repeats eq next start (power - 1) n)) e (not_same_after laws alike (power - 1) (power - 1 + length) waiting moving r.waits r.moves f)
  ]

  pub next_step : (waiting moving moved : N) (power length : ℕ) → IsBrentRound eq next start waiting moving power length → eq waiting moving ≡ false → length ≢ power → eq (next moving) moved ≡ true
      → IsBrentRound eq next start waiting moved power (length + 1)
  next_step waiting moving moved power length r f n m = record {
    exponent = r.exponent;
    is_power = r.is_power;
    positive = omega arith;
    within = omega (arith, r.within, n);
    waits = r.waits;
    moves = let e : power - 1 + length + 1 ≡ power - 1 + (length + 1) = omega arith in subst (λ i. IsAfter eq next start i moved) e (after_next laws alike (power - 1 + length) moving moved r.moves m);
    passed = λ k p l. passed_here waiting moving power length r f k p (omega arith);
    earlier = r.earlier;
  }

  earlier_all : (waiting moving : N) (power length : ℕ) (r : IsBrentRound eq next start waiting moving power length) → eq waiting moving ≡ false → length ≡ power
      → (j : ℕ) → j < r.exponent + 1 → (k : ℕ) → 0 < k → k ≤ 2 ^ j → ¬ (Repeats eq next start (2 ^ j - 1) k)
  earlier_all waiting moving power length r f e j l k p b = elim (cases_lt j r.exponent) [
    | inl h ↦ r.earlier j h k p b
    | inr h ↦
        let same : r.exponent ≡ j = omega arith in
        let whole : power ≡ 2 ^ j = r.is_power ∙ ap (λ i. 2 ^ i) same in
        subst (λ q. ¬ (Repeats eq next start (q - 1) k)) whole (passed_here waiting moving power length r f k p (omega arith))
  ]

  pub next_power : (waiting moving copy moved : N) (power length : ℕ) → IsBrentRound eq next start waiting moving power length → eq waiting moving ≡ false → length ≡ power
      → eq moving copy ≡ true → eq (next moving) moved ≡ true → IsBrentRound eq next start copy moved (power * 2) 1
  next_power waiting moving copy moved power length r f e c m =
      let some : 0 < power = rw r.is_power (pow_pos r.exponent) in
      let place : power - 1 + length ≡ power * 2 - 1 = omega arith in
      record {
        exponent = r.exponent + 1;
        is_power = rw r.is_power (rw (add-one r.exponent) (omega arith));
        positive = omega arith;
        within = omega arith;
        waits = subst (λ i. IsAfter eq next start i copy) place (after_equal laws alike (power - 1 + length) moving copy r.moves c);
        moves = subst (λ i. IsAfter eq next start (i + 1) moved) place (after_next laws alike (power - 1 + length) moving moved r.moves m);
        passed = λ k p l. absurd (omega arith);
        earlier = earlier_all waiting moving power length r f e;
      }

  pub round_met : (waiting moving : N) (power length : ℕ) → IsBrentRound eq next start waiting moving power length → eq waiting moving ≡ true
      → (index : ℕ) × IsCycle eq next start length index × IsMeetingOfBrent length index (power - 1 + length)
  round_met waiting moving power length r t =
      let again = same_after laws alike (power - 1) (power - 1 + length) waiting moving r.waits r.moves t in
      let c = cycle_at laws alike (power - 1) length r.positive again r.passed in (
        c.0,
        c.2,
        record {
          exponent = r.exponent;
          sum = rw r.is_power refl;
          from_index = subst (λ q. c.0 ≤ q - 1) r.is_power c.1;
          from_length = subst (λ q. length ≤ q) r.is_power r.within;
          least = λ j i b. elim (cases_lt j r.exponent) [
            | inl l ↦ absurd (r.earlier j l length r.positive b (cycle_repeats laws alike length c.0 (2 ^ j - 1) c.2 i))
            | inr h ↦ h
          ];
        },
      )

  pub round_refused : (waiting moving : N) (power length : ℕ) → IsBrentRound eq next start waiting moving power length → eq waiting moving ≡ false → length ≡ power → 2 ^ 64 ≤ power * 2
      → (cycle index : ℕ) → IsCycle eq next start cycle index → 2 ^ 64 ≤ 4 * (index + cycle)
  round_refused waiting moving power length r f e l cycle index c = elim (cases_lt (power - 1) index) [
    | inl a ↦ omega arith
    | inr a ↦ elim (cases_lt power cycle) [
      | inl b ↦ omega arith
      | inr b ↦ absurd (passed_here waiting moving power length r f cycle c.positive (omega arith) (cycle_repeats laws alike cycle index (power - 1) c a))
    ]
  ]
