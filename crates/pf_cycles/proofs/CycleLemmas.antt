-- Cycles of a sequence, by a relation of places: `same i j` says that the value at place i is the value at place j. It is an equivalence, and the places after like places are alike.
use Rattle.std.proofs.Common.{ℕ, zero, suc, ◌+◌, ◌-◌, ◌*◌, ◌/◌, ◌%◌, ◌<◌, ◌≤◌, ◌≡◌, refl, sym, ◌∙◌, ap, subst, arith, add-one, Bool, true, false, true≢false, not, inl, inr}
use Rattle.std.specs.Cmp.{IsEquivalence}
use Rattle.std.specs.Fn.{iterate}
use Rattle.std.proofs.lemmas.Bool.{cases_Bool, cases_lt}
use Rattle.std.proofs.lemmas.Nat.{div-add-mod'}
use Rattle.pf_cycles.specs.Cycles.{IsAfter, IsMet, Repeats, IsCycle}

-- what `!=` answers
pub differ : (b r : Bool) → r ≡ not b → r ≡ true → b ≡ false
differ true r e t = absurd (true≢false (sym t ∙ e))
differ false r e t = refl

pub agree : (b r : Bool) → r ≡ not b → r ≡ false → b ≡ true
agree true r e f = refl
agree false r e f = absurd (true≢false (sym e ∙ f))

-- one step more, at the end
pub iterate-suc : {A : Type 0} (h : A → A) (i : ℕ) (x : A) → iterate h (suc i) x ≡ h (iterate h i x)
iterate-suc h zero x = refl
iterate-suc h (suc i) x = iterate-suc h i (h x)

module _ {same : ℕ → ℕ → Bool} (laws : IsEquivalence same) (on : (i j : ℕ) → same i j ≡ true → same (i + 1) (j + 1) ≡ true) where
  back : (i j : ℕ) → same i j ≡ true → same j i ≡ true
  back i j e = laws.symm j i ∙ e

  chain : (i j k : ℕ) → same i j ≡ true → same j k ≡ true → same i k ≡ true
  chain i j k e f = laws.congr i j k e ∙ f

  at : (i j i' j' : ℕ) → i ≡ i' → j ≡ j' → same i j ≡ true → same i' j' ≡ true
  at i j i' j' p q e = subst (λ a. same a j' ≡ true) p (subst (λ b. same i b ≡ true) q e)

  -- places after like places are alike
  pub later : (k i j : ℕ) → same i j ≡ true → same (i + k) (j + k) ≡ true
  later zero i j e = at i j (i + 0) (j + 0) (omega arith) (omega arith) e
  later (suc k) i j e = at (i + k + 1) (j + k + 1) (i + suc k) (j + suc k) (omega arith) (omega arith) (on (i + k) (j + k) (later k i j e))

  -- what comes again after n places comes again after each multiple of n
  pub rounds : (t i n : ℕ) → same i (i + n) ≡ true → same i (i + t * n) ≡ true
  rounds zero i n e = at i i i (i + zero * n) refl (omega arith) (laws.refl i)
  rounds (suc t) i n e =
      let far = later n i (i + t * n) (rounds t i n e) in
      at i (i + t * n + n) i (i + suc t * n) refl (omega arith) (chain i (i + n) (i + t * n + n) e far)

  multiple_reaches : (j n : ℕ) → 0 < n → j ≤ j * n
  multiple_reaches zero n p = omega arith
  multiple_reaches (suc j) n p = let h = multiple_reaches j n p in omega arith

  -- of two places that come again, one comes again after as many places as the other does
  pub transfer : (i n j k : ℕ) → 0 < n → same i (i + n) ≡ true → same j (j + k) ≡ true → same i (i + k) ≡ true
  transfer i n j k p e f =
      let h = multiple_reaches j n p in
      let a = rounds j i n e in
      let b = at (j + (i + j * n - j)) (j + k + (i + j * n - j)) (i + j * n) (i + j * n + k) (omega arith) (omega arith) (later (i + j * n - j) j (j + k) f) in
      let d = later k i (i + j * n) a in
      chain i (i + j * n + k) (i + k) (chain i (i + j * n) (i + j * n + k) a b) (back (i + k) (i + j * n + k) d)

-- the first number that passes a test, where some number passes
first_here : (test : ℕ → Bool) (n : ℕ) → test 0 ≡ true → (m : ℕ) × (m ≤ n) × (test m ≡ true) × ((k : ℕ) → k < m → ¬ (test k ≡ true))
first_here test n t = (0, omega arith, t, λ k l. absurd (omega arith))

none_before : (test : ℕ → Bool) (m : ℕ) → test 0 ≡ false → ((k : ℕ) → k < m → ¬ (test (suc k) ≡ true)) → (k : ℕ) → k < suc m → ¬ (test k ≡ true)
none_before test m f below zero l e = true≢false (sym e ∙ f)
none_before test m f below (suc k) l e = below k (omega arith) e

pub first_passing : (test : ℕ → Bool) (n : ℕ) → test n ≡ true → (m : ℕ) × (m ≤ n) × (test m ≡ true) × ((k : ℕ) → k < m → ¬ (test k ≡ true))
first_passing test zero e = first_here test 0 e
first_passing test (suc n) e = elim (cases_Bool (test 0)) [
  | inl t ↦ first_here test (suc n) t
  | inr f ↦
      let r = first_passing (λ k. test (suc k)) n e in
      (suc r.0, omega (arith, r.1), r.2, none_before test r.0 f r.3)
]

module _ {N : Type 0} {eq : N → N → Bool} (laws : IsEquivalence eq) {next : N → N} {start : N} (alike : (x y : N) → IsMet eq next start x → eq x y ≡ true → eq (next x) (next y) ≡ true) where
  abbrev same : ℕ → ℕ → Bool
  same i j = eq (iterate next i start) (iterate next j start)

  same_laws : IsEquivalence same
  same_laws = record {
    refl = λ i. laws.refl (iterate next i start);
    symm = λ i j. laws.symm (iterate next i start) (iterate next j start);
    congr = λ i j k. laws.congr (iterate next i start) (iterate next j start) (iterate next k start);
  }

  -- what equals the next value of the value after i steps is the value after one step more
  pub after_next : (i : ℕ) (x y : N) → IsAfter eq next start i x → eq (next x) y ≡ true → IsAfter eq next start (i + 1) y
  after_next i x y e f =
      let more : iterate next (i + 1) start ≡ next (iterate next i start) = ap (λ n. iterate next n start) (add-one i) ∙ iterate-suc next i start in
      let here = alike (iterate next i start) x (i, laws.refl (iterate next i start)) e in
      subst (λ z. eq z y ≡ true) (sym more) (laws.congr (next (iterate next i start)) (next x) y here ∙ f)

  on : (i j : ℕ) → same i j ≡ true → same (i + 1) (j + 1) ≡ true
  on i j e =
      let more : iterate next (j + 1) start ≡ next (iterate next j start) = ap (λ n. iterate next n start) (add-one j) ∙ iterate-suc next j start in
      after_next i (iterate next j start) (iterate next (j + 1) start) e (subst (λ z. eq (next (iterate next j start)) z ≡ true) (sym more) (laws.refl (next (iterate next j start))))

  -- equal values after i and after j steps
  pub same_after : (i j : ℕ) (x y : N) → IsAfter eq next start i x → IsAfter eq next start j y → eq x y ≡ true → same i j ≡ true
  same_after i j x y a b e =
      laws.congr (iterate next i start) x (iterate next j start) a ∙ laws.symm x (iterate next j start) ∙ laws.congr (iterate next j start) y x b ∙ laws.symm y x ∙ e

  -- and such as are not equal
  pub not_same_after : (i j : ℕ) (x y : N) → IsAfter eq next start i x → IsAfter eq next start j y → eq x y ≡ false → ¬ (same i j ≡ true)
  not_same_after i j x y a b f e =
      true≢false (sym (laws.symm x y ∙ laws.congr y (iterate next j start) x (laws.symm y (iterate next j start) ∙ b) ∙ laws.symm (iterate next j start) x ∙ laws.congr x (iterate next i start) (iterate next j start) (laws.symm x (iterate next i start) ∙ a) ∙ e) ∙ f)

  -- a value that is equal to the value after i steps
  pub after_equal : (i : ℕ) (x y : N) → IsAfter eq next start i x → eq x y ≡ true → IsAfter eq next start i y
  after_equal i x y a e = laws.congr (iterate next i start) x y a ∙ e

  -- from its index on, a cycle repeats
  pub cycle_repeats : (length index i : ℕ) → IsCycle eq next start length index → index ≤ i → Repeats eq next start i length
  cycle_repeats length index i c l =
      at {same = same} same_laws on (index + (i - index)) (index + length + (i - index)) i (i + length) (omega arith) (omega arith) (later {same = same} same_laws on (i - index) index (index + length) c.repeats)

  -- a place with its least length, and the first place that comes again after that length
  pub cycle_from : (p length index : ℕ) → 0 < length → Repeats eq next start p length → ((k : ℕ) → 0 < k → k < length → ¬ (Repeats eq next start p k))
      → Repeats eq next start index length → ((k : ℕ) → k < index → ¬ (Repeats eq next start k length)) → IsCycle eq next start length index
  cycle_from p length index positive again least first before = record {
    positive = positive;
    repeats = first;
    least_length = λ i n q e. elim (cases_lt n length) [
      | inl l ↦ absurd (least n q l (transfer {same = same} same_laws on p length i n positive again e))
      | inr h ↦ h
    ];
    least_index = λ i n q e. elim (cases_lt i index) [
      | inl l ↦ absurd (before i l (transfer {same = same} same_laws on i n p length q e again))
      | inr h ↦ h
    ];
  }

  pub cycle_at : (p length : ℕ) → 0 < length → Repeats eq next start p length → ((k : ℕ) → 0 < k → k < length → ¬ (Repeats eq next start p k))
      → (index : ℕ) × (index ≤ p) × IsCycle eq next start length index
  cycle_at p length positive again least =
      let r = first_passing (λ k. same k (k + length)) p again in
      (r.0, r.1, cycle_from p length r.0 positive again least r.2 r.3)

  -- the first place that comes again after a cycle's length is its index
  pub cycle_first : (length some index : ℕ) → IsCycle eq next start length some → Repeats eq next start index length → ((k : ℕ) → k < index → ¬ (Repeats eq next start k length)) → IsCycle eq next start length index
  cycle_first length some index c again before =
      cycle_from some length index c.positive c.repeats (λ k p l e. let h = c.least_length some k p e in absurd (omega arith)) again before

  -- what comes again after a length comes again after its multiples
  pub repeats_rounds : (i length k : ℕ) → Repeats eq next start i length → Repeats eq next start i (k * length)
  repeats_rounds i length k e = rounds {same = same} same_laws on k i length e

  -- and where this is its least length, after these alone
  pub repeats_multiple : (i length : ℕ) → 0 < length → Repeats eq next start i length → ((k : ℕ) → 0 < k → k < length → ¬ (Repeats eq next start i k))
      → (n : ℕ) → Repeats eq next start i n → (k : ℕ) × (n ≡ k * length)
  repeats_multiple i length p again least n e =
      let split = div-add-mod' n length in
      let below : n % length < length = omega arith in
      let whole = rounds {same = same} same_laws on (n / length) i length again in
      let far = later {same = same} same_laws on (n % length) i (i + n / length * length) whole in
      let far' = at {same = same} same_laws on (i + n % length) (i + n / length * length + n % length) (i + n % length) (i + n) refl (omega (arith, split)) far in
      let rest : Repeats eq next start i (n % length) = chain {same = same} same_laws on i (i + n) (i + n % length) e (back {same = same} same_laws on (i + n % length) (i + n) far') in
      elim (cases_lt 0 (n % length)) [
        | inl l ↦ absurd (least (n % length) l below rest)
        | inr l ↦ (n / length, omega (arith, split))
      ]

  -- the first place that comes again after a multiple of a cycle's length is its index
  pub cycle_by_multiple : (length some index rounds : ℕ) → IsCycle eq next start length some → 0 < rounds * length → Repeats eq next start index (rounds * length)
      → ((k : ℕ) → k < index → ¬ (Repeats eq next start k (rounds * length))) → IsCycle eq next start length index
  cycle_by_multiple length some index rounds c positive again before =
      let low : some ≤ index = c.least_index index (rounds * length) positive again in
      let high : index ≤ some = elim (cases_lt some index) as (λ _. index ≤ some) [ inl l ↦ absurd (before some l (repeats_rounds some length rounds c.repeats)) | inr h ↦ h ] in
      let e : some ≡ index = omega (arith, low, high) in
      subst (λ n. IsCycle eq next start length n) e c
