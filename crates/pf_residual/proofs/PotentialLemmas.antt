-- The potential of a labelling, and how it rises.
use Rattle.std.proofs.Common.{◌≡◌, ◌≢◌, ◌∙◌, ◌⊎◌, inl, inr, refl, sym, ap, subst, ◌<◌, ◌≤◌, ◌+◌, ◌*◌, ◌+ℤ◌, ℕ, ℤ, zero, suc, pos, negsuc, arith, mul-add, Bool, true, false, true≢false}
use Rattle.std.specs.Prelude.{◌≤ℤ◌, ◌<ℤ◌, neg_ℤ, if◌then◌else◌}
use Rattle.std.proofs.lemmas.Int.{ints}
use Rattle.std.proofs.lemmas.Bool.{cases_eq}
use Rattle.pf_residual.specs.Flows.{PairTable, added, count_to, is_positive, are_linked, pair_count}
use Rattle.pf_residual.specs.Internal.AugmentingPaths.{IsLabelling, weight, potential}
use Rattle.pf_residual.proofs.AddedLemmas.{moved_cases, moved_here}

-- ---- tests for positive numbers

pub sign_cases : (z : ℤ) → (pos 0 <ℤ z) ⊎ (z ≤ℤ pos 0)
sign_cases (pos zero) = inr (omega (arith, ints))
sign_cases (pos (suc n)) = inl (omega (arith, ints))
sign_cases (negsuc n) = inr (omega (arith, ints))

pub positive_true : (z : ℤ) → pos 0 <ℤ z → is_positive z ≡ true
positive_true (pos zero) h = absurd (omega (arith, ints, h))
positive_true (pos (suc n)) h = refl
positive_true (negsuc n) h = absurd (omega (arith, ints, h))

pub positive_false : (z : ℤ) → z ≤ℤ pos 0 → is_positive z ≡ false
positive_false (pos zero) h = refl
positive_false (pos (suc n)) h = absurd (omega (arith, ints, h))
positive_false (negsuc n) h = refl

pub true_positive : (z : ℤ) → is_positive z ≡ true → pos 0 <ℤ z
true_positive (pos zero) h = absurd (true≢false (sym h))
true_positive (pos (suc n)) h = omega (arith, ints)
true_positive (negsuc n) h = absurd (true≢false (sym h))

-- ---- sums of counts

pub count_le : (g h : ℕ → ℕ) (n : ℕ) → ((a : ℕ) → a < n → g a ≤ h a) → count_to g n ≤ count_to h n
count_le g h zero w = omega arith
count_le g h (suc n) w =
    let before = count_le g h n (λ a l. w a (omega (arith, l))) in
    let here = w n (omega arith) in
    omega (arith, before, here)

last_or_before : (k n : ℕ) → k < suc n → (k ≡ n) ⊎ (k < n)
last_or_before k n h = elim (cases_eq k n) as (λ _. (k ≡ n) ⊎ (k < n)) [ inl e ↦ inl e | inr e ↦ inr (omega (arith, e)) ]

pub count_lt : (g h : ℕ → ℕ) (n k : ℕ) → ((a : ℕ) → a < n → g a ≤ h a) → k < n → g k < h k → count_to g n < count_to h n
count_lt g h zero k w l s = absurd (omega (arith, l))
count_lt g h (suc n) k w l s =
    let before = count_le g h n (λ a m. w a (omega (arith, m))) in
    let here = w n (omega arith) in
    elim (last_or_before k n l) as (λ _. count_to g (suc n) < count_to h (suc n)) [
      | inl e ↦ (let f : g n < h n = subst (λ k. g k < h k) e s in omega (arith, before, f))
      | inr m ↦ (let f = count_lt g h n k (λ a o. w a (omega (arith, o))) m s in omega (arith, here, f))
    ]

pub count_ext : (g h : ℕ → ℕ) (n : ℕ) → ((a : ℕ) → a < n → g a ≡ h a) → count_to g n ≡ count_to h n
count_ext g h zero w = refl
count_ext g h (suc n) w =
    let before = count_ext g h n (λ a l. w a (omega (arith, l))) in
    let here = w n (omega arith) in
    omega (arith, before, here)

count_scaled : (g h : ℕ → ℕ) (n m : ℕ) → ((a : ℕ) → a < n → g a ≤ m * h a) → count_to g n ≤ m * count_to h n
count_scaled g h zero m w = omega arith
count_scaled g h (suc n) m w =
    let before = count_scaled g h n m (λ a l. w a (omega (arith, l))) in
    let here = w n (omega arith) in
    let e : m * (count_to h n + h n) ≡ m * count_to h n + m * h n = mul-add m (count_to h n) (h n) in
    omega (arith, before, here, e)

-- ---- the potential

weight_top : (p q : Bool) (x y n : ℕ) → x ≤ n → y ≤ n → weight p q x y ≤ n * (if p then 1 else 0)
weight_top true true x y n h k = omega (arith, h)
weight_top true false x y n h k = omega (arith, k)
weight_top false q x y n h k = omega arith

-- the potential is at most the number of vertices for each pair with capacity in either direction
pub potential_top : {n source : ℕ} {residual : PairTable} {d : ℕ → ℕ} (capacity : PairTable) → IsLabelling n source residual d → potential n capacity residual d ≤ n * pair_count n capacity
potential_top {n = n} {residual = residual} {d = d} capacity w =
    count_scaled (λ a. count_to (λ b. weight (are_linked capacity a b) (is_positive (residual a b)) (d a) (d b)) n) (λ a. count_to (λ b. if are_linked capacity a b then 1 else 0) n) n n
    (λ a l. count_scaled (λ b. weight (are_linked capacity a b) (is_positive (residual a b)) (d a) (d b)) (λ b. if are_linked capacity a b then 1 else 0) n n
    (λ b m. weight_top (are_linked capacity a b) (is_positive (residual a b)) (d a) (d b) n (w.top a l) (w.top b m)))

weight_up : (p q : Bool) (x y x' y' : ℕ) → x ≤ x' → y ≤ y' → weight p q x y ≤ weight p q x' y'
weight_up true true x y x' y' h k = h
weight_up true false x y x' y' h k = k
weight_up false q x y x' y' h k = omega arith

-- with higher levels it is not lower
pub potential_up : (n : ℕ) (capacity residual : PairTable) (d e : ℕ → ℕ) → ((a : ℕ) → a < n → d a ≤ e a) → potential n capacity residual d ≤ potential n capacity residual e
potential_up n capacity residual d e h =
    count_le (λ a. count_to (λ b. weight (are_linked capacity a b) (is_positive (residual a b)) (d a) (d b)) n) (λ a. count_to (λ b. weight (are_linked capacity a b) (is_positive (residual a b)) (e a) (e b)) n) n
    (λ a l. count_le (λ b. weight (are_linked capacity a b) (is_positive (residual a b)) (d a) (d b)) (λ b. weight (are_linked capacity a b) (is_positive (residual a b)) (e a) (e b)) n
    (λ b m. weight_up (are_linked capacity a b) (is_positive (residual a b)) (d a) (d b) (e a) (e b) (h a l) (h b m)))

-- ---- one step of a path

weight_filled : (p q r : Bool) (x y : ℕ) → y ≡ suc x → (q ≡ false → r ≡ false) → weight p q x y ≤ weight p r x y
weight_filled true true true x y e h = omega arith
weight_filled true true false x y e h = omega (arith, e)
weight_filled true false true x y e h = absurd (true≢false (h refl))
weight_filled true false false x y e h = omega arith
weight_filled false q r x y e h = omega arith

weight_opened : (p q : Bool) (x y : ℕ) → y ≡ suc x → weight p q y x ≤ weight p true y x
weight_opened true true x y e = omega arith
weight_opened true false x y e = omega (arith, e)
weight_opened false q x y e = omega arith

module _ (n : ℕ) (capacity residual : PairTable) (d : ℕ → ℕ) (u v : ℕ) (amount : ℤ) (low : pos 0 <ℤ amount) (enough : amount ≤ℤ residual u v) (above : pos 0 ≤ℤ residual v u) (i : u < n) (j : v < n) (up : d v ≡ suc (d u)) where
  apart : u ≢ v
  apart e = let f : d v ≡ d u = ap d (sym e) in omega (arith, f, up)

  abbrev new : PairTable
  new = added (added residual u v (neg_ℤ amount)) v u amount

  now_positive : is_positive (residual u v) ≡ true
  now_positive = positive_true (residual u v) (omega (arith, ints, low, enough))

  back_positive : is_positive (residual v u +ℤ amount) ≡ true
  back_positive = positive_true (residual v u +ℤ amount) (omega (arith, ints, low, above))

  weight_step : (a b : ℕ) → weight (are_linked capacity a b) (is_positive (residual a b)) (d a) (d b) ≤ weight (are_linked capacity a b) (is_positive (new a b)) (d a) (d b)
  weight_step = moved_cases residual u v (neg_ℤ amount) amount apart
      (λ z a b. weight (are_linked capacity a b) (is_positive (residual a b)) (d a) (d b) ≤ weight (are_linked capacity a b) (is_positive z) (d a) (d b))
      (weight_filled (are_linked capacity u v) (is_positive (residual u v)) (is_positive (residual u v +ℤ neg_ℤ amount)) (d u) (d v) up (λ e. absurd (true≢false (sym now_positive ∙ e))))
      (subst (λ q. weight (are_linked capacity v u) (is_positive (residual v u)) (d v) (d u) ≤ weight (are_linked capacity v u) q (d v) (d u)) (sym back_positive) (weight_opened (are_linked capacity v u) (is_positive (residual v u)) (d u) (d v) up))
      (λ a b h g. omega arith)

  row_step : (a : ℕ) → count_to (λ b. weight (are_linked capacity a b) (is_positive (residual a b)) (d a) (d b)) n ≤ count_to (λ b. weight (are_linked capacity a b) (is_positive (new a b)) (d a) (d b)) n
  row_step a = count_le (λ b. weight (are_linked capacity a b) (is_positive (residual a b)) (d a) (d b)) (λ b. weight (are_linked capacity a b) (is_positive (new a b)) (d a) (d b)) n (λ b m. weight_step a b)

  -- where an amount is moved one level up, the potential does not fall
  pub potential_step : potential n capacity residual d ≤ potential n capacity (added (added residual u v (neg_ℤ amount)) v u amount) d
  potential_step =
      count_le (λ a. count_to (λ b. weight (are_linked capacity a b) (is_positive (residual a b)) (d a) (d b)) n) (λ a. count_to (λ b. weight (are_linked capacity a b) (is_positive (new a b)) (d a) (d b)) n) n
      (λ a l. row_step a)

  filled : residual u v ≡ amount → is_positive (new u v) ≡ false
  filled e = ap is_positive (moved_here residual u v (neg_ℤ amount) amount apart) ∙ positive_false (residual u v +ℤ neg_ℤ amount) (omega (arith, ints, e))

  here_lt : are_linked capacity u v ≡ true → residual u v ≡ amount → weight (are_linked capacity u v) (is_positive (residual u v)) (d u) (d v) < weight (are_linked capacity u v) (is_positive (new u v)) (d u) (d v)
  here_lt l e =
      subst (λ p. weight p (is_positive (residual u v)) (d u) (d v) < weight p (is_positive (new u v)) (d u) (d v)) (sym l)
      (subst (λ q. weight true q (d u) (d v) < weight true (is_positive (new u v)) (d u) (d v)) (sym now_positive)
      (subst (λ q. weight true true (d u) (d v) < weight true q (d u) (d v)) (sym (filled e)) (omega (arith, up))))

  -- and where the pair is filled, it rises
  pub potential_rise : are_linked capacity u v ≡ true → residual u v ≡ amount → potential n capacity residual d < potential n capacity (added (added residual u v (neg_ℤ amount)) v u amount) d
  potential_rise l e =
      count_lt (λ a. count_to (λ b. weight (are_linked capacity a b) (is_positive (residual a b)) (d a) (d b)) n) (λ a. count_to (λ b. weight (are_linked capacity a b) (is_positive (new a b)) (d a) (d b)) n) n u
      (λ a m. row_step a) i
      (count_lt (λ b. weight (are_linked capacity u b) (is_positive (residual u b)) (d u) (d b)) (λ b. weight (are_linked capacity u b) (is_positive (new u b)) (d u) (d b)) n v (λ b m. weight_step u b) j (here_lt l e))

  -- the levels stay a labelling
  pub labelling_step : {source : ℕ} → IsLabelling n source residual d → IsLabelling n source (added (added residual u v (neg_ℤ amount)) v u amount) d
  labelling_step w = record {
    start = w.start;
    top = w.top;
    step = λ a b l m. moved_cases residual u v (neg_ℤ amount) amount apart
        (λ z a b. a < n → b < n → pos 0 <ℤ z → d b ≤ suc (d a))
        (λ _ _ _. omega (arith, up))
        (λ _ _ _. omega (arith, up))
        (λ a b h g. w.step a b) a b l m;
  }
