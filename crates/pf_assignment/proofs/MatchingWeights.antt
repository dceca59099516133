-- Lemmas on the greatest absolute weight and on what fits.
use Rattle.std.proofs.Common.{ℕ, zero, suc, ◌+◌, ◌-◌, ◌*◌, ◌<◌, ◌≤◌, ◌≡◌, refl, sym, ◌∙◌, ap, subst, arith, Bool, inl, inr, ℤ}
use Rattle.std.specs.Prelude.{◌⊎◌, ◌≤ℤ◌, ◌+ℤ◌, ◌↔◌, pos, negsuc, neg_ℤ, IsTrue}
use Rattle.std.proofs.lemmas.Int.{ints}
use Rattle.std.proofs.Math.Nat.{mul-le-mul_right}
use Rattle.pf_base.specs.Costs.{LiesBetween}
use Rattle.pf_assignment.specs.Assignments.{NumberTable, IsGreatestWeight, WeightsFit}
use Rattle.pf_base.specs.Sums.{sum_to}
use Rattle.pf_assignment.specs.Internal.AssignmentSteps.{IsBeyond, IsEither}

-- between two numbers that fit, each fits
abbrev pub IsInterval : (ℤ → Type 0) → Type 0
IsInterval fits = (x y z : ℤ) → fits x → fits z → x ≤ℤ y → y ≤ℤ z → fits y

pub greatest_within : (t : NumberTable) (w w' : ℕ) → IsGreatestWeight t w → IsGreatestWeight t w' → w ≤ w'
greatest_within t w w' g h = by g.reached
  where
    by : (w ≡ 0) ⊎ ((r : ℕ) × (c : ℕ) × (r < t.rows) × (c < t.columns) × ((t.at r c ≡ pos w) ⊎ (t.at r c ≡ neg_ℤ (pos w)))) → w ≤ w'
    by (inl e) = omega (arith, e)
    by (inr (r, c, l, m, inl e)) = let b = h.bound r c l m in let top = b.1 in omega (arith, ints, e, top)
    by (inr (r, c, l, m, inr e)) = let b = h.bound r c l m in let low = b.0 in omega (arith, ints, e, low)

pub greatest_same : (t : NumberTable) (w w' : ℕ) → IsGreatestWeight t w → IsGreatestWeight t w' → w ≡ w'
greatest_same t w w' g h = let a = greatest_within t w w' g h in let b = greatest_within t w' w h g in omega arith

pub not_above : (z : ℤ) → z ≤ℤ pos 0 → (w : ℕ) × (z ≡ neg_ℤ (pos w))
not_above (pos zero) h = (0, refl)
not_above (pos (suc n)) h = absurd (omega (arith, ints, h))
not_above (negsuc n) h = (suc n, refl)

pub not_below : (z : ℤ) → pos 0 ≤ℤ z → (w : ℕ) × (z ≡ pos w)
not_below (pos n) h = (n, refl)
not_below (negsuc n) h = absurd (omega (arith, ints, h))

-- two times a number more
pub multiple_more : (r w : ℕ) (total weight more : ℤ) → total ≡ pos ((2 * r + 4) * w) → weight ≡ pos w → more ≡ total +ℤ weight +ℤ weight → more ≡ pos ((2 * (r + 1) + 4) * w)
multiple_more r w total weight more e f h = omega (arith, ints, e, f, h)

-- where a multiple does not fit, no greater one does
pub multiple_fails : (fits : ℤ → Type 0) → IsInterval fits → fits (pos 0) → (r rows : ℕ) → r < rows → (w : ℕ) (total weight : ℤ) → total ≡ pos ((2 * r + 4) * w) → weight ≡ pos w → fits (pos ((2 * rows + 4) * w)) → ¬ (fits (total +ℤ weight +ℤ weight)) → ⊥
multiple_fails fits interval z r rows l w total weight e f g out =
    let m : (2 * (r + 1) + 4) * w ≤ (2 * rows + 4) * w = mul-le-mul_right w (omega (arith, l)) in
    out (interval (pos 0) _ (pos ((2 * rows + 4) * w)) z g (omega (arith, ints, e, f)) (omega (arith, ints, e, f, m)))

-- the least of all weights and their negations is the negation of the greatest absolute weight
pub least_is_greatest : (t : NumberTable) (z : ℤ) → z ≤ℤ pos 0 → ((r c : ℕ) → r < t.rows → c < t.columns → IsBeyond z (t.at r c)) → (z ≡ pos 0) ⊎ ((r : ℕ) × (c : ℕ) × (r < t.rows) × (c < t.columns) × IsEither z (t.at r c)) → (w : ℕ) × IsGreatestWeight t w × (z ≡ neg_ℤ (pos w))
least_is_greatest t z low each reached =
    let n = not_above z low in
    let e = n.1 in (
      n.0,
      record {
        bound = λ r c h g. let b = each r c h g in let b0 = b.0 in let b1 = b.1 in (omega (arith, ints, b0, e), omega (arith, ints, b1, e));
        reached = by n.0 e reached;
      },
      e,
    )
  where
    by : (w : ℕ) → z ≡ neg_ℤ (pos w) → (z ≡ pos 0) ⊎ ((r : ℕ) × (c : ℕ) × (r < t.rows) × (c < t.columns) × IsEither z (t.at r c)) → (w ≡ 0) ⊎ ((r : ℕ) × (c : ℕ) × (r < t.rows) × (c < t.columns) × ((t.at r c ≡ pos w) ⊎ (t.at r c ≡ neg_ℤ (pos w))))
    by w e (inl f) = inl (omega (arith, ints, e, f))
    by w e (inr (r, c, h, g, inl f)) = inr (r, c, h, g, inr (sym f ∙ e))
    by w e (inr (r, c, h, g, inr f)) = inr (r, c, h, g, inl (omega (arith, ints, e, f)))

module _ (fits : ℤ → Type 0) (interval : IsInterval fits) (t : NumberTable) where
  -- a table of zeros fits
  pub zeros_fit : fits (pos 0) → (w : ℕ) → IsGreatestWeight t w → w ≡ 0 → WeightsFit fits t
  zeros_fit z w g e =
      let n : pos ((2 * t.rows + 4) * w) ≡ pos 0 = ap (λ k. pos ((2 * t.rows + 4) * k)) e ∙ ap pos (omega arith) in record {
        greatest = w;
        is_greatest = g;
        product = subst fits (sym n) z;
        negation = subst fits (ap neg_ℤ (sym n)) z;
      }

  -- weights fit where the multiple does
  pub weights_fit_by : (negation : (z : ℤ) → fits z → pos 0 ≤ℤ z → fits (neg_ℤ z)) (w : ℕ) → IsGreatestWeight t w → (b : Bool) → IsTrue b ↔ fits (pos ((2 * t.rows + 4) * w)) → IsTrue b ↔ WeightsFit fits t
  weights_fit_by negation w g b i = (
    λ h. record { greatest = w; is_greatest = g; product = i.0 h; negation = negation _ (i.0 h) (omega (arith, ints)) },
    λ f. i.1 (subst (λ k. fits (pos ((2 * t.rows + 4) * k))) (greatest_same t f.greatest w f.is_greatest g) f.product),
  )

  -- where the greatest absolute weight has no place, neither have its multiples
  pub weight_fits : fits (pos 0) → (w : ℕ) → IsGreatestWeight t w → WeightsFit fits t → fits (pos w)
  weight_fits z w g f =
      let e = greatest_same t f.greatest w f.is_greatest g in
      let m : 1 * f.greatest ≤ (2 * t.rows + 4) * f.greatest = mul-le-mul_right f.greatest (omega arith) in
      interval (pos 0) (pos w) _ z f.product (omega (arith, ints)) (omega (arith, ints, m, e))

  module _ (fit : WeightsFit fits t) where
    pub room : (n : ℕ) → n ≤ 2 * t.rows + 4 → (z : ℤ) → neg_ℤ (pos (n * fit.greatest)) ≤ℤ z → z ≤ℤ pos (n * fit.greatest) → fits z
    room n h z low top =
        let m : n * fit.greatest ≤ (2 * t.rows + 4) * fit.greatest = mul-le-mul_right fit.greatest h in
        interval _ z _ fit.negation fit.product (omega (arith, ints, m, low)) (omega (arith, ints, m, top))

    -- six times the greatest absolute weight fits where there is a row
    pub room_six : 0 < t.rows → (z : ℤ) → neg_ℤ (pos (6 * fit.greatest)) ≤ℤ z → z ≤ℤ pos (6 * fit.greatest) → fits z
    room_six h = room 6 (omega (arith, h))

-- a sum of n numbers of bounded size
pub sum_to-bound : (w : ℕ) (f : ℕ → ℤ) (n : ℕ) → ((r : ℕ) → r < n → LiesBetween (neg_ℤ (pos w)) (pos w) (f r)) → LiesBetween (neg_ℤ (pos (n * w))) (pos (n * w)) (sum_to f n)
sum_to-bound w f zero h = (omega (arith, ints), omega (arith, ints))
sum_to-bound w f (suc n) h =
    let i = sum_to-bound w f n (λ r l. h r (omega (arith, l))) in
    let i0 = i.0 in
    let i1 = i.1 in
    let b = h n (omega arith) in
    let b0 = b.0 in
    let b1 = b.1 in (omega (arith, ints, i0, b0), omega (arith, ints, i1, b1))

-- each place of a table by rows is one of its positions
pub position_of : (rows columns k : ℕ) → k < rows * columns → (r : ℕ) × (c : ℕ) × (r < rows) × (c < columns) × (k ≡ r * columns + c)
position_of zero columns k h = absurd (omega (arith, h))
position_of (suc rows) columns k h = elim (le_or_above (rows * columns) k) as (λ _. (r : ℕ) × (c : ℕ) × (r < suc rows) × (c < columns) × (k ≡ r * columns + c)) [
  | inl l ↦ (rows, k - rows * columns, omega arith, omega (arith, h, l), omega (arith, l))
  | inr l ↦ (let i = position_of rows columns k l in (i.0, i.1, (let m = i.2 in let n : i.0 < suc rows = omega arith in n), i.3, i.4))
]
  where
    le_or_above : (a b : ℕ) → (a ≤ b) ⊎ (b < a)
    le_or_above zero b = inl (omega arith)
    le_or_above (suc a) zero = inr (omega arith)
    le_or_above (suc a) (suc b) = elim (le_or_above a b) as (λ _. (suc a ≤ suc b) ⊎ (suc b < suc a)) [ inl h ↦ inl (omega (arith, h)) | inr h ↦ inr (omega (arith, h)) ]
