-- That a depth-first search to a limit ends.
use Rattle.std.proofs.Common.{ℕ, zero, suc, ◌+◌, ◌-◌, ◌*◌, ◌^◌, ◌<◌, ◌≡◌, ◌∙◌, ap, arith, List, ◌∷◌, length}
use Rattle.std.proofs.Math.Nat.{add-mul, suc-mul, pow-zero, pow-succ'}
use Rattle.pf_deepening.specs.declared.way.Frame.{Frame}
use Rattle.pf_informed.specs.Internal.Deepening.{places_left, turns_below, turns_left}

-- one more times p
once_more : (n p : ℕ) → (n + 1) * p ≡ n * p + p
once_more n p = omega (arith, add-mul n 1 p)

scaled : (a b p : ℕ) → a < b → 0 < p → a * p < b * p
scaled a zero p h q = absurd (omega (arith, h))
scaled zero (suc b) p h q = omega (arith, suc-mul b p, suc-mul 0 p, q)
scaled (suc a) (suc b) p h q = omega (arith, suc-mul a p, suc-mul b p, scaled a b p (omega (arith, h)) q)

positive : (m n : ℕ) → 0 < m → 0 < m ^ n
positive m zero h = omega (arith, pow-zero m)
positive m (suc n) h = let p = scaled 0 m (m ^ n) h (positive m n h) in omega (arith, pow-succ' m n, p)

pub some_turns : 0 < 18446744073709551616
some_turns = omega arith

module _ {C : Type 0} (most deep : ℕ) (some : 0 < most) where
  -- one place of the last frame was looked at
  pub advanced_less : (f : Frame C) (fs : List (Frame C)) → f.at < f.end → turns_left most deep (record f { at = f.at + 1 }) fs < turns_left most deep f fs
  advanced_less f fs inside =
      let p = most ^ (deep - length fs) in
      let one : places_left f ≡ (f.end - (f.at + 1)) + 1 = omega (arith, inside) in
      let w = positive most (deep - length fs) some in
      let same : (places_left f + 1) * p ≡ ((f.end - (f.at + 1)) + 1) * p + p = ap (λ (n : ℕ). (n + 1) * p) one ∙ once_more ((f.end - (f.at + 1)) + 1) p in
      adds (((f.end - (f.at + 1)) + 1) * p) ((places_left f + 1) * p) p (turns_below most deep fs) same w
    where
      adds : (a b p q : ℕ) → b ≡ a + p → 0 < p → a + q < b + q
      adds a b p q e l = omega (arith, e, l)

  -- the last frame has no place left, and the one below goes on
  pub left_less : (f g : Frame C) (fs : List (Frame C)) → g.at < g.end → turns_left most deep (record g { at = g.at + 1 }) fs < turns_left most deep f (g ∷ fs)
  left_less f g fs inside =
      let p = most ^ (deep - length fs) in
      let q = most ^ (deep - length (g ∷ fs)) in
      let one : (g.end - (g.at + 1)) + 1 ≡ places_left g = omega (arith, inside) in
      let w = positive most (deep - length (g ∷ fs)) some in
      adds (((g.end - (g.at + 1)) + 1) * p) (places_left g * p) (places_left f * q) ((places_left f + 1) * q) q (turns_below most deep fs) (ap (λ (n : ℕ). n * p) one) (once_more (places_left f) q) w
    where
      adds : (a b c d q r : ℕ) → a ≡ b → d ≡ c + q → 0 < q → a + r < d + (b + r)
      adds a b c d q r e h l = omega (arith, e, h, l)

  -- a new frame, whose row is short enough
  pub entered_less : (f g : Frame C) (fs : List (Frame C)) → length fs < deep → places_left g + 1 < most → turns_left most deep g (f ∷ fs) < turns_left most deep f fs
  entered_less f g fs shallow short =
      let d = deep - length (f ∷ fs) in
      let q = most ^ d in
      let p = most ^ (deep - length fs) in
      let next : deep - length fs ≡ suc d = omega (arith, shallow) in
      let e : p ≡ most * q = ap (λ (n : ℕ). most ^ n) next ∙ pow-succ' most d in
      let l = scaled (places_left g + 1) most q short (positive most d some) in
      adds ((places_left g + 1) * q) (most * q) p (places_left f * p) ((places_left f + 1) * p) (turns_below most deep fs) l e (once_more (places_left f) p)
    where
      adds : (a b p c d r : ℕ) → a < b → p ≡ b → d ≡ c + p → a + (c + r) < d + r
      adds a b p c d r l e h = omega (arith, l, e, h)
