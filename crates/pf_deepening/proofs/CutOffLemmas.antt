-- Sums that were cut off at a limit.
use Rattle.std.proofs.Common.{◌≡◌, ℤ, pos, Bool, true, false, true≢false, sym, refl, arith, inl, inr, Option, Some}
use Rattle.std.specs.Prelude.{◌≤ℤ◌, ◌<ℤ◌, MatchBool}
use Rattle.std.specs.Ordering.{int_cmp, is_le, MatchOrdering}
use Rattle.std.specs.Cmp.{int_ranks}
use Rattle.std.specs.declared.cmp.Ordering.{Ordering}
use Rattle.std.specs.declared.cmp.Ordering.TheVariants.{Less, Equal, Greater}
use Rattle.std.proofs.lemmas.Int.{ints}
use Rattle.pf_deepening.specs.Ways.{IsCutOff}

-- what the test of an order of whole numbers says
pub le_means : (x y : ℤ) (r : Bool) → r ≡ is_le (int_cmp x y) → MatchBool r (x ≤ℤ y) (y <ℤ x)
le_means x y r h = by r (int_cmp x y) (int_ranks x y) h
  where
    by : (r : Bool) (o : Ordering) → MatchOrdering o (x <ℤ y) (x ≡ y) (y <ℤ x) → r ≡ is_le o → MatchBool r (x ≤ℤ y) (y <ℤ x)
    by true Less m e = omega (arith, ints, m)
    by true Equal m e = omega (arith, ints, m)
    by true Greater m e = absurd (true≢false e)
    by false Less m e = absurd (true≢false (sym e))
    by false Equal m e = absurd (true≢false (sym e))
    by false Greater m e = m

module _ {C : Type 0} (value : C → ℤ) (fits : ℤ → Type 0) where
  -- a lower sum takes the place of the least one
  pub cut_lower : (least : Option C) (past : Bool) (sum : C) → ((n : C) → least ≡ Some n → value sum ≤ℤ value n) → (u : ℤ) → IsCutOff value fits least past u → IsCutOff value fits (Some sum) past u
  cut_lower least past sum low u (inl h) = inl (sum, refl, omega (arith, ints, low h.0 h.1, h.2))
  cut_lower least past sum low u (inr h) = inr h

  -- what is above a sum that does not fit does not fit
  pub cut_past : (between : (x y z : ℤ) → fits x → fits z → x ≤ℤ y → y ≤ℤ z → fits y) (nothing : fits (pos 0)) (least : Option C) (s u : ℤ) → ¬ (fits s) → pos 0 ≤ℤ s → s ≤ℤ u → IsCutOff value fits least true u
  cut_past between nothing least s u past from low = inr (refl, λ f. past (between (pos 0) s u nothing f from low))
