-- The words of costs.
use Rattle.std.specs.Prelude.{◌≤ℤ◌, ℤ, pos, neg_ℤ, ◌-◌, ◌^◌, FitsSigned}
use Rattle.std.specs.Int.{Width}
use Rattle.std.proofs.Common.{arith}
use Rattle.std.proofs.lemmas.Int.{ints}
use Rattle.num_traits.specs.Ints.{signed-bounds}
use mir.Val.{hbits}

-- z lies between low and high
abbrev pub LiesBetween : ℤ → ℤ → ℤ → Type 0
LiesBetween low high z = (low ≤ℤ z) × (z ≤ℤ high)

-- the negation of a number from 0 up fits a signed type
pub signed-negation_fits : (w : Width) (z : ℤ) → FitsSigned w z → pos 0 ≤ℤ z → FitsSigned w (neg_ℤ z)
signed-negation_fits w z f low =
    let b = (signed-bounds w z).0 f in
    let top : z ≤ℤ pos (2 ^ hbits w - 1) = b.1 in
    (signed-bounds w (neg_ℤ z)).1 (omega (arith, ints), omega (arith, ints))
