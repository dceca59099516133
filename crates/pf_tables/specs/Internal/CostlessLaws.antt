-- 0 is the only number from 0 to 0.
use Rattle.std.specs.Prelude.{◌≡◌, ◌≤ℤ◌, ℤ, pos}
use Rattle.std.proofs.Common.{arith}
use Rattle.std.proofs.lemmas.Int.{ints}
use Rattle.pf_base.specs.Costs.{LiesBetween}

pub only_zero : (z : ℤ) → LiesBetween (pos 0) (pos 0) z → pos 0 ≡ z
only_zero z h = let low = h.0 in let high = h.1 in omega (arith, ints)

pub zero_fits : LiesBetween (pos 0) (pos 0) (pos 0)
zero_fits = (omega (arith, ints), omega (arith, ints))

pub only_between : (x y z : ℤ) → LiesBetween (pos 0) (pos 0) x → LiesBetween (pos 0) (pos 0) z → x ≤ℤ y → y ≤ℤ z → LiesBetween (pos 0) (pos 0) y
only_between x y z f g low high = let a = f.0 in let b = g.1 in (omega (arith, ints), omega (arith, ints))
