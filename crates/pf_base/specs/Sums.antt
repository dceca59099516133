-- Sums over the numbers below a bound.
use Rattle.std.specs.Prelude.{◌+ℤ◌, ℕ, ℤ, zero, suc, pos}

-- g 0 + g 1 + .. + g (n - 1)
abbrev pub sum_to : (ℕ → ℤ) → ℕ → ℤ
sum_to g zero = pos 0
sum_to g (suc n) = sum_to g n +ℤ g n
