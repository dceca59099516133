-- The order of unsigned numbers, for the impls of `Coordinate`.
use Rattle.std.specs.Prelude.{◌≡◌, ℕ, pos}
use Rattle.std.specs.Ordering.{int_cmp, nat_cmp}
use Rattle.std.proofs.Common.{arith}
use Rattle.std.proofs.lemmas.Int.{ints}

pub unsigned_order : (a b : ℕ) → nat_cmp a b ≡ int_cmp (pos a) (pos b)
unsigned_order a b = grind (arith, ints)
