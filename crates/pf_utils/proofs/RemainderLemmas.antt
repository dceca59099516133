-- Remainders that are not negative.
use Rattle.std.proofs.Common.{◌≡◌, ℕ, ℤ, pos, negsuc, ◌/◌, ◌<◌, ◌+ℤ◌, sym, subst, arith, mod-lt}
use Rattle.std.specs.Prelude.{◌*ℤ◌}
use Rattle.std.specs.Int.{int_rem_euclid}
use Rattle.std.proofs.Math.IntN.{pos-*ℤ-pos, negsuc-*ℤ-pos}
use Rattle.std.proofs.lemmas.Int.{ints}
use Rattle.std.proofs.lemmas.Nat.{div-add-mod'}

congruent : (z : ℤ) (u : ℕ) → 0 < u → (turns : ℤ) × (z ≡ int_rem_euclid z (pos u) +ℤ turns *ℤ pos u)
congruent (pos a) u h = (pos (a / u), omega (arith, ints, div-add-mod' a u, pos-*ℤ-pos (a / u) u))
congruent (negsuc a) u h = (negsuc (a / u), omega (arith, ints, div-add-mod' a u, mod-lt a h, negsuc-*ℤ-pos (a / u) u))

-- a number is its remainder and a multiple of the divisor
pub congruent_remainder : (z r : ℤ) (u : ℕ) → 0 < u → r ≡ int_rem_euclid z (pos u) → (turns : ℤ) × (z ≡ r +ℤ turns *ℤ pos u)
congruent_remainder z r u h e = subst (λ (y : ℤ). (turns : ℤ) × (z ≡ y +ℤ turns *ℤ pos u)) (sym e) (congruent z u h)
