-- Antisymmetric flows that stay so.
use Rattle.std.proofs.Common.{◌≡◌, ℕ, ℤ, pos, arith}
use Rattle.std.specs.Prelude.{neg_ℤ}
use Rattle.std.proofs.lemmas.Int.{ints}
use Rattle.pf_residual.specs.Flows.{PairTable, Same, added, IsAntisymmetric}
use Rattle.pf_residual.proofs.PushLemmas.{opposite_moved}

-- a table of zeros is antisymmetric
pub opposite_none : (t : PairTable) → ((a b : ℕ) → t a b ≡ pos 0) → IsAntisymmetric t
opposite_none t h = record { at = λ a b. let p = h a b in let q = h b a in omega (arith, ints, p, q) }

-- the same numbers are antisymmetric too
pub opposite_same : {s t : PairTable} → IsAntisymmetric s → Same s t → IsAntisymmetric t
opposite_same w h = record { at = λ a b. let o = w.at a b in let p = h.at a b in let q = h.at b a in omega (arith, ints, o, p, q) }

-- so is a flow where an amount was moved from a pair to its reverse
pub opposite_carried : (f : PairTable) {g : PairTable} (u v : ℕ) (z : ℤ) → IsAntisymmetric f → Same (added (added f u v z) v u (neg_ℤ z)) g → IsAntisymmetric g
opposite_carried f u v z w h = opposite_same (record { at = λ a b. opposite_moved f u v z a b (w.at a b) }) h
