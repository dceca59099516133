-- The estimate 0 in a graph that is given as a list of edges (from, to, cost).
use Rattle.std.proofs.Common.{◌≡◌, ℤ, pos, arith, refl, Bool, List}
use Rattle.std.specs.Prelude.{◌≤ℤ◌, ◌+ℤ◌, All}
use Rattle.std.proofs.lemmas.Int.{ints}
use Rattle.test_edge_lists.proofs.ChosenLemmas.{edge_from_zero}
use Rattle.test_edge_lists.specs.Lists.{edges_from}
use Rattle.pf_informed.specs.Estimates.{IsAdmissible}
use Rattle.pf_informed.proofs.Callers.{consistent}

-- it is admissible where no edge of the list costs less than 0
pub zero_admissible : {N C : Type 0} (eq : N → N → Bool) (value : C → ℤ) (edges : List (N × N × C)) (starts : List N) (test : N → Bool) (zero : C) → value zero ≡ pos 0 → All (λ (e : N × N × C). pos 0 ≤ℤ value e.2) edges → IsAdmissible eq (edges_from eq edges value) starts test (λ n. value zero)
zero_admissible {N} {C} eq value edges starts test zero is h = consistent eq (edges_from eq edges value) starts test (λ n. value zero) (λ x y e. refl) (λ x. low (value zero) is) (λ x e. high (value zero) is) (λ a b z m. falls (value zero) z (edge_from_zero eq value (λ (e : N × N × C). e.0) (λ (e : N × N × C). e.1) edges a b z h m))
  where
    low : (v : ℤ) → v ≡ pos 0 → pos 0 ≤ℤ v
    low v e = omega (arith, ints, e)

    high : (v : ℤ) → v ≡ pos 0 → v ≤ℤ pos 0
    high v e = omega (arith, ints, e)

    falls : (v z : ℤ) → pos 0 ≤ℤ z → v ≤ℤ (z +ℤ v)
    falls v z l = omega (arith, ints, l)
