-- What tested estimates are, and what the tests pass over.
use Rattle.std.proofs.Common.{◌≡◌, ◌<◌, ◌+◌, ℕ, refl, sym, subst, ◌∙◌, arith, inl, inr, Bool, List, Option, Some, None, ap}
use Rattle.std.specs.Prelude.{◌≤ℤ◌, ◌<ℤ◌, ◌+ℤ◌, ◌⊎◌, ℤ, pos, slice_get}
use Rattle.std.specs.Option.{option_map_or}
use Rattle.std.proofs.lemmas.Int.{ints}
use Rattle.std.proofs.lemmas.Option.{slice_get_within}
use Rattle.pf_estimated_graphs.specs.EstimatedGraphs.{IsConsistent}
use Rattle.pf_estimated_graphs.specs.EstimatesInTables.{estimate_at, FallsAt, AreConsistent}

module _ {C : Type 0} (value : C → ℤ) (estimates : List C) where
  -- the estimate of a node
  pub estimate_is : (node : ℕ) (c : C) → slice_get estimates node ≡ Some c → estimate_at value estimates node ≡ value c
  estimate_is node c e = ap (λ (o : Option C). option_map_or value o (pos 0)) e

  -- a number that has no estimate is estimated at 0
  pub estimate_none : (node : ℕ) → slice_get estimates node ≡ None → estimate_at value estimates node ≡ pos 0
  estimate_none node e = ap (λ (o : Option C). option_map_or value o (pos 0)) e

  module _ (size : ℕ) (places : ℕ → List (Option (ℕ × C))) (passes : ℕ → Bool) (are : AreConsistent value size places passes estimates) where
    either : (node : ℕ) (P : ℤ → Type 0) → P (pos 0) → (node < size → P (estimate_at value estimates node)) → P (estimate_at value estimates node)
    either node P none some = by (slice_get estimates node) refl
      where
        by : (o : Option C) → slice_get estimates node ≡ o → P (estimate_at value estimates node)
        by None e = subst P (sym (estimate_none node e)) none
        by (Some c) e = some (subst (λ (n : ℕ). node < n) are.complete (slice_get_within estimates node c e))

    -- the estimates of all numbers are consistent
    pub consistent_numbers : IsConsistent value size places passes (estimate_at value estimates)
    consistent_numbers = record {
      from_zero = λ node. either node (λ z. pos 0 ≤ℤ z) (omega (arith, ints)) (λ l. (are.sound node l).from_zero);
      at_goal = λ node g. either node (λ z. z ≡ pos 0) refl (λ l. (are.sound node l).at_goal g);
      falls = λ node place edge l h. are.falls node place l edge h;
    }

-- ---- tests that go on

less_or_same : (a b : ℕ) → a < b + 1 → (a < b) ⊎ (a ≡ b)
less_or_same a b h = grind arith

-- what holds of the numbers below n, and of n, holds below the next
pub one_more : (P : ℕ → Type 0) (n : ℕ) → P n → ((k : ℕ) → k < n → P k) → (k : ℕ) → k < n + 1 → P k
one_more P n here before k l = elim (less_or_same k n l) as (λ _. P k) [
  | inl b ↦ before k b
  | inr e ↦ subst P (sym e) here
]

-- what is so of the edge at a place is so of each edge there
pub falls_there : {C : Type 0} (value : C → ℤ) (places : ℕ → List (Option (ℕ × C))) (estimates : List C) (node place : ℕ) (o : Option (ℕ × C)) → slice_get (places node) place ≡ Some o
    → ((edge : ℕ × C) → o ≡ Some edge → estimate_at value estimates node ≤ℤ (value edge.1 +ℤ estimate_at value estimates edge.0)) → FallsAt value places estimates node place
falls_there {C = C} value places estimates node place o at holds edge h = holds edge (same o edge (sym at ∙ h))
  where
    same : (o : Option (ℕ × C)) (edge : ℕ × C) → Some o ≡ Some (Some edge) → o ≡ Some edge
    same o edge e = cc

module _ (a b cost here there : ℤ) (is_here : a ≡ here) (is_there : b ≡ there) where
  -- the comparison of the numbers that were read is that of the estimates
  pub above : (cost +ℤ there) <ℤ here → (cost +ℤ b) <ℤ a
  above h = subst (λ z. (cost +ℤ z) <ℤ a) (sym is_there) (subst (λ z. (cost +ℤ there) <ℤ z) (sym is_here) h)

  pub not_above : here ≤ℤ (cost +ℤ there) → a ≤ℤ (cost +ℤ b)
  not_above h = subst (λ z. a ≤ℤ (cost +ℤ z)) (sym is_there) (subst (λ z. z ≤ℤ (cost +ℤ there)) (sym is_here) h)
