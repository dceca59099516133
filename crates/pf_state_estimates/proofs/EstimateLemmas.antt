-- Estimates that fall by no more than each move costs are never above what remains.
use Rattle.std.proofs.Common.{◌≡◌, ℕ, ℤ, refl, ap, subst, inl, inr, suc, arith, pos, Bool, true, List, [], ◌∷◌, map, Option, Some, None}
use Rattle.std.specs.Prelude.{◌≤ℤ◌, ◌+ℤ◌, slice_get}
use Rattle.std.proofs.lemmas.Int.{ints}
use Rattle.pf_base.specs.Edges.{HasEdge}
use Rattle.pf_informed.specs.Estimates.{IsAdmissible}
use Rattle.pf_informed.proofs.Callers.{consistent}
use Rattle.pf_state_spaces.specs.StateSpaces.{edges_by, moves_in}

module _ {N C : Type 0} {eq : N → N → Bool} (exact : (x y : N) → eq x y ≡ true → x ≡ y) (value : C → ℤ) where
  -- what holds of each move and its cost holds of each edge
  each_move : (P : N → ℤ → Type 0) (ps : List (Option (N × C))) → ((place : ℕ) (next : N) (cost : C) → slice_get ps place ≡ Some (Some (next, cost)) → P next (value cost))
      → (b : N) (z : ℤ) → HasEdge eq (map (λ (move : N × C). (move.0, value move.1)) (moves_in ps)) b z → P b z
  each_move P [] law b z h = absurd h
  each_move P (None ∷ ps) law b z h = each_move P ps (λ k y c e. law (suc k) y c e) b z h
  each_move P (Some m ∷ ps) law b z (inl h) = subst (λ x. P x z) (exact m.0 b h.0) (subst (λ x. P m.0 x) h.1 (law 0 m.0 m.1 refl))
  each_move P (Some m ∷ ps) law b z (inr h) = each_move P ps (λ k y c e. law (suc k) y c e) b z h

  module _ (moves : N → List (Option (N × C))) (passes : N → Bool) (estimated : N → C) (from_zero : (state : N) → pos 0 ≤ℤ value (estimated state)) (at_goal : (state : N) → passes state ≡ true → value (estimated state) ≡ pos 0)
      (falls : (state next : N) (cost : C) (place : ℕ) → slice_get (moves state) place ≡ Some (Some (next, cost)) → value (estimated state) ≤ℤ (value cost +ℤ value (estimated next))) where
    low : (state : N) → passes state ≡ true → value (estimated state) ≤ℤ pos 0
    low state g = omega (arith, ints, at_goal state g)

    pub consistent_admissible : (starts : List N) → IsAdmissible eq (edges_by moves value) starts passes (λ state. value (estimated state))
    consistent_admissible starts = consistent eq (edges_by moves value) starts passes (λ state. value (estimated state)) (λ x y e. ap (λ state. value (estimated state)) (exact x y e)) from_zero low
        (λ a b z h. each_move (λ next cost. value (estimated a) ≤ℤ (cost +ℤ value (estimated next))) (moves a) (λ k y c e. falls a y c k e) b z h)

-- three things are what they were, and so is their tuple
pub same_three : {A B C D : Type 0} {a a' : A} {b b' : B} {c c' : C} {d : D} → (a ≡ a') × (b ≡ b') × (c ≡ c') → ◌≡◌ {A = A × B × C × D} (a, b, c, d) (a', b', c', d)
same_three h = cc
