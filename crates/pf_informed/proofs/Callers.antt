-- How a caller shows that its function answers an estimate, and that the estimate is admissible.
use Rattle.std.proofs.Common.{◌≡◌, ℤ, pos, Bool, true, List, [], ◌∷◌, refl, sym, ap, subst, arith, inl, inr}
use Rattle.std.specs.Prelude.{◌≤ℤ◌, ◌+ℤ◌}
use Rattle.std.specs.Borrow.{Bor}
use Rattle.std.specs.Fn.{Mut, Called}
use Rattle.std.proofs.lemmas.Int.{ints}
use Rattle.pf_base.specs.Walks.{end_of, IsGoalWalk}
use Rattle.pf_base.specs.Edges.{HasEdge, IsSuccessor, StepsCost, WalkCosts}
use Rattle.pf_base.proofs.Callers.{answers_by}
use Rattle.pf_informed.specs.Estimates.{AnswersEstimate, IsAdmissible}

-- the estimate of a function that answers `estimate x` at each node x within, and that its calls leave as it was
module _ {F N C : Type 0} {calls : Mut F (Bor N × Unit {0}) C} {eq : N → N → Bool} {value : C → ℤ} {within : N → Type 0} where
  pub estimate_of : (estimate : N → C) {f : F}
      → ((x y : N) → within x → eq x y ≡ true → estimate x ≡ estimate y)
      → ((x : Bor N) → within x.now → calls.pre f (x, tt))
      → ((x : Bor N) (r : C) (t : F) → within x.now → Called calls f (x, tt) r t → (t ≡ f) × (r ≡ estimate x.now))
      → AnswersEstimate calls eq value f within (λ x. value (estimate x))
  estimate_of estimate {f} alike takes gives = record {
    alike = λ x y w e. ap value (alike x y w e);
    answers = answers_by calls within (λ x r. value r ≡ value (estimate x)) (λ s. s ≡ f)
        (λ s x e w. subst (λ (q : F). calls.pre q (x, tt)) (sym e) (takes x w))
        (λ s x r t e w k. let h = gives x r t w (subst (λ (q : F). Called calls q (x, tt) r t) e k) in (h.0, ap value h.1)) f refl;
  }

-- An estimate that falls by no more than a step costs, and is 0 where the test passes, is admissible.
module _ {N : Type 0} (eq : N → N → Bool) (edges : N → List (N × ℤ)) (starts : List N) (test : N → Bool) (estimate : N → ℤ)
    (alike : (x y : N) → eq x y ≡ true → estimate x ≡ estimate y) (from_zero : (x : N) → pos 0 ≤ℤ estimate x) (at_goal : (x : N) → test x ≡ true → estimate x ≤ℤ pos 0) (falls : (a b : N) (z : ℤ) → HasEdge eq (edges a) b z → estimate a ≤ℤ (z +ℤ estimate b)) where
  along : (w : List N) (a : N) (u : ℤ) → StepsCost eq edges a w u → test (end_of a w) ≡ true → estimate a ≤ℤ u
  along [] a u costs good = omega (arith, ints, at_goal a good, costs)
  along (b ∷ w) a u costs good =
      let s = costs.2 in
      omega (arith, ints, falls a b costs.0 s.edge, along w b costs.1 costs.3 good, costs.4)

  below : (x : N) (walk : List N) (u : ℤ) → IsGoalWalk eq (IsSuccessor eq edges) (x ∷ []) test walk → WalkCosts eq edges walk u → estimate x ≤ℤ u
  below x [] u walk costs = absurd costs
  below x (a ∷ w) u walk costs = elim walk.begins as (λ _. estimate x ≤ℤ u) [
    | inl e ↦ omega (arith, ints, alike x a e, along w a u costs walk.ends)
    | inr n ↦ absurd n
  ]

  pub consistent : IsAdmissible eq edges starts test estimate
  consistent = record { from_zero = λ x r. from_zero x; never_above = λ x r walk u goes costs. below x walk u goes costs }
