-- Cheapest paths and cheapest clean paths, where all costs are above 0.
use Rattle.std.proofs.Common.{◌≡◌, refl, sym, subst, arith, Bool, true, List, [], ◌∷◌, ◌++◌, inl, inr, ℤ, pos}
use Rattle.std.specs.Prelude.{◌≤ℤ◌, ◌+ℤ◌}
use Rattle.std.specs.Cmp.{IsEquivalence}
use Rattle.std.proofs.lemmas.Int.{ints}
use Rattle.pf_base.specs.Walks.{end_of, HasNode, Follows}
use Rattle.pf_base.specs.Edges.{IsSuccessor, StepsCost, InReach, IsCheapestGoalPath, NoGoalWalkCostsLess}
use Rattle.pf_core.proofs.FrontierLemmas.{end_more}
use Rattle.pf_base.proofs.ListLemmas.{bool_dec}
use Rattle.pf_core.proofs.NodeLemmas.{InReach-after}
use Rattle.pf_informed.specs.CheapestPaths.{FailsUpToEnd, HasOnlyCostsAboveZero, IsCheapestCleanPath}

module _ {N : Type 0} (eq : N → N → Bool) (laws : IsEquivalence eq) (edges : N → List (N × ℤ)) (starts : List N) (test : N → Bool) (above : HasOnlyCostsAboveZero eq edges starts) where
  follows_of : (w : List N) (a : N) (u : ℤ) → StepsCost eq edges a w u → Follows (IsSuccessor eq edges) a w
  follows_of [] a u c = tt
  follows_of (b ∷ w) a u c = let s = c.2 in ((c.0, s.edge), follows_of w b c.1 c.3)

  more_steps : (p : List N) (a b : N) (u z : ℤ) → StepsCost eq edges a p u → StepsCost eq edges (end_of a p) (b ∷ []) z → StepsCost eq edges a (p ++ b ∷ []) (u +ℤ z)
  more_steps [] a b u z c s = (s.0, s.1, s.2, s.3, omega (arith, ints, c, s.4))
  more_steps (y ∷ p) a b u z c s = (c.0, c.1 +ℤ z, c.2, more_steps p y b c.1 z c.3 s, omega (arith, ints, c.4))

  module _ (first : N) (begins : HasNode eq starts first) where
    reached : (p : List N) (u : ℤ) → StepsCost eq edges first p u → InReach eq edges starts (end_of first p)
    reached p u c = InReach-after eq laws edges starts first p (follows_of p first u c) begins

    one_step : (p : List N) (x b : N) (u z : ℤ) → StepsCost eq edges first p u → end_of first p ≡ x → StepsCost eq edges x (b ∷ []) z → StepsCost eq edges first (p ++ b ∷ []) (u +ℤ z)
    one_step p x b u z c here s = more_steps p first b u z c (subst (λ (y : N). StepsCost eq edges y (b ∷ []) z) (sym here) s)

    from_zero : (w p : List N) (x : N) (u r : ℤ) → StepsCost eq edges first p u → end_of first p ≡ x → StepsCost eq edges x w r → pos 0 ≤ℤ r
    from_zero [] p x u r c here s = omega (arith, ints, s)
    from_zero (b ∷ w) p x u r c here s =
        let e = s.2 in
        let z = above.above_zero x b s.0 (subst (InReach eq edges starts) here (reached p u c)) e.edge in
        let next = one_step p x b u s.0 c here (s.0, pos 0, s.2, refl, omega (arith, ints)) in
        let rest = from_zero w (p ++ b ∷ []) b (u +ℤ s.0) s.1 next (end_more p first b) s.3 in
        omega (arith, ints, z, rest, s.4)

    fails_before : (w p : List N) (x : N) (u r t : ℤ) → StepsCost eq edges first p u → end_of first p ≡ x → StepsCost eq edges x w r → t ≡ u +ℤ r → NoGoalWalkCostsLess eq edges starts test t → FailsUpToEnd test x w
    fails_before [] p x u r t c here s sum best = tt
    fails_before (b ∷ w) p x u r t c here s sum best =
        let e = s.2 in
        let next = one_step p x b u s.0 c here (s.0, pos 0, s.2, refl, omega (arith, ints)) in
        elim (bool_dec (test x)) as (λ _. FailsUpToEnd test x (b ∷ w)) [
          | inl good ↦
              let low = best (first ∷ p) u (record { walks = follows_of p first u c; begins = begins; ends = subst (λ (y : N). test y ≡ true) (sym here) good }) c in
              let z = above.above_zero x b s.0 (subst (InReach eq edges starts) here (reached p u c)) e.edge in
              let rest = from_zero w (p ++ b ∷ []) b (u +ℤ s.0) s.1 next (end_more p first b) s.3 in
              absurd (omega (arith, ints, low, sum, z, rest, s.4))
          | inr bad ↦ (bad, fails_before w (p ++ b ∷ []) b (u +ℤ s.0) s.1 t next (end_more p first b) s.3 (omega (arith, ints, sum, s.4)) best)
        ]

  pub cheapest_is_clean : (path : List N) (t : ℤ) → IsCheapestGoalPath eq edges starts test path t → IsCheapestCleanPath eq edges starts test path t
  cheapest_is_clean [] t h = absurd h.costs
  cheapest_is_clean (a ∷ w) t h =
      let walk = h.goes.goes in
      record { clean = record { goes = h.goes; fails = fails_before a walk.begins w [] a (pos 0) t t refl refl h.costs (omega (arith, ints)) h.best }; costs = h.costs; best = h.best }

pub clean_is_cheapest : {N : Type 0} (eq : N → N → Bool) (edges : N → List (N × ℤ)) (starts : List N) (test : N → Bool) (path : List N) (t : ℤ) → IsCheapestCleanPath eq edges starts test path t → IsCheapestGoalPath eq edges starts test path t
clean_is_cheapest eq edges starts test path t h = let c = h.clean in record { goes = c.goes; costs = h.costs; best = h.best }
