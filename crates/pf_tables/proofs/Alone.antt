-- Searches from a node that nothing follows.
use Rattle.std.proofs.Common.{◌≡◌, inl, inr, ℤ, pos, refl, sym, ◌∙◌, arith, Bool, true, false, true≢false, List, [], ◌∷◌, length}
use mathlib.Core.Bool.{not}
use Rattle.std.specs.Prelude.{◌≤◌, ◌≤ℤ◌}
use Rattle.std.specs.Cmp.{IsEquivalence}
use Rattle.std.proofs.lemmas.Int.{ints}
use Rattle.pf_base.specs.Walks.{HasNoGoalWalk, IsGoalWalk, IsGoalPath}
use Rattle.pf_base.specs.Edges.{IsSuccessor, NoGoalWalkCostsLess, IsCheapestGoalPath}
use Rattle.pf_base.specs.Successors.{HasSuccessor, IsFewestEdgesGoalPath}

module _ {N : Type 0} {eq : N → N → Bool} (laws : IsEquivalence eq) (from : N) (test : N → Bool) (same : (a : N) → eq from a ≡ true → test from ≡ test a) where
  module _ (step : N → N → Type 0) (dead : (a b : N) → eq from a ≡ true → ¬ (step a b)) where
    none_alone : test from ≡ false → HasNoGoalWalk eq step (from ∷ []) test
    none_alone t [] g = g.walks
    none_alone t (a ∷ []) g = elim g.begins as (λ _. ⊥) [ inl e ↦ true≢false (sym g.ends ∙ sym (same a e) ∙ t) | inr n ↦ n ]
    none_alone t (a ∷ b ∷ w) g = elim g.begins as (λ _. ⊥) [ inl e ↦ dead a b e g.walks.0 | inr n ↦ n ]

    goal_alone : test from ≡ true → IsGoalPath eq step (from ∷ []) test (from ∷ [])
    goal_alone t = record { goes = record { walks = tt; begins = inl (laws.refl from); ends = t }; distinct = ((λ h. h), tt) }

  module _ (edges : N → List (N × ℤ)) (none : (a : N) → eq from a ≡ true → edges a ≡ []) where
    no_edge : (a b : N) → eq from a ≡ true → ¬ (IsSuccessor eq edges a b)
    no_edge a b e h = rw (none a e) at h.1

    pub no_walk_alone : test from ≡ false → HasNoGoalWalk eq (IsSuccessor eq edges) (from ∷ []) test
    no_walk_alone = none_alone (IsSuccessor eq edges) no_edge

    pub cheapest_alone : test from ≡ true → IsCheapestGoalPath eq edges (from ∷ []) test (from ∷ []) (pos 0)
    cheapest_alone t = record { goes = goal_alone (IsSuccessor eq edges) no_edge t; costs = refl; best = least }
      where
        least : NoGoalWalkCostsLess eq edges (from ∷ []) test (pos 0)
        least [] u g c = absurd c
        least (a ∷ []) u g c = omega (arith, ints, c)
        least (a ∷ b ∷ w) u g c = elim g.begins as (λ _. pos 0 ≤ℤ u) [ inl e ↦ absurd (no_edge a b e g.walks.0) | inr n ↦ absurd n ]

  module _ (next : N → List N) (none : (a : N) → eq from a ≡ true → next a ≡ []) where
    no_successor : (a b : N) → eq from a ≡ true → ¬ (HasSuccessor eq next a b)
    no_successor a b e h = rw (none a e) at h

    pub no_way_alone : test from ≡ false → HasNoGoalWalk eq (HasSuccessor eq next) (from ∷ []) test
    no_way_alone = none_alone (HasSuccessor eq next) no_successor

    pub fewest_alone : test from ≡ true → IsFewestEdgesGoalPath eq next (from ∷ []) test (from ∷ [])
    fewest_alone t = record { goes = goal_alone (HasSuccessor eq next) no_successor t; fewest = least }
      where
        least : (walk : List N) → IsGoalWalk eq (HasSuccessor eq next) (from ∷ []) test walk → 1 ≤ length walk
        least [] g = absurd g.walks
        least (a ∷ w) g = omega arith

-- what the test for another node says
pub an_other : (same other : Bool) → other ≡ not same → other ≡ true → same ≡ false
an_other true other e h = absurd (true≢false (sym h ∙ e))
an_other false other e h = refl

pub no_other : (same other : Bool) → other ≡ not same → other ≡ false → same ≡ true
no_other true other e h = refl
no_other false other e h = absurd (true≢false (sym e ∙ h))
