-- Lemmas on searches of the whole reach.
use Rattle.std.proofs.Common.{◌≡◌, Bool, true, false, true≢false, Option, Some, None, List, [], ◌∷◌, ◌∙◌, sym, inl, inr, ◌⊎◌, ℤ}
use Rattle.std.specs.Cmp.{IsEquivalence}
use Rattle.pf_base.specs.Walks.{Follows, IsWalk, BeginsAt, EndsAt, end_of}
use Rattle.pf_base.specs.Edges.{IsSuccessor, InReach}
use Rattle.pf_base.specs.Answers.{ListsEdges}
use Rattle.pf_core.proofs.NodeLemmas.{eq-trans, HasEdge-same, InReach-start, InReach-more}
use Rattle.pf_search.specs.Parents.{IsCheapestMap, IsPartialMap}

module _ {N : Type 0} (eq : N → N → Bool) (laws : IsEquivalence eq) {C : Type 0} (value : C → ℤ) (edges : N → List (N × ℤ)) (start : N)
    (alike : (x y : N) → InReach eq edges (start ∷ []) x → eq x y ≡ true → ListsEdges eq (λ z. z) (edges x) (edges y)) where
  -- the end of a walk is its first node, or has a step to it from a node in reach
  last_step : (w : List N) (a x : N) → InReach eq edges (start ∷ []) a → Follows (IsSuccessor eq edges) a w → eq (end_of a w) x ≡ true → (eq a x ≡ true) ⊎ ((node : N) × InReach eq edges (start ∷ []) node × IsSuccessor eq edges node x)
  last_step [] a x r f e = inl e
  last_step (b ∷ w) a x r f e = elim (last_step w b x (InReach-more eq laws edges (start ∷ []) alike a b f.0.0 r f.0.1) f.1 e) as (λ _. (eq a x ≡ true) ⊎ ((node : N) × InReach eq edges (start ∷ []) node × IsSuccessor eq edges node x)) [
    | inl q ↦ inr (a, r, (f.0.0, HasEdge-same eq laws (edges a) b x f.0.0 q f.0.1))
    | inr q ↦ inr q
  ]

  -- to each node in reach save the start leads a step from a node in reach
  step_to : (x : N) → InReach eq edges (start ∷ []) x → eq start x ≡ false → (node : N) × InReach eq edges (start ∷ []) node × IsSuccessor eq edges node x
  step_to x r other = by r.walk r.goes.walks r.goes.begins r.goes.ends
    where
      by : (v : List N) → IsWalk (IsSuccessor eq edges) v → BeginsAt eq (start ∷ []) v → EndsAt eq (λ y. eq y x) v → (node : N) × InReach eq edges (start ∷ []) node × IsSuccessor eq edges node x
      by [] f b e = absurd f
      by (a ∷ v) f (inr b) e = absurd b
      by (a ∷ v) f (inl b) e = elim (last_step v a x (InReach-start eq laws edges (start ∷ []) a a (inl b) (laws.refl a)) f e) as (λ _. (node : N) × InReach eq edges (start ∷ []) node × IsSuccessor eq edges node x) [
        | inl q ↦ absurd (true≢false (sym (eq-trans eq laws start a x b q) ∙ other))
        | inr q ↦ q
      ]

  module _ (entry : N → Option (N × C)) where
    whole : IsPartialMap eq edges start value entry (λ _. false) None → IsCheapestMap eq edges start value entry
    whole p = record {
      reached = λ x. (
        (λ h. let s = (p.reached x).0 h in (InReach-more eq laws edges (start ∷ []) alike s.1.0 x s.1.2.0 (p.in_reach s.1.0 s.1.1) s.1.2.1, s.0)),
        (λ h. let s = step_to x h.0 h.1 in (p.reached x).1 (h.1, (s.0, p.stopped s.0 s.1, s.2))),
      );
      cheapest = λ x parent cost e. p.cheapest x parent cost e tt;
      behind = λ x parent cost e. (p.behind x parent cost e).1;
      no_ring = p.no_ring;
      to_start = p.to_start;
    }

    -- a search with no stopping node is one of the whole reach
    pub all_of_partial : (stop : Option N) → IsPartialMap eq edges start value entry (λ _. false) stop → IsCheapestMap eq edges start value entry
    all_of_partial None p = whole p
    all_of_partial (Some node) p = absurd (true≢false (sym p.stopped))
