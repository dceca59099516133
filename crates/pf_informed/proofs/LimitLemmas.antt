-- From what a search to a limit found to walks over nodes.
use Rattle.std.proofs.Common.{◌≡◌, ◌≤◌, ◌<◌, ◌-◌, ℕ, Bool, true, false, true≢false, List, [], ◌∷◌, sym, subst, arith, inl, inr, ℤ, pos, negsuc, Some, None}
use Rattle.std.specs.Prelude.{◌≤ℤ◌, ◌<ℤ◌, ◌+ℤ◌, Contains}
use Rattle.std.specs.Cmp.{IsEquivalence}
use Rattle.std.proofs.lemmas.Int.{ints}
use Rattle.pf_base.specs.Walks.{HasNode, end_of}
use Rattle.pf_base.specs.Edges.{InReach}
use Rattle.pf_base.specs.Answers.{ListsEdges}
use Rattle.pf_core.specs.Steps.{GoesAlong, IsNonNegative, IsBestNumbered, NoGoalBelow}
use Rattle.pf_core.specs.Nodes.{NodeGraph, StandsFor, IsStep}
use Rattle.pf_core.proofs.FrontierLemmas.{walk_positive}
use Rattle.pf_base.proofs.ListLemmas.{int_dec, Contains-cases}
use Rattle.pf_core.proofs.WalkLemmas.{HasNode-same, walk_of_goes}
use Rattle.pf_informed.specs.Estimates.{EstimateOverflows}
use Rattle.pf_informed.specs.Internal.Forest.{nat_of}
use Rattle.pf_informed.specs.Internal.Rows.{IsCheapStep}
use Rattle.pf_deepening.specs.Ways.{IsCutOff}
use Rattle.pf_informed.specs.Internal.Deepening.{AllCovered, IsWayPast, IsWayTo}
use Rattle.pf_informed.proofs.KnownLemmas.{one_node}
use Rattle.pf_informed.proofs.NodeWalks.{cheap_is_step, cheap_of_goes, goes_of_cheap, costs_of_cheap}
use Rattle.pf_informed.proofs.ShortWays.{shorten}

-- a limit that rises below a greatest one
pub limit_rises : (a b top : ℤ) → pos 0 ≤ℤ a → a <ℤ b → b ≤ℤ top → nat_of top - nat_of b < nat_of top - nat_of a
limit_rises (pos a) (pos b) (pos t) l h m = let x : a < b = omega (arith, ints, h) in let y : b ≤ t = omega (arith, ints, m) in omega arith
limit_rises (pos a) (pos b) (negsuc t) l h m = absurd (omega (arith, ints, m))
limit_rises (pos a) (negsuc b) top l h m = absurd (omega (arith, ints, h))
limit_rises (negsuc a) b top l h m = absurd (omega (arith, ints, l))

module _ {N C : Type 0} (eq : N → N → Bool) (laws : IsEquivalence eq) (value : C → ℤ) (fits : ℤ → Type 0) (between : (x y z : ℤ) → fits x → fits z → x ≤ℤ y → y ≤ℤ z → fits y) (nothing : fits (pos 0))
    (g : NodeGraph N) (alike : (x y : N) → InReach eq g.edges g.starts x → eq x y ≡ true → ListsEdges eq (λ z. z) (g.edges x) (g.edges y)) (test : N → Bool) (same_test : (x y : N) → InReach eq g.edges g.starts x → eq x y ≡ true → test x ≡ test y) (p : IsNonNegative (IsStep eq g)) where
  pub cheap_from_zero : IsNonNegative (IsCheapStep eq g)
  cheap_from_zero = record { non_negative = λ a z b s. p.non_negative a z b (cheap_is_step eq laws g alike a z b s) }

  -- each walk to a goal is undercut by a way that was cut off
  module _ (keys : List N) (covers : ℤ → Type 0) (s : N) (here : StandsFor eq keys 0 s) (reach : InReach eq g.edges g.starts s) (all : AllCovered eq value (IsCheapStep eq g) test (StandsFor eq keys) covers (0 ∷ []) (pos 0) s) where
    pub covered_walk : (w : List N) (u : ℤ) → GoesAlong (IsStep eq g) s w u → test (end_of s w) ≡ true → (m : ℤ) × (pos 0 ≤ℤ m) × (m ≤ℤ u) × covers m
    covered_walk w u goes good =
        let short = shorten eq laws g alike test same_test p w s u reach goes good in
        let cheap = cheap_of_goes eq laws g alike short.nodes s short.cost short.goes in
        let from = walk_positive (IsCheapStep eq g) cheap_from_zero short.nodes s cheap.0 cheap.1 in
        let avoid : (k : ℕ) (x : N) → Contains (0 ∷ []) k → HasNode eq short.nodes x → ¬ (StandsFor eq keys k x) = λ k x c n t. elim (Contains-cases [] 0 k c) as (λ _. ⊥) [
          | inl e ↦ short.distinct.0 (HasNode-same eq laws short.nodes x s (one_node eq laws keys 0 x s (subst (λ (i : ℕ). StandsFor eq keys i x) (sym e) t) here) n)
          | inr m ↦ omega (arith, m.1)
        ] in
        let sum : pos 0 +ℤ cheap.0 ≡ cheap.0 = omega (arith, ints) in
        (cheap.0, from, omega (arith, ints, cheap.2, short.low), subst covers sum (all short.nodes cheap.0 cheap.1 short.good short.distinct.1 avoid))

  -- what the next limit is
  pub next_limit : (n : C) (past : Bool) (m u : ℤ) → fits (value n) → pos 0 ≤ℤ m → m ≤ℤ u → IsCutOff value fits (Some n) past m → value n ≤ℤ u
  next_limit n past m u f from low (inl h) = let e : Some n ≡ Some h.0 = h.1 in let one : n ≡ h.0 = cc in subst (λ (k : C). value k ≤ℤ u) (sym one) (omega (arith, ints, h.2, low))
  next_limit n past m u f from low (inr h) = elim (int_dec (value n) u) as (λ _. value n ≤ℤ u) [
    | inl l ↦ l
    | inr l ↦ absurd (h.1 (between (pos 0) m (value n) nothing f from (omega (arith, ints, l, low))))
  ]

  pub none_cut : (m : ℤ) → ¬ (IsCutOff value fits None false m)
  none_cut m (inl h) = let e : None ≡ Some h.0 = h.1 in cc
  none_cut m (inr h) = true≢false (sym h.0)

  pub none_fits : (past : Bool) (m u : ℤ) → pos 0 ≤ℤ m → m ≤ℤ u → IsCutOff value fits None past m → ¬ (fits u)
  none_fits past m u from low (inl h) k = let e : None ≡ Some h.0 = h.1 in cc
  none_fits past m u from low (inr h) k = h.1 (between (pos 0) m u nothing k from low)

  -- a way to a goal that no walk undercuts
  pub best_way : (keys : List N) (start : N) (numbers : List ℕ) (t limit : ℤ) → IsWayTo eq value fits g test (StandsFor eq keys) start numbers t → t ≤ℤ limit → NoGoalBelow (IsStep eq g) test (λ y. eq start y ≡ true) limit
      → IsBestNumbered (IsStep eq g) test (λ y. eq start y ≡ true) (StandsFor eq keys) numbers t
  best_way keys start numbers t limit h low none = record {
    first = start;
    is_start = laws.refl start;
    nodes = h.nodes;
    path = record { numbered = h.path.numbered; goes = goes_of_cheap eq laws g alike h.nodes start t h.path.goes; distinct = h.path.distinct };
    good = h.good;
    best = λ s is w u goes good. let l = none s is w u goes good in omega (arith, ints, low, l);
  }

  -- a way whose cost and estimate do not fit
  pub past_way : (least : N → ℤ) (start : N) → HasNode eq g.starts start → IsWayPast eq value fits g least start → EstimateOverflows eq g.edges g.starts least fits
  past_way least start is h = record {
    node = end_of start h.nodes;
    path = start ∷ h.nodes;
    cost = h.cost;
    goes = record { goes = record { walks = walk_of_goes eq laws g alike h.nodes start h.cost (goes_of_cheap eq laws g alike h.nodes start h.cost h.goes); begins = is; ends = laws.refl (end_of start h.nodes) }; distinct = h.distinct };
    costs = costs_of_cheap eq laws g alike h.nodes start h.cost h.goes;
    past = h.past;
  }
