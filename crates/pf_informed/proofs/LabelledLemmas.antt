-- That a search which goes on until what waits is past the least cost labels each cheapest way exactly.
use Rattle.std.proofs.Common.{◌≡◌, ℕ, ◌<◌, Bool, true, false, List, [], ◌∷◌, ◌++◌, ◌∙◌, refl, sym, ap, subst, arith, inl, inr, ℤ, pos, Some, Option, None}
use Rattle.std.specs.Prelude.{◌⊎◌, ◌≤ℤ◌, ◌<ℤ◌, ◌+ℤ◌, slice_get, reverse, length}
use Rattle.std.specs.List.{IsDistinct}
use Rattle.std.specs.Cmp.{IsEquivalence}
use Rattle.std.proofs.lemmas.Int.{ints}
use Rattle.pf_base.specs.Walks.{end_of}
use Rattle.pf_base.specs.Edges.{InReach, HasNoNegativeCost, IsCheapestGoalPath, NoGoalWalkCostsLess}
use Rattle.pf_base.specs.Answers.{ListsEdges}
use Rattle.pf_base.proofs.Callers.{SameNodes-refl}
use Rattle.pf_core.specs.declared.labels.Label.{Label}
use Rattle.pf_core.specs.Labels.{Labels, HasLabel}
use Rattle.pf_core.proofs.LabelLemmas.{label_is}
use Rattle.pf_core.specs.Steps.{GoesAlong, IsNonNegative}
use Rattle.pf_core.specs.Nodes.{NodeGraph, StandsFor, IsStep}
use Rattle.pf_core.proofs.NodeLemmas.{eq-sym, eq-trans, InReach-more, StandsFor-same}
use Rattle.pf_core.proofs.WalkLemmas.{end_same, goes_same, walk_of_goes, no_negative, best_answer, all_starts, only_starts}
use Rattle.pf_informed.specs.Estimates.{IsAdmissible}
use Rattle.pf_core.specs.NodeLaws.{StandsFor-one, StandsFor-inside}
use Rattle.pf_core.proofs.UnitLemmas.{begins_all}
use Rattle.pf_informed.specs.Internal.Estimated.{IsEstimated}
use Rattle.pf_informed.specs.Internal.Forest.{IsForest}
use Rattle.pf_informed.specs.Internal.Waiting.{Entry, IsWaiting, SumOverflows, IsTaken}
use Rattle.pf_informed.specs.Internal.Informed.{IsInformed}
use Rattle.pf_informed.specs.Internal.Labelled.{IsPastBest}
use Rattle.pf_informed.proofs.PathUp.{climb_walk}
use Rattle.pf_informed.proofs.InformedLemmas.{frontier, goal_above, best_path}
use Rattle.pf_informed.proofs.EstimateLemmas.{estimate_at}
use Rattle.pf_informed.proofs.NodeWalks.{never_above, stands_reached, estimate_is, cheap_of_goes, costs_of_cheap}

module _ {N : Type 0} (eq : N → N → Bool) (laws : IsEquivalence eq) (g : NodeGraph N) (alike : (x y : N) → InReach eq g.edges g.starts x → eq x y ≡ true → ListsEdges eq (λ z. z) (g.edges x) (g.edges y)) where
  pub reach_along : (w : List N) (a : N) (t : ℤ) → InReach eq g.edges g.starts a → GoesAlong (IsStep eq g) a w t → InReach eq g.edges g.starts (end_of a w)
  reach_along [] a t r h = r
  reach_along (b ∷ w) a t r h = reach_along w b h.1 (InReach-more eq laws g.edges g.starts alike a b h.0 r h.2.1) h.3

  pub goes_on : (w : List N) (a : N) (v : List N) (t u : ℤ) → GoesAlong (IsStep eq g) a w t → GoesAlong (IsStep eq g) (end_of a w) v u → GoesAlong (IsStep eq g) a (w ++ v) (t +ℤ u)
  goes_on [] a v t u h k = subst (GoesAlong (IsStep eq g) a v) (let e : u ≡ t +ℤ u = omega (arith, ints, h) in e) k
  goes_on (b ∷ w) a v t u h k = (h.0, h.1 +ℤ u, h.2, goes_on w b v h.1 u h.3 k, omega (arith, ints, h.4))

  pub end_split : (w : List N) (a : N) (v : List N) → end_of a (w ++ v) ≡ end_of (end_of a w) v
  end_split [] a v = refl
  end_split (b ∷ w) a v = end_split w b v

  module _ {C : Type 0} (value : C → ℤ) (fits : ℤ → Type 0) (between : (x y z : ℤ) → fits x → fits z → x ≤ℤ y → y ≤ℤ z → fits y) (nothing : fits (pos 0)) (test : N → Bool) (same_test : (x y : N) → InReach eq g.edges g.starts x → eq x y ≡ true → test x ≡ test y)
      (least : N → ℤ) (adm : IsAdmissible eq g.edges g.starts test least) (p : IsNonNegative (IsStep eq g)) (keys : List N) (estimates : List C) (start : N) (begins : StandsFor eq keys 0 start)
      (within : (k : ℕ) (x : N) → StandsFor eq keys k x → InReach eq g.edges g.starts x) (estimated : (k : ℕ) (x : N) (h : C) → StandsFor eq keys k x → slice_get estimates k ≡ Some h → value h ≡ least x)
      (asked : (k : ℕ) (x : N) → StandsFor eq keys k x → (h : C) × (slice_get estimates k ≡ Some h))
      (labels : Labels C) (entries : List (Entry C)) (f : IsForest value labels) (found : ℕ) (i : IsInformed value fits estimates (IsStep eq g) (λ _. false) (StandsFor eq keys) labels entries found)
      (best : C) (past : (k : ℕ) (l : Label C) → HasLabel labels k l → IsWaiting value estimates entries k l → IsPastBest value estimates (Some best) k l) (fit : fits (value best))
      (low : (w : List N) (u : ℤ) → GoesAlong (IsStep eq g) start w u → test (end_of start w) ≡ true → value best ≤ℤ u) where
    same_stands : (k : ℕ) (x y : N) → StandsFor eq keys k x → StandsFor eq keys k y → eq x y ≡ true
    same_stands k x y a b =
        let e : Some a.0 ≡ Some b.0 = sym a.1 ∙ b.1 in
        let same : a.0 ≡ b.0 = cc in
        eq-trans eq laws x a.0 y (eq-sym eq laws a.0 x a.2) (subst (λ (z : N). eq z y ≡ true) (sym same) b.2)

    -- the label of a number is no less than what a walk to its node costs that goes on cheaply
    not_less : (k : ℕ) (l : Label C) (y : N) (v : List N) (u rest : ℤ) → HasLabel labels k l → StandsFor eq keys k y → GoesAlong (IsStep eq g) y v rest → test (end_of y v) ≡ true → (u +ℤ rest) ≤ℤ value best → u ≤ℤ value l.cost
    not_less k l y v u rest at here goes good cheap =
        let chain = f.climbs k l at in
        let up = climb_walk labels value (IsStep eq g) (λ x. x ≡ start) (StandsFor eq keys) f (start, refl, begins) i.linked chain.0 k l at chain.1 in
        let x = end_of up.first up.nodes in
        let same : eq y x ≡ true = same_stands k y x here up.here in
        let on = goes_same eq laws g alike v v y x rest same (SameNodes-refl eq laws.refl v) goes in
        let whole = goes_on up.nodes up.first v up.cost rest up.goes on in
        let last = same_test (end_of y v) (end_of x v) (reach_along v y rest (within k y here) goes) (end_same eq laws v v y x same (SameNodes-refl eq laws.refl v)) in
        let ends : test (end_of up.first (up.nodes ++ v)) ≡ true = ap test (end_split up.nodes up.first v) ∙ sym last ∙ good in
        let from_start = low (up.nodes ++ v) (up.cost +ℤ rest) (subst (λ (s : N). GoesAlong (IsStep eq g) s (up.nodes ++ v) (up.cost +ℤ rest)) up.is_start whole) (subst (λ (s : N). test (end_of s (up.nodes ++ v)) ≡ true) up.is_start ends) in
        omega (arith, ints, from_start, cheap, up.low)

    all_past : (k : ℕ) (x : N) (s t : ℤ) → StandsFor eq keys k x → pos 0 ≤ℤ s → SumOverflows value fits estimates k s → (s +ℤ least x) ≤ℤ t → t ≤ℤ value best → ⊥
    all_past k x s t here from dear cheap top =
        let up = adm.from_zero x (within k x here) in
        elim dear as (λ _. ⊥) [
          | inl n ↦ n (between (pos 0) s (value best) nothing fit from (omega (arith, ints, cheap, up, top)))
          | inr n ↦ let e = estimated k x n.0 here n.1 in n.2 (between (pos 0) (s +ℤ value n.0) (value best) nothing fit (omega (arith, ints, from, e, up)) (omega (arith, ints, e, cheap, top)))
        ]

    pub exact_label : (w v : List N) (u rest : ℤ) → GoesAlong (IsStep eq g) start w u → GoesAlong (IsStep eq g) (end_of start w) v rest → test (end_of (end_of start w) v) ≡ true → (u +ℤ rest) ≤ℤ value best
        → (k : ℕ) × (l : Label C) × HasLabel labels k l × StandsFor eq keys k (end_of start w) × (value l.cost ≡ u)
    exact_label w v u rest goes on good cheap =
        let z = f.first in
        elim (frontier value fits (IsStep eq g) (λ _. false) p estimates (StandsFor eq keys) labels entries f found i (IsStep eq g) (λ a y b h. h) w 0 z.0 (pos 0) start u z.1 (omega (arith, ints, z.2)) begins goes)
        as (λ _. (k : ℕ) × (l : Label C) × HasLabel labels k l × StandsFor eq keys k (end_of start w) × (value l.cost ≡ u)) [
          | inl r ↦
              let above = not_less r.number r.label (end_of start w) v u rest r.at r.here on good cheap in
              (r.number, r.label, r.at, r.here, omega (arith, ints, r.low, above))
          | inr r ↦
              let y = end_of start r.before in
              let joins : end_of start w ≡ end_of y r.after = ap (end_of start) r.is ∙ end_split r.before start r.after in
              let all_on = goes_on r.after y v r.rest rest r.goes_on (subst (λ (x : N). GoesAlong (IsStep eq g) x v rest) joins on) in
              let goal : test (end_of y (r.after ++ v)) ≡ true = ap test (end_split r.after y v) ∙ subst (λ (x : N). test (end_of x v) ≡ true) joins good in
              let left = never_above eq laws g alike test least adm y (within r.number y r.here) (r.after ++ v) (r.rest +ℤ rest) all_on goal in
              elim r.why as (λ _. (k : ℕ) × (l : Label C) × HasLabel labels k l × StandsFor eq keys k (end_of start w) × (value l.cost ≡ u)) [
                | inl a ↦
                    let b = past r.number a.0 a.1 a.2 in
                    let h = asked r.number y r.here in
                    let same : Some best ≡ Some b.0 = b.1 in
                    let is : best ≡ b.0 = cc in
                    absurd (omega (arith, ints, b.2 h.0 h.1, estimated r.number y h.0 r.here h.1, left, a.3, r.sums, cheap, ap value is))
                | inr a ↦ absurd (all_past r.number y a.0 (r.up_to +ℤ (r.rest +ℤ rest)) r.here a.1 a.3 (omega (arith, ints, a.2, left)) (omega (arith, ints, r.sums, cheap)))
              ]
        ]

pub by_cases : {A B : Type 0} (P : Type 0) → A ⊎ B → (A → P) → (B → P) → P
by_cases P (inl a) f h = f a
by_cases P (inr b) f h = h b

pub no_best : {C : Type 0} (b : C) → None ≡ Some b → ⊥
no_best b is = cc

-- ---- the path to the first goal that is taken out
module _ {N : Type 0} (eq : N → N → Bool) (laws : IsEquivalence eq) (start : N) (edges : N → List (N × ℤ)) (test : N → Bool) where
  abbrev graph : NodeGraph N
  graph = record { starts = start ∷ []; edges = edges }

  pub goal_path : {C : Type 0} → (alike : (x y : N) → InReach eq edges (start ∷ []) x → eq x y ≡ true → ListsEdges eq (λ z. z) (edges x) (edges y)) → HasNoNegativeCost eq edges (start ∷ []) → ((x y : N) → InReach eq edges (start ∷ []) x → eq x y ≡ true → test x ≡ test y)
      → (value : C → ℤ) (fits : ℤ → Type 0) → ((x y z : ℤ) → fits x → fits z → x ≤ℤ y → y ≤ℤ z → fits y) → fits (pos 0) → (least : N → ℤ) → ((x y : N) → InReach eq edges (start ∷ []) x → eq x y ≡ true → least x ≡ least y) → IsAdmissible eq edges (start ∷ []) test least
      → (keys : List N) → ((k : ℕ) (x : N) → slice_get keys k ≡ Some x → InReach eq edges (start ∷ []) x) → IsDistinct eq keys → (estimates : List C) → IsEstimated value least (slice_get keys) estimates → length estimates ≡ length keys → StandsFor eq keys 0 start
      → (labels : Labels C) (entries : List (Entry C)) → IsForest value labels → IsInformed value fits estimates (IsStep eq (record { starts = start ∷ []; edges = edges })) test (StandsFor eq keys) labels entries (length keys)
      → (number : ℕ) (cost : C) (entries' : List (Entry C)) (t : IsTaken value labels estimates number cost entries entries') → fits (value cost) → number < length keys → ((x : N) → StandsFor eq keys number x → test x ≡ true)
      → (path : List N) × IsCheapestGoalPath eq edges (start ∷ []) test path (value cost)
  goal_path {C} alike costs same_test value fits between nothing least same_least adm keys reached distinct estimates known asked begins labels entries f i number cost entries' t fit inside good =
      let p = no_negative eq laws graph alike costs in
      let within = stands_reached eq laws graph alike value least same_least keys reached estimates known asked in
      let estimated = estimate_is eq laws graph alike value least same_least keys reached estimates known asked in
      let here = begins_all eq laws keys number inside in
      let above : (s0 : N) → eq start s0 ≡ true → (u : List N) (z : ℤ) → GoesAlong (IsStep eq graph) s0 u z → test (end_of s0 u) ≡ true → value t.label.cost ≤ℤ z = λ s0 e u z goes at.
      let low = goal_above value fits (IsStep eq graph) test p estimates (StandsFor eq keys) labels entries f (length keys) i least s0 (StandsFor-same eq laws keys 0 start s0 begins e) (InReach eq edges (start ∷ [])) within adm.from_zero (never_above eq laws graph alike test least adm) estimated
      (λ k y st. estimate_at estimates k (subst (λ (n : ℕ). k < n) (sym asked) (StandsFor-inside eq keys k y st))) between nothing
      number cost entries' t fit here.0 here.1 u z goes at in
      omega (arith, ints, low, t.same) in
      let chain = f.climbs number t.label t.at in
      let numbers = reverse (number ∷ chain.0) in
      let best = best_path value fits (IsStep eq graph) test p estimates (StandsFor eq keys) labels entries f (length keys) i (λ y. eq start y ≡ true) (λ s0 e. StandsFor-same eq laws keys 0 start s0 begins e) (start, laws.refl start) number t.label t.at numbers
      (record { above = chain.0; climbs = chain.1; is = refl }) good above in
      let answer = best_answer eq laws graph alike (λ y. eq start y ≡ true) (all_starts eq start (λ y. eq start y ≡ true) (λ y. ((λ e. e), (λ e. e)))) (only_starts eq start (λ y. eq start y ≡ true) (λ y. ((λ e. e), (λ e. e)))) test same_test
      keys (StandsFor-one eq laws keys distinct) numbers (best.first ∷ best.nodes) (value t.label.cost) best best.path.numbered in
      (best.first ∷ best.nodes, subst (IsCheapestGoalPath eq edges (start ∷ []) test (best.first ∷ best.nodes)) t.same answer)

-- ---- all that waits is past the least cost, where what was taken out is
pub past_all : {C : Type 0} (value : C → ℤ) (labels : Labels C) (estimates : List C) (entries entries' : List (Entry C)) (number : ℕ) (cost : C) (t : IsTaken value labels estimates number cost entries entries')
    → (best : Option C) (b : C) → best ≡ Some b → (e : C) → slice_get estimates number ≡ Some e → value b <ℤ (value cost +ℤ value e) → (k : ℕ) (l : Label C) → HasLabel labels k l → IsWaiting value estimates entries k l → IsPastBest value estimates best k l
past_all {C} value labels estimates entries entries' number cost t best b is e at past k l here w = elim (t.left k l here w) as (λ _. IsPastBest value estimates best k l) [
  | inl same ↦ (
    b,
    is,
    λ h a.
        let own = ap (λ (m : Label C). value m.cost) (label_is labels number t.label l t.at (subst (λ (n : ℕ). HasLabel labels n l) same here)) in
        let one = ap value (one_estimate (slice_get estimates number) h e (subst (λ (n : ℕ). slice_get estimates n ≡ Some h) same a) at) in
        omega (arith, ints, past, own, t.same, one),
  )
  | inr left ↦ (
    b,
    is,
    λ h a.
        let sum = left.3 in
        let one = ap value (one_estimate (slice_get estimates k) sum.0 h sum.1 a) in
        let own = ap value (one_estimate (slice_get estimates number) t.estimate e t.estimated at) in
        omega (arith, ints, past, t.least left.0 left.1, sum.2, one, own),
  )
]
  where
    one_estimate : (o : Option C) (a b : C) → o ≡ Some a → o ≡ Some b → a ≡ b
    one_estimate o a b h k = let e : Some a ≡ Some b = sym h ∙ k in cc

-- no walk along steps to a goal costs less than no walk over nodes does
pub low_of : {N : Type 0} (eq : N → N → Bool) (laws : IsEquivalence eq) (start : N) (edges : N → List (N × ℤ)) (test : N → Bool) → ((x y : N) → InReach eq edges (start ∷ []) x → eq x y ≡ true → ListsEdges eq (λ z. z) (edges x) (edges y))
    → (t : ℤ) → NoGoalWalkCostsLess eq edges (start ∷ []) test t → (w : List N) (u : ℤ) → GoesAlong (IsStep eq (record { starts = start ∷ []; edges = edges })) start w u → test (end_of start w) ≡ true → t ≤ℤ u
low_of {N} eq laws start edges test alike t best w u goes good =
    let h : NodeGraph N = record { starts = start ∷ []; edges = edges } in
    let m = cheap_of_goes eq laws h alike w start u goes in
    let low = best (start ∷ w) m.0 (record { walks = walk_of_goes eq laws h alike w start u goes; begins = inl (laws.refl start); ends = good }) (costs_of_cheap eq laws h alike w start m.0 m.1) in
    omega (arith, ints, low, m.2)
