-- What a search led by estimates answers, once it ends.
use Rattle.std.proofs.Common.{◌≡◌, ◌<◌, ℕ, ℤ, pos, Bool, true, List, [], ◌∷◌, length, slice_get, subst, sym, arith, inl}
use Rattle.std.specs.Prelude.{◌≤ℤ◌, ◌⊎◌, Some, All, IsSome}
use Rattle.std.specs.Cmp.{IsEquivalence}
use Rattle.std.specs.List.{IsDistinct, AllZip}
use Rattle.std.proofs.lemmas.Int.{ints}
use Rattle.std.proofs.lemmas.Option.{slice_get_within}
use Rattle.pf_base.specs.Edges.{InReach, IsSuccessor, IsCheapestGoalPath}
use Rattle.pf_base.specs.Walks.{end_of, HasNoGoalWalk}
use Rattle.pf_core.specs.declared.labels.Label.{Label}
use Rattle.pf_discovery.specs.declared.tested.TestedBy.{TestedBy}
use Rattle.pf_core.specs.Labels.{Labels, HasLabel, IsChain}
use Rattle.pf_core.specs.Nodes.{NodeGraph, StandsFor, IsStep}
use Rattle.pf_core.specs.NodeLaws.{StandsFor-one, StandsFor-inside}
use Rattle.pf_core.specs.Numbered.{Grows}
use Rattle.pf_core.specs.Steps.{GoesAlong, IsBestNumbered}
use Rattle.pf_core.proofs.LabelLemmas.{HasLabel-inside}
use Rattle.pf_core.proofs.NodeLemmas.{StandsFor-same}
use Rattle.pf_core.proofs.SearchLemmas.{best_grows}
use Rattle.pf_core.proofs.UnitLemmas.{begins_all}
use Rattle.pf_core.proofs.WalkLemmas.{all_starts, only_starts, no_negative, no_walk, best_answer}
use Rattle.pf_informed.specs.Estimates.{EstimateOverflows, NoGoalWalkFits}
use Rattle.pf_informed.specs.Internal.Forest.{IsForest}
use Rattle.pf_informed.specs.Internal.Fringe.{IsBelowGoals, IsBelowWaiting, IsTakenWithin}
use Rattle.pf_informed.specs.Internal.Informed.{IsInformed}
use Rattle.pf_informed.specs.Internal.Led.{IsLed}
use Rattle.pf_informed.specs.Internal.Waiting.{Entry, IsWaiting, IsTaken}
use Rattle.pf_informed.proofs.EstimateLemmas.{estimate_at}
use Rattle.pf_informed.proofs.GrowingLemmas.{limit_now}
use Rattle.pf_informed.proofs.InformedLemmas.{goal_above, no_goal_fits, no_goal, best_path}
use Rattle.pf_informed.proofs.NodeWalks.{never_above, stands_reached, estimate_is, overflow_at, no_walk_fits}
use Rattle.pf_informed.proofs.WiderLemmas.{all_labelled, some_unlabelled, no_label}

module _ {M N C S T H : Type 0} {keys_of : M → List N} {eq : N → N → Bool} (laws : IsEquivalence eq) {value : C → ℤ} {edge_answers : S → List N → (N → List (N × ℤ)) → Type 0} {test_answers : T → (N → Type 0) → (N → Bool) → Type 0} {estimate_answers : H → (N → Type 0) → (N → ℤ) → Type 0}
    {start : N} {edges : N → List (N × ℤ)} {test : N → Bool} {least : N → ℤ} {found : TestedBy M S T} {estimate : H} {kept : List C} (led : IsLed keys_of eq value edge_answers test_answers estimate_answers (record { starts = start ∷ []; edges = edges }) test least found estimate kept)
    (asked : length kept ≡ length (keys_of found.discovery.nodes)) (begins : StandsFor eq (keys_of found.discovery.nodes) 0 start) where
  abbrev graph : NodeGraph N
  graph = record { starts = start ∷ []; edges = edges }

  abbrev keys : List N
  keys = keys_of found.discovery.nodes

  abbrev is_start : N → Type 0
  is_start y = eq start y ≡ true

  begins_at : (s : N) → is_start s → StandsFor eq keys 0 s
  begins_at s e = StandsFor-same eq laws keys 0 start s begins e

  pub led_within : (k : ℕ) (x : N) → StandsFor eq keys k x → InReach eq edges (start ∷ []) x
  led_within = stands_reached eq laws graph led.explores.alike value least led.same_estimate keys led.explores.reached kept led.estimated asked

  pub led_estimate : (k : ℕ) (x : N) (h : C) → StandsFor eq keys k x → slice_get kept k ≡ Some h → value h ≡ least x
  led_estimate = estimate_is eq laws graph led.explores.alike value least led.same_estimate keys led.explores.reached kept led.estimated asked

  pub led_asked : (k : ℕ) (x : N) → StandsFor eq keys k x → (h : C) × (slice_get kept k ≡ Some h)
  led_asked k x st = estimate_at kept k (subst (λ (n : ℕ). k < n) (sym asked) (StandsFor-inside eq keys k x st))

  module _ (fits : ℤ → Type 0) (between : (x y z : ℤ) → fits x → fits z → x ≤ℤ y → y ≤ℤ z → fits y) (nothing : fits (pos 0)) (labels : Labels C) (wide : length labels ≡ length keys) (entries : List (Entry C)) (forest : IsForest value labels)
      (informed : IsInformed value fits kept (IsStep eq graph) test (StandsFor eq keys) labels entries (length keys)) where
    -- no walk to a goal costs less than what is taken out
    pub led_above : (number : ℕ) (cost : C) (entries' : List (Entry C)) (t : IsTaken value labels kept number cost entries entries') → fits (value cost)
        → (s : N) → eq start s ≡ true → (w : List N) (u : ℤ) → GoesAlong (IsStep eq graph) s w u → test (end_of s w) ≡ true → value t.label.cost ≤ℤ u
    led_above number cost entries' t fit s e w u goes good =
        let here = begins_all eq laws keys number (subst (λ (n : ℕ). number < n) wide (HasLabel-inside labels number t.label t.at)) in
        let low = goal_above value fits (IsStep eq graph) test (no_negative eq laws graph led.explores.alike led.costs) kept (StandsFor eq keys) labels entries forest (length keys) informed least s (begins_at s e) (InReach eq edges (start ∷ [])) led_within
        led.admissible.from_zero (never_above eq laws graph led.explores.alike test least led.admissible) led_estimate led_asked between nothing number cost entries' t fit here.0 here.1 w u goes good in
        omega (arith, ints, low, t.same)

    -- no walk to a goal costs less than the limit, which stayed or was raised to the least sum that waits
    pub led_limit : (old new : C) → (new ≡ old) ⊎ (fits (value new) × IsBelowWaiting value labels kept entries new) → IsBelowGoals (IsStep eq graph) test (λ s. eq start s ≡ true) (value old) → IsBelowGoals (IsStep eq graph) test (λ s. eq start s ≡ true) (value new)
    led_limit = limit_now value fits (IsStep eq graph) test (no_negative eq laws graph led.explores.alike led.costs) kept (StandsFor eq keys) labels entries forest (length keys) informed least (InReach eq edges (start ∷ [])) led_within
        led.admissible.from_zero (never_above eq laws graph led.explores.alike test least led.admissible) led_estimate led_asked between nothing is_start begins_at

    -- no walk to a goal costs less than what is taken out within such a limit
    pub led_in_limit : (number : ℕ) (cost limit : C) (entries' : List (Entry C)) (t : IsTakenWithin value labels kept number cost limit entries entries') → IsBelowGoals (IsStep eq graph) test (λ s. eq start s ≡ true) (value limit)
        → (s : N) → eq start s ≡ true → (w : List N) (u : ℤ) → GoesAlong (IsStep eq graph) s w u → test (end_of s w) ≡ true → value t.label.cost ≤ℤ u
    led_in_limit number cost limit entries' t low s e w u goes good =
        let here = begins_all eq laws keys number (subst (λ (n : ℕ). number < n) wide (HasLabel-inside labels number t.label t.at)) in
        omega (arith, ints, low s e w u goes good, t.within, t.same, led_estimate number here.0 t.estimate here.1 t.estimated, led.admissible.from_zero here.0 (led_within number here.0 here.1))

    -- the path to a goal that no walk undercuts
    pub led_best : (number : ℕ) (label : Label C) → HasLabel labels number label → (numbers : List ℕ) → IsChain labels number numbers → ((x : N) → StandsFor eq keys number x → test x ≡ true)
        → ((s : N) → eq start s ≡ true → (w : List N) (u : ℤ) → GoesAlong (IsStep eq graph) s w u → test (end_of s w) ≡ true → value label.cost ≤ℤ u)
        → (keys' : List N) → Grows (length keys) (length keys') (StandsFor eq keys) (StandsFor eq keys') → IsDistinct eq keys' → (nodes : List N) → AllZip (StandsFor eq keys') numbers nodes → (t : ℤ) → value label.cost ≡ t → IsCheapestGoalPath eq edges (start ∷ []) test nodes t
    led_best number label at numbers chain good above keys' grows distinct nodes zip t same =
        let best = best_path value fits (IsStep eq graph) test (no_negative eq laws graph led.explores.alike led.costs) kept (StandsFor eq keys) labels entries forest (length keys) informed is_start begins_at (start, laws.refl start) number label at numbers chain good above in
        let grown = best_grows (IsStep eq graph) test is_start is_start (λ y. ((λ e. e), (λ e. e))) (length keys) (length keys') (StandsFor eq keys) (StandsFor eq keys') grows numbers (value label.cost) best in
        best_answer eq laws graph led.explores.alike is_start (all_starts eq start is_start (λ y. ((λ e. e), (λ e. e)))) (only_starts eq start is_start (λ y. ((λ e. e), (λ e. e)))) test led.same_test
        keys' (StandsFor-one eq laws keys' distinct) numbers nodes t (subst (IsBestNumbered (IsStep eq graph) test is_start (StandsFor eq keys') numbers) same grown) zip

    module _ (none : (k : ℕ) (l : Label C) → HasLabel labels k l → ¬ (IsWaiting value kept entries k l)) where
      -- each node that was found has a label, and nothing waits
      pub led_none : All (λ o. IsSome o) labels → HasNoGoalWalk eq (IsSuccessor eq edges) (start ∷ []) test
      led_none all = no_walk eq laws graph led.explores.alike is_start (all_starts eq start is_start (λ y. ((λ e. e), (λ e. e)))) (only_starts eq start is_start (λ y. ((λ e. e), (λ e. e)))) test
          (λ s e w u goes good. no_goal value fits (IsStep eq graph) test (no_negative eq laws graph led.explores.alike led.costs) kept (StandsFor eq keys) labels entries forest (length keys) informed none
          (λ j y st. all_labelled labels all j (subst (λ (n : ℕ). j < n) (sym wide) (StandsFor-inside eq keys j y st))) w s 0 u (begins_at s e) goes good)

      -- some node has no label, and nothing waits
      pub led_past : ¬ (All (λ o. IsSome o) labels) → EstimateOverflows eq edges (start ∷ []) least fits × NoGoalWalkFits eq edges (start ∷ []) test fits
      led_past some =
          let p = no_negative eq laws graph led.explores.alike led.costs in
          let gap = some_unlabelled labels some in
          let inside : gap.0 < length keys = subst (λ (n : ℕ). gap.0 < n) wide (slice_get_within labels gap.0 _ gap.1) in (
            overflow_at eq laws graph led.explores.alike value fits between nothing test least led.admissible p keys (StandsFor-one eq laws keys led.explores.distinct) kept start begins (inl (laws.refl start)) led_within led_estimate labels entries forest (length keys) informed none gap.0 inside
                (λ l k. no_label labels gap.0 l gap.1 k),
            no_walk_fits eq laws graph led.explores.alike test fits (λ s e w u goes good. no_goal_fits value fits (IsStep eq graph) test p kept (StandsFor eq keys) labels entries forest (length keys) informed least s (begins_at s (all_starts eq start is_start (λ y. ((λ q. q), (λ q. q))) s e)) (InReach eq edges (start ∷ [])) led_within
                led.admissible.from_zero (never_above eq laws graph led.explores.alike test least led.admissible) led_estimate led_asked between nothing none w u goes good),
          )
