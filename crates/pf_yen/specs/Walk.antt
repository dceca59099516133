-- What contracts say of the lazy list of clean paths by rising cost.
use Rattle.std.specs.Prelude.{◌≡◌, ◌⊎◌, ◌-◌, ◌^◌, ◌↔◌, ◌++◌, ℕ, suc, ℤ, Bool, if◌then◌else◌, true, false, List, [], ◌∷◌, length, Option, Some, None, Result, Ok, Err, refl, Vec}
use Rattle.std.specs.Coded.{Coded, code_by, coded×, coded_bool, coded_list}
use Rattle.pf_base.specs.declared.error.PathError.{PathError}
use Rattle.pf_base.specs.Edges.{HasNoNegativeCost, InReach}
use Rattle.pf_core.specs.Nodes.{Explores}
use Rattle.pf_discovery.specs.Sources.{AnswersEdges}
use Rattle.pf_yen.specs.CleanPaths.{AllGiven, IsNextPath, RefusedFor}
use Rattle.pf_yen.specs.Counting.{most_paths}
use Rattle.pf_yen.specs.Internal.PathPlans.{PathPlans, path_plans_code}
use Rattle.pf_yen.specs.Internal.PlannedSearch.{IsPlannedSearch}

-- what a caller sees of a walk: the paths given so far, with their costs; whether the last step was refused; whether the step to come was refused for a cost overflow; whether all clean paths were given and none was left to look for; the functions that list edges and test nodes; and what was learned and planned so far, of which a caller need know nothing
pub record PathWalk (N C F T : Type 0) : Type 0 where
  pub given : List (List N × C)
  pub refused : Bool
  pub barred : Bool
  pub ended : Bool
  pub successors : F
  pub success : T
  pub plans : PathPlans N C

abbrev pub path_walk_code : {N C F T : Type 0} → Coded N → Coded C → Coded F → Coded T → Coded (PathWalk N C F T)
path_walk_code {N} {C} {F} {T} n c f t = code_by (List (List N × C) × (Bool × (Bool × (Bool × (F × (T × PathPlans N C))))))
    (coded× (coded_list (coded× (coded_list n) c)) (coded× coded_bool (coded× coded_bool (coded× coded_bool (coded× f (coded× t (path_plans_code n c)))))))
    (λ w. (w.given, (w.refused, (w.barred, (w.ended, (w.successors, (w.success, w.plans)))))))
    (λ p. record { given = p.0; refused = p.1.0; barred = p.1.1.0; ended = p.1.1.1.0; successors = p.1.1.1.1.0; success = p.1.1.1.1.1.0; plans = p.1.1.1.1.1.1 }) (λ _. refl)

-- at most so many items come before a call of `resume`: as many paths as are left of those that there can be over nodes numbered by a machine word, and a refusal; none after a refusal
abbrev pub most_items : {N C F T : Type 0} → PathWalk N C F T → ℕ
most_items walk = if walk.refused then 0 else suc (most_paths (2 ^ 64) - length walk.given)

-- the walk is at its end: all clean paths were given, and none was left to look for
abbrev pub IsEnded : {N C F T : Type 0} → PathWalk N C F T → Type 0
IsEnded walk = walk.ended ≡ true

-- the walk stands before a step that was refused for a cost overflow
abbrev pub IsBarred : {N C F T : Type 0} → PathWalk N C F T → Type 0
IsBarred walk = walk.barred ≡ true

-- A step that was refused for a cost overflow is refused for it again: where the walk stands before one, a call of `next` gives neither a path nor the end, and no other refusal.
-- A call leaves the walk before such a step exactly where it gives a cost overflow. It gives no path also where the last step was refused, and then leaves the walk where it stood.
abbrev pub StepKeepsBar : {N C F T X : Type 0} → PathWalk N C F T → Option (Result X PathError) → PathWalk N C F T → Type 0
StepKeepsBar walk (Some (Ok item)) after = ¬ (IsBarred walk) × ¬ (IsBarred after)
StepKeepsBar walk None after = (IsBarred walk → walk.refused ≡ true) × (IsBarred after ↔ IsBarred walk)
StepKeepsBar walk (Some (Err refusal)) after = (IsBarred walk → refusal ≡ PathError.CostOverflow) × (IsBarred after ↔ (refusal ≡ PathError.CostOverflow))

module _ {N C F T : Type 0} (eq : N → N → Bool) (value : C → ℤ) (edges : N → List (N × ℤ)) (start : N) (test : N → Bool) where
  -- The walk is one of this graph from this start: its functions answer the graph and the test in reach, where no edge costs less than 0; what was learned and planned is so; and where it stands before a step that was refused for a cost overflow, that refusal may come, and the walk is not at its end.
  pub record IsPathWalk (fits : ℤ → Type 0) (edge_answers : F → (N → Type 0) → (N → List (N × ℤ)) → Type 0) (test_answers : T → (N → Type 0) → (N → Bool) → Type 0) (walk : PathWalk N C F T) : Type 0 where
    pub explored : Explores eq (AnswersEdges eq edge_answers) (record { starts = start ∷ []; edges = edges }) walk.plans.nodes (record { function = walk.successors })
    pub tested : test_answers walk.success (InReach eq edges (start ∷ [])) test
    pub costs : HasNoNegativeCost eq edges (start ∷ [])
    pub planned : IsPlannedSearch eq value edges start test walk.given walk.ended walk.plans
    pub bar : IsBarred walk → RefusedFor eq edges start test value fits walk.given PathError.CostOverflow × ¬ (IsEnded walk)

  module _ {A : Type 0} (fits : ℤ → Type 0) where
    -- What a call of `next` gives, and how it leaves the walk.
    -- a path: the next by rising cost, which is the last of the given ones from then on
    -- no path: the last step was refused, or each clean path was given and the walk is at its end
    -- a refusal, of which a walk at its end knows none: the given paths stay
    abbrev pub PathStep : PathWalk N C F T → Option (Result (Vec N A × C) PathError) → PathWalk N C F T → Type 0
    PathStep walk (Some (Ok item)) after = (walk.refused ≡ false) × (after.refused ≡ false) × IsNextPath eq edges start test value walk.given item.0.items item.1 × (after.given ≡ walk.given ++ (item.0.items, item.1) ∷ [])
    PathStep walk None after = ((walk.refused ≡ true) ⊎ (AllGiven eq edges start test value walk.given × IsEnded after)) × (after.refused ≡ walk.refused) × (after.given ≡ walk.given)
    PathStep walk (Some (Err refusal)) after = (walk.refused ≡ false) × (after.refused ≡ true) × RefusedFor eq edges start test value fits walk.given refusal × (after.given ≡ walk.given) × ¬ (IsEnded walk)

module _ {N C F T : Type 0} (eq : N → N → Bool) (value : C → ℤ) (fits : ℤ → Type 0) (edge_answers : F → (N → Type 0) → (N → List (N × ℤ)) → Type 0) (test_answers : T → (N → Type 0) → (N → Bool) → Type 0) (walk : PathWalk N C F T) where
  -- the walk is one of some graph, from some start
  abbrev pub IsSomePathWalk : Type 0
  IsSomePathWalk = (edges : N → List (N × ℤ)) × (start : N) × (test : N → Bool) × IsPathWalk eq value edges start test fits edge_answers test_answers walk

  -- of whatever graph the walk is one, and from whatever start, P holds
  abbrev pub OfPathWalk : ((N → List (N × ℤ)) → N → (N → Bool) → Type 0) → Type 0
  OfPathWalk P = (edges : N → List (N × ℤ)) (start : N) (test : N → Bool) → IsPathWalk eq value edges start test fits edge_answers test_answers walk → P edges start test
