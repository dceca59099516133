-- Plans while one is chosen, given and split.
use Rattle.std.specs.Prelude.{◌≡◌, ◌++◌, ℕ, ℤ, Bool, List, length, Option, Some, None, MatchBool}
use Rattle.std.specs.BinaryHeap.{heap_items}
use Rattle.std.specs.declared.cmp.Ordering.{Ordering}
use Rattle.pf_core.specs.Steps.{NumberedOverflows}
use Rattle.pf_yen.specs.declared.candidate.Candidate.{Candidate}
use Rattle.pf_yen.specs.declared.candidates.Candidates.{Candidates}
use Rattle.pf_yen.specs.Internal.Adjacency.{AdjacencyLists, AdjacencyStep, is_goal}
use Rattle.pf_yen.specs.Internal.Classes.{Plan, IsPartition}
use Rattle.pf_yen.specs.Internal.Candidates.{waiting_plans, chosen_plan, as_list, last_given, NoneBelow, IsFirst}
use Rattle.pf_yen.specs.Internal.Filtered.{StandsForItself}
use Rattle.pf_yen.specs.Internal.Splits.{ClassOverflows}

module _ {C A : Type 0} where
  -- the cheapest candidate first
  abbrev pub first_cmp : (C → C → Ordering) → Candidate C A → Candidate C A → Ordering
  first_cmp cmp x y = cmp y.cost x.cost

  -- all plans that are left: the chosen one, where there is one, and those that wait
  abbrev pub plans_left : Candidates C A → List (Plan C)
  plans_left plans = as_list (chosen_plan plans.chosen) ++ waiting_plans (heap_items plans.waiting)

  -- the path of the chosen plan, where it was given
  abbrev pub just_given : Candidates C A → List (List ℕ)
  just_given plans = last_given plans.is_given (chosen_plan plans.chosen)

  -- the same plan is chosen, the same ones wait, and as much was begun and given
  abbrev pub ArePlansKept : Candidates C A → Candidates C A → Type 0
  ArePlansKept plans plans' = (chosen_plan plans'.chosen ≡ chosen_plan plans.chosen) × (waiting_plans (heap_items plans'.waiting) ≡ waiting_plans (heap_items plans.waiting)) × (plans'.is_given ≡ plans.is_given) × (plans'.has_begun ≡ plans.has_begun)

module _ {C : Type 0} (value : C → ℤ) where
  -- where the chosen one of these plans was not given, no waiting one costs less
  abbrev pub ComesFirst : {A : Type 0} → Bool → Candidates C A → Type 0
  ComesFirst is_given plans = IsFirst value is_given (chosen_plan plans.chosen) (waiting_plans (heap_items plans.waiting))

  -- a sum that does not fit was met on the way to a first path: a cheapest path from number 0 to some number, and one step more
  abbrev pub IsPastAtFirst : AdjacencyLists C → (ℤ → Type 0) → Type 0
  IsPastAtFirst adjacency fits = NumberedOverflows (AdjacencyStep value adjacency) (is_goal adjacency) (StandsForItself (length adjacency.rows) 0) (StandsForItself (length adjacency.rows)) fits

  -- a sum that does not fit was met in a class that is split off that of the chosen plan
  abbrev pub ChosenOverflows : AdjacencyLists C → (ℤ → Type 0) → Option (Plan C) → Type 0
  ChosenOverflows adjacency fits None = ⊥
  ChosenOverflows adjacency fits (Some c) = ClassOverflows value adjacency fits c

  -- a sum that does not fit was met while a plan was looked for: a first one, or one in place of the chosen plan
  abbrev pub PlansOverflow : {A : Type 0} → AdjacencyLists C → (ℤ → Type 0) → Candidates C A → Type 0
  PlansOverflow adjacency fits plans = MatchBool plans.has_begun (ChosenOverflows adjacency fits (chosen_plan plans.chosen)) (IsPastAtFirst adjacency fits)

  -- What a change of the plans keeps: they share out the clean paths with those before, and none is cheaper than before.
  pub record GoesOn (adjacency : AdjacencyLists C) (plans plans' : List (Plan C)) (more : List (List ℕ)) : Type 0 where
    pub partition : (before : List (List ℕ)) → IsPartition value adjacency plans before → IsPartition value adjacency plans' (before ++ more)
    pub dearer : (t : ℤ) → NoneBelow value t plans → NoneBelow value t plans'
