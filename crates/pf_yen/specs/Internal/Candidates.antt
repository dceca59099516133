-- The plans that are left, of which one may be chosen.
use Rattle.std.specs.Prelude.{◌≤ℤ◌, ℕ, ℤ, Bool, true, false, List, [], ◌∷◌, map, Contains, Option, Some, None}
use Rattle.std.specs.Option.{option_map}
use Rattle.pf_yen.specs.declared.candidate.Candidate.{Candidate}
use Rattle.pf_yen.specs.Internal.Classes.{Plan, plan_of}

module _ {C A : Type 0} where
  abbrev pub waiting_plans : List (Candidate C A) → List (Plan C)
  waiting_plans items = map plan_of items

  abbrev pub chosen_plan : Option (Candidate C A) → Option (Plan C)
  chosen_plan chosen = option_map plan_of chosen

-- the chosen plan, where there is one
abbrev pub as_list : {X : Type 0} → Option X → List X
as_list None = []
as_list (Some x) = x ∷ []

-- the path of the chosen plan, where it was given
abbrev pub last_given : {C : Type 0} → Bool → Option (Plan C) → List (List ℕ)
last_given false chosen = []
last_given true None = []
last_given true (Some c) = c.path ∷ []

module _ {C : Type 0} (value : C → ℤ) where
  -- no plan costs less than t
  abbrev pub NoneBelow : ℤ → List (Plan C) → Type 0
  NoneBelow t plans = (c : Plan C) → Contains plans c → t ≤ℤ value c.cost

  -- where the chosen plan was not given, no waiting plan costs less
  abbrev pub IsFirst : Bool → Option (Plan C) → List (Plan C) → Type 0
  IsFirst true chosen waiting = Unit {0}
  IsFirst false None waiting = Unit {0}
  IsFirst false (Some c) waiting = NoneBelow (value c.cost) waiting
