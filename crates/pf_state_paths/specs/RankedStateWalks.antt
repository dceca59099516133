-- What contracts say of the lazy list of clean paths over states.
use Rattle.std.specs.Prelude.{◌≡◌, ℤ, Bool, List, Option, Result, Vec}
use Rattle.pf_base.specs.declared.error.PathError.{PathError}
use Rattle.pf_state_spaces.specs.StateSpaces.{edges_by, SpaceListsEdges}
use Rattle.pf_yen.specs.Walk.{PathWalk, IsPathWalk, PathStep, StepKeepsBar}

-- what a caller sees of a list of clean paths over states: the graph, the start, what is looked for, and the list, as one over functions, in the places of which these two stand
pub record StatePathWalk (N C S T : Type 0) : Type 0 where
  pub space : S
  pub start : N
  pub goal : T
  pub walk : PathWalk N C S T

-- the test is whether a state is what is looked for
abbrev pub GoalPasses : {N T : Type 0} → (T → N → Bool) → T → (N → Type 0) → (N → Bool) → Type 0
GoalPasses passes goal within test = test ≡ passes goal

module _ {N C S T : Type 0} (eq : N → N → Bool) (value : C → ℤ) (moves : S → N → List (Option (N × C))) (passes : T → N → Bool) (fits : ℤ → Type 0) where
  -- the list of clean paths is one of the graph of its states, from its start to its goals
  abbrev pub IsPathWalkOverStates : StatePathWalk N C S T → Type 0
  IsPathWalkOverStates s = IsPathWalk eq value (edges_by (moves s.space) value) s.start (passes s.goal) fits (SpaceListsEdges moves value) (GoalPasses passes) s.walk

  -- what a call of `next` gives, in the graph of the states from the start to the goals, and how it leaves the list: over these states, from this start, to these goals
  abbrev pub PathStepOverStates : {A : Type 0} → StatePathWalk N C S T → Option (Result (Vec N A × C) PathError) → StatePathWalk N C S T → Type 0
  PathStepOverStates s result t = (t.space ≡ s.space) × (t.start ≡ s.start) × (t.goal ≡ s.goal) × IsPathWalkOverStates t
      × PathStep eq value (edges_by (moves s.space) value) s.start (passes s.goal) fits s.walk result t.walk × StepKeepsBar s.walk result t.walk
