-- Clean paths: paths from the start that meet a node that passes the test at their end alone.
use Rattle.std.specs.Prelude.{◌≡◌, ◌⊎◌, ◌≤ℤ◌, ◌+ℤ◌, ◌<◌, ℤ, Bool, true, false, List, [], ◌∷◌, ◌++◌, length, All, Contains, ⊤}
use Rattle.pf_base.specs.declared.error.PathError.{PathError}
use Rattle.pf_base.specs.Walks.{IsGoalPath, NoRepeats, IsWalk, end_of}
use Rattle.pf_base.specs.Edges.{IsSuccessor, StepCosts, WalkCosts, CostOverflows}
use Rattle.pf_base.specs.Answers.{SameNodes}

-- each node of a and w but the last fails the test
abbrev pub FailsBeforeEnd : {N : Type 0} → (N → Bool) → N → List N → Type 0
FailsBeforeEnd test a [] = ⊤
FailsBeforeEnd test a (b ∷ w) = (test a ≡ false) × FailsBeforeEnd test b w

-- each node of the path but the last fails the test
abbrev pub PassesAtEndAlone : {N : Type 0} → (N → Bool) → List N → Type 0
PassesAtEndAlone test [] = ⊤
PassesAtEndAlone test (a ∷ w) = FailsBeforeEnd test a w

-- the path begins with the nodes of the prefix, and x comes next
abbrev pub GoesOnTo : {N : Type 0} → (N → N → Bool) → List N → List N → N → Type 0
GoesOnTo eq [] [] x = ⊥
GoesOnTo eq [] (y ∷ path) x = eq y x ≡ true
GoesOnTo eq (a ∷ prefix) [] x = ⊥
GoesOnTo eq (a ∷ prefix) (y ∷ path) x = (eq a y ≡ true) × GoesOnTo eq prefix path x

-- the path goes on from the prefix to a node to which no given path goes on from it
abbrev pub LeavesGiven : {N C : Type 0} → (N → N → Bool) → List (List N × C) → List N → List N → Type 0
LeavesGiven {N} {C} eq given prefix path = (x : N) × GoesOnTo eq prefix path x × ((g : List N × C) → Contains given g → ¬ (GoesOnTo eq prefix g.0 x))

module _ {N : Type 0} (eq : N → N → Bool) (edges : N → List (N × ℤ)) (start : N) (test : N → Bool) where
  -- a path from the start to a node that passes the test, and no node before it passes
  pub record IsCleanPath (path : List N) : Type 0 where
    pub goes : IsGoalPath eq (IsSuccessor eq edges) (start ∷ []) test path
    pub fails : PassesAtEndAlone test path

  -- A path from the start, in which no node stands twice and none passes the test, and one step more, by the cheapest of the parallel edges, cost more than fits.
  pub record PathOverflows (fits : ℤ → Type 0) : Type 0 where
    pub first : N
    pub rest : List N
    pub begins : eq start first ≡ true
    pub walks : IsWalk (IsSuccessor eq edges) (first ∷ rest)
    pub distinct : NoRepeats eq (first ∷ rest)
    pub fails : All (λ x. test x ≡ false) (first ∷ rest)
    pub cost : ℤ
    pub costs : WalkCosts eq edges (first ∷ rest) cost
    pub next : N
    pub price : ℤ
    pub step : StepCosts eq edges (end_of first rest) next price
    pub past : ¬ (fits (cost +ℤ price))

  module _ {C : Type 0} (value : C → ℤ) where
    -- the path is one of those that were given
    abbrev pub WasGiven : List (List N × C) → List N → Type 0
    WasGiven given path = (g : List N × C) × Contains given g × SameNodes eq g.0 path

    -- each clean path was given
    abbrev pub AllGiven : List (List N × C) → Type 0
    AllGiven given = (path : List N) → IsCleanPath path → WasGiven given path

    -- The next path by rising cost, with its cost: a clean path that was not given, no given path costs more, and no clean path that was not given costs less.
    pub record IsNextPath (given : List (List N × C)) (path : List N) (cost : C) : Type 0 where
      pub clean : IsCleanPath path
      pub costs : WalkCosts eq edges path (value cost)
      pub new : ¬ (WasGiven given path)
      pub rising : (g : List N × C) → Contains given g → value g.1 ≤ℤ value cost
      pub none_cheaper : (other : List N) (u : ℤ) → IsCleanPath other → WalkCosts eq edges other u → ¬ (WasGiven given other) → value cost ≤ℤ u

    -- A sum does not fit among the paths that branch off the path that was given last: those that begin with some of its first nodes, one at least, and go on to a node to which no given path goes on from them. A path and one step more, which together begin and go on so, cost more than fits, and no clean path among them costs less than that path without the step.
    pub record BranchOverflows (fits : ℤ → Type 0) (given : List (List N × C)) : Type 0 where
      pub prefix : List N
      pub some : 0 < length prefix
      pub before : List (List N × C)
      pub last : List N × C
      pub is_last : given ≡ before ++ last ∷ []
      pub onward : N
      pub goes_on : GoesOnTo eq prefix last.0 onward
      pub over : PathOverflows fits
      pub leaves : LeavesGiven eq given prefix ((over.first ∷ over.rest) ++ over.next ∷ [])
      pub none_cheaper : (path : List N) (u : ℤ) → IsCleanPath path → WalkCosts eq edges path u → LeavesGiven eq given prefix path → over.cost ≤ℤ u

    -- why a step may be refused: for want of memory, or since a path and one step more cost more than fits; before the first path, also a cheapest path to some node and one step more, where no node that passes is cheaper than that node; after it, also a path and one step more that branch off the path that was given last, where no clean path that branches off so is cheaper
    abbrev pub RefusedFor : (ℤ → Type 0) → List (List N × C) → PathError → Type 0
    RefusedFor fits given refusal = (refusal ≡ PathError.OutOfMemory) ⊎ ((refusal ≡ PathError.CostOverflow) × PathOverflows fits × (given ≡ [] → CostOverflows eq edges (start ∷ []) test fits) × (¬ (given ≡ []) → BranchOverflows fits given))
