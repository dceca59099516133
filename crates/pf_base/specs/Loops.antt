-- Loops in graphs without costs: walks that lead from a start back to a start.
use Rattle.std.specs.Prelude.{◌≤◌, ◌-◌, Bool, List, [], ◌∷◌, Option, Vec, MatchOption, length, take, drop}
use Rattle.pf_base.specs.Walks.{HasNode, NoRepeats, IsWalk, BeginsAt, end_of}
use Rattle.pf_base.specs.Successors.{HasSuccessor}

module _ {N : Type 0} (eq : N → N → Bool) where
  -- the last node is one of these
  abbrev pub EndsAmong : List N → List N → Type 0
  EndsAmong nodes [] = ⊥
  EndsAmong nodes (a ∷ w) = HasNode eq nodes (end_of a w)

  module _ (successors : N → List N) (starts : List N) where
    -- a walk of at least one step from a start to a start
    pub record IsLoop (walk : List N) : Type 0 where
      pub walks : IsWalk (HasSuccessor eq successors) walk
      pub long : 2 ≤ length walk
      pub begins : BeginsAt eq starts walk
      pub ends : EndsAmong starts walk

    -- there is no loop
    abbrev pub HasNoLoop : Type 0
    HasNoLoop = (walk : List N) → ¬ (IsLoop walk)

    -- A loop in which no node stands twice, save that its two ends may be the same node, and no loop has fewer edges.
    pub record IsBestLoop (path : List N) : Type 0 where
      pub goes : IsLoop path
      pub distinct_before : NoRepeats eq (take (length path - 1) path)
      pub distinct_behind : NoRepeats eq (drop 1 path)
      pub fewest : (walk : List N) → IsLoop walk → length path ≤ length walk

    -- a loop with fewest edges, or none exactly where there is no loop
    abbrev pub IsBestLoopOrNone : {A : Type 0} → Option (Vec N A) → Type 0
    IsBestLoopOrNone answer = MatchOption answer HasNoLoop (λ path. IsBestLoop path.items)
