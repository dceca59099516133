-- Graphs without costs: `successors x` lists the nodes that follow x.
use Rattle.std.specs.Prelude.{◌≤◌, Bool, List, Option, Vec, MatchOption, length}
use Rattle.pf_base.specs.Walks.{HasNode, IsGoalWalk, IsGoalPath, IsReachable, HasNoGoalWalk}

module _ {N : Type 0} (eq : N → N → Bool) (successors : N → List N) where
  -- b is one of the successors of a
  abbrev pub HasSuccessor : N → N → Type 0
  HasSuccessor a b = HasNode eq (successors a) b

  module _ (starts : List N) where
    -- The functions that are handed in answer these successors and this test in reach of the starts.
    pub record IsUnweightedSearch (answers : (N → Type 0) → (N → List N) → Type 0) (tests : (N → Type 0) → (N → Bool) → Type 0) (test : N → Bool) : Type 0 where
      pub successors_answered : answers (IsReachable eq HasSuccessor starts) successors
      pub test_answered : tests (IsReachable eq HasSuccessor starts) test

    -- a path from a start to a node that passes the test, and no walk from a start to such a node has fewer edges
    pub record IsFewestEdgesGoalPath (test : N → Bool) (path : List N) : Type 0 where
      pub goes : IsGoalPath eq HasSuccessor starts test path
      pub fewest : (walk : List N) → IsGoalWalk eq HasSuccessor starts test walk → length path ≤ length walk

    -- a path with fewest edges to a node that passes the test, or none exactly where no walk leads to such a node
    abbrev pub IsFewestEdgesOrNone : {A : Type 0} → (N → Bool) → Option (Vec N A) → Type 0
    IsFewestEdgesOrNone test answer = MatchOption answer (HasNoGoalWalk eq HasSuccessor starts test) (λ path. IsFewestEdgesGoalPath test path.items)

-- What functions that list successors and test nodes answer from the starts on.
module _ {N : Type 0} (eq : N → N → Bool) (starts : List N) (answers : (N → Type 0) → (N → List N) → Type 0) (tests : (N → Type 0) → (N → Bool) → Type 0) where
  -- they answer some successors and some test
  abbrev pub AnswersUnweightedSearch : Type 0
  AnswersUnweightedSearch = (successors : N → List N) × (test : N → Bool) × IsUnweightedSearch eq successors starts answers tests test

  -- of whatever successors and test they answer, P holds
  abbrev pub OfUnweightedSearch : ((N → List N) → (N → Bool) → Type 0) → Type 0
  OfUnweightedSearch P = (successors : N → List N) (test : N → Bool) → IsUnweightedSearch eq successors starts answers tests test → P successors test

-- What a function that lists successors answers from the starts on.
module _ {N : Type 0} (eq : N → N → Bool) (starts : List N) (answers : (N → Type 0) → (N → List N) → Type 0) where
  -- it answers some successors
  abbrev pub AnswersUnweightedGraph : Type 0
  AnswersUnweightedGraph = (successors : N → List N) × answers (IsReachable eq (HasSuccessor eq successors) starts) successors

  -- of whatever successors it answers, P holds
  abbrev pub OfUnweightedGraph : ((N → List N) → Type 0) → Type 0
  OfUnweightedGraph P = (successors : N → List N) → answers (IsReachable eq (HasSuccessor eq successors) starts) successors → P successors
