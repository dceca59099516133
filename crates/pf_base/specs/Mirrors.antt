-- Graphs without costs that are searched from both ends: `successors x` lists the nodes that follow x, `predecessors x` those that precede it.
use Rattle.std.specs.Prelude.{Bool, List}
use Rattle.std.specs.List.{list_any}
use Rattle.pf_base.specs.Walks.{IsReachable}
use Rattle.pf_base.specs.Successors.{HasSuccessor}

module _ {N : Type 0} (eq : N → N → Bool) where
  -- whether some node of the list is the same as x
  abbrev pub is_among : List N → N → Bool
  is_among nodes x = list_any (λ y. eq y x) nodes

  module _ (successors predecessors : N → List N) (starts ends : List N) where
    -- b follows a exactly where a precedes b, for each a that a walk from a start reaches and each b that a walk back from an end reaches
    pub record IsMirror : Type 0 where
      pub precedes : (a b : N) → IsReachable eq (HasSuccessor eq successors) starts a → IsReachable eq (HasSuccessor eq predecessors) ends b → HasSuccessor eq successors a b → HasSuccessor eq predecessors b a
      pub follows : (a b : N) → IsReachable eq (HasSuccessor eq successors) starts a → IsReachable eq (HasSuccessor eq predecessors) ends b → HasSuccessor eq predecessors b a → HasSuccessor eq successors a b

    -- The functions that are handed in answer these successors in reach of the starts and these predecessors in reach back from the ends, and each mirrors the other.
    pub record IsSearchFromBothEnds (answers_forth answers_back : (N → Type 0) → (N → List N) → Type 0) : Type 0 where
      pub successors_answered : answers_forth (IsReachable eq (HasSuccessor eq successors) starts) successors
      pub predecessors_answered : answers_back (IsReachable eq (HasSuccessor eq predecessors) ends) predecessors
      pub mirror : IsMirror

-- What functions that list successors and predecessors answer from the starts on and back from the ends, where each mirrors the other.
module _ {N : Type 0} (eq : N → N → Bool) (starts ends : List N) (answers_forth answers_back : (N → Type 0) → (N → List N) → Type 0) where
  -- they answer some successors and some predecessors
  abbrev pub AnswersSearchFromBothEnds : Type 0
  AnswersSearchFromBothEnds = (successors predecessors : N → List N) × IsSearchFromBothEnds eq successors predecessors starts ends answers_forth answers_back

  -- of whatever successors and predecessors they answer, P holds
  abbrev pub OfSearchFromBothEnds : ((N → List N) → (N → List N) → Type 0) → Type 0
  OfSearchFromBothEnds P = (successors predecessors : N → List N) → IsSearchFromBothEnds eq successors predecessors starts ends answers_forth answers_back → P successors predecessors
