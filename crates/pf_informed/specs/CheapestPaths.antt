-- Cheapest clean paths, and what contracts say of an iterator over all of them.
use Rattle.std.specs.Prelude.{◌≡◌, ◌⊎◌, ◌<ℤ◌, ℤ, ℕ, pos, Bool, true, false, List, [], ◌∷◌, Option, Some, None, MatchOption, Result, Ok, Err, Contains, Vec, suc, if◌then◌else◌, length, map, slice_get, ⊤, refl}
use Rattle.std.specs.Coded.{Coded, code_by, coded×, coded_bool, coded_list}
use Rattle.std.specs.List.{AllZip}
use Rattle.pf_base.specs.declared.error.PathError.{PathError}
use Rattle.pf_base.specs.Walks.{IsGoalPath, HasNoGoalWalk}
use Rattle.pf_base.specs.Edges.{HasEdge, InReach, IsSuccessor, WalkCosts, NoGoalWalkCostsLess}
use Rattle.pf_base.specs.Answers.{SameNodes}

module _ {N : Type 0} (test : N → Bool) where
  -- of a and the nodes behind it, none but the last one passes the test
  abbrev pub FailsUpToEnd : N → List N → Type 0
  FailsUpToEnd a [] = ⊤
  FailsUpToEnd a (b ∷ w) = (test a ≡ false) × FailsUpToEnd b w

  -- no node but the last one passes the test
  abbrev pub FailsBeforeEnd : List N → Type 0
  FailsBeforeEnd [] = ⊥
  FailsBeforeEnd (a ∷ w) = FailsUpToEnd a w

-- each edge of a node in reach costs more than 0
pub record HasOnlyCostsAboveZero {N : Type 0} (eq : N → N → Bool) (edges : N → List (N × ℤ)) (starts : List N) : Type 0 where
  pub above_zero : (a b : N) (z : ℤ) → InReach eq edges starts a → HasEdge eq (edges a) b z → pos 0 <ℤ z

module _ {N : Type 0} (eq : N → N → Bool) (edges : N → List (N × ℤ)) (starts : List N) (test : N → Bool) where
  -- a path from a start, in which no node stands twice, to a node that passes the test, which no node before it does
  pub record IsCleanPath (path : List N) : Type 0 where
    pub goes : IsGoalPath eq (IsSuccessor eq edges) starts test path
    pub fails : FailsBeforeEnd test path

  -- a clean path that costs t, and no walk from a start to a node that passes costs less
  pub record IsCheapestCleanPath (path : List N) (t : ℤ) : Type 0 where
    pub clean : IsCleanPath path
    pub costs : WalkCosts eq edges path t
    pub best : NoGoalWalkCostsLess eq edges starts test t

  -- These are all cheapest clean paths, each once, and each costs t. There is one at least. Lists of the same nodes, place by place, are one path.
  pub record AreCheapestCleanPaths (paths : List (List N)) (t : ℤ) : Type 0 where
    pub some : (path : List N) × Contains paths path
    pub sound : (path nodes : List N) → Contains paths path → SameNodes eq nodes path → IsCheapestCleanPath nodes t
    pub complete : (nodes : List N) → IsCheapestCleanPath nodes t → (path : List N) × Contains paths path × SameNodes eq nodes path
    pub once : (i j : ℕ) (path path' : List N) → slice_get paths i ≡ Some path → slice_get paths j ≡ Some path' → SameNodes eq path path' → i ≡ j

  -- all cheapest clean paths, told by `listed`, and what each costs, or none exactly where no walk leads from a start to a node that passes
  abbrev pub AreCheapestCleanPathsOrNone : {P C : Type 0} → (P → List (List N)) → (C → ℤ) → Option (P × C) → Type 0
  AreCheapestCleanPathsOrNone listed value answer = MatchOption answer (HasNoGoalWalk eq (IsSuccessor eq edges) starts test) (λ found. AreCheapestCleanPaths (listed found.0) (value found.1))

-- the lists that these vectors hold
abbrev pub lists_in : {N Z : Type 0} → List (Vec N Z) → List (List N)
lists_in {N} {Z} vectors = map (λ (v : Vec N Z). v.items) vectors

-- what a caller sees of an iterator over paths: the paths still to come, in order, whether the last step was refused, and whether the iterator is at its end
pub record PathsToCome (N : Type 0) : Type 0 where
  pub left : List (List N)
  pub refused : Bool
  pub ended : Bool

abbrev pub paths_to_come_code : {N : Type 0} → Coded N → Coded (PathsToCome N)
paths_to_come_code {N} n = code_by (List (List N) × (Bool × Bool)) (coded× (coded_list (coded_list n)) (coded× coded_bool coded_bool)) (λ s. (s.left, (s.refused, s.ended))) (λ p. record { left = p.0; refused = p.1.0; ended = p.1.1 }) (λ _. refl)

-- as many paths are to come, place by place of clones of the nodes; the last step was refused in both or in neither, and both are at their ends or neither is
abbrev pub IsPathsClone : {N : Type 0} → (N → N → Type 0) → PathsToCome N → PathsToCome N → Type 0
IsPathsClone is_clone s t = AllZip (AllZip is_clone) s.left t.left × (t.refused ≡ s.refused) × (t.ended ≡ s.ended)

-- at most so many items are to come: the paths, and a refusal
abbrev pub most_items : {N : Type 0} → PathsToCome N → ℕ
most_items s = if s.refused then length s.left else suc (length s.left)

-- What a call of `next` gives, and how it leaves the iterator.
module _ {N Z : Type 0} (eq : N → N → Bool) where
  -- a path: that which came next, of the same nodes, and then the others are to come
  -- no path: the last step was refused, and the iterator stays as it was; or no path is to come, and the iterator is at its end from then on
  -- a refusal for want of memory: the same paths are to come
  -- At its end the iterator gives neither a path nor a refusal.
  abbrev pub PathsStep : PathsToCome N → Option (Result (Vec N Z) PathError) → PathsToCome N → Type 0
  PathsStep s (Some (Ok nodes)) t = (s.refused ≡ false) × (s.ended ≡ false) × (t.refused ≡ false) × ((path : List N) × (s.left ≡ path ∷ t.left) × SameNodes eq nodes.items path)
  PathsStep s None t = ((s.refused ≡ true) × (t ≡ s)) ⊎ ((s.left ≡ []) × (t ≡ record s { ended = true }))
  PathsStep s (Some (Err refusal)) t = (refusal ≡ PathError.OutOfMemory) × (s.refused ≡ false) × (s.ended ≡ false) × (t ≡ record s { refused = true })
