-- What a depth-first search knows whose nodes wait by themselves.
use Rattle.std.specs.Prelude.{◌≡◌, ◌⊎◌, ◌++◌, ◌+◌, ℕ, Bool, true, List, [], ◌∷◌, length, reverse, ⊤}
use Rattle.std.specs.List.{AllZip, IsDistinct}
use Rattle.pf_base.specs.Answers.{SameNodes}
use Rattle.pf_base.specs.Orders.{last_nodes, IsPreorder}
use Rattle.pf_base.specs.Successors.{HasSuccessor}
use Rattle.pf_base.specs.Walks.{HasNode, IsReachable, end_of}
use Rattle.pf_core.specs.Nodes.{StandsFor}
use Rattle.pf_search.specs.declared.directed.dfs.descent.Waiting.{Waiting}

-- these nodes, in turn, each behind so many of the path
abbrev pub waiting_at : {N : Type 0} → ℕ → List N → List (Waiting N)
waiting_at depth [] = []
waiting_at depth (x ∷ xs) = record { node = x; depth = depth } ∷ waiting_at depth xs

module _ {N : Type 0} (eq : N → N → Bool) where
  -- each of the nodes that wait is one of these
  abbrev pub AllHeld : List N → List (Waiting N) → Type 0
  AllHeld keys [] = ⊤
  AllHeld keys (w ∷ ws) = HasNode eq keys w.node × AllHeld keys ws

  module _ (next : N → List N) (given : List N) where
    -- the successors of x from these on are still to be looked at, and those before them were given
    pub record IsRest (x : N) (rest : List N) : Type 0 where
      pub before : List N
      pub after : List N
      pub answer : next x ≡ before ++ after
      pub same : SameNodes eq after rest
      pub earlier : (y : N) → HasNode eq before y → HasNode eq given y

    -- What waits, the next one first: the rest of the successors of each node of the path, the last one first, each behind the path up to its node.
    abbrev pub IsLeft : List N → List (Waiting N) → Type 0
    IsLeft [] waiting = waiting ≡ []
    IsLeft (x ∷ up) waiting = (rest : List N) × (further : List (Waiting N)) × (waiting ≡ waiting_at (length up + 1) rest ++ further) × IsRest x rest × IsLeft up further

  module _ (next : N → List N) (start : N) where
    -- The search has gone along these tree paths, the last of which leads to x over the nodes of `up`, the last of these first. Of the nodes of `over` successors wait.
    pub record IsDescent (paths : List (List N)) (x : N) (up over : List N) (keys : List N) (numbers : List ℕ) (waiting : List (Waiting N)) : Type 0 where
      pub preorder : IsPreorder eq next start paths
      pub ends : end_of [] paths ≡ reverse (x ∷ up)
      pub given : SameNodes eq keys (last_nodes paths)
      pub distinct : IsDistinct eq keys
      pub path : AllZip (StandsFor eq keys) numbers (reverse (x ∷ up))
      pub waits : IsLeft next (last_nodes paths) over (reverse waiting)

-- Nothing of this graph was visited yet, the start waits, and equal nodes have the same successors. The test is answered in reach of the start.
module _ {N F T : Type 0} (eq : N → N → Bool) (answers : F → (N → Type 0) → (N → List N) → Type 0) (tests : T → (N → Type 0) → (N → Bool) → Type 0) (next : N → List N) (start : N) (test : N → Bool) where
  pub record IsBegunSearch (keys : List N) (numbers : List ℕ) (waiting : List (Waiting N)) (successors : F) (success : T) : Type 0 where
    pub unvisited : keys ≡ []
    pub unbegun : numbers ≡ []
    pub waits : reverse waiting ≡ record { node = start; depth = 0 } ∷ []
    pub alike : (x y : N) → IsReachable eq (HasSuccessor eq next) (start ∷ []) x → eq x y ≡ true → SameNodes eq (next x) (next y)
    pub answered : answers successors (IsReachable eq (HasSuccessor eq next) (start ∷ [])) next
    pub tested : tests success (IsReachable eq (HasSuccessor eq next) (start ∷ [])) test
    pub tests_alike : (x y : N) → IsReachable eq (HasSuccessor eq next) (start ∷ []) x → eq x y ≡ true → test x ≡ test y

module _ {N : Type 0} (eq : N → N → Bool) (next : N → List N) (start : N) where
  -- where the search stands before a node is taken out: at its beginning, or along some tree paths, of whose last the successors of all nodes wait
  abbrev pub StandsBefore : List (List N) → List N → List ℕ → List (Waiting N) → Type 0
  StandsBefore paths keys numbers waiting = ((paths ≡ []) × (keys ≡ []) × (numbers ≡ []) × (reverse waiting ≡ record { node = start; depth = 0 } ∷ []))
      ⊎ ((x : N) × (up : List N) × IsDescent eq next start paths x up (x ∷ up) keys numbers waiting)
