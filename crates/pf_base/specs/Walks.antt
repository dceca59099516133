-- Walks, paths and reach. A relation `step` says which node follows which, and nodes are the same where `eq` says so.
use Rattle.std.specs.Prelude.{◌≡◌, ◌⊎◌, ◌≤◌, ℕ, Bool, true, List, [], ◌∷◌, length, ⊤}

-- some node of the list is the same as x
abbrev pub HasNode : {N : Type 0} → (N → N → Bool) → List N → N → Type 0
HasNode eq [] x = ⊥
HasNode eq (y ∷ ys) x = (eq y x ≡ true) ⊎ HasNode eq ys x

-- no node stands twice
abbrev pub NoRepeats : {N : Type 0} → (N → N → Bool) → List N → Type 0
NoRepeats eq [] = ⊤
NoRepeats eq (x ∷ xs) = ¬ (HasNode eq xs x) × NoRepeats eq xs

-- n is at most the number of nodes of which P holds: each list that has them all is as long at least
abbrev pub IsAtMostNumberOf : {N : Type 0} → (N → N → Bool) → (N → Type 0) → ℕ → Type 0
IsAtMostNumberOf {N} eq P n = (nodes : List N) → ((x : N) → P x → HasNode eq nodes x) → n ≤ length nodes

-- the last node of a and w
abbrev pub end_of : {N : Type 0} → N → List N → N
end_of a [] = a
end_of a (b ∷ w) = end_of b w

module _ {N : Type 0} (step : N → N → Type 0) where
  -- each node of w follows the one before, the first one follows a
  abbrev pub Follows : N → List N → Type 0
  Follows a [] = ⊤
  Follows a (b ∷ w) = step a b × Follows b w

  -- a walk: at least one node, and each next one follows the one before
  abbrev pub IsWalk : List N → Type 0
  IsWalk [] = ⊥
  IsWalk (a ∷ w) = Follows a w

module _ {N : Type 0} (eq : N → N → Bool) where
  -- the first node is one of the starts
  abbrev pub BeginsAt : List N → List N → Type 0
  BeginsAt starts [] = ⊥
  BeginsAt starts (a ∷ w) = HasNode eq starts a

  -- the last node passes the test
  abbrev pub EndsAt : (N → Bool) → List N → Type 0
  EndsAt test [] = ⊥
  EndsAt test (a ∷ w) = test (end_of a w) ≡ true

  module _ (step : N → N → Type 0) (starts : List N) where
    -- a walk from a start to a node that passes the test
    pub record IsGoalWalk (test : N → Bool) (walk : List N) : Type 0 where
      pub walks : IsWalk step walk
      pub begins : BeginsAt starts walk
      pub ends : EndsAt test walk

    -- the same, in which no node stands twice
    pub record IsGoalPath (test : N → Bool) (path : List N) : Type 0 where
      pub goes : IsGoalWalk test path
      pub distinct : NoRepeats eq path

    -- no walk leads from a start to a node that passes the test
    abbrev pub HasNoGoalWalk : (N → Bool) → Type 0
    HasNoGoalWalk test = (walk : List N) → ¬ (IsGoalWalk test walk)

    -- some walk leads from a start to x
    pub record IsReachable (x : N) : Type 0 where
      pub walk : List N
      pub goes : IsGoalWalk (λ y. eq y x) walk
