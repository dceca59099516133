-- The k cheapest clean paths.
use Rattle.std.specs.Prelude.{◌≡◌, ◌⊎◌, ◌≤ℤ◌, ◌<ℤ◌, ◌<◌, ◌≤◌, ℕ, ℤ, Bool, List, length, map, slice_get, Some, Contains, Vec}
use Rattle.pf_base.specs.Edges.{WalkCosts}
use Rattle.pf_base.specs.Answers.{SameNodes}
use Rattle.pf_yen.specs.CleanPaths.{IsCleanPath, WasGiven, AllGiven}

-- the paths that these vectors hold, with their costs
abbrev pub paths_in : {N C A : Type 0} → List (Vec N A × C) → List (List N × C)
paths_in {N} {C} {A} items = map (λ (g : Vec N A × C). (g.0.items, g.1)) items

-- a path may come before another one: it costs less, or as much with at most as many nodes
abbrev pub MayComeBefore : {N C : Type 0} → (C → ℤ) → List N × C → List N × C → Type 0
MayComeBefore value g h = (value g.1 <ℤ value h.1) ⊎ ((value g.1 ≡ value h.1) × (length g.0 ≤ length h.0))

-- each path may come before those that stand behind it
abbrev pub AreInOrder : {N C : Type 0} → (C → ℤ) → List (List N × C) → Type 0
AreInOrder {N} {C} value answer = (i j : ℕ) (g h : List N × C) → i < j → slice_get answer i ≡ Some g → slice_get answer j ≡ Some h → MayComeBefore value g h

module _ {N C : Type 0} (eq : N → N → Bool) (edges : N → List (N × ℤ)) (start : N) (test : N → Bool) (value : C → ℤ) where
  -- The list has k cheapest clean paths with their costs, or all where there are fewer, by rising cost and then by rising number of nodes. Lists of the same nodes, place by place, are one path.
  pub record IsKCheapest (k : ℕ) (answer : List (List N × C)) : Type 0 where
    pub clean : (g : List N × C) → Contains answer g → IsCleanPath eq edges start test g.0
    pub costs : (g : List N × C) → Contains answer g → WalkCosts eq edges g.0 (value g.1)
    pub once : (i j : ℕ) (g h : List N × C) → slice_get answer i ≡ Some g → slice_get answer j ≡ Some h → SameNodes eq g.0 h.0 → i ≡ j
    pub ordered : AreInOrder value answer
    pub none_cheaper : (path : List N) (u : ℤ) → IsCleanPath eq edges start test path → WalkCosts eq edges path u → ¬ (WasGiven eq edges start test value answer path) → (g : List N × C) → Contains answer g → value g.1 ≤ℤ u
    pub most : length answer ≤ k
    pub complete : length answer < k → AllGiven eq edges start test value answer
