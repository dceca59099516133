-- Where a depth-first walk over numbers stands.
use Rattle.std.specs.Prelude.{◌≡◌, ◌+◌, ◌⊎◌, ℕ, Bool, true, false, List, [], ◌∷◌, ◌++◌, Some, slice_get, slice_index_or, Contains, map, filter, not, length}
use Rattle.pf_discovery.specs.declared.depth_first.Branch.{Branch}

-- the number was visited
abbrev pub IsVisited : List Bool → ℕ → Type 0
IsVisited visited k = slice_get visited k ≡ Some true

-- Where so many numbers were visited, b leads to the next one: to the first, where none was, else it is the last branch, to a number not visited.
abbrev pub IsNextBranch : ℕ → List Bool → List Branch → Branch → Type 0
IsNextBranch given visited waiting b = ((given ≡ 0) × (b.number ≡ 0) × (b.depth ≡ 0)) ⊎ (¬ (given ≡ 0) × ((rest : List Branch) × (waiting ≡ rest ++ b ∷ [])) × ¬ (IsVisited visited b.number))

-- branches to these numbers at one depth
abbrev pub branches_at : ℕ → List ℕ → List Branch
branches_at depth numbers = map (λ (n : ℕ). record { number = n; depth = depth }) numbers

-- those of the numbers that were not visited
abbrev pub not_visited : List Bool → List ℕ → List ℕ
not_visited visited numbers = filter (λ n. not (slice_index_or visited n false)) numbers

module _ {X : Type 0} (successors : X → List X) (stands : ℕ → X → Type 0) (visited : ℕ → Type 0) where
  -- a number that stands for the node was visited
  abbrev pub WasVisited : X → Type 0
  WasVisited y = (j : ℕ) × visited j × stands j y

  -- each node of the list has a number that was visited
  abbrev pub AreVisited : List X → Type 0
  AreVisited ys = (y : X) → Contains ys y → WasVisited y

  -- these numbers stand for nodes of the list, in order; the other nodes were visited
  abbrev pub AreLeft : List ℕ → List X → Type 0
  AreLeft numbers [] = numbers ≡ []
  AreLeft [] (y ∷ ys) = WasVisited y × AreLeft [] ys
  AreLeft (n ∷ numbers) (y ∷ ys) = (stands n y × AreLeft numbers ys) ⊎ (WasVisited y × AreLeft (n ∷ numbers) ys)

  -- What waits, the next one first, is what is left at the nodes of the path, the deepest first: the successors that were not visited, and some that were. Each number of the path stands for a node.
  abbrev pub IsPending : List ℕ → List Branch → Type 0
  IsPending [] waiting = waiting ≡ []
  IsPending (k ∷ up) waiting = (own : List ℕ) × (rest : List Branch) × (waiting ≡ branches_at (length up + 1) own ++ rest)
      × ((x : X) × stands k x) × ((x : X) → stands k x → AreLeft own (successors x)) × IsPending up rest
