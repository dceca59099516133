-- That what was learned of a graph is true of it.
use Rattle.std.specs.Prelude.{◌≡◌, ◌<◌, ◌≤◌, ℕ, ℤ, Bool, false, length, Contains}
use Rattle.pf_core.specs.Numbered.{ListsSteps}
use Rattle.pf_yen.specs.Internal.Adjacency.{AdjacencyLists, row_of, is_goal}

module _ {X C : Type 0} (value : C → ℤ) (step : X → ℤ → X → Type 0) (passes : X → Bool) where
  -- a step from a node that is no goal
  abbrev pub LiveStep : X → ℤ → X → Type 0
  LiveStep a z b = step a z b × (passes a ≡ false)

  -- What is known of the first of the found numbers is so: their rows list the steps from their nodes, none from a goal.
  pub record IsLearned (stands : ℕ → X → Type 0) (found : ℕ) (k : AdjacencyLists C) : Type 0 where
    pub rows : (a : ℕ) (x : X) → a < length k.rows → stands a x → ListsSteps value LiveStep stands x (row_of k a)
    pub goals : (a : ℕ) (x : X) → a < length k.rows → stands a x → is_goal k a ≡ passes x
    pub even : length k.goals ≡ length k.rows
    pub below : length k.rows ≤ found
    pub all : (a : ℕ) → a < found → (x : X) × stands a x
    pub inside : (a b : ℕ) (c : C) → Contains (row_of k a) (b, c) → b < found
