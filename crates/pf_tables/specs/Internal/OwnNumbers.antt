-- Nodes that are their own numbers.
use Rattle.std.specs.Prelude.{◌≡◌, ◌<◌, ℕ, ℤ, Bool, List, Option}
use Rattle.pf_core.specs.Nodes.{TestedGraph}
use Rattle.pf_tables.specs.Graphs.{edges_at}

-- the number of a node below `size` is the node itself
abbrev pub IsOwn : ℕ → ℕ → ℕ → Type 0
IsOwn size k x = (k < size) × (k ≡ x)

-- The graph over the numbers below `size` is searched: its edges are what stands at the places, and its test is the one that is asked.
pub record IsTable {C : Type 0} (value : C → ℤ) (size : ℕ) (places : ℕ → List (Option (ℕ × C))) (passes : ℕ → Bool) (g : TestedGraph ℕ) : Type 0 where
  pub listed : (n : ℕ) → n < size → g.graph.edges n ≡ edges_at value (places n)
  pub tested : (n : ℕ) → passes n ≡ g.test n
