-- Estimates of the cost that remains from each node of a graph to a goal.
use Rattle.std.specs.Prelude.{◌≡◌, ◌<◌, ◌≤ℤ◌, ◌+ℤ◌, ℕ, ℤ, pos, Bool, true, List, Option}
use Rattle.pf_tables.specs.Graphs.{HasEdgeAt}

-- Each estimate is from 0 up, that of a goal is 0, and that of a node is at most what an edge costs and the estimate of the node that the edge leads to.
pub record IsConsistent {C : Type 0} (value : C → ℤ) (size : ℕ) (places : ℕ → List (Option (ℕ × C))) (passes : ℕ → Bool) (estimate : ℕ → ℤ) : Type 0 where
  pub from_zero : (node : ℕ) → pos 0 ≤ℤ estimate node
  pub at_goal : (node : ℕ) → passes node ≡ true → estimate node ≡ pos 0
  pub falls : (node place : ℕ) (edge : ℕ × C) → node < size → HasEdgeAt (places node) place edge → estimate node ≤ℤ (value edge.1 +ℤ estimate edge.0)
