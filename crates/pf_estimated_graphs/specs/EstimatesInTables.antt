-- Estimates of the cost that remains from each node of a graph in a table to a goal.
use Rattle.std.specs.Prelude.{◌≡◌, ◌⊎◌, ◌<◌, ◌≤ℤ◌, ◌<ℤ◌, ◌+ℤ◌, ℕ, ℤ, pos, Bool, true, List, Option, length, slice_get}
use Rattle.std.specs.Option.{option_map_or}
use Rattle.pf_tables.specs.Graphs.{HasEdgeAt}
use Rattle.pf_estimated_graphs.specs.declared.error.EstimateError.{EstimateError}
use Rattle.pf_estimated_graphs.specs.declared.error.EstimateError.TheVariants.{WrongNumberOfEstimates, NegativeEstimate, EstimateAtGoal, EstimateAboveEdge}

-- the estimate of a node as a whole number, and 0 where the list has none
abbrev pub estimate_at : {C : Type 0} → (C → ℤ) → List C → ℕ → ℤ
estimate_at value estimates node = option_map_or value (slice_get estimates node) (pos 0)

-- what a caller sees of estimates: the table, the goals, and the estimate of each node
pub record TableEstimates (C G T : Type 0) : Type 0 where
  pub table : G
  pub goals : T
  pub estimates : List C

-- the estimate of a node by itself, where these nodes are goals
module _ {C : Type 0} (value : C → ℤ) (passes : ℕ → Bool) (estimates : List C) where
  -- it is from 0 up, and 0 where the node is a goal
  pub record IsSoundAt (node : ℕ) : Type 0 where
    pub from_zero : pos 0 ≤ℤ estimate_at value estimates node
    pub at_goal : passes node ≡ true → estimate_at value estimates node ≡ pos 0

  -- the error names the first node whose estimate is not sound, and what is wrong there
  abbrev pub IsFaultOfNode : EstimateError → Type 0
  IsFaultOfNode (NegativeEstimate node) = (node < length estimates) × (estimate_at value estimates node <ℤ pos 0) × ((k : ℕ) → k < node → IsSoundAt k)
  IsFaultOfNode (EstimateAtGoal node) = (node < length estimates) × (passes node ≡ true) × (pos 0 <ℤ estimate_at value estimates node) × ((k : ℕ) → k < node → IsSoundAt k)
  IsFaultOfNode _ = ⊥

-- the estimate of a node and an edge from it, where these stand at the places
module _ {C : Type 0} (value : C → ℤ) (places : ℕ → List (Option (ℕ × C))) (estimates : List C) where
  -- the estimate is at most what the edge at a place costs and the estimate of the node that the edge leads to
  abbrev pub FallsAt : ℕ → ℕ → Type 0
  FallsAt node place = (edge : ℕ × C) → HasEdgeAt (places node) place edge → estimate_at value estimates node ≤ℤ (value edge.1 +ℤ estimate_at value estimates edge.0)

  -- it is above that
  abbrev pub IsAboveAt : ℕ → ℕ → Type 0
  IsAboveAt node place = (edge : ℕ × C) × HasEdgeAt (places node) place edge × ((value edge.1 +ℤ estimate_at value estimates edge.0) <ℤ estimate_at value estimates node)

  -- the error names the first place of a node at which its estimate is above the edge and what remains behind it
  abbrev pub IsFaultOfRow : ℕ → EstimateError → Type 0
  IsFaultOfRow node (EstimateAboveEdge n place) = (n ≡ node) × IsAboveAt node place × ((k : ℕ) → k < place → FallsAt node k)
  IsFaultOfRow node _ = ⊥

  -- the same of the first node that has such a place
  abbrev pub IsFaultOfEdge : ℕ → EstimateError → Type 0
  IsFaultOfEdge size error = (node : ℕ) × (node < size) × IsFaultOfRow node error × ((n place : ℕ) → n < node → FallsAt n place)

module _ {C : Type 0} (value : C → ℤ) (size : ℕ) (places : ℕ → List (Option (ℕ × C))) (passes : ℕ → Bool) (estimates : List C) where
  -- Each node has an estimate, from 0 up, 0 at a goal, and at most what an edge costs and the estimate of the node that the edge leads to.
  pub record AreConsistent : Type 0 where
    pub complete : length estimates ≡ size
    pub sound : (node : ℕ) → node < size → IsSoundAt value passes estimates node
    pub falls : (node place : ℕ) → node < size → FallsAt value places estimates node place

  -- The error names the first fault: that of the number of estimates, else of a node's own estimate, else of an edge.
  abbrev pub IsFirstEstimateFault : EstimateError → Type 0
  IsFirstEstimateFault error = (¬ (length estimates ≡ size) × (error ≡ WrongNumberOfEstimates)) ⊎ ((length estimates ≡ size) × IsFaultOfNode value passes estimates error)
      ⊎ ((length estimates ≡ size) × ((node : ℕ) → node < size → IsSoundAt value passes estimates node) × IsFaultOfEdge value places estimates size error)
