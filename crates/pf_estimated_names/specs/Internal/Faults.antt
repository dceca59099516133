-- The numbers of names and their estimates.
use Rattle.std.specs.Prelude.{◌≡◌, ◌<◌, ℕ, ℤ, Bool, List, Some, length, get_or, slice_get, ⊤}
use Rattle.pf_tables.specs.Graphs.{HasEdgeAt}
use Rattle.pf_edge_lists.specs.EdgeLists.{NamesAndEdges, names_of, places_of}
use Rattle.pf_estimated_graphs.specs.EstimatesInTables.{estimate_at}
use Rattle.pf_estimated_graphs.specs.declared.error.EstimateError.{EstimateError}
use Rattle.pf_estimated_graphs.specs.declared.error.EstimateError.TheVariants.{WrongNumberOfEstimates, NegativeEstimate as NegativeAt, EstimateAtGoal as AboveAtGoal, EstimateAboveEdge as AboveAt}
use Rattle.pf_estimated_names.specs.EstimatesByName.{AreConsistentByName, EstimatedNames, estimate_of}
use Rattle.pf_estimated_names.specs.declared.error.NameEstimateError.{NameEstimateError}
use Rattle.pf_estimated_names.specs.declared.error.NameEstimateError.TheVariants.{NegativeEstimate, EstimateAtGoal, EstimateAboveEdge}

-- Each number of a name is its estimate, and the estimates are consistent.
pub record AreNumbersByName {N C : Type 0} (eq : N → N → Bool) (value : C → ℤ) (names : EstimatedNames N C) (numbers : List C) : Type 0 where
  pub complete : length numbers ≡ length (names_of eq names.list)
  pub right : (k : ℕ) (x : N) → slice_get (names_of eq names.list) k ≡ Some x → estimate_at value numbers k ≡ estimate_of eq value names x
  pub consistent : AreConsistentByName eq value names

module _ {N C : Type 0} (eq : N → N → Bool) (list : NamesAndEdges N C) where
  -- the node and the place of a fault are those of the list
  abbrev pub IsWithin : EstimateError → Type 0
  IsWithin WrongNumberOfEstimates = ⊥
  IsWithin (NegativeAt node) = ⊤
  IsWithin (AboveAtGoal node) = ⊤
  IsWithin (AboveAt node place) = (node < length (names_of eq list)) × (place < length (places_of eq list node))

  module _ (other : N) where
    -- a fault by number and the same by name
    abbrev pub IsNamedFault : EstimateError → NameEstimateError N → Type 0
    IsNamedFault (NegativeAt node) (NegativeEstimate name) = name.now ≡ get_or (names_of eq list) node other
    IsNamedFault (AboveAtGoal node) (EstimateAtGoal name) = name.now ≡ get_or (names_of eq list) node other
    IsNamedFault (AboveAt node place) (EstimateAboveEdge from to) = (from.now ≡ get_or (names_of eq list) node other) × ((edge : ℕ × C) → HasEdgeAt (places_of eq list node) place edge → to.now ≡ get_or (names_of eq list) edge.0 other)
    IsNamedFault _ _ = ⊥
