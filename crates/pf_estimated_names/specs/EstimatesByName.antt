-- Estimates of the cost that remains from each name of a list of edges to one name.
use Rattle.std.specs.Prelude.{◌≡◌, ◌<◌, ◌≤ℤ◌, ◌<ℤ◌, ◌+ℤ◌, ℕ, ℤ, pos, Bool, true, List, Some, if◌then◌else◌, reverse, slice_get, ⊤}
use Rattle.std.specs.List.{list_any}
use Rattle.std.specs.Map.{lookup}
use Rattle.std.specs.Option.{option_map_or}
use Rattle.pf_edge_lists.specs.EdgeLists.{NamesAndEdges, edges_from, names_of}
use Rattle.pf_estimated_names.specs.declared.error.NameEstimateError.{NameEstimateError}
use Rattle.pf_estimated_names.specs.declared.error.NameEstimateError.TheVariants.{OutOfMemory, NegativeEstimate, EstimateAtGoal, EstimateAboveEdge}

-- what a caller sees of estimates by name: the list, the name that a search looks for, and the numbers that were given for names
pub record EstimatedNames (N C : Type 0) : Type 0 where
  pub list : NamesAndEdges N C
  pub to : N
  pub given : List (N × C)

module _ {N C : Type 0} (eq : N → N → Bool) (value : C → ℤ) where
  -- the last number that is given for a name that equals x, and 0 where none is
  abbrev pub last_given : List (N × C) → N → ℤ
  last_given given x = option_map_or value (lookup (eq x) (reverse given)) (pos 0)

  module _ (names : EstimatedNames N C) where
    -- the estimate of a name: the last number that is given for it; 0 where none is, and where the list has no such name
    abbrev pub estimate_of : N → ℤ
    estimate_of x = if list_any (eq x) (names_of eq names.list) then last_given names.given x else pos 0

    -- the estimate of a name is from 0 up, and 0 where the name is looked for
    pub record IsSoundFor (x : N) : Type 0 where
      pub from_zero : pos 0 ≤ℤ estimate_of x
      pub at_goal : eq x names.to ≡ true → estimate_of x ≡ pos 0

    -- the estimate of a name is at most what its edge of this number costs and the estimate of the name that the edge leads to
    abbrev pub FallsAlong : N → ℕ → Type 0
    FallsAlong x number = (edge : N × ℤ) → slice_get (edges_from eq value names.list x) number ≡ Some edge → estimate_of x ≤ℤ (edge.1 +ℤ estimate_of edge.0)

    -- each estimate is from 0 up, that of the name that is looked for is 0, and that of a name is at most what an edge from it costs and the estimate behind it
    pub record AreConsistentByName : Type 0 where
      pub sound : (x : N) → IsSoundFor x
      pub falls : (x : N) (number : ℕ) → FallsAlong x number

    -- x is the name of this number, and P holds of all names before it
    pub record IsFirstWithout (P : N → Type 0) (x : N) : Type 0 where
      pub number : ℕ
      pub stands : slice_get (names_of eq names.list) number ≡ Some x
      pub before : (k : ℕ) (y : N) → k < number → slice_get (names_of eq names.list) k ≡ Some y → P y

    -- the estimate of a name is above what an edge from it costs and the estimate of the name that the edge leads to, and not above any edge before that
    pub record IsAboveFirst (x y : N) : Type 0 where
      pub number : ℕ
      pub edge : N × ℤ
      pub stands : slice_get (edges_from eq value names.list x) number ≡ Some edge
      pub leads : eq y edge.0 ≡ true
      pub above : (edge.1 +ℤ estimate_of y) <ℤ estimate_of x
      pub before : (k : ℕ) → k < number → FallsAlong x k

    -- The error names the first name whose own estimate is at fault, or else the first whose estimate is above an edge; nothing is said where memory was refused.
    abbrev pub IsNameEstimateFault : NameEstimateError N → Type 0
    IsNameEstimateFault OutOfMemory = ⊤
    IsNameEstimateFault (NegativeEstimate name) = IsFirstWithout IsSoundFor name.now × (estimate_of name.now <ℤ pos 0)
    IsNameEstimateFault (EstimateAtGoal name) = IsFirstWithout IsSoundFor name.now × (eq name.now names.to ≡ true) × (pos 0 <ℤ estimate_of name.now)
    IsNameEstimateFault (EstimateAboveEdge from to) = ((x : N) → IsSoundFor x) × IsFirstWithout (λ x. (number : ℕ) → FallsAlong x number) from.now × IsAboveFirst from.now to.now
