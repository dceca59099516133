-- A known graph of which some steps are left out.
use Rattle.std.specs.Prelude.{◌≡◌, ℕ, ℤ, ◌<◌, Bool, true, false, not, ◌&&◌, List, Option, Some, None, length, Contains, filter, slice_get, nat_eq}
use Rattle.pf_core.specs.Steps.{NumberedOverflows}
use Rattle.pf_yen.specs.declared.filtered.FilteredGraph.{FilteredGraph}
use Rattle.pf_yen.specs.Internal.Classes.{is_in}
use Rattle.pf_yen.specs.Internal.Adjacency.{AdjacencyLists, is_goal, row_of}

-- the graph; for some numbers the only one that may follow, to which no other step is left; and the spur, behind which some numbers are banned
pub record FilteredLists (C : Type 0) : Type 0 where
  pub adjacency : AdjacencyLists C
  pub onward : List (Option ℕ)
  pub spur : ℕ
  pub banned : List ℕ

-- whether no number has to follow this one
abbrev pub waits : Option (Option ℕ) → Bool
waits (Some (Some y)) = false
waits (Some None) = true
waits None = true

-- whether the number is neither the spur nor one before it
abbrev pub is_new : List (Option ℕ) → ℕ → ℕ → Bool
is_new onward spur x = waits (slice_get onward x) && not (nat_eq x spur)

-- whether a step to b is left, from a number whose onward one is this
abbrev pub allows_by : Option (Option ℕ) → Bool → ℕ → Bool
allows_by (Some (Some only)) otherwise b = nat_eq b only
allows_by (Some None) otherwise b = otherwise
allows_by None otherwise b = otherwise

module _ {C : Type 0} where
  -- whether a step from a to b is left
  abbrev pub allows : FilteredLists C → ℕ → ℕ → Bool
  allows g a b = allows_by (slice_get g.onward a) (waits (slice_get g.onward b) && not (nat_eq a g.spur && is_in g.banned b)) b

  -- the steps that are left
  abbrev pub filtered_row : FilteredLists C → ℕ → List (ℕ × C)
  filtered_row g a = filter (λ (e : ℕ × C). allows g a e.0) (row_of g.adjacency a)

  abbrev pub FilteredStep : (C → ℤ) → FilteredLists C → ℕ → ℤ → ℕ → Type 0
  FilteredStep value g a z b = (c : C) × Contains (filtered_row g a) (b, c) × (value c ≡ z)

  -- each step leads to a known number
  abbrev pub EndsInside : AdjacencyLists C → Type 0
  EndsInside k = (a b : ℕ) (c : C) → Contains (row_of k a) (b, c) → b < length k.rows

-- the graph that is searched, with what is left of it
abbrev pub graph_filtered_by : {C A : Type 0} → FilteredGraph C A → FilteredLists C
graph_filtered_by filtered = record { adjacency = filtered.adjacency.now; onward = filtered.onward.items; spur = filtered.spur; banned = filtered.banned }

-- a known number stands for itself
abbrev pub StandsForItself : ℕ → ℕ → ℕ → Type 0
StandsForItself n k x = (k ≡ x) × (k < n)

-- a sum that does not fit was met in what is left of the graph: a cheapest path from number 0 to some number, and one step more
abbrev pub OverflowsFromStart : {C : Type 0} → (C → ℤ) → FilteredLists C → (ℤ → Type 0) → Type 0
OverflowsFromStart value g fits = NumberedOverflows (FilteredStep value g) (is_goal g.adjacency) (StandsForItself (length g.adjacency.rows) 0) (StandsForItself (length g.adjacency.rows)) fits
