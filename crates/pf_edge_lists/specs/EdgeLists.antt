-- Graphs over names, given as lists of edges (from, to, cost), and of names that may stand in no edge.
use Rattle.std.specs.Prelude.{◌≡◌, ◌<◌, ◌≤ℤ◌, ◌<ℤ◌, ℕ, ℤ, pos, Bool, List, [], ◌∷◌, ◌++◌, Option, Some, map, length, slice_get}
use Rattle.std.specs.List.{flat_map}
use Rattle.std.specs.Option.{option_map_or}
use Rattle.indexmap.specs.IndexSet.{insert_all}
use Rattle.pf_base.specs.Places.{number_of}
use Rattle.pf_core.specs.Nodes.{StandsFor}
use Rattle.pf_tables.specs.Graphs.{filled}
use Rattle.pf_adjacency.specs.NumberedEdges.{ends_from}
use Rattle.pf_edge_lists.specs.declared.error.EdgeListError.{EdgeListError}
use Rattle.pf_edge_lists.specs.declared.error.EdgeListError.TheVariants.{OutOfMemory, NegativeCost}

-- the two names of each edge, in the order of the list
abbrev pub ends_of : {N C : Type 0} → List (N × N × C) → List N
ends_of {N} {C} edges = flat_map (λ (e : N × N × C). e.0 ∷ e.1 ∷ []) edges

-- the names that are given by themselves, and the edges
pub record NamesAndEdges (N C : Type 0) : Type 0 where
  pub names : List N
  pub edges : List (N × N × C)

-- the names that are given by themselves, and then the two names of each edge
abbrev pub mentions_of : {N C : Type 0} → NamesAndEdges N C → List N
mentions_of list = list.names ++ ends_of list.edges

module _ {N : Type 0} (eq : N → N → Bool) where
  module _ {C : Type 0} where
    -- the same, each with the whole number that it costs: the graph over names
    abbrev pub edges_from : (C → ℤ) → NamesAndEdges N C → N → List (N × ℤ)
    edges_from value list x = map (λ (e : N × C). (e.0, value e.1)) (ends_from eq list.edges x)

    -- the names that the edges from x lead to, in the order of the list: the graph over names without costs
    abbrev pub targets_from : NamesAndEdges N C → N → List N
    targets_from list x = map (λ (e : N × C). e.0) (ends_from eq list.edges x)

    -- the names that are mentioned, each once, in the order in which they are first met
    abbrev pub names_of : NamesAndEdges N C → List N
    names_of list = insert_all eq [] (mentions_of list)

    -- the number of a name stands for it
    abbrev pub IsNumbered : NamesAndEdges N C → N → Type 0
    IsNumbered list x = StandsFor eq (names_of list) (number_of eq (names_of list) x) x

    -- the number of each name that is given, and of each name of an edge, stands for it
    pub record AreNumbered (list : NamesAndEdges N C) : Type 0 where
      pub given : (k : ℕ) (x : N) → slice_get list.names k ≡ Some x → IsNumbered list x
      pub ends : (k : ℕ) (e : N × N × C) → slice_get list.edges k ≡ Some e → IsNumbered list e.0 × IsNumbered list e.1

    -- the edges whose first name equals x, each with the number of its second name and its cost
    abbrev pub numbered_from : NamesAndEdges N C → N → List (ℕ × C)
    numbered_from list x = map (λ (e : N × C). (number_of eq (names_of list) e.0, e.1)) (ends_from eq list.edges x)

    -- what stands at the places of a node: the edges from its name
    abbrev pub places_of : NamesAndEdges N C → ℕ → List (Option (ℕ × C))
    places_of list node = option_map_or (λ x. filled (numbered_from list x)) (slice_get (names_of list) node) []

    -- at the places of the node that stands for a name x are the edges whose first name equals x
    abbrev pub HasEdgesByName : NamesAndEdges N C → Type 0
    HasEdgesByName list = (node : ℕ) (x : N) → StandsFor eq (names_of list) node x → places_of list node ≡ filled (numbered_from list x)

module _ {N C : Type 0} (value : C → ℤ) where
  -- no edge before this number costs less than 0
  abbrev pub CostsFromZeroTo : List (N × N × C) → ℕ → Type 0
  CostsFromZeroTo edges number = (k : ℕ) (e : N × N × C) → k < number → slice_get edges k ≡ Some e → pos 0 ≤ℤ value e.2

  -- the edge of this number is the first that costs less than 0
  abbrev pub IsFirstNegative : List (N × N × C) → ℕ → Type 0
  IsFirstNegative edges number = ((e : N × N × C) × (slice_get edges number ≡ Some e) × (value e.2 <ℤ pos 0)) × CostsFromZeroTo edges number

  -- the error names the first edge that costs less than 0, or there is none and memory was refused
  abbrev pub IsEdgeListFault : List (N × N × C) → EdgeListError → Type 0
  IsEdgeListFault edges OutOfMemory = CostsFromZeroTo edges (length edges)
  IsEdgeListFault edges (NegativeCost number) = IsFirstNegative edges number
