-- Graphs over states, by the moves at the places of each state.
use Rattle.std.specs.Prelude.{◌≡◌, ℤ, List, Option, map}
use Rattle.std.specs.List.{filter_map}

-- the moves that stand at places, in order
abbrev pub moves_in : {M : Type 0} → List (Option M) → List M
moves_in {M} places = filter_map (λ (move : Option M). move) places

module _ {N C : Type 0} (moves : N → List (Option (N × C))) where
  -- the edges of a state, each with the whole number that it costs: the graph
  abbrev pub edges_by : (C → ℤ) → N → List (N × ℤ)
  edges_by value state = map (λ (move : N × C). (move.0, value move.1)) (moves_in (moves state))

  -- the states that the moves of a state lead to: the graph without costs
  abbrev pub successors_by : N → List N
  successors_by state = map (λ (move : N × C). move.0) (moves_in (moves state))

module _ {N C S : Type 0} (moves : S → N → List (Option (N × C))) where
  -- the successors are those of the space, at each state
  abbrev pub SpaceListsSuccessors : S → (N → Type 0) → (N → List N) → Type 0
  SpaceListsSuccessors space within next = next ≡ successors_by (moves space)

  -- the edges are those of the space, at each state
  abbrev pub SpaceListsEdges : (C → ℤ) → S → (N → Type 0) → (N → List (N × ℤ)) → Type 0
  SpaceListsEdges value space within edges = edges ≡ edges_by (moves space) value
