-- The graph of a list of edges (from, to, cost), from both ends.
use Rattle.std.specs.Prelude.{ℤ, Bool, List, map}
use Rattle.test_edge_lists.specs.Chosen.{chosen}

module _ {N C : Type 0} (eq : N → N → Bool) (edges : List (N × N × C)) where
  -- where the edges from n lead, and at which cost, in the order of the list
  abbrev pub ends_from : N → List (N × C)
  ends_from = chosen eq (λ (e : N × N × C). e.0) (λ (e : N × N × C). (e.1, e.2)) edges

  -- where the edges to n come from, and at which cost, in the order of the list
  abbrev pub starts_to : N → List (N × C)
  starts_to = chosen eq (λ (e : N × N × C). e.1) (λ (e : N × N × C). (e.0, e.2)) edges

  -- the edges from n, each with the whole number that it costs
  abbrev pub edges_from : (C → ℤ) → N → List (N × ℤ)
  edges_from value n = map (λ (e : N × C). (e.0, value e.1)) (ends_from n)

  -- the edges to n, each with the whole number that it costs
  abbrev pub edges_to : (C → ℤ) → N → List (N × ℤ)
  edges_to value n = map (λ (e : N × C). (e.0, value e.1)) (starts_to n)
