-- A list of edges (from, to, cost) between numbers, with an estimate for each number.
use Rattle.std.specs.Prelude.{◌≡◌, ◌≤◌, ◌+◌, ℕ, ℤ, pos, List, All, min, nat_eq, slice_index}
use Rattle.test_edge_lists.specs.Lists.{edges_from, ends_from}

-- where the edges from n lead, and at which cost, in the order of the list
abbrev pub ends_of : List (ℕ × ℕ × ℕ) → ℕ → List (ℕ × ℕ)
ends_of edges = ends_from nat_eq edges

-- the edges from n, each with the whole number that it costs
abbrev pub edges_of : List (ℕ × ℕ × ℕ) → ℕ → List (ℕ × ℤ)
edges_of edges = edges_from nat_eq edges (λ c. pos c)

-- 0 at the end, and along an edge a bound falls by no more than the edge costs
pub record AreBounds (edges : List (ℕ × ℕ × ℕ)) (bounds : List ℕ) (to : ℕ) : Type 0 where
  pub at_end : slice_index bounds to ≡ 0
  pub along : All (λ (e : ℕ × ℕ × ℕ). slice_index bounds e.0 ≤ e.2 + slice_index bounds e.1) edges

-- the estimate of a number, but no more than its bound
abbrev pub estimate_of_node : List ℕ → List ℕ → ℕ → ℕ
estimate_of_node estimates bounds n = min (slice_index estimates n) (slice_index bounds n)
