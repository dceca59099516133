-- Nodes in the order in which they were found, and the number of each.
use Rattle.std.specs.Prelude.{◌≡◌, ◌+◌, ◌<◌, ℕ, pos, Bool, List, Option, Some, slice_get, map, nat_eq}
use Rattle.std.specs.List.{IsDistinct}
use Rattle.pf_base.specs.Answers.{ListsEdges}
use Rattle.pf_base.specs.Edges.{InReach}
use Rattle.pf_core.specs.Nodes.{TestedGraph}
use Rattle.pf_tables.specs.Graphs.{present}

-- one more than the number of each node that was found, and 0 at the others
pub record IsIndex (order numbers : List ℕ) : Type 0 where
  pub at : (k x : ℕ) → slice_get order k ≡ Some x → slice_get numbers x ≡ Some (k + 1)
  pub back : (k x : ℕ) → slice_get numbers x ≡ Some (k + 1) → slice_get order k ≡ Some x

-- the edges at places, each at the cost 1
abbrev pub steps_at : {C : Type 0} → List (Option (ℕ × C)) → List (ℕ × ℕ)
steps_at {C} places = map (λ (e : ℕ × C). (e.0, 1)) (present places)

-- The graph over the numbers below `size` is explored: its edges are what stands at the places, at the cost 1, its test is the one that is asked, and what was found is in reach.
pub record IsExplored {C : Type 0} (size : ℕ) (places : ℕ → List (Option (ℕ × C))) (passes : ℕ → Bool) (g : TestedGraph ℕ) (order numbers : List ℕ) : Type 0 where
  pub listed : (n : ℕ) → n < size → ListsEdges nat_eq (λ (k : ℕ). pos k) (steps_at (places n)) (g.graph.edges n)
  pub tested : (n : ℕ) → passes n ≡ g.test n
  pub distinct : IsDistinct nat_eq order
  pub reached : (k x : ℕ) → slice_get order k ≡ Some x → InReach nat_eq g.graph.edges g.graph.starts x
