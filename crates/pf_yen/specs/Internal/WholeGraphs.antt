-- A graph that was learned whole.
use Rattle.std.specs.Prelude.{◌≡◌, ◌≤ℤ◌, ◌<◌, ℕ, ℤ, pos, true, [], length, Contains}
use Rattle.pf_yen.specs.Internal.Adjacency.{AdjacencyLists, is_goal, row_of}

-- Each step leads to a known number, none costs less than 0, and none leads from a goal.
pub record IsWhole {C : Type 0} (value : C → ℤ) (k : AdjacencyLists C) : Type 0 where
  pub inside : (a b : ℕ) (c : C) → Contains (row_of k a) (b, c) → b < length k.rows
  pub from_zero : (a b : ℕ) (c : C) → Contains (row_of k a) (b, c) → pos 0 ≤ℤ value c
  pub stops : (a : ℕ) → is_goal k a ≡ true → row_of k a ≡ []
