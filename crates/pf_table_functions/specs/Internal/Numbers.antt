-- The numbers by which a search knows the nodes of a table.
use Rattle.std.specs.Prelude.{◌≡◌, ◌↔◌, ◌⊎◌, ◌+◌, ◌^◌, ◌<◌, ◌≤◌, ℕ, List, [], Some, length, slice_get}

-- of each node of a table with `size` nodes one more than its place among those that were found, and else 0; each node was found once; nothing is laid out before the first one; and numbers have 32 bits
pub record AreNumbersOf (size : ℕ) (numbers nodes : List ℕ) : Type 0 where
  pub numbered : (x k : ℕ) → x < length numbers → (slice_get numbers x ≡ Some (k + 1)) ↔ (slice_get nodes k ≡ Some x)
  pub once : (i j x : ℕ) → slice_get nodes i ≡ Some x → slice_get nodes j ≡ Some x → i ≡ j
  pub laid : (nodes ≡ []) ⊎ (size ≤ length numbers)
  pub few : length nodes < 2 ^ 32
