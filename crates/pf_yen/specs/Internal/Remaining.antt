-- What remains from each number to a goal.
use Rattle.std.specs.Prelude.{◌≡◌, ◌≤ℤ◌, ◌+ℤ◌, ℕ, ℤ, pos, true, false, List, length, Contains, Option, Some, slice_get}
use Rattle.pf_yen.specs.Internal.Adjacency.{AdjacencyLists, is_goal, row_of}

module _ {C : Type 0} (value : C → ℤ) (fits : ℤ → Type 0) (k : AdjacencyLists C) where
  -- No more than this cost remains from a, where these costs remain from the others: nothing from a goal, and from another number at most a step and what remains behind it. Where there is no such step, there is no cost.
  pub record IsLeastFrom (costs : List (Option C)) (a : ℕ) (here : Option C) : Type 0 where
    pub goal : is_goal k a ≡ true → (x : C) × (here ≡ Some x) × (value x ≤ℤ pos 0)
    pub onward : is_goal k a ≡ false → (b : ℕ) (c y : C) → Contains (row_of k a) (b, c) → slice_get costs b ≡ Some (Some y) → (x : C) × (here ≡ Some x) × (value x ≤ℤ (value c +ℤ value y)) × fits (value c +ℤ value y)

  -- No walk from a number to a goal costs less than these costs say, and there is none where they say none.
  pub record AreRemaining (costs : List (Option C)) : Type 0 where
    pub wide : length costs ≡ length k.rows
    pub least : (a : ℕ) (here : Option C) → slice_get costs a ≡ Some here → IsLeastFrom costs a here
