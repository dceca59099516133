-- Steps at reduced costs: what they cost and what remains behind them, less what remains before them.
use Rattle.std.specs.Prelude.{◌≡◌, ◌+ℤ◌, ◌<◌, ℕ, ℤ, pos, true, List, [], length, Contains, Option, Some, slice_get, slice_index_or, MatchOption, ⊤}
use Rattle.pf_yen.specs.Internal.Adjacency.{AdjacencyLists, is_goal, row_of}
use Rattle.pf_yen.specs.Internal.Remaining.{AreRemaining}
use Rattle.pf_yen.specs.declared.reduced.Guide.{Guide}

module _ {C : Type 0} (value : C → ℤ) where
  -- Of the steps from a number from which so much remains, a row has those behind which a cost is known, each at its reduced cost.
  pub record IsReducedRow (costs : List (Option C)) (steps : List (ℕ × C)) (here : Option C) (row : List (ℕ × C)) : Type 0 where
    pub sound : (b : ℕ) (d : C) → Contains row (b, d) → (c : C) × (x : C) × (y : C) × Contains steps (b, c) × (here ≡ Some x) × (slice_get costs b ≡ Some (Some y)) × (value d +ℤ value x ≡ value c +ℤ value y)
    pub whole : (b : ℕ) (c y : C) → Contains steps (b, c) → slice_get costs b ≡ Some (Some y) → (d : C) × (x : C) × Contains row (b, d) × (here ≡ Some x) × (value d +ℤ value x ≡ value c +ℤ value y)

  -- The rows have the steps of a graph at reduced costs, and nothing remains from a goal.
  pub record AreReduced (k : AdjacencyLists C) (costs : List (Option C)) (rows : List (List (ℕ × C))) : Type 0 where
    pub wide : length rows ≡ length k.rows
    pub each : (a : ℕ) (here : Option C) → a < length k.rows → slice_get costs a ≡ Some here → IsReducedRow costs (row_of k a) here (slice_index_or rows a [])
    pub free : (a : ℕ) → a < length k.rows → is_goal k a ≡ true → (y : C) × (slice_get costs a ≡ Some (Some y)) × (value y ≡ pos 0)

  -- These costs remain, and the rows have the steps of a graph at costs that are reduced by them.
  pub record Leads (fits : ℤ → Type 0) (k : AdjacencyLists C) (costs : List (Option C)) (rows : List (List (ℕ × C))) : Type 0 where
    pub remaining : AreRemaining value fits k costs
    pub reduced : AreReduced k costs rows

-- what remains, and reduced costs where they were found
abbrev pub Guides : {C A : Type 0} → (C → ℤ) → (ℤ → Type 0) → AdjacencyLists C → Guide C A → Type 0
Guides value fits k guide = AreRemaining value fits k guide.remaining.items × MatchOption guide.reduced ⊤ (λ rows. AreReduced value k guide.remaining.items rows)

-- the same numbers and goals, with other steps
abbrev pub with_rows : {C : Type 0} → AdjacencyLists C → List (List (ℕ × C)) → AdjacencyLists C
with_rows k rows = record { rows = rows; goals = k.goals }
