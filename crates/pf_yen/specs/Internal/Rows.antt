-- Rows that stand one behind the other in one block.
use Rattle.std.specs.Prelude.{◌≡◌, ◌≤◌, ◌-◌, ℕ, List, [], ◌∷◌, take, drop, slice_index_or, zero, suc}

-- the rows of a block that begins at the place `from`, by the places at which they end
abbrev pub rows_from : {X : Type 0} → ℕ → List ℕ → List X → List (List X)
rows_from from [] xs = []
rows_from from (e ∷ es) xs = take (e - from) xs ∷ rows_from e es (drop (e - from) xs)

-- the places at which rows end, from the place `from` on: none is before the one in front of it, and the last is n
abbrev pub AreEnds : ℕ → List ℕ → ℕ → Type 0
AreEnds from [] n = from ≡ n
AreEnds from (e ∷ es) n = (from ≤ e) × AreEnds e es n

-- where a row begins: at the place `from`, or where the one in front of it ends
abbrev pub row_begin : ℕ → List ℕ → ℕ → ℕ
row_begin from ends zero = from
row_begin from ends (suc i) = slice_index_or ends i 0
