-- Rows of a table in compact form.
use Rattle.std.specs.Prelude.{◌<◌, ℕ, ℤ, List}
use Rattle.pf_tables.specs.Faults.{IsSoundRow}

-- the row of each node is sound
abbrev pub AreSoundRows : {C : Type 0} → (C → ℤ) → ℕ → (ℕ → List (ℕ × C)) → Type 0
AreSoundRows value size rows = (n : ℕ) → n < size → IsSoundRow value size (rows n)
