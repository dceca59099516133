-- Where an iterator over positions stands.
use Rattle.std.specs.Prelude.{◌≡◌, ℕ, ◌<◌, ◌≤◌}

-- at a position inside, or at the beginning of the row past the last
pub record IsAtKey (r c rows columns : ℕ) : Type 0 where
  pub row : r ≤ rows
  pub inside : r < rows → c < columns
  pub past : r ≡ rows → c ≡ 0
