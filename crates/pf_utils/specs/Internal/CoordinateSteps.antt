-- Steps of one coordinate.
use Rattle.std.specs.Prelude.{◌≡◌, ◌<◌, ◌+ℤ◌, ℕ, ℤ, pos}

-- a step leads from one coordinate to the other, which is below the size
pub record IsCoordinateStep (from : ℕ) (step : ℤ) (size to : ℕ) : Type 0 where
  pub sum : pos to ≡ pos from +ℤ step
  pub inside : to < size
