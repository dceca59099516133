-- Positions of points with coordinates of some type, counted from the least coordinate of each axis.
use Rattle.std.specs.Prelude.{ℕ, ℤ, pos, negsuc, ◌-ℤ◌, ◌^◌, nat_lt, if◌then◌else◌, Option, Some, None, List, [], ◌∷◌, map}
use Rattle.std.specs.Option.{option_zip}
use Rattle.std.specs.Int.{int_min}

-- a whole number as a `usize`, if it is one
abbrev pub size_of : ℕ → Option ℕ
size_of n = if nat_lt n (2 ^ 64) then Some n else None

abbrev pub as_size : ℤ → Option ℕ
as_size (pos n) = size_of n
as_size (negsuc n) = None

-- the exact difference of a number and the least one, if it is a `usize`
abbrev pub offset : ℤ → ℤ → Option ℕ
offset z least = as_size (z -ℤ least)

-- the whole numbers of the coordinates of points
abbrev pub numbers_of : {T : Type 0} → (T → ℤ) → List (T × T) → List (ℤ × ℤ)
numbers_of value points = map (λ p. (value p.0, value p.1)) points

-- the least of a number and of those of an axis of points
unfoldable pub least_with : (ℤ × ℤ → ℤ) → ℤ → List (ℤ × ℤ) → ℤ
least_with axis z [] = z
least_with axis z (p ∷ ps) = least_with axis (int_min z (axis p)) ps

-- the least number on each axis; without points it does not matter which
abbrev pub least_of : List (ℤ × ℤ) → ℤ × ℤ
least_of [] = (pos 0, pos 0)
least_of (p ∷ ps) = (least_with (λ q. q.0) p.0 ps, least_with (λ q. q.1) p.1 ps)

-- the position of a point, counted from the least coordinates
abbrev pub position_from : ℤ × ℤ → ℤ × ℤ → Option (ℕ × ℕ)
position_from least p = option_zip (offset p.0 least.0) (offset p.1 least.1)

abbrev pub joined : Option (ℕ × ℕ) → Option (List (ℕ × ℕ)) → Option (List (ℕ × ℕ))
joined (Some p) (Some ps) = Some (p ∷ ps)
joined (Some p) None = None
joined None ps = None

-- the positions of all points, if each difference is a `usize`
unfoldable pub positions_from : ℤ × ℤ → List (ℤ × ℤ) → Option (List (ℕ × ℕ))
positions_from least [] = Some []
positions_from least (p ∷ ps) = joined (position_from least p) (positions_from least ps)

-- the points counted from the least coordinate of each axis
abbrev pub offsets_of : List (ℤ × ℤ) → Option (List (ℕ × ℕ))
offsets_of ps = positions_from (least_of ps) ps
