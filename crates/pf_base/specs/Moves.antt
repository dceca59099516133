-- Moves over a board of rows and columns. A position is a row and a column, a direction what a step adds to them.
use Rattle.std.specs.Prelude.{◌≡◌, ◌≢◌, ◌+◌, ◌-◌, ◌<◌, ◌+ℤ◌, ◌*ℤ◌, ◌&&◌, ℕ, ℤ, zero, suc, pos, negsuc, Bool, true, false, nat_lt, if◌then◌else◌, List, [], ◌∷◌, Option, None, Some}
use Rattle.std.specs.Option.{option_map_or, option_zip}

-- the answer is a value with the property, or `None` where no value has it
abbrev pub Finds : {A : Type 0} → (A → Type 0) → Option A → Type 0
Finds {A} P None = (x : A) → ¬ (P x)
Finds {A} P (Some x) = P x

abbrev pub IsInside : ℕ × ℕ → ℕ × ℕ → Type 0
IsInside dimensions position = (position.0 < dimensions.0) × (position.1 < dimensions.1)

-- the target is the start plus the direction, both are inside, and the direction is not (0, 0)
pub record IsMove (start : ℕ × ℕ) (direction : ℤ × ℤ) (dimensions target : ℕ × ℕ) : Type 0 where
  pub from_inside : IsInside dimensions start
  pub moves : direction ≢ (pos 0, pos 0)
  pub row : pos target.0 ≡ pos start.0 +ℤ direction.0
  pub column : pos target.1 ≡ pos start.1 +ℤ direction.1
  pub to_inside : IsInside dimensions target

-- so many steps in a direction
abbrev pub times : ℕ → ℤ × ℤ → ℤ × ℤ
times n direction = (pos n *ℤ direction.0, pos n *ℤ direction.1)

-- ---- the positions of a ray, each found from the one before

-- the number, where it is from 0 and below the size
abbrev pub below_size : ℤ → ℕ → Option ℕ
below_size (pos n) size = if nat_lt n size then Some n else None
below_size (negsuc n) size = None

abbrev pub is_zero : ℤ → Bool
is_zero (pos zero) = true
is_zero (pos (suc n)) = false
is_zero (negsuc n) = false

abbrev pub is_inside : ℕ × ℕ → ℕ × ℕ → Bool
is_inside dimensions position = nat_lt position.0 dimensions.0 && nat_lt position.1 dimensions.1

-- the position that a move leads to
abbrev pub target_of : ℕ × ℕ → ℤ × ℤ → ℕ × ℕ → Option (ℕ × ℕ)
target_of start direction dimensions =
    if is_zero direction.0 && is_zero direction.1 then None else
    if is_inside dimensions start then option_zip (below_size (pos start.0 +ℤ direction.0) dimensions.0) (below_size (pos start.1 +ℤ direction.1) dimensions.1) else None

-- at most `count` positions of a ray
abbrev pub first_of_ray : ℕ → ℕ × ℕ → ℤ × ℤ → ℕ × ℕ → List (ℕ × ℕ)
first_of_ray zero start direction dimensions = []
first_of_ray (suc count) start direction dimensions = option_map_or (λ target. target ∷ first_of_ray count target direction dimensions) (target_of start direction dimensions) []

-- how many steps of this size there can be from a coordinate on before the edge
abbrev pub room : ℕ → ℤ → ℕ → ℕ
room from (pos zero) size = 0
room from (pos (suc step)) size = size - from
room from (negsuc step) size = from + 1

-- all positions of a ray
abbrev pub ray : ℕ × ℕ → ℤ × ℤ → ℕ × ℕ → List (ℕ × ℕ)
ray start direction dimensions = first_of_ray (room start.0 direction.0 dimensions.0 + room start.1 direction.1 dimensions.1) start direction dimensions
