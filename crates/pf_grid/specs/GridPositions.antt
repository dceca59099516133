-- What a contract sees of a grid: its sizes, its mode, and whether each position inside is there.
use Rattle.std.specs.Prelude.{◌≡◌, ◌&&◌, ◌||◌, not, ℕ, ◌+◌, ◌*◌, ◌/◌, ◌%◌, ◌^◌, ◌<◌, Bool, true, false, nat_lt, nat_eq, List, length, map, slice_index_or}
use Rattle.std.specs.List.{range_with_len, count_by}

-- The positions are listed by rows, the row of y = 0 first.
pub record Positions : Type 0 where
  pub width : ℕ
  pub height : ℕ
  pub diagonal : Bool
  pub cells : List Bool

-- There is a cell for each position, and their number fits 64 bits.
pub record IsGrid (g : Positions) : Type 0 where
  pub sized : length g.cells ≡ g.width * g.height
  pub fits : g.width * g.height < 2 ^ 64

-- a position inside: x by the width, and y by the height
abbrev pub IsInside : Positions → ℕ × ℕ → Type 0
IsInside g p = (p.0 < g.width) × (p.1 < g.height)

-- whether (x, y) is inside
abbrev pub is_inside : Positions → ℕ → ℕ → Bool
is_inside g x y = nat_lt x g.width && nat_lt y g.height

-- whether (x, y) is a vertex; outside there are none
abbrev pub has : Positions → ℕ → ℕ → Bool
has g x y = is_inside g x y && slice_index_or g.cells (y * g.width + x) false

-- the cells of the positions inside at which the test gives true
unfoldable pub cells_of : ℕ → ℕ → (ℕ → ℕ → Bool) → List Bool
cells_of width height test = map (λ k. test (k % width) (k / width)) (range_with_len 0 (width * height))

-- the grid of these sizes and this mode whose vertices are the positions inside at which the test gives true
abbrev pub grid_of : ℕ → ℕ → Bool → (ℕ → ℕ → Bool) → Positions
grid_of width height diagonal test = record { width = width; height = height; diagonal = diagonal; cells = cells_of width height test }

-- the same sizes and the same mode, and these vertices
abbrev pub with_vertices : Positions → (ℕ → ℕ → Bool) → Positions
with_vertices g test = grid_of g.width g.height g.diagonal test

-- g with all positions inside, with none, and with those that it lacks
abbrev pub filled : Positions → Positions
filled g = with_vertices g (λ x y. true)

abbrev pub cleared : Positions → Positions
cleared g = with_vertices g (λ x y. false)

abbrev pub inverted : Positions → Positions
inverted g = with_vertices g (λ x y. not (has g x y))

abbrev pub is_position : ℕ × ℕ → ℕ → ℕ → Bool
is_position p x y = nat_eq x p.0 && nat_eq y p.1

-- g with this position, if it is inside, and without it
abbrev pub with_position : Positions → ℕ × ℕ → Positions
with_position g p = with_vertices g (λ x y. is_position p x y || has g x y)

abbrev pub without_position : Positions → ℕ × ℕ → Positions
without_position g p = with_vertices g (λ x y. not (is_position p x y) && has g x y)

-- g in this mode
abbrev pub in_mode : Positions → Bool → Positions
in_mode g diagonal = record { width = g.width; height = g.height; diagonal = diagonal; cells = g.cells }

-- how many vertices there are
abbrev pub vertex_count : Positions → ℕ
vertex_count g = count_by (λ c. c) g.cells
