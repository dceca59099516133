-- Steps from one vertex to another beside it.
use Rattle.std.specs.Prelude.{ℕ, ◌+◌, ◌-◌, Bool, true, false, ◌||◌, nat_lt, not, Option, Some, None, if◌then◌else◌, List, [], ◌∷◌, map}
use Rattle.std.specs.List.{filter_map, flat_map}
use Rattle.pf_base.specs.Shifts.{is_diagonal}
use Rattle.pf_grid.specs.GridPositions.{Positions, has}
use Rattle.pf_grid.specs.Vertices.{vertices_of}
use Rattle.pf_base.specs.declared.shift.Shift.{Shift}
use Rattle.pf_base.specs.declared.shift.Shift.TheVariants.{Before, Same, After}

-- the coordinate before, the same one, or the one after
abbrev pub shifted : ℕ → Shift → Option ℕ
shifted at Before = if nat_lt 0 at then Some (at - 1) else None
shifted at Same = Some at
shifted at After = Some (at + 1)

-- the vertex with these coordinates, if both are there and it is one
abbrev pub vertex_at : Positions → Option ℕ → Option ℕ → Option (ℕ × ℕ)
vertex_at g None y = None
vertex_at g (Some x) None = None
vertex_at g (Some x) (Some y) = if has g x y then Some (x, y) else None

-- the vertex that a step leads to, if there is one and the mode allows the step
abbrev pub target : Positions → ℕ × ℕ → Shift × Shift → Option (ℕ × ℕ)
target g p to = if g.diagonal || not (is_diagonal to) then vertex_at g (shifted p.0 to.0) (shifted p.1 to.1) else None

-- the steps to all sides: those to the column before, to the column after, and in the column
abbrev pub around : List (Shift × Shift)
around = (Before, Same) ∷ (Before, Before) ∷ (Before, After) ∷ (After, Same) ∷ (After, Before) ∷ (After, After) ∷ (Same, Before) ∷ (Same, After) ∷ []

-- the vertices beside a vertex; beside another position there are none
abbrev pub neighbours_of : Positions → ℕ × ℕ → List (ℕ × ℕ)
neighbours_of g p = if has g p.0 p.1 then filter_map (target g p) around else []

-- the steps to one side of each pair
abbrev pub forward : List (Shift × Shift)
forward = (After, Same) ∷ (Same, After) ∷ (After, After) ∷ (Before, After) ∷ []

-- the edges from a vertex by these steps
abbrev pub edges_by : Positions → ℕ × ℕ → List (Shift × Shift) → List ((ℕ × ℕ) × (ℕ × ℕ))
edges_by g p ways = map (λ q. (p, q)) (filter_map (target g p) ways)

-- each edge once: from each vertex, by rows, the edges forward
abbrev pub edges_of : Positions → List ((ℕ × ℕ) × (ℕ × ℕ))
edges_of g = flat_map (λ p. edges_by g p forward) (vertices_of g)
