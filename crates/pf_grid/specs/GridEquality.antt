-- When two grids are equal: where they have the same vertices, whatever their sizes and modes.
use Rattle.std.specs.Prelude.{◌≡◌, ℕ, zero, suc, Bool, true, ◌&&◌, not, if◌then◌else◌, max}
use Rattle.pf_grid.specs.GridPositions.{Positions, has}

abbrev pub HasSameVertices : Positions → Positions → Type 0
HasSameVertices a b = (x y : ℕ) → has a x y ≡ has b x y

-- whether the test holds of each number below n
unfoldable pub all_below : (ℕ → Bool) → ℕ → Bool
all_below test zero = true
all_below test (suc n) = test n && all_below test n

abbrev pub is_same : Bool → Bool → Bool
is_same a b = if a then b else not b

-- whether two grids have the same vertices, by the positions that are inside one of them
abbrev pub same_vertices : Positions → Positions → Bool
same_vertices a b = all_below (λ y. all_below (λ x. is_same (has a x y) (has b x y)) (max a.width b.width)) (max a.height b.height)
