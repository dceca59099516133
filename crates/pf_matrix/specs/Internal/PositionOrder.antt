-- The order in which a set keeps positions.
use Rattle.std.specs.Prelude.{ℕ}
use Rattle.std.specs.declared.cmp.Ordering.{Ordering}
use Rattle.std.specs.Ordering.{nat_cmp, ordering_then}

-- the order of positions: by row, then by column
abbrev pub position_cmp : ℕ × ℕ → ℕ × ℕ → Ordering
position_cmp p q = ordering_then (nat_cmp p.0 q.0) (nat_cmp p.1 q.1)
