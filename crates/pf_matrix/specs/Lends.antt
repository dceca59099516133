-- What a matrix ends as, where a `&mut` to its values is returned.
use Rattle.std.specs.Prelude.{ℕ, ◌+◌, ◌*◌, List, Option, length, slice_set}
use Rattle.std.specs.List.{refill}
use Rattle.std.specs.Borrow.{Lends, LendsIf, follows, Fml, RattleType, MutBor, Array}
use Rattle.std.specs.declared.alloc.Allocator.{Ghosts}
use Rattle.std.specs.declared.slice.IterMut.{IterMut}
use Rattle.std.specs.Slice.Iter.{iter_mut_name}
use Rattle.pf_matrix.specs.Tables.{Table}
use Rattle.pf_matrix.specs.contracts.matrix.Matrix.{the_row}

-- m after a write of its values as a slice, which keeps the length
abbrev pub with_values : {C : Type 0} → Table C → List C → Table C
with_values m ws = record { rows = m.rows; columns = m.columns; values = refill (length m.values) m.values ws }

-- m with the value w at (r, c)
abbrev pub with_value : {C : Type 0} → Table C → ℕ × ℕ → C → Table C
with_value m p w = record { rows = m.rows; columns = m.columns; values = slice_set m.values (p.0 * m.columns + p.1) w }

module _ (C A : RattleType) (alloc : Ghosts A.Denot) (m : MutBor (Table C.Denot)) where
  -- once the borrow r ends, the values are those that r shows last
  abbrev pub lends_values : MutBor (List C.Denot) → Fml
  lends_values r = Lends (the_row C A alloc) (Array C 0) m r (with_values m.now)

  -- the same where the values went to an `iter_mut`
  abbrev pub lends_iter : IterMut C.Denot → Fml
  lends_iter it = follows (the_row C A alloc) (Array C 0) m.ghost_name (iter_mut_name it) (with_values m.now)

  -- once the borrow r ends, the position has the last value written through r
  abbrev pub lends_at : ℕ × ℕ → MutBor C.Denot → Fml
  lends_at p r = Lends (the_row C A alloc) C m r (with_value m.now p)

  -- the same where r is a reference, and at `None` the matrix stays as it is
  abbrev pub lends_get : ℕ × ℕ → Option (MutBor C.Denot) → Fml
  lends_get p r = LendsIf (the_row C A alloc) C m r (with_value m.now p) m.now
