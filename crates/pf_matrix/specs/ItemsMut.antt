-- What an iterator over positions and values for writing has left, and what it leaves behind.
use Rattle.std.specs.Prelude.{ℕ, List}
use Rattle.std.specs.List.{zip}
use Rattle.std.specs.Borrow.{Fml, RattleType, MutBor}
use Rattle.std.specs.Slice.Iter.{iter_mut_rest}
use Rattle.std.specs.declared.alloc.Allocator.{Ghosts}
use Rattle.pf_matrix.specs.Lends.{lends_iter}
use Rattle.pf_matrix.specs.Tables.{Table}
use Rattle.pf_matrix.specs.declared.matrix.items_mut.ItemsMut.{ItemsMut}

abbrev pub items_mut_rest : {C : Type 0} → ItemsMut C → List ((ℕ × ℕ) × C)
items_mut_rest s = zip s.keys (iter_mut_rest s.values)

-- once the iterator's borrow ends, the matrix m has its sizes, and the values that were written
abbrev pub lends_items : (C A : RattleType) → Ghosts A.Denot → MutBor (Table C.Denot) → ItemsMut C.Denot → Fml
lends_items C A alloc m it = lends_iter C A alloc m it.values
