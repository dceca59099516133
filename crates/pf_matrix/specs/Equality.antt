-- Equal tables: the same sizes, and equal values.
use Rattle.std.specs.Prelude.{◌≡◌, ℕ, ◌<◌, ℤ, neg_ℤ, Bool, ◌&&◌, ◌++◌, nat_eq}
use Rattle.std.specs.Cmp.Lexicographic.{pointwise}
use Rattle.std.specs.Hash as fed
use Rattle.std.specs.Hash.{HashWrites}
use Rattle.std.specs.List.{AllZip}
use Rattle.pf_matrix.specs.Tables.{Table, IsMatrix, value_at}

-- the same sizes, and equal values
abbrev pub same_tables : {C : Type 0} → (C → C → Bool) → Table C → Table C → Bool
same_tables eq m n = nat_eq m.rows n.rows && (nat_eq m.columns n.columns && pointwise eq m.values n.values)

-- the sizes, and then the values
abbrev pub table_writes : {C : Type 0} → (C → HashWrites) → Table C → HashWrites
table_writes hash_input m = fed.usize m.rows ++ (fed.usize m.columns ++ fed.slice hash_input m.values)

-- the same sizes, and each value stands to its own as `like` says
pub record IsCopyOf {C D : Type 0} (like : C → D → Type 0) (m : Table C) (n : Table D) : Type 0 where
  pub rows : n.rows ≡ m.rows
  pub columns : n.columns ≡ m.columns
  pub values : AllZip like m.values n.values
  pub matrix : IsMatrix n

-- the same sizes, and the number of each value is the negation of that of its own
pub record IsNegationOf {C : Type 0} (value : C → ℤ) (m n : Table C) : Type 0 where
  pub rows : n.rows ≡ m.rows
  pub columns : n.columns ≡ m.columns
  pub values : (r c : ℕ) (d : C) → r < m.rows → c < m.columns → value (value_at n r c d) ≡ neg_ℤ (value (value_at m r c d))
  pub matrix : IsMatrix n
