-- What a table of names shows.
use Rattle.std.specs.Prelude.{◌≡◌, ℕ, ◌<◌, ◌+◌, ◌-◌, List, take, drop, length, vec_len, slice_index}
use Rattle.std.specs.Borrow.{Bor}
use Rattle.pf_routes.specs.Internal.Links.{name_at}
use Rattle.pf_routes.specs.declared.routes.name_table.NameTable.{NameTable}

abbrev pub table_len : {A : Type 0} → NameTable A → ℕ
table_len t = vec_len t.offsets - 1

-- the name of this number
unfoldable pub name_in : {A : Type 0} → NameTable A → ℕ → List ℕ
name_in t n = take (slice_index t.offsets.items (n + 1) - slice_index t.offsets.items n) (drop (slice_index t.offsets.items n) t.bytes.items)

-- the table has these names, by their places
pub record HoldsNames {A : Type 0} (table : NameTable A) (names : List (Bor (List ℕ))) : Type 0 where
  pub count : table_len table ≡ length names
  pub same : (n : ℕ) → n < length names → name_in table n ≡ name_at names n
