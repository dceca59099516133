-- That tables are equal by an equivalence where their values are, and that equal tables are hashed alike.
use Rattle.std.specs.Prelude.{Bool}
use Rattle.std.specs.Cmp.{IsPartialEquivalence, IsEquivalence, on_per, on_equiv, and_per, and_equiv, nat_eq_equiv, partial_equiv_from_equiv, unsigned_Decides}
use Rattle.std.specs.Cmp.Lexicographic.{lists_per, lists_equiv}
use Rattle.std.specs.Hash as fed
use Rattle.std.specs.Hash.{HashWrites, Alike, and-Alike, same_Alike, on_Alike, items_Alike}
use Rattle.pf_matrix.specs.Tables.{Table}
use Rattle.pf_matrix.specs.Equality.{same_tables, table_writes}

module _ {C : Type 0} {eq : C → C → Bool} where
  pub tables_per : IsPartialEquivalence eq → IsPartialEquivalence (same_tables eq)
  tables_per laws =
      let sizes = partial_equiv_from_equiv nat_eq_equiv in
      and_per (on_per (λ (m : Table C). m.rows) sizes) (and_per (on_per (λ (m : Table C). m.columns) sizes) (on_per (λ (m : Table C). m.values) (lists_per laws)))

  pub tables_equiv : IsEquivalence eq → IsEquivalence (same_tables eq)
  tables_equiv laws =
      and_equiv (on_equiv (λ (m : Table C). m.rows) nat_eq_equiv) (and_equiv (on_equiv (λ (m : Table C). m.columns) nat_eq_equiv) (on_equiv (λ (m : Table C). m.values) (lists_equiv laws)))

  -- equal tables are hashed by the same writes
  pub tables_alike : {hash_input : C → HashWrites} → Alike eq hash_input → Alike (same_tables eq) (table_writes hash_input)
  tables_alike alike =
      let sizes = same_Alike fed.usize unsigned_Decides in
      and-Alike (on_Alike (λ (m : Table C). m.rows) sizes) (and-Alike (on_Alike (λ (m : Table C). m.columns) sizes) (on_Alike (λ (m : Table C). m.values) (items_Alike alike)))
