-- A table as a code, as `Model` asks for.
use Rattle.std.specs.Prelude.{ℕ, List, refl}
use Rattle.std.specs.Coded.{Coded, code_by, coded×, coded_ℕ, coded_list}
use Rattle.pf_matrix.specs.Tables.{Table}

abbrev pub table_code : {C : Type 0} → Coded C → Coded (Table C)
table_code {C} c = code_by (ℕ × (ℕ × List C)) (coded× coded_ℕ (coded× coded_ℕ (coded_list c))) (λ t. (t.rows, (t.columns, t.values))) (λ p. record { rows = p.0; columns = p.1.0; values = p.1.1 }) (λ _. refl)
