-- Paths between numbers of names, with their costs, as the code lists them.
use Rattle.std.specs.Prelude.{ℕ, ◌<◌, List, Vec, All, map}
use Rattle.pf_routes.specs.Internal.NameTable.{name_in, table_len}
use Rattle.pf_routes.specs.declared.routes.name_table.NameTable.{NameTable}

-- the names of the numbers of a path, and its cost
abbrev pub names_of : {A : Type 0} → NameTable A → List ℕ × ℕ → List (List ℕ) × ℕ
names_of table path = (map (name_in table) path.0, path.1)

-- each number of each path is that of a name
abbrev pub ArePathsInTable : {A B : Type 0} → NameTable A → List (Vec ℕ B × ℕ) → Type 0
ArePathsInTable table paths = All (λ path. All (λ n. n < table_len table) path.0.items) paths
