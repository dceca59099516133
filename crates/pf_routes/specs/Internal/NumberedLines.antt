-- Edges between numbers of names, as the lines that they are printed as.
use Rattle.std.specs.Prelude.{ℕ, ◌<◌, List, All}
use Rattle.std.specs.Borrow.{Bor}
use Rattle.pf_routes.specs.EdgeLine.{edge_line}
use Rattle.pf_routes.specs.Internal.NameTable.{name_in, table_len}
use Rattle.pf_routes.specs.declared.routes.links.Link.{Link}
use Rattle.pf_routes.specs.declared.routes.name_table.NameTable.{NameTable}

-- a link as its two numbers and its cost
abbrev pub weighed_link : Link → ℕ × ℕ × ℕ
weighed_link l = (l.source, l.target, l.cost)

-- an edge between numbers of names, with the names
abbrev pub named_edge : {A : Type 0} → NameTable A → ℕ × ℕ × ℕ → List ℕ × List ℕ × ℕ
named_edge table e = (name_in table e.0, name_in table e.1, e.2)

-- an edge between borrowed names, as it is now
abbrev pub shown_ends : Bor (List ℕ) × Bor (List ℕ) × ℕ → List ℕ × List ℕ × ℕ
shown_ends e = (e.0.now, e.1.now, e.2)

-- the line of an edge between names
abbrev pub named_line : List ℕ × List ℕ × ℕ → List ℕ
named_line e = edge_line e.0 e.1 e.2

-- the line of an edge between numbers of names
abbrev pub numbered_line : {A : Type 0} → NameTable A → ℕ × ℕ × ℕ → List ℕ
numbered_line table e = edge_line (name_in table e.0) (name_in table e.1) e.2

-- both ends of each edge are numbers of names
abbrev pub AreInTable : {A : Type 0} → NameTable A → List (ℕ × ℕ × ℕ) → Type 0
AreInTable table edges = All (λ e. (e.0 < table_len table) × (e.1 < table_len table)) edges
