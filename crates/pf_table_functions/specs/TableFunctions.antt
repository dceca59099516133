-- What graphs in tables and goals are as functions.
use Rattle.std.specs.Prelude.{◌≡◌, ℕ, ℤ, Bool, List, Option}
use Rattle.pf_tables.specs.Graphs.{graph_of, successors_of}

module _ {C G : Type 0} (value : C → ℤ) (size : G → ℕ) (places : G → ℕ → List (Option (ℕ × C))) where
  -- the successors are those of the table, at each node
  abbrev pub TableListsSuccessors : G → (ℕ → Type 0) → (ℕ → List ℕ) → Type 0
  TableListsSuccessors table within next = next ≡ successors_of value (size table) (places table)

  -- the edges are those of the table, at each node
  abbrev pub TableListsEdges : G → (ℕ → Type 0) → (ℕ → List (ℕ × ℤ)) → Type 0
  TableListsEdges table within edges = edges ≡ graph_of value (size table) (places table)

-- the test is that of the goals, at each node
abbrev pub GoalsTest : {T : Type 0} → (T → ℕ → Bool) → T → (ℕ → Type 0) → (ℕ → Bool) → Type 0
GoalsTest passes goals within test = test ≡ passes goals
