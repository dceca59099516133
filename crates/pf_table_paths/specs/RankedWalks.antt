-- What contracts say of the lazy list of clean paths over graphs in tables.
use Rattle.std.specs.Prelude.{◌≡◌, ℕ, ℤ, Bool, List, Option, Result, Vec, nat_eq}
use Rattle.pf_base.specs.declared.error.PathError.{PathError}
use Rattle.pf_tables.specs.Graphs.{graph_of}
use Rattle.pf_table_functions.specs.TableFunctions.{TableListsEdges, GoalsTest}
use Rattle.pf_yen.specs.Walk.{PathWalk, IsPathWalk, PathStep, StepKeepsBar}

-- what a caller sees of a list of clean paths over a table: the table, the start, the goals, and the list, as one over functions, in the places of which the table and the goals stand
pub record TablePathWalk (C G T : Type 0) : Type 0 where
  pub table : G
  pub start : ℕ
  pub goals : T
  pub walk : PathWalk ℕ C G T

module _ {C G T : Type 0} (value : C → ℤ) (size : G → ℕ) (places : G → ℕ → List (Option (ℕ × C))) (passes : T → ℕ → Bool) (fits : ℤ → Type 0) where
  -- the list of clean paths is one of the graph of its table, from its start to its goals
  abbrev pub IsPathWalkInTable : TablePathWalk C G T → Type 0
  IsPathWalkInTable s = IsPathWalk nat_eq value (graph_of value (size s.table) (places s.table)) s.start (passes s.goals) fits (TableListsEdges value size places) (GoalsTest passes) s.walk

  -- what a call of `next` gives, in the graph of the table from the start to the goals, and how it leaves the list: over this table, from this start, to these goals
  abbrev pub PathStepInTable : {A : Type 0} → TablePathWalk C G T → Option (Result (Vec ℕ A × C) PathError) → TablePathWalk C G T → Type 0
  PathStepInTable s result t = (t.table ≡ s.table) × (t.start ≡ s.start) × (t.goals ≡ s.goals) × IsPathWalkInTable t
      × PathStep nat_eq value (graph_of value (size s.table) (places s.table)) s.start (passes s.goals) fits s.walk result t.walk × StepKeepsBar s.walk result t.walk
