-- What contracts say of lazy walks over graphs in tables.
use Rattle.std.specs.Prelude.{◌≡◌, ℕ, ℤ, List, Option, Result, nat_eq}
use Rattle.pf_base.specs.declared.error.PathError.{PathError}
use Rattle.pf_search.specs.declared.directed.dijkstra_reach.DijkstraReachableItem.{DijkstraReachableItem}
use Rattle.pf_search.specs.Breadth.{BreadthWalk, IsBreadthWalk, BreadthStep}
use Rattle.pf_search.specs.CheapestFirst.{CheapestWalk, IsCheapestWalk, IsBarred, CheapestStep, StepKeepsBar}
use Rattle.pf_search.specs.DepthWalks.{DepthWalk, IsDepthWalk, DepthStep}
use Rattle.pf_tables.specs.Graphs.{graph_of, successors_of}
use Rattle.pf_table_functions.specs.TableFunctions.{TableListsSuccessors, TableListsEdges}

-- what a caller sees of a walk over a table: the table, the start, and the walk, as one over a function, in the place of which the table stands
pub record TableWalk (G W : Type 0) : Type 0 where
  pub table : G
  pub start : ℕ
  pub walk : W

module _ {C G : Type 0} (value : C → ℤ) (size : G → ℕ) (places : G → ℕ → List (Option (ℕ × C))) where
  -- the walk in breadth order is one of the graph of its table, from its start
  abbrev pub IsBreadthWalkInTable : TableWalk G (BreadthWalk ℕ G) → Type 0
  IsBreadthWalkInTable s = IsBreadthWalk nat_eq (TableListsSuccessors value size places) (successors_of value (size s.table) (places s.table)) s.start s.walk

  -- what a call of `next` gives, in the graph of the table from the start, and how it leaves the walk: over this table, from this start
  abbrev pub BreadthStepInTable : TableWalk G (BreadthWalk ℕ G) → Option (Result ℕ PathError) → TableWalk G (BreadthWalk ℕ G) → Type 0
  BreadthStepInTable s result t = (t.table ≡ s.table) × (t.start ≡ s.start) × IsBreadthWalkInTable t × BreadthStep nat_eq (successors_of value (size s.table) (places s.table)) s.start s.walk result t.walk

  -- the walk in preorder has gone along these tree paths of the graph of its table, from its start
  abbrev pub IsPreorderWalkAlong : List (List ℕ) → TableWalk G (DepthWalk ℕ G) → Type 0
  IsPreorderWalkAlong paths s = IsDepthWalk nat_eq (TableListsSuccessors value size places) (successors_of value (size s.table) (places s.table)) s.start paths s.walk

  -- the walk in preorder is one of the graph of its table, from its start: it has gone along some tree paths
  abbrev pub IsPreorderWalkInTable : TableWalk G (DepthWalk ℕ G) → Type 0
  IsPreorderWalkInTable s = (paths : List (List ℕ)) × IsPreorderWalkAlong paths s

  -- the walk has gone along some tree paths, and this is what a call of `next` gives behind whatever ones they are, and how it leaves the walk: over this table, from this start
  abbrev pub PreorderStepInTable : TableWalk G (DepthWalk ℕ G) → Option (Result ℕ PathError) → TableWalk G (DepthWalk ℕ G) → Type 0
  PreorderStepInTable s result t = (t.table ≡ s.table) × (t.start ≡ s.start) × IsPreorderWalkInTable s × IsPreorderWalkInTable t
      × ((paths : List (List ℕ)) → IsPreorderWalkAlong paths s → DepthStep nat_eq (successors_of value (size s.table) (places s.table)) s.start (IsDepthWalk nat_eq (TableListsSuccessors value size places) (successors_of value (size s.table) (places s.table)) s.start) paths s.walk result t.walk)

  -- the walk by rising cost is one of the graph of its table, from its start
  abbrev pub IsCheapestWalkInTable : TableWalk G (CheapestWalk ℕ C G) → Type 0
  IsCheapestWalkInTable s = IsCheapestWalk nat_eq value (graph_of value (size s.table) (places s.table)) s.start (TableListsEdges value size places) s.walk

  -- the walk stands before a step that does not fit, and each try of it is refused
  abbrev pub IsBarredInTable : (ℤ → Type 0) → TableWalk G (CheapestWalk ℕ C G) → Type 0
  IsBarredInTable fits s = IsBarred nat_eq value (graph_of value (size s.table) (places s.table)) s.start fits s.walk

  -- the same of a walk by rising cost
  abbrev pub CheapestStepInTable : (ℤ → Type 0) → TableWalk G (CheapestWalk ℕ C G) → Option (Result (DijkstraReachableItem ℕ C) PathError) → TableWalk G (CheapestWalk ℕ C G) → Type 0
  CheapestStepInTable fits s result t = (t.table ≡ s.table) × (t.start ≡ s.start) × IsCheapestWalkInTable t
      × CheapestStep nat_eq value (graph_of value (size s.table) (places s.table)) s.start fits s.walk result t.walk × StepKeepsBar nat_eq value (graph_of value (size s.table) (places s.table)) s.start fits s.walk result t.walk
