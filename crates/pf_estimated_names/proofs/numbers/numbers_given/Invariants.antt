use Rattle.std.proofs.Common.{◌≡◌, ℕ, Some, length, slice_get, take}
use Rattle.pf_edge_lists.specs.EdgeLists.{names_of}
use Rattle.pf_estimated_graphs.specs.EstimatesInTables.{estimate_at}
use Rattle.pf_estimated_names.specs.EstimatesByName.{last_given}
use Rattle.pf_estimated_names.proofs.numbers.numbers_given.Given as goal

-- a number for each name, the last of those so far
abbrev pub invariant-loop-entry : goal.invariant-loop-entry
invariant-loop-entry g l = record {
  complete : length l.numbers.items ≡ length (names_of g.N.PartialEq.eq l.list);
  last : (k : ℕ) (x : g.row.N.Denot) → slice_get (names_of g.N.PartialEq.eq l.list) k ≡ Some x → estimate_at g.C.Number.value l.numbers.items k ≡ last_given g.N.PartialEq.eq g.C.Number.value (take l.entry-index l.given) x;
}
