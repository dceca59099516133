use Rattle.std.proofs.Common.{◌≡◌, take}
use Rattle.std.specs.Prelude.{slice_index}
use Rattle.pf_union_find.specs.Rows.{AreStarts}
use Rattle.pf_union_find.proofs.rows.starts_of.Given as goal

-- the rows of the counts so far begin and end there
abbrev pub invariant-loop-count : goal.invariant-loop-count
invariant-loop-count g l = record {
  starts : AreStarts (take l.count-index l.counts) l.starts.items;
  total : slice_index l.starts.items l.count-index ≡ l.total;
}
