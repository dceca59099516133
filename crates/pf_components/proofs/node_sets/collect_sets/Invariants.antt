use Rattle.std.proofs.Common.{◌≡◌, length}
use Rattle.std.specs.HashSet.{contains}
use Rattle.pf_components.specs.Internal.DisjointSets.{HaveSets}
use Rattle.pf_components.proofs.node_sets.collect_sets.Given as goal

-- the rows so far have their sets
abbrev pub invariant-loop-row : goal.invariant-loop-row
invariant-loop-row g l = record {
  len : length l.sets.items ≡ l.row;
  collected : HaveSets g.N.PartialEq.eq (contains g.N.PartialEq.eq) l.rows l.sets.items;
}
