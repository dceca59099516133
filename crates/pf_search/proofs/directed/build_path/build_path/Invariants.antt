use Rattle.std.proofs.Common.{◌+◌, ◌-◌, length}
use Rattle.std.specs.HashMap.{hash_map_len}
use Rattle.pf_search.proofs.ParentLemmas.{Climbed}
use Rattle.pf_search.proofs.directed.build_path.build_path.Given as goal

-- the nodes from the target up to `at`
abbrev pub invariant-climb : goal.invariant-climb
invariant-climb g l = record {
  climbed : Climbed g.N.PartialEq.eq g.met.N.Eq.laws l.parents l.target l.at l.path.items;
}

abbrev pub decreases-climb : goal.decreases-climb
decreases-climb g l = hash_map_len l.parents + 1 - length l.path.items
