use Rattle.std.proofs.Common.{◌<◌}
use Rattle.std.specs.HashMap.{get}
use Rattle.pf_search.specs.Internal.Partial.{MapsLabels}
use Rattle.pf_search.proofs.discovered.map_of.Given as goal

-- the labels so far
abbrev pub invariant-numbers : goal.invariant-numbers
invariant-numbers g l = record {
  positive : 0 < l.number;
  maps : MapsLabels g.N.PartialEq.eq l.nodes l.labels l.number (get g.N.PartialEq.eq l.parents);
}
