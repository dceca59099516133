use Rattle.std.proofs.Common.{take}
use Rattle.std.specs.Prelude.{map}
use Rattle.pf_components.specs.Internal.DisjointSets.{IsGathered, pairs_from}
use Rattle.pf_components.proofs.disjoint_sets.gather.Given as goal

abbrev pub invariant-loop-group : goal.invariant-loop-group
invariant-loop-group g l = IsGathered g.N.PartialEq.eq (pairs_from 0 (take l.group l.groups)) l.nodes.keys l.first.items (map g.V.VertexNumber.stands_for l.parents)
