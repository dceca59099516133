use Rattle.std.proofs.Common.{ℕ, List, ◌++◌, take}
use Rattle.std.specs.Prelude.{map}
use Rattle.pf_components.specs.Internal.DisjointSets.{IsGathered, pair_with}
use Rattle.pf_components.proofs.disjoint_sets.gather_group.Given as goal

abbrev pub invariant-loop-node : goal.invariant-loop-node
invariant-loop-node g l = record {
  gathered : (pairs : List (ℕ × g.row.N.Denot)) → IsGathered g.N.PartialEq.eq pairs l.fn.nodes.keys l.fn.first.items (map g.V.VertexNumber.stands_for l.fn.parents)
      → IsGathered g.N.PartialEq.eq (pairs ++ map (pair_with l.group) (take l.node-index l.members)) l.nodes.keys l.first.items (map g.V.VertexNumber.stands_for l.parents);
}
