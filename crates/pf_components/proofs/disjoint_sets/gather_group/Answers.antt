use Rattle.std.proofs.Common.{subst, ◌++◌, take, take_all}
use Rattle.std.specs.Prelude.{map}
use Rattle.pf_components.specs.Internal.DisjointSets.{IsGathered, pair_with}
use Rattle.pf_components.proofs.PairLemmas.{pairs_more}
use Rattle.pf_components.proofs.disjoint_sets.gather_group.Goals as goal

pub gather_node-requires-clause-gathered : goal.gather_node-requires-clause-gathered
gather_node-requires-clause-gathered g c = (c.requires.gathered.0 ++ map (pair_with c.args.group) (take c.loop-node.node-index c.args.members.now), c.loop-node.invariant.gathered c.requires.gathered.0 c.requires.gathered.1)

pub loop-node-preserved : goal.loop-node-preserved
loop-node-preserved g c = record {
  gathered = λ pairs h.
      subst (λ ps. IsGathered g.N.PartialEq.eq ps c.gather_node.new.nodes.keys c.gather_node.new.first.items (map g.V.VertexNumber.stands_for c.gather_node.new.parents)) (pairs_more pairs c.args.group c.args.members.now c.loop-node.node-index c.node-item.result c.loop-node-test.true c.node-item.is)
      (c.in_ok-gather_node.ensures.gathered (pairs ++ map (pair_with c.args.group) (take c.loop-node.node-index c.args.members.now)) (c.loop-node.invariant.gathered pairs h));
}

pub returns : goal.returns
returns g c = record {
  gathered = λ pairs h.
      subst (λ xs. IsGathered g.N.PartialEq.eq (pairs ++ map (pair_with c.args.group) xs) c.loop-node.nodes.keys c.loop-node.first.items (map g.V.VertexNumber.stands_for c.loop-node.parents)) (take_all c.loop-node.node-index c.args.members.now c.loop-node-test.false) (c.loop-node.invariant.gathered pairs h);
  refused = tt;
}
