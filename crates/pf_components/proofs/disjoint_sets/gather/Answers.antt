use Rattle.std.proofs.Common.{subst, sym, ap, ◌∙◌, ◌++◌, ◌<◌, ℕ, take, take_all}
use Rattle.std.specs.Prelude.{map}
use Rattle.pf_components.specs.Internal.DisjointSets.{IsGathered, pair_with, pairs_from}
use Rattle.pf_components.proofs.PairLemmas.{pairs_from-more}
use Rattle.pf_components.proofs.disjoint_sets.gather.Goals as goal

pub loop-group-preserved : goal.loop-group-preserved
loop-group-preserved g c =
    subst (λ ps. IsGathered g.N.PartialEq.eq ps c.gather_group.new.nodes.keys c.gather_group.new.first.items (map g.V.VertexNumber.stands_for c.gather_group.new.parents))
    (ap (λ xs. pairs_from 0 (take c.loop-group.group c.args.groups.now) ++ map (pair_with c.loop-group.group) xs) c.deref.ensures.value ∙ pairs_from-more c.args.groups.now c.loop-group.group c.index-groups-group.result c.loop-group-test.true c.index-groups-group.is)
    (c.in_ok-gather_group.ensures.gathered (pairs_from 0 (take c.loop-group.group c.args.groups.now)) c.loop-group.invariant)

pub loop-group-init : goal.loop-group-init
loop-group-init g c = c.requires.none

pub gather_group-requires-clause-gathered : goal.gather_group-requires-clause-gathered
gather_group-requires-clause-gathered g c = (pairs_from 0 (take c.loop-group.group c.args.groups.now), c.loop-group.invariant)

pub gather_group-requires-clause-inside : goal.gather_group-requires-clause-inside
gather_group-requires-clause-inside g c = subst (λ (n : ℕ). c.loop-group.group < n) (sym (c.loop-group.auto.parents ∙ c.requires.inside)) c.loop-group-test.true

pub returns : goal.returns
returns g c = record {
  gathered = subst (λ gs. IsGathered g.N.PartialEq.eq (pairs_from 0 gs) c.loop-group.nodes.keys c.loop-group.first.items (map g.V.VertexNumber.stands_for c.loop-group.parents)) (take_all c.loop-group.group c.args.groups.now c.loop-group-test.false) c.loop-group.invariant;
  refused = tt;
}
