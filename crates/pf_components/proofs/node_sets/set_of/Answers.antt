use Rattle.std.proofs.Common.{◌≡◌, true, take_all, subst}
use Rattle.std.specs.Prelude.{◌↔◌, Contains}
use Rattle.std.specs.Borrow.{Bor}
use Rattle.std.specs.HashSet.{contains}
use Rattle.pf_components.proofs.CollectLemmas.{members_more}
use Rattle.pf_components.proofs.node_sets.set_of.Goals as goal

pub loop-node-preserved : goal.loop-node-preserved
loop-node-preserved g c =
    let eq = g.N.PartialEq.eq in
    members_more g.met.N.Eq.laws c.args.nodes.now c.loop-node.node-index c.node-item.result c.in_ok-clone.field-0 (contains eq c.loop-node.set) (contains eq c.insert.new.self) c.loop-node-test.true c.node-item.is
    (c.requires.clones _ _ c.in_ok-clone.ensures.cases) c.in_ok-insert.ensures.updates.0 c.loop-node.invariant

pub returns-clause-members : goal.returns-clause-members
returns-clause-members g c = λ x.
    let eq = g.N.PartialEq.eq in
    subst (λ nodes. (contains eq c.loop-node.set x ≡ true) ↔ ((m : Bor g.row.N.Denot) × Contains nodes m × (eq m.now x ≡ true))) (take_all c.loop-node.node-index c.args.nodes.now c.loop-node-test.false) (c.loop-node.invariant x)
