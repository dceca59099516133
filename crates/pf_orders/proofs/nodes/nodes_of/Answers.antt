use Rattle.std.proofs.Common.{refl, ◌++◌, [], ◌∷◌, subst, take, take_all, arith}
use Rattle.std.proofs.lemmas.List.{take_more}
use Rattle.std.proofs.lemmas.Result.{IfOk-from_err}
use Rattle.pf_base.specs.NodeRefs.{HasSameNodes}
use Rattle.pf_core.proofs.NodeLemmas.{HasSameNodes-insert}
use Rattle.pf_base.proofs.Outcomes.{refused_as}
use Rattle.pf_orders.proofs.nodes.nodes_of.Goals as goal

pub returns-in_err-set : goal.returns-in_err-set
returns-in_err-set g c =
    let r = c.from_residual in
    record {
      same = IfOk-from_err _ _ r.ensures.0;
      distinct = IfOk-from_err _ _ r.ensures.0;
      refused = refused_as _ r.result _ r.ensures.1 refl;
    }

pub returns-in_err-clone : goal.returns-in_err-clone
returns-in_err-clone g c =
    let r = c.from_residual-in_err-clone in
    record {
      same = IfOk-from_err _ _ r.ensures.0;
      distinct = IfOk-from_err _ _ r.ensures.0;
      refused = refused_as _ r.result _ r.ensures.1 refl;
    }

pub returns-in_err-insert : goal.returns-in_err-insert
returns-in_err-insert g c =
    let r = c.from_residual-in_err-insert in
    record {
      same = IfOk-from_err _ _ r.ensures.0;
      distinct = IfOk-from_err _ _ r.ensures.0;
      refused = refused_as _ r.result _ r.ensures.1 refl;
    }

pub nodes-preserved : goal.nodes-preserved
nodes-preserved g c =
    let eq = g.N.PartialEq.eq in
    let nodes = c.args.nodes.now in
    let i = c.nodes.node-index in
    let s = c.node-item.result in (
      rw (take_more nodes i s c.nodes-test.true)
          (subst (λ y. HasSameNodes eq c.insert.new.self.keys (take i nodes ++ y ∷ [])) c.node-item.is
          (HasSameNodes-insert eq g.met.N.Eq.laws (take i nodes) c.nodes.set.keys c.insert.new.self.keys s c.in_ok-clone.clone c.nodes.invariant.0 (c.requires.clones s c.in_ok-clone.clone c.in_ok-clone.ensures.cases) c.in_ok-insert.ensures.keys)),
      c.insert.ensures.unique,
    )

pub returns : goal.returns
returns g c = record {
  same = subst (λ ns. HasSameNodes g.N.PartialEq.eq c.nodes.set.keys ns) (take_all c.nodes.node-index c.args.nodes.now (omega (arith, c.nodes-test.false))) c.nodes.invariant.0;
  distinct = c.nodes.invariant.1;
  refused = tt;
}
