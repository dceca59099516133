use Rattle.std.proofs.Common.{ap, ◌∙◌, arith, length}
use Rattle.pf_search.proofs.ParentLemmas.{length_end, climbed_first, climbed_more, climbed_length, climbed_chain, chain_alone}
use Rattle.std.proofs.lemmas.Result.{IfOk-from_err}
use Rattle.pf_base.proofs.Outcomes.{refused_as}
use Rattle.pf_search.proofs.directed.build_path.build_path.Goals as goal

pub climb-init : goal.climb-init
climb-init g c =
    let p = c.in_ok-push_clone.ensures.pushed in
    record {
      climbed = climbed_first g.N.PartialEq.eq g.met.N.Eq.laws c.args.parents.now c.args.target.now p.0 (c.requires.clones c.args.target.now _ p.1) c.push_clone.new.path.items (rw c.new-path.ensures.items at p.2);
    }

pub climb-smaller : goal.climb-smaller
climb-smaller g c =
    let h = c.in-Some.ensures in
    let p = c.in_ok-push_clone-2.ensures.pushed in
    omega (arith, ap length p.2 ∙ length_end c.climb.path.items p.0, climbed_length g.N.PartialEq.eq g.met.N.Eq.laws c.args.parents.now c.args.target.now c.climb.at.now c.climb.path.items c.climb.invariant.climbed c.requires.no_ring (c.in-Some.parent.now, h.0, h.1))

pub climb-preserved : goal.climb-preserved
climb-preserved g c =
    let h = c.in-Some.ensures in
    let p = c.in_ok-push_clone-2.ensures.pushed in
    record {
      climbed = climbed_more g.N.PartialEq.eq g.met.N.Eq.laws c.args.parents.now c.args.target.now c.climb.at.now c.in-Some.parent.now p.0 h.0 c.climb.path.items _ c.climb.invariant.climbed h.1
          (c.requires.clones c.in-Some.parent.now _ p.1) p.2;
    }

pub returns-clause-chain : goal.returns-clause-chain
returns-clause-chain g c = rw c.reverse.ensures.items (climbed_chain g.N.PartialEq.eq g.met.N.Eq.laws c.args.parents.now c.args.target.now c.climb.at.now c.climb.path.items c.climb.invariant.climbed c.in_default.ensures)

pub returns-clause-alone : goal.returns-clause-alone
returns-clause-alone g c = chain_alone g.N.PartialEq.eq g.met.N.Eq.laws c.args.parents.now c.args.target.now _ (returns-clause-chain g c)

pub returns-in_err-push_clone-2 : goal.returns-in_err-push_clone-2
returns-in_err-push_clone-2 g c = record {
  alone = IfOk-from_err _ _ c.from_residual-in_err-push_clone-2.ensures.0;
  chain = IfOk-from_err _ _ c.from_residual-in_err-push_clone-2.ensures.0;
  refused = refused_as _ c.from_residual-in_err-push_clone-2.result c.in_err-push_clone-2.field-0.0 c.from_residual-in_err-push_clone-2.ensures.1 c.in_err-push_clone-2.ensures.refused;
}

pub returns-in_err-push_clone : goal.returns-in_err-push_clone
returns-in_err-push_clone g c = record {
  alone = IfOk-from_err _ _ c.from_residual.ensures.0;
  chain = IfOk-from_err _ _ c.from_residual.ensures.0;
  refused = refused_as _ c.from_residual.result c.in_err-push_clone.field-0.0 c.from_residual.ensures.1 c.in_err-push_clone.ensures.refused;
}
