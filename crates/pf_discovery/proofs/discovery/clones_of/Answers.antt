use Rattle.std.proofs.Common.{◌≡◌, ◌∙◌, ap, subst, List, [], sym}
use Rattle.std.proofs.lemmas.Result.{IfOk-from_err}
use Rattle.std.proofs.lemmas.Iterator.{YieldsList-from_slice, items_from_drains}
use Rattle.std.specs.Slice.Iter.{iter_rest}
use Rattle.std.specs.Iterator.Adapters.{copied_source}
use Rattle.std.proofs.lemmas.Iterator.Consumers.{YieldsList-from_copied}
use Rattle.std.proofs.lemmas.List.{map-append, map-id}
use Rattle.pf_base.specs.NodeRefs.{HasSameNodes, nodes_of}
use Rattle.pf_core.proofs.NodeLemmas.{HasSameNodes-insert}
use Rattle.pf_base.proofs.Outcomes.{no_memory}
use Rattle.pf_discovery.proofs.discovery.clones_of.Goals as goal

pub starts-preserved : goal.starts-preserved
starts-preserved g c =
    let start = c.in-Some.start in (
      rw map-append
          (HasSameNodes-insert g.N.PartialEq.eq g.met.N.Eq.laws (nodes_of c.starts.yielded) c.starts.nodes.keys c.insert.new.self.keys start.now c.in_ok-node.node c.starts.invariant.0 (c.requires.clones start.now c.in_ok-node.node c.in_ok-node.ensures.cases) c.in_ok-insert.ensures.keys),
      c.insert.ensures.unique,
    )

pub returns-in_err-node : goal.returns-in_err-node
returns-in_err-node g c = record {
  same = IfOk-from_err _ _ c.from_residual.ensures.0;
  distinct = IfOk-from_err _ _ c.from_residual.ensures.0;
  refused = no_memory c.from_residual.result c.from_residual.ensures.1;
}

pub returns-in_err-insert : goal.returns-in_err-insert
returns-in_err-insert g c = record {
  same = IfOk-from_err _ _ c.from_residual-in_err-insert.ensures.0;
  distinct = IfOk-from_err _ _ c.from_residual-in_err-insert.ensures.0;
  refused = no_memory c.from_residual-in_err-insert.result c.from_residual-in_err-insert.ensures.1;
}

pub starts-init : goal.starts-init
starts-init g c = (subst (λ (ks : List g.row.N.Denot). HasSameNodes g.N.PartialEq.eq ks []) (sym c.new-nodes.ensures.empty) (λ y. (λ h. h, λ h. h)), c.new-nodes.ensures.unique)

pub starts-smaller : goal.starts-smaller
starts-smaller g c = (c.in-Some.ensures.goes.on c.starts.iterator.1).2

pub returns : goal.returns
returns g c = record {
  same =
      let source = ap copied_source c.into_iter-start-iterator.ensures.into_iter_gives ∙ c.copied-start-items.ensures.source in
      let given = items_from_drains c.starts.yielded (c.starts.start-iterator, c.starts.yielded_by, λ _. (c.next.new.self, c.in-None.ensures.steps)) (YieldsList-from_copied (YieldsList-from_slice c.args.starts.now (ap iter_rest source ∙ c.iter.ensures.rest))) in
      let all : c.starts.yielded ≡ c.args.starts.now = sym (map-id c.starts.yielded) ∙ given in
      subst (λ refs. HasSameNodes g.N.PartialEq.eq c.starts.nodes.keys (nodes_of refs)) all c.starts.invariant.0;
  distinct = c.starts.invariant.1;
  refused = tt;
}
