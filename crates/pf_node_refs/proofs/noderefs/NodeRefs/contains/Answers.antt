use Rattle.std.proofs.Common.{subst, sym, ◌∙◌}
use Rattle.pf_base.specs.Walks.{HasNode}
use Rattle.pf_node_refs.proofs.NodeRefsLemmas.{HasNode-found, found-HasNode}
use Rattle.pf_node_refs.proofs.noderefs.NodeRefs.contains.Goals as goal

pub returns : goal.returns
returns g c =
    let keys = c.self.inside.nodes.keys in
    let node = c.args.node.now in (
      λ h. subst (λ nodes. HasNode g.N.PartialEq.eq nodes node) c.self.view_is (HasNode-found g.met.N.Eq.laws keys node (sym c.contains.ensures ∙ h)),
      λ h. c.contains.ensures ∙ found-HasNode g.met.N.Eq.laws keys node (subst (λ nodes. HasNode g.N.PartialEq.eq nodes node) (sym c.self.view_is) h),
    )
