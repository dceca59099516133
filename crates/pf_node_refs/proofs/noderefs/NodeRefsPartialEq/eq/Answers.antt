use Rattle.std.proofs.Common.{◌≡◌, sym, ◌∙◌}
use Rattle.pf_base.specs.NodeRefs.{has_same_nodes}
use Rattle.pf_node_refs.specs.Internal.NodeRefsLaws.{same_nodes_decides}
use Rattle.pf_node_refs.proofs.NodeRefsLemmas.{same_nodes-refs}
use Rattle.pf_node_refs.proofs.noderefs.NodeRefsPartialEq.eq.Goals as goal

answers_test : (g : _) (c : goal.After-eq g) → c.eq.result ≡ has_same_nodes g.N.PartialEq.eq c.args.self.now c.args.other.now
answers_test g c = c.eq.ensures ∙ same_nodes-refs g.met.N.Eq.laws c.self.inside.nodes c.other.inside.nodes ∙ (λ i. has_same_nodes g.N.PartialEq.eq (c.self.view_is i) (c.other.view_is i))

pub returns : goal.returns
returns g c = record {
  value = answers_test g c;
  same =
      let decides = same_nodes_decides g.met.N.Eq.laws c.args.self.now c.args.other.now in
      (λ h. decides.0 (sym (answers_test g c) ∙ h), λ h. answers_test g c ∙ decides.1 h);
}
