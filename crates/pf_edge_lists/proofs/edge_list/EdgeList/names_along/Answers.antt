use Rattle.std.proofs.Common.{◌≡◌, ◌<◌, ◌∙◌, Some, ap, sym, subst, length, slice_get}
use Rattle.std.specs.Prelude.{IfOk}
use Rattle.std.specs.List.{AllZip}
use Rattle.std.proofs.lemmas.List.{length-map}
use Rattle.pf_base.specs.NodeRefs.{nodes_of}
use Rattle.pf_edge_lists.specs.EdgeLists.{names_of}
use Rattle.pf_edge_lists.proofs.edge_list.EdgeList.names_along.Goals as goal

pub names_at-requires : goal.names_at-requires
names_at-requires g c = λ k h.
    let keys = c.self.inside.names.keys in
    let same = sym (length-map keys _) ∙ ap length c.self.invariant.named ∙ ap (λ es. length (names_of g.N.PartialEq.eq es)) c.self.view_is in
    subst (λ n. k < n) (sym (ap length c.as_slice.ensures.keys ∙ same)) (c.requires k h)

pub returns : goal.returns
returns g c =
    let same = ap nodes_of c.as_slice.ensures.keys ∙ c.self.invariant.named ∙ ap (names_of g.N.PartialEq.eq) c.self.view_is in
    record {
      names = subst (λ ns. IfOk c.names_at.result (λ names. AllZip (λ node name. slice_get ns node ≡ Some name) c.args.path.now (nodes_of names.items))) same c.names_at.ensures.names;
      refused = c.names_at.ensures.refused;
    }
