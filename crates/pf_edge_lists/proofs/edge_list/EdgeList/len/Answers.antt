use Rattle.std.proofs.Common.{◌∙◌, sym, ap, length}
use Rattle.std.proofs.lemmas.List.{length-map}
use Rattle.pf_edge_lists.specs.EdgeLists.{names_of}
use Rattle.pf_edge_lists.proofs.edge_list.EdgeList.len.Goals as goal

pub returns : goal.returns
returns g c = c.len.ensures.len ∙ sym (length-map c.self.inside.names.keys _) ∙ ap length c.self.invariant.named ∙ ap (λ es. length (names_of g.N.PartialEq.eq es)) c.self.view_is
