use Rattle.std.proofs.Common.{◌<◌, ◌∙◌, ap, sym, subst, length}
use Rattle.pf_edge_lists.specs.EdgeLists.{names_of, places_of}
use Rattle.pf_edge_lists.proofs.EdgeListLemmas.{inside_rows, places_are}
use Rattle.pf_edge_lists.proofs.edge_list.EdgeListGraph.places.Goals as goal

pub places-requires : goal.places-requires
places-requires g c =
    let inside = subst (λ es. c.args.node < length (names_of g.N.PartialEq.eq es)) (sym c.self.view_is) c.requires in
    inside_rows g.met.N.Eq.laws _ _ _ c.self.invariant c.args.node inside

pub returns : goal.returns
returns g c =
    let inside = subst (λ es. c.args.node < length (names_of g.N.PartialEq.eq es)) (sym c.self.view_is) c.requires in
    c.places.ensures ∙ ap length (places_are g.met.N.Eq.laws _ _ _ c.self.invariant c.args.node inside) ∙ ap (λ es. length (places_of g.N.PartialEq.eq es c.args.node)) c.self.view_is
