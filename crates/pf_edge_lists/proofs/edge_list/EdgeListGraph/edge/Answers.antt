use Rattle.std.proofs.Common.{◌<◌, ◌∙◌, ap, sym, subst, length, slice_get}
use Rattle.pf_edge_lists.specs.EdgeLists.{names_of, places_of}
use Rattle.pf_edge_lists.proofs.EdgeListLemmas.{inside_rows, places_are}
use Rattle.pf_edge_lists.proofs.edge_list.EdgeListGraph.edge.Goals as goal

pub edge-requires-clause-node : goal.edge-requires-clause-node
edge-requires-clause-node g c =
    let inside = subst (λ es. c.args.node < length (names_of g.N.PartialEq.eq es)) (sym c.self.view_is) c.requires.node in
    inside_rows g.met.N.Eq.laws _ _ _ c.self.invariant c.args.node inside

pub edge-requires-clause-place : goal.edge-requires-clause-place
edge-requires-clause-place g c =
    let inside = subst (λ es. c.args.node < length (names_of g.N.PartialEq.eq es)) (sym c.self.view_is) c.requires.node in
    let place = subst (λ es. c.args.place < length (places_of g.N.PartialEq.eq es c.args.node)) (sym c.self.view_is) c.requires.place in
    subst (λ ps. c.args.place < length ps) (sym (places_are g.met.N.Eq.laws _ _ _ c.self.invariant c.args.node inside)) place

pub returns : goal.returns
returns g c =
    let inside = subst (λ es. c.args.node < length (names_of g.N.PartialEq.eq es)) (sym c.self.view_is) c.requires.node in
    ap (λ es. slice_get (places_of g.N.PartialEq.eq es c.args.node) c.args.place) (sym c.self.view_is) ∙ ap (λ ps. slice_get ps c.args.place) (sym (places_are g.met.N.Eq.laws _ _ _ c.self.invariant c.args.node inside)) ∙ c.edge.ensures
