use Rattle.std.proofs.Common.{◌∙◌, ◌++◌, ◌∷◌, [], subst, sym, ap, take}
use Rattle.std.specs.List.{AllZip}
use Rattle.std.proofs.lemmas.List.{take_more}
use Rattle.pf_routes.specs.Internal.Parsed.{AreEndsOf}
use Rattle.pf_routes.specs.declared.routes.edge_text.NamedEdge.{NamedEdge}
use Rattle.pf_routes.proofs.Numbering.{ends-push}
use Rattle.pf_routes.proofs.routes.links.known_ends.Goals as goal

pub edges-preserved : goal.edges-preserved
edges-preserved g c =
    let names = c.args.names.now.keys in
    let edges = c.args.edges.now in
    let place = c.edges.place in
    let item = c.index-edges-place.result in
    let more = take_more edges place item c.edges-test.true ∙ ap (λ (x : NamedEdge). take place edges ++ x ∷ []) (sym c.index-edges-place.is) in
    rw c.in_ok-push.ensures.items (subst (λ es. AllZip (AreEndsOf names) es (c.edges.ends.items ++ c.ends_unless_near.result ∷ [])) (sym more)
    (ends-push names (take place edges) c.edges.ends.items item c.ends_unless_near.result c.edges.invariant c.ends_unless_near.ensures))
