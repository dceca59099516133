use Rattle.std.proofs.Common.{[], ◌∷◌, ◌++◌, map, take_all, get_or, sym, ap, ◌∙◌}
use Rattle.pf_routes.specs.Internal.NumberedLines.{weighed_link}
use Rattle.pf_routes.specs.declared.routes.links.Link.{Link}
use Rattle.pf_routes.proofs.MoreItems.{map-more}
use Rattle.pf_routes.proofs.routes.spanning.weigh.Goals as goal

pub loop-link-init : goal.loop-link-init
loop-link-init g c = c.in_ok-edges.ensures.items

pub loop-link-preserved : goal.loop-link-preserved
loop-link-preserved g c =
    let links = c.args.links.now in
    let i = c.loop-link.link-index in
    let d : Link = record { source = 0; target = 0; cost = 0 } in
    c.in_ok-push.ensures.items ∙ ap (λ es. es ++ weighed_link (get_or links i d) ∷ []) c.loop-link.invariant ∙ sym (map-more links i d c.loop-link-test.true weighed_link)

pub returns : goal.returns
returns g c = c.loop-link.invariant ∙ ap (map weighed_link) (take_all c.loop-link.link-index c.args.links.now c.loop-link-test.false)
