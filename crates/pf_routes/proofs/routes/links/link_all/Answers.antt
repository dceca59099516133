use Rattle.std.proofs.Common.{◌<◌, refl, sym, ap, ◌∙◌, arith, length, map, ◌++◌, ◌∷◌, take, [], append-nil, append_assoc}
use Rattle.pf_routes.specs.Internal.Links.{edges_between}
use Rattle.pf_routes.specs.Internal.Parsed.{edge_read}
use Rattle.pf_routes.specs.declared.routes.links.Link.{Link}
use Rattle.pf_routes.proofs.Numbering.{keeps-refl, keeps-trans, edges-push, below-more, below-push, taken-more, number-kept, ends-at, ends-length, turn-more}
use Rattle.pf_routes.proofs.routes.links.link_all.Goals as goal

pub edges-init : goal.edges-init
edges-init g c = record {
  edges = sym (append-nil (edges_between c.args.names.now.keys c.args.links.now.items));
  below = c.requires.below;
  kept = keeps-refl c.args.names.now.keys;
  met = refl;
}

pub index-known-requires : goal.index-known-requires
index-known-requires g c = omega (arith, c.edges-test.true, ends-length c.args.names.now.keys c.args.edges.now c.in_ok-ends.ends.items c.in_ok-ends.ensures)

pub number_unless_known-requires : goal.number_unless_known-requires
number_unless_known-requires g c =
    let k = ends-at c.args.names.now.keys c.args.edges.now c.in_ok-ends.ends.items c.edges.place c.index-edges-place.result c.index-known.result.now c.in_ok-ends.ensures c.edges-test.true c.index-edges-place.is c.index-known.ensures in
    number-kept c.args.names.now.keys c.edges.names.keys _ _ c.edges.invariant.kept k.0

pub number_unless_known-requires-in-edges : goal.number_unless_known-requires-in-edges
number_unless_known-requires-in-edges g c =
    let k = ends-at c.args.names.now.keys c.args.edges.now c.in_ok-ends.ends.items c.edges.place c.index-edges-place.result c.index-known.result.now c.in_ok-ends.ensures c.edges-test.true c.index-edges-place.is c.index-known.ensures in
    number-kept c.args.names.now.keys c.number_unless_known.new.names.keys _ _ (keeps-trans _ _ _ c.edges.invariant.kept c.in_ok-source.ensures.kept) k.1

pub edges-preserved : goal.edges-preserved
edges-preserved g c =
    let inv = c.edges.invariant in
    let e = c.index-edges-place.result in
    let first = c.in_ok-source in
    let second = c.in_ok-target in
    let old = c.edges.names.keys in
    let new = c.number_unless_known-in-edges.new.names.keys in
    let kept = keeps-trans _ _ _ first.ensures.kept second.ensures.kept in
    let link : Link = record { source = first.source; target = second.target; cost = e.cost } in
    let before = edges_between c.args.names.now.keys c.args.links.now.items in
    let source_below : first.source < length new = omega (arith, first.ensures.within, second.ensures.kept.longer) in
    rw (c.in_ok-push.ensures.items, c.in_ok-link.ensures.link) (record {
      edges = edges-push old new c.edges.links.items link (edge_read e) kept inv.below (second.ensures.kept.same first.source first.ensures.within ∙ first.ensures.named) second.ensures.named refl
          ∙ ap (λ es. es ++ edge_read e ∷ []) inv.edges
          ∙ append_assoc before (map edge_read (take c.edges.place c.args.edges.now)) (edge_read e ∷ [])
          ∙ ap (λ es. before ++ es) (sym (taken-more c.args.edges.now c.edges.place e c.edges-test.true c.index-edges-place.is));
      below = below-push (length new) c.edges.links.items link (below-more (length old) (length new) c.edges.links.items kept.longer inv.below) source_below second.ensures.within;
      kept = keeps-trans _ _ _ inv.kept kept;
      met = turn-more c.args.names.now.keys old c.number_unless_known.new.names.keys new (map edge_read (take c.edges.place c.args.edges.now)) _ (edge_read e) (taken-more c.args.edges.now c.edges.place e c.edges-test.true c.index-edges-place.is) inv.met first.ensures.met second.ensures.met;
    })
