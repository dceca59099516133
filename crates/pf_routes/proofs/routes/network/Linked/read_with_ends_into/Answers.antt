use Rattle.std.proofs.Common.{refl, ◌∙◌, arith}
use Rattle.pf_routes.specs.Internal.Links.{edges_between}
use Rattle.pf_routes.proofs.Numbering.{keeps-trans, met_in_turn}
use Rattle.pf_routes.proofs.routes.network.Linked.read_with_ends_into.Goals as goal

pub returns-clause-ok : goal.returns-clause-ok
returns-clause-ok g c =
    let first = c.in_ok-from in
    let second = c.in_ok-to in
    let found = c.in_ok-linked.ensures in
    let kept = keeps-trans _ _ _ second.ensures.kept found.kept in (
      _,
      found.ok.spelled,
      record {
        names = c.read_into.new.names.keys;
        kept = found.ok.kept;
        spelled = refl;
        below = found.ok.below;
        distinct = found.ok.distinct;
        from_within = omega (arith, first.ensures.within, kept.longer);
        to_within = omega (arith, second.ensures.within, found.kept.longer);
        from_named = kept.same first.from first.ensures.within ∙ first.ensures.named;
        to_named = found.kept.same second.to second.ensures.within ∙ second.ensures.named;
        in_turn = met_in_turn c.args.names.now.keys _ _ _ c.args.from.now c.args.to.now (edges_between c.read_into.new.names.keys c.in_ok-linked.linked.links.items) c.requires.none first.ensures.met second.ensures.met found.met;
      },
    )
