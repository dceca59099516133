use Rattle.std.proofs.Common.{◌<◌, ◌≤◌, ◌∙◌, List, ℕ, sym, ap, subst, length}
use Rattle.std.specs.Prelude.{◌++◌, Contains}
use Rattle.pf_core.specs.Nodes.{StandsFor, IsStep}
use Rattle.pf_core.proofs.LabelLemmas.{HasLabel-inside}
use Rattle.pf_base.proofs.Outcomes.{on_ok, on_refused, refused_as}
use Rattle.pf_core.proofs.UnitLemmas.{begins_all}
use Rattle.pf_core.proofs.WalkLemmas.{no_negative}
use Rattle.pf_informed.specs.Internal.Informed.{Follows, IsInformed}
use Rattle.pf_informed.specs.Internal.Led.{IsLed}
use Rattle.pf_informed.specs.Internal.Waiting.{IsQueue}
use Rattle.pf_informed.proofs.GrowingLemmas.{follows_beside, queue_beside}
use Rattle.pf_informed.proofs.InformedLemmas.{queue_kept, sums_kept, informed_opened}
use Rattle.pf_informed.proofs.LedLemmas.{with_test, led_grown, led_more}
use Rattle.pf_informed.proofs.TightLemmas.{both_ok}
use Rattle.pf_informed.proofs.Bounds.{at_most_equal, wide_enough}
use Rattle.pf_informed.proofs.turns.turn.Goals as goal

pub expand-requires-clause-inside : goal.expand-requires-clause-inside
expand-requires-clause-inside g c =
    let l = c.requires.labelled in
    subst (λ (n : ℕ). c.args.number < n) c.requires.ready.wide (HasLabel-inside _ _ _ l.1)

pub expand-requires-clause-graph : goal.expand-requires-clause-graph
expand-requires-clause-graph g c =
    let r = c.requires.graph in
    let d = r.3 in
    (with_test r.0 r.1, (d.explores, d.tested))

pub ask-requires-clause-graph : goal.ask-requires-clause-graph
ask-requires-clause-graph g c =
    let r = c.requires.graph in
    let d = r.3 in
    let x = c.in_ok-expand.ensures.graph (with_test r.0 r.1) (d.explores, d.tested) in
    (r.0, r.2, d.asked, x.0.reached)

pub follow-requires-clause-steps : goal.follow-requires-clause-steps
follow-requires-clause-steps g c = λ j d m.
    let eq = g.N.PartialEq.eq in
    let laws = g.met.N.Eq.laws in
    let r = c.requires.graph in
    let k = r.3 in
    let l = c.requires.labelled in
    let here = begins_all eq laws (g.M.Numbering.keys c.args.graph.now.discovery.nodes) c.args.number (subst (λ (n : ℕ). c.args.number < n) c.requires.ready.wide (HasLabel-inside _ _ _ l.1)) in
    let row = c.in_ok-expand.ensures.listed in
    let lists = row.4 (with_test r.0 r.1) (k.explores, k.tested) here.0 here.1 in
    let p = no_negative eq laws r.0 k.explores.alike k.costs in
    let listed = subst (λ (xs : List (ℕ × g.row.C.Denot)). Contains xs (j, d)) row.1 m in
    let q = lists.sound j d listed in
    (subst (λ (n : ℕ). j < n) (sym c.in_ok-ask.ensures.all) (row.2 j d listed), p.non_negative here.0 (g.C.Number.value d) q.0 q.1)

pub follow-requires-clause-sound : goal.follow-requires-clause-sound
follow-requires-clause-sound g c =
    let r = c.requires.ready in
    let old = c.args.search.now in
    record {
      forest = r.sound.forest;
      few = r.sound.few;
      estimated = wide_enough _ _ _ _ r.wide c.in_ok-ask.ensures.all c.in_ok-expand.ensures.grows.more;
      sums = sums_kept g.C.Number.value g.C.Number.fits old.labels.items old.estimates.items c.ask.new.estimates.items r.sound.estimated c.in_ok-ask.ensures.kept r.sound.sums;
      queue = queue_kept g.C.Number.value old.labels.items old.estimates.items c.ask.new.estimates.items old.queue.entries c.in_ok-ask.ensures.kept r.sound.queue;
    }

pub returns : goal.returns
returns g c =
    let f = c.follow.ensures in
    record {
      ready = on_ok c.follow.result (both_ok _ _ c.follow.result f.wide f.sound) (λ w.
          let asked = ap length f.estimates ∙ c.in_ok-ask.ensures.all in
          record { sound = w.1; wide = w.0 ∙ asked; asked = asked });
      grows = c.in_ok-expand.ensures.grows;
      queue = on_ok c.follow.result (both_ok _ _ c.follow.result f.followed f.sound) (λ w rest q.
          let value = g.C.Number.value in
          let l = c.requires.labelled in
          let row = c.in_ok-expand.ensures.listed in
          let labels = c.args.search.now.labels.items in
          let heap = c.args.search.now.queue.entries in
          let estimates = c.ask.new.estimates.items in
          let stepped = subst (λ (es : List g.row.C.Denot). Follows value g.C.Number.fits es c.args.number l.0 c.expand.new.row.items labels c.follow.new.self.labels.items heap c.follow.new.self.queue.entries) f.estimates (w.0 l.0 l.1) in
          let followed = subst (λ (xs : List (ℕ × g.row.C.Denot)). Follows value g.C.Number.fits estimates c.args.number l.0 xs labels c.follow.new.self.labels.items heap c.follow.new.self.queue.entries) row.1 stepped in
          let waited = queue_kept value labels c.args.search.now.estimates.items estimates (heap ++ rest) c.in_ok-ask.ensures.kept q in
          subst (λ (es : List g.row.C.Denot). IsQueue value c.follow.new.self.labels.items es (c.follow.new.self.queue.entries ++ rest)) (sym f.estimates)
          (queue_beside value g.C.Number.fits estimates c.args.number l.0 _ labels c.follow.new.self.labels.items heap c.follow.new.self.queue.entries rest followed waited
          (subst (λ (es : List g.row.C.Denot). IsQueue value c.follow.new.self.labels.items es c.follow.new.self.queue.entries) f.estimates w.1.queue)));
      less = f.less;
      graph = on_ok c.follow.result f.followed (λ w h test least d.
          let eq = g.N.PartialEq.eq in
          let laws = g.met.N.Eq.laws in
          let value = g.C.Number.value in
          let l = c.requires.labelled in
          let number = c.args.number in
          let old = g.M.Numbering.keys c.args.graph.now.discovery.nodes in
          let keys = g.M.Numbering.keys c.expand.new.self.discovery.nodes in
          let labels = c.args.search.now.labels.items in
          let estimates = c.args.search.now.estimates.items in
          let asked = c.ask.new.estimates.items in
          let heap = c.args.search.now.queue.entries in
          let grown = c.in_ok-expand.ensures.grows in
          let row = c.in_ok-expand.ensures.listed in
          let x = c.in_ok-expand.ensures.graph (with_test h test) (d.explores, d.tested) in
          let a = c.in_ok-ask.ensures.graph h least d.asked x.0.reached in (
            subst (λ (es : List g.row.C.Denot). IsLed g.M.Numbering.keys eq value g.S.EdgeSource.answers g.T.NodeTest.answers g.H.EstimateFunction.answers h test least c.expand.new.self c.ask.new.estimate es) (sym f.estimates) (led_more (led_grown d laws c.requires.ready.asked c.expand.new.self grown x.0 x.1) a.0 a.1),
            λ passes entries rest fails left i.
                let someone = begins_all eq laws old number (subst (λ (n : ℕ). number < n) c.requires.ready.wide (HasLabel-inside labels number l.0 l.1)) in
                let stepped = subst (λ (es : List g.row.C.Denot). Follows value g.C.Number.fits es number l.0 c.expand.new.row.items labels c.follow.new.self.labels.items heap c.follow.new.self.queue.entries) f.estimates (w l.0 l.1) in
                let followed = subst (λ (xs : List (ℕ × g.row.C.Denot)). Follows value g.C.Number.fits asked number l.0 xs labels c.follow.new.self.labels.items heap c.follow.new.self.queue.entries) row.1 stepped in
                let whole = follows_beside value g.C.Number.fits asked number l.0 _ labels c.follow.new.self.labels.items heap c.follow.new.self.queue.entries rest followed in
                let opened = informed_opened value g.C.Number.fits (IsStep eq h) passes estimates asked c.in_ok-ask.ensures.kept (length old) (length keys) (StandsFor eq old) (StandsFor eq keys) grown labels c.follow.new.self.labels.items (at_most_equal _ _ c.requires.ready.wide)
                entries (heap ++ rest) (c.follow.new.self.queue.entries ++ rest) number l.0 l.1 left fails row.0 (λ y k. row.4 (with_test h test) (d.explores, d.tested) y k) row.3 someone whole c.requires.ready.sound.forest i in
                subst (λ (es : List g.row.C.Denot). IsInformed value g.C.Number.fits es (IsStep eq h) passes (StandsFor eq keys) c.follow.new.self.labels.items (c.follow.new.self.queue.entries ++ rest) (length keys)) (sym f.estimates) opened,
          ));
      refused = f.refused;
    }

pub returns-in_err-expand : goal.returns-in_err-expand
returns-in_err-expand g c = record {
  ready = on_refused _ c.from_residual.result _ c.from_residual.ensures.1;
  grows = c.in_err-expand.ensures.grows;
  queue = on_refused _ c.from_residual.result _ c.from_residual.ensures.1;
  less = on_refused _ c.from_residual.result _ c.from_residual.ensures.1;
  graph = on_refused _ c.from_residual.result _ c.from_residual.ensures.1;
  refused = refused_as _ c.from_residual.result _ c.from_residual.ensures.1 c.in_err-expand.ensures.refused.0;
}

pub returns-in_err-ask : goal.returns-in_err-ask
returns-in_err-ask g c = record {
  ready = on_refused _ c.from_residual-in_err-ask.result _ c.from_residual-in_err-ask.ensures.1;
  grows = c.in_ok-expand.ensures.grows;
  queue = on_refused _ c.from_residual-in_err-ask.result _ c.from_residual-in_err-ask.ensures.1;
  less = on_refused _ c.from_residual-in_err-ask.result _ c.from_residual-in_err-ask.ensures.1;
  graph = on_refused _ c.from_residual-in_err-ask.result _ c.from_residual-in_err-ask.ensures.1;
  refused = refused_as _ c.from_residual-in_err-ask.result _ c.from_residual-in_err-ask.ensures.1 c.in_err-ask.ensures.refused;
}

pub follow-requires-clause-labelled : goal.follow-requires-clause-labelled
follow-requires-clause-labelled g c = c.requires.labelled

pub ask-requires-clause-few : goal.ask-requires-clause-few
ask-requires-clause-few g c = subst (λ (n : ℕ). n ≤ length (g.M.Numbering.keys c.expand.new.self.discovery.nodes)) (sym c.requires.ready.asked) c.in_ok-expand.ensures.grows.more
