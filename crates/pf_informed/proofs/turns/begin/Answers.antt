use Rattle.std.proofs.Common.{◌≡◌, ◌≤◌, ◌^◌, ◌∙◌, [], ◌∷◌, ℕ, List, Some, ap, sym, subst, refl, arith, pos, length, false}
use Rattle.pf_core.specs.declared.labels.Label.{Label}
use Rattle.pf_core.specs.Labels.{Labels}
use Rattle.pf_core.specs.Nodes.{StandsFor, IsStep}
use Rattle.pf_base.proofs.Outcomes.{on_ok, on_refused, refused_as}
use Rattle.pf_informed.specs.Internal.Forest.{IsForest}
use Rattle.pf_informed.specs.Internal.Informed.{IsInformed}
use Rattle.pf_informed.specs.Internal.Led.{IsLed}
use Rattle.pf_informed.specs.Internal.Waiting.{IsQueue, SumsFit}
use Rattle.pf_informed.proofs.InformedLemmas.{forest_begin, queue_begin, sums_begin, informed_begin}
use Rattle.pf_informed.proofs.LedLemmas.{led_more}
use Rattle.pf_informed.proofs.TightLemmas.{both_ok}
use Rattle.pf_informed.proofs.Bounds.{none_more}
use Rattle.pf_informed.proofs.turns.begin.Goals as goal

one_few : (n : ℕ) → n ≡ 1 → n ≤ 2 ^ 32
one_few n e = omega (arith, e)

one_each : (l e f : ℕ) → l ≡ 1 → e ≡ f → f ≡ 1 → l ≤ e
one_each l e f p q r = omega (arith, p, q, r)

-- what holds of equal lists
by_two : {A B : Type 0} (P : A → B → Type 0) (a a' : A) (b b' : B) → a' ≡ a → b' ≡ b → P a b → P a' b'
by_two P a a' b b' e f h = subst (λ x. P x b') {x = a} {y = a'} (sym e) (subst (P a) {x = b} {y = b'} (sym f) h)

by_three : {A B D : Type 0} (P : A → B → D → Type 0) (a a' : A) (b b' : B) (d d' : D) → a' ≡ a → b' ≡ b → d' ≡ d → P a b d → P a' b' d'
by_three P a a' b b' d d' e f q h = subst (λ x. P x b' d') {x = a} {y = a'} (sym e) (by_two (P a) b b' d d' f q h)

pub ask-requires-clause-graph : goal.ask-requires-clause-graph
ask-requires-clause-graph g c =
    let r = c.requires.graph in
    let d = r.3 in
    (r.0, r.2, d.asked, d.explores.reached)

pub returns : goal.returns
returns g c =
    let b = c.begin.ensures in
    let first : Label g.row.C.Denot = record { cost = g.C.Zero.zero; parent = 0; depth = 0; settled = false } in
    let nothing : g.C.Number.value g.C.Zero.zero ≡ pos 0 = g.met.C.Zero.zero_law g.met.C.Integral.exact_law in
    record {
      ready = on_ok c.begin.result (both_ok _ _ c.begin.result b.labelled b.waiting) (λ begun.
          let labels : length c.begin.new.self.labels.items ≡ 1 = ap length begun.0 in
          let asked = ap length b.estimates ∙ c.in_ok-ask.ensures.all in
          record {
            sound = record {
              forest = subst (λ (ls : Labels g.row.C.Denot). IsForest g.C.Number.value ls) {x = Some first ∷ []} {y = c.begin.new.self.labels.items} (sym begun.0) (forest_begin g.C.Number.value first nothing refl);
              few = one_few _ labels;
              estimated = one_each _ _ _ labels asked c.requires.one;
              sums = by_two (λ (ls : Labels g.row.C.Denot) (es : List g.row.C.Denot). SumsFit g.C.Number.value g.C.Number.fits ls es) (Some first ∷ []) c.begin.new.self.labels.items c.ask.new.estimates.items c.begin.new.self.estimates.items begun.0 b.estimates (sums_begin g.C.Number.value first nothing refl c.ask.new.estimates.items begun.1.0 begun.1.1 c.begin.new.self.queue.entries begun.1.3 g.C.Number.fits begun.1.2);
              queue = by_two (λ (ls : Labels g.row.C.Denot) (es : List g.row.C.Denot). IsQueue g.C.Number.value ls es c.begin.new.self.queue.entries) (Some first ∷ []) c.begin.new.self.labels.items c.ask.new.estimates.items c.begin.new.self.estimates.items begun.0 b.estimates (queue_begin g.C.Number.value first nothing refl c.ask.new.estimates.items begun.1.0 begun.1.1 c.begin.new.self.queue.entries begun.1.3);
            };
            wide = labels ∙ sym c.requires.one;
            asked = asked;
          });
      graph = on_ok c.begin.result (both_ok _ _ c.begin.result b.labelled b.waiting) (λ w h test least d.
          let eq = g.N.PartialEq.eq in
          let keys = g.M.Numbering.keys c.args.graph.now.discovery.nodes in
          let a = c.in_ok-ask.ensures.graph h least d.asked d.explores.reached in (
            subst (λ (es : List g.row.C.Denot). IsLed g.M.Numbering.keys eq g.C.Number.value g.S.EdgeSource.answers g.T.NodeTest.answers g.H.EstimateFunction.answers h test least c.args.graph.now c.ask.new.estimate es) {x = c.ask.new.estimates.items} {y = c.begin.new.self.estimates.items} (sym b.estimates) (led_more d a.0 a.1),
            λ passes.
                let i = informed_begin g.C.Number.value first nothing refl c.ask.new.estimates.items w.1.0 w.1.1 c.begin.new.self.queue.entries w.1.3 g.C.Number.fits (IsStep eq h) passes (StandsFor eq keys) in
                by_three (λ (ls : Labels g.row.C.Denot) (es : List g.row.C.Denot) (n : ℕ). IsInformed g.C.Number.value g.C.Number.fits es (IsStep eq h) passes (StandsFor eq keys) ls c.begin.new.self.queue.entries n) (Some first ∷ []) c.begin.new.self.labels.items c.ask.new.estimates.items c.begin.new.self.estimates.items 1 (length keys) w.0 b.estimates c.requires.one i,
          ));
      refused = b.refused;
    }

pub returns-in_err-ask : goal.returns-in_err-ask
returns-in_err-ask g c = record {
  ready = on_refused _ c.from_residual.result _ c.from_residual.ensures.1;
  graph = on_refused _ c.from_residual.result _ c.from_residual.ensures.1;
  refused = refused_as _ c.from_residual.result _ c.from_residual.ensures.1 c.in_err-ask.ensures.refused;
}

pub ask-requires-clause-few : goal.ask-requires-clause-few
ask-requires-clause-few g c = subst (λ (es : List g.row.C.Denot). length es ≤ length (g.M.Numbering.keys c.args.graph.now.discovery.nodes)) {x = []} {y = c.args.search.now.estimates.items} (sym c.requires.new.unasked) (none_more _)

pub begin-requires-clause-unlabelled : goal.begin-requires-clause-unlabelled
begin-requires-clause-unlabelled g c = c.requires.new.unlabelled

pub begin-requires-clause-nothing_waits : goal.begin-requires-clause-nothing_waits
begin-requires-clause-nothing_waits g c = c.requires.new.nothing_waits

pub begin-requires-clause-estimated : goal.begin-requires-clause-estimated
begin-requires-clause-estimated g c = c.in_ok-ask.ensures.all ∙ c.requires.one
