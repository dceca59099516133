use Rattle.std.proofs.Common.{◌≡◌, ◌∙◌, List, ap, subst, slice_get, sym, take, Some}
use Rattle.pf_base.proofs.ListLemmas.{take_get}
use Rattle.pf_informed.proofs.LedLemmas.{with_test, led_less}
use Rattle.std.proofs.lemmas.Option.{slice_get_within}
use Rattle.pf_deepening.proofs.Writes.{of_some}
use Rattle.pf_deepening.specs.declared.rows.Span.{Span}
use Rattle.pf_informed.proofs.directed.idastar.known.Known.forget.Goals as goal

pub returns-clause-led : goal.returns-clause-led
returns-clause-led g c = λ h test least led.
    let graph = c.forget.ensures.graph (with_test h test) (led.explores, led.tested) in
    let estimates = c.args.self.now.estimates.items in
    led_less led g.met.N.Eq.laws c.forget.new.self c.forget.ensures.shrinks graph.0 graph.1 c.truncate.new.self.items
    (λ i e at. take_get _ estimates i e (subst (λ (es : List g.row.C.Denot). slice_get es i ≡ Some e) c.truncate.ensures.items at))

pub returns-in_default-clause-forgets : goal.returns-in_default-clause-forgets
returns-in_default-clause-forgets g c = λ s h. absurd (c.in_default.ensures s h)

pub returns-in_default-clause-led : goal.returns-in_default-clause-led
returns-in_default-clause-led g c = λ h test least led. led

pub forget-requires : goal.forget-requires
forget-requires g c = c.requires c.in-Some.span c.in-Some.ensures

pub forget-requires-2 : goal.forget-requires-2
forget-requires-2 g c = slice_get_within c.args.self.now.rows.spans.items c.args.number (Some c.in-Some.span) c.in-Some.ensures

pub returns-clause-forgets : goal.returns-clause-forgets
returns-clause-forgets g c = λ s h.
    let same : c.in-Some.span ≡ s = of_some c.in-Some.span s (of_some (Some c.in-Some.span) (Some s) (sym c.in-Some.ensures ∙ h)) in
    record {
      left = c.forget.ensures.left ∙ ap (λ (t : Span). t.found) same;
      shrinks = c.forget.ensures.shrinks;
      estimates = c.truncate.ensures.items ∙ ap (λ (t : Span). take t.found c.args.self.now.estimates.items) same;
      steps = c.forget-2.ensures.steps ∙ ap (λ (t : Span). take t.begin c.args.self.now.rows.steps.items) same;
      spans = c.forget-2.ensures.spans;
    }
