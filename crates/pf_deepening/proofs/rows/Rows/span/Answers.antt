use Rattle.std.proofs.Common.{◌≡◌, ◌∙◌, ℕ, List, Option, Some, None, sym, slice_get, arith}
use Rattle.std.specs.Prelude.{MatchOption}
use Rattle.std.proofs.lemmas.Option.{slice_get_within}
use borrow.Author.Tests.{ltb-true, ltb-false}
use Rattle.pf_base.proofs.ListLemmas.{at_place}
use Rattle.pf_deepening.specs.declared.rows.Span.{Span}
use Rattle.pf_deepening.specs.Ways.{HasSpan}
use Rattle.pf_deepening.proofs.rows.Rows.span.Goals as goal

span_here : (spans : List (Option Span)) (k : ℕ) (o : Option Span) → slice_get spans k ≡ Some o → MatchOption o ((s : Span) → ¬ (HasSpan spans k s)) (λ s. HasSpan spans k s)
span_here spans k None e = λ s h. let both : Some None ≡ Some (Some s) = sym e ∙ h in cc
span_here spans k (Some s) e = e

pub returns-in-Some : goal.returns-in-Some
returns-in-Some g c =
    let q = rw c.deref.ensures.value at c.in-Some.ensures.lookup in
    span_here c.args.self.now.spans.items c.args.number c.in-Some.span.now (at_place _ _ _ _ (ltb-true _ _ (sym q.0)) (sym q.1))

pub returns-in-None : goal.returns-in-None
returns-in-None g c = λ s h.
    let q = rw c.deref.ensures.value at c.in-None.ensures.lookup in
    omega (arith, slice_get_within c.args.self.now.spans.items c.args.number (Some s) h, ltb-false c.args.number _ (sym q.0))
