use Rattle.std.proofs.Common.{◌≡◌, ◌∙◌, Bool, true, true≢false, Some, slice_get, sym, ap, arith}
use Rattle.std.proofs.lemmas.Option.{slice_get_within}
use borrow.Author.Tests.{ltb-true, ltb-false}
use Rattle.pf_base.proofs.ListLemmas.{at_place}
use Rattle.pf_deepening.proofs.marks.is_marked.Goals as goal

joined : (a b : Bool) → Some a ≡ Some b → a ≡ b
joined a b e = cc

pub returns-in-Some : goal.returns-in-Some
returns-in-Some g c =
    let marks = c.args.marks.now.items in
    let q = rw c.deref.ensures.value at c.in-Some.ensures.lookup in
    let at : slice_get marks c.args.number ≡ Some c.in-Some.mark.now = at_place _ _ _ _ (ltb-true _ _ (sym q.0)) (sym q.1) in
    (λ e. at ∙ ap Some e, λ h. joined c.in-Some.mark.now true (sym at ∙ h))

pub returns-in-None : goal.returns-in-None
returns-in-None g c =
    let q = rw c.deref.ensures.value at c.in-None.ensures.lookup in
    (λ e. absurd (true≢false (sym e)), λ h. absurd (omega (arith, slice_get_within c.args.marks.now.items c.args.number true h, ltb-false c.args.number _ (sym q.0))))
