use Rattle.std.proofs.Common.{◌≡◌, ◌∙◌, ℕ, Bool, Some, arith, inl, inr, length, refl, sym, ap, true, false, true≢false}
use Rattle.std.specs.Prelude.{is_some, not, None, Option, slice_set}
use Rattle.pf_base.proofs.ListLemmas.{at_place}
use Rattle.pf_residual.proofs.cancelling.search.reach.Goals as goal

none_of : (o : Option ℕ) (t : Bool) → is_some o ≡ not t → t ≡ true → o ≡ None
none_of None t e f = refl
none_of (Some j) t e f = absurd (true≢false (e ∙ ap not f))

some_of : (o : Option ℕ) (t : Bool) → is_some o ≡ not t → t ≡ false → (j : ℕ) × (o ≡ Some j)
some_of None t e f = absurd (true≢false (sym (e ∙ ap not f)))
some_of (Some j) t e f = (j, refl)

pub index-requires : goal.index-requires
index-requires g c = omega (arith, c.requires.inside, c.args.reached.now.places.ok)

pub index_mut-requires : goal.index_mut-requires
index_mut-requires g c = omega (arith, c.requires.inside, c.args.reached.now.places.ok)

pub returns-else-is_none-clause-reached : goal.returns-else-is_none-clause-reached
returns-else-is_none-clause-reached g c =
    let o = some_of c.index.result.now c.is_none.result c.is_none.ensures c.if-is_none.false in
    inl ((o.0, at_place c.args.reached.now.places.items c.args.step.vertex _ _ c.requires.inside (sym c.index.ensures) ∙ ap Some o.1), refl, refl)

pub returns-in_ok-push-clause-reached : goal.returns-in_ok-push-clause-reached
returns-in_ok-push-clause-reached g c =
    let places = c.args.reached.now.places.items in
    let o = none_of c.index.result.now c.is_none.result c.is_none.ensures c.if-is_none.true in
    let place : c.len-place.result ≡ length c.args.reached.now.steps.items = omega (arith, c.len-place.ensures, c.args.reached.now.steps.ok) in
    inr (at_place places c.args.step.vertex _ _ c.requires.inside (sym c.index.ensures) ∙ ap Some o, c.in_ok-push.ensures.items, ap (λ (n : ℕ). slice_set places c.args.step.vertex (Some n)) place)
