use Rattle.std.proofs.Common.{◌≡◌, ◌∙◌, ℕ, Some, [], ◌∷◌, ◌++◌, ap, sym, subst, take, slice_get, slice_index_or, take_all, arith, refl}
use Rattle.std.specs.List.{AllZip}
use Rattle.std.specs.Option.{option_map}
use Rattle.std.proofs.lemmas.List.{map-append, take_more}
use Rattle.std.proofs.lemmas.Option.{slice_get-map}
use Rattle.std.proofs.lemmas.Result.{IfOk-from_err}
use Rattle.pf_base.specs.NodeRefs.{nodes_of}
use Rattle.pf_base.proofs.ListLemmas.{Contains-index, at_place, AllZip-append}
use Rattle.pf_base.proofs.Outcomes.{refused_as}
use Rattle.pf_edge_lists.proofs.names.names_at.Goals as goal

pub returns-in_err-answer : goal.returns-in_err-answer
returns-in_err-answer g c =
    let r = c.from_residual in
    record { names = IfOk-from_err _ _ r.ensures.0; refused = refused_as _ r.result _ r.ensures.1 refl }

pub numbers-init : goal.numbers-init
numbers-init g c = rw c.in_ok-answer.ensures.items tt

pub bounds-names-number : goal.bounds-names-number
bounds-names-number g c = c.requires _ (Contains-index c.args.numbers.now c.numbers.number-index 0 c.numbers-test.true)

pub offset_bounds-names-number : goal.offset_bounds-names-number
offset_bounds-names-number g c =
    let inside = c.requires _ (Contains-index c.args.numbers.now c.numbers.number-index 0 c.numbers-test.true) in
    omega (arith, inside)

pub returns-in_err-push : goal.returns-in_err-push
returns-in_err-push g c =
    let r = c.from_residual-in_err-push in
    record { names = IfOk-from_err _ _ r.ensures.0; refused = refused_as _ r.result _ r.ensures.1 refl }

pub numbers-preserved : goal.numbers-preserved
numbers-preserved g c =
    let names = c.args.names.now in
    let numbers = c.args.numbers.now in
    let i = c.numbers.number-index in
    let n = slice_index_or numbers i 0 in
    let name = c.index-names-number.result in
    let inside = c.requires n (Contains-index numbers i 0 c.numbers-test.true) in
    let named : ℕ → _ → Type 0 = λ number name. slice_get (nodes_of names) number ≡ Some name in
    let here : slice_get names n ≡ Some name = at_place names n name _ inside (sym c.index-names-number.is) in
    let e : nodes_of c.push.new.self.items ≡ nodes_of c.numbers.answer.items ++ name.now ∷ [] = ap nodes_of c.in_ok-push.ensures.items ∙ map-append _ c.numbers.answer.items (name ∷ []) in
    subst (λ ns. AllZip named ns (nodes_of c.push.new.self.items)) (sym (take_more numbers i 0 c.numbers-test.true))
    (subst (λ xs. AllZip named (take i numbers ++ n ∷ []) xs) (sym e)
    (AllZip-append named (take i numbers) (nodes_of c.numbers.answer.items) n name.now c.numbers.invariant (slice_get-map _ names n ∙ ap (option_map _) here)))

pub returns : goal.returns
returns g c = record {
  names = rw (take_all c.numbers.number-index c.args.numbers.now (omega (arith, c.numbers-test.false))) at c.numbers.invariant;
  refused = tt;
}
