use Rattle.std.proofs.Common.{◌≡◌, ◌∙◌, ◌<◌, ◌+◌, ap, sym, arith, ℕ, List, [], ◌∷◌, ◌++◌, get_or, length, map, take}
use Rattle.std.proofs.lemmas.List.{map-append, take_all, take_more}
use Rattle.std.proofs.lemmas.Result.{IfOk-from_err}
use Rattle.pf_base.proofs.Outcomes.{refused_by}
use Rattle.pf_base.specs.NodeRefs.{nodes_of}
use Rattle.pf_edge_lists.specs.EdgeLists.{names_of}
use Rattle.pf_name_numbers.proofs.names.names_along.Goals as goal

-- the name of one more number
more : {N : Type 0} (name : ℕ → N) (ks : List ℕ) (i : ℕ) → i < length ks → map name (take (i + 1) ks) ≡ map name (take i ks) ++ name (get_or ks i 0) ∷ []
more name ks i h = ap (map name) (take_more ks i 0 h) ∙ map-append name (take i ks) (get_or ks i 0 ∷ [])

pub returns-in_err-names-clause-names : goal.returns-in_err-names-clause-names
returns-in_err-names-clause-names g c = IfOk-from_err _ _ c.from_residual.ensures.0

pub returns-in_err-names-clause-refused : goal.returns-in_err-names-clause-refused
returns-in_err-names-clause-refused g c = refused_by _ c.from_residual.result c.from_residual.ensures.1

pub loop-number-init : goal.loop-number-init
loop-number-init g c = ap nodes_of c.in_ok-names.ensures.items

pub bounds-numbers-number-index : goal.bounds-numbers-number-index
bounds-numbers-number-index g c = c.loop-number-test.true

pub returns-in_err-push-clause-names : goal.returns-in_err-push-clause-names
returns-in_err-push-clause-names g c = IfOk-from_err _ _ c.from_residual-in_err-push.ensures.0

pub returns-in_err-push-clause-refused : goal.returns-in_err-push-clause-refused
returns-in_err-push-clause-refused g c = refused_by _ c.from_residual-in_err-push.result c.from_residual-in_err-push.ensures.1

pub loop-number-smaller : goal.loop-number-smaller
loop-number-smaller g c = omega (arith, c.loop-number-test.true)

pub loop-number-preserved : goal.loop-number-preserved
loop-number-preserved g c =
    let name = λ (number : ℕ). get_or (names_of g.N.PartialEq.eq c.args.list.now) number c.args.other.now in
    let ks = c.args.numbers.now in
    let i = c.loop-number.number-index in
    ap nodes_of c.in_ok-push.ensures.items ∙ map-append _ c.loop-number.names.items (c.name_or.result ∷ [])
    ∙ ap (λ n. nodes_of c.loop-number.names.items ++ n ∷ []) c.name_or.ensures ∙ ap (λ ns. ns ++ name (get_or ks i 0) ∷ []) c.loop-number.invariant
    ∙ sym (more name ks i c.loop-number-test.true)

pub returns-clause-names : goal.returns-clause-names
returns-clause-names g c = c.loop-number.invariant ∙ ap (map _) (take_all c.loop-number.number-index c.args.numbers.now c.loop-number-test.false)
