use Rattle.std.proofs.Common.{◌≡◌, ◌∙◌, ◌<◌, ◌+◌, ap, sym, arith, ℕ, List, [], ◌∷◌, ◌++◌, get_or, length, map, slice_get, take}
use Rattle.std.specs.Prelude.{Vec}
use Rattle.std.specs.List.{filter_map}
use Rattle.std.proofs.lemmas.List.{map-append, take_all, take_more}
use Rattle.std.proofs.lemmas.Result.{IfOk-from_err}
use Rattle.pf_base.proofs.Outcomes.{refused_as, refused_by}
use Rattle.pf_base.specs.NodeRefs.{nodes_of}
use Rattle.pf_edge_lists.specs.EdgeLists.{names_of}
use Rattle.pf_name_numbers.specs.Numbered.{lists_in, named_lists_in}
use Rattle.pf_name_numbers.proofs.listed.listed_groups.Goals as goal

-- the names of one more group
more : {N A : Type 0} (named : List ℕ → List N) (groups : List (Vec ℕ A)) (i : ℕ) (group : Vec ℕ A) → i < length groups → group ≡ get_or groups i group → map named (lists_in (take (i + 1) groups)) ≡ map named (lists_in (take i groups)) ++ named group.items ∷ []
more {N} {A} named groups i group h is =
    ap (λ gs. map named (lists_in gs)) (take_more groups i group h ∙ ap (λ p. take i groups ++ p ∷ []) (sym is))
    ∙ ap (map named) (map-append (λ (v : Vec ℕ A). v.items) (take i groups) (group ∷ [])) ∙ map-append named (lists_in (take i groups)) (group.items ∷ [])

pub returns-in_err-named-clause-names : goal.returns-in_err-named-clause-names
returns-in_err-named-clause-names g c = IfOk-from_err _ _ c.from_residual.ensures.0

pub returns-in_err-named-clause-refused : goal.returns-in_err-named-clause-refused
returns-in_err-named-clause-refused g c = refused_by _ c.from_residual.result c.from_residual.ensures.1

pub loop-group-init : goal.loop-group-init
loop-group-init g c = ap named_lists_in c.in_ok-named.ensures.items

pub offset_bounds-groups-group-index : goal.offset_bounds-groups-group-index
offset_bounds-groups-group-index g c = omega (arith, c.loop-group-test.true)

pub bounds-groups-group-index : goal.bounds-groups-group-index
bounds-groups-group-index g c = c.loop-group-test.true

pub returns-in_err-names-clause-names : goal.returns-in_err-names-clause-names
returns-in_err-names-clause-names g c = IfOk-from_err _ _ c.from_residual-in_err-names.ensures.0

pub returns-in_err-names-clause-refused : goal.returns-in_err-names-clause-refused
returns-in_err-names-clause-refused g c = refused_as _ c.from_residual-in_err-names.result _ c.from_residual-in_err-names.ensures.1 c.in_err-names.ensures.refused

pub returns-in_err-push-clause-names : goal.returns-in_err-push-clause-names
returns-in_err-push-clause-names g c = IfOk-from_err _ _ c.from_residual-in_err-push.ensures.0

pub returns-in_err-push-clause-refused : goal.returns-in_err-push-clause-refused
returns-in_err-push-clause-refused g c = refused_by _ c.from_residual-in_err-push.result c.from_residual-in_err-push.ensures.1

pub loop-group-smaller : goal.loop-group-smaller
loop-group-smaller g c = omega (arith, c.loop-group-test.true)

pub loop-group-preserved : goal.loop-group-preserved
loop-group-preserved g c =
    let listed = filter_map (slice_get (names_of g.N.PartialEq.eq c.args.list.now)) in
    let i = c.loop-group.group-index in
    let named : nodes_of c.in_ok-names.names.items ≡ listed c.group-item.result.items = c.in_ok-names.ensures.names ∙ ap listed c.deref.ensures.value in
    ap named_lists_in c.in_ok-push.ensures.items ∙ map-append _ c.loop-group.named.items (c.in_ok-names.names ∷ [])
    ∙ ap (λ ns. named_lists_in c.loop-group.named.items ++ ns ∷ []) named ∙ ap (λ ls. ls ++ listed c.group-item.result.items ∷ []) c.loop-group.invariant
    ∙ sym (more listed c.args.groups.now i c.group-item.result c.loop-group-test.true c.group-item.is)

pub returns-clause-names : goal.returns-clause-names
returns-clause-names g c = c.loop-group.invariant ∙ ap (λ gs. map (filter_map (slice_get (names_of g.N.PartialEq.eq c.args.list.now))) (lists_in gs)) (take_all c.loop-group.group-index c.args.groups.now c.loop-group-test.false)
