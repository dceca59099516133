use Rattle.std.proofs.Common.{◌∙◌, ◌∷◌, ◌++◌, [], ℕ, List, ap, sym, subst, map, pos, take, take_all, arith}
use Rattle.std.proofs.lemmas.Result.{IfOk-from_err}
use Rattle.pf_base.proofs.Outcomes.{refused_as, refused_by}
use Rattle.std.specs.Prelude.{◌<ℤ◌}
use Rattle.std.proofs.lemmas.List.{map-append, take_more}
use Rattle.pf_residual.specs.Listings.{ListsVertices}
use Rattle.pf_residual.proofs.StoreListings.{vertices_of_numbers}
use Rattle.pf_residual.proofs.store.FlowStore.list_residual.Goals as goal

pub returns-clause-listed : goal.returns-clause-listed
returns-clause-listed g c =
    let N = g.Self.FlowStore.network c.args.self.now in
    let ends = c.deref-successor-items.result.now in
    let all = c.loop-successor.invariant ∙ ap (map (λ end. end.0)) (take_all c.loop-successor.successor-index ends c.loop-successor-test.false ∙ c.deref-successor-items.ensures.value) in
    subst (ListsVertices N.vertices (λ to. pos 0 <ℤ N.residual c.args.from to)) (sym all)
    (vertices_of_numbers g.C.Number.value N.vertices (N.residual c.args.from) c.in_ok-successors.successors.items c.in_ok-successors.ensures.listed)

pub residual_successors-requires : goal.residual_successors-requires
residual_successors-requires g c = c.requires

pub returns-in_err-successors-clause-listed : goal.returns-in_err-successors-clause-listed
returns-in_err-successors-clause-listed g c = IfOk-from_err _ _ c.from_residual.ensures.0

pub returns-in_err-successors-clause-refused : goal.returns-in_err-successors-clause-refused
returns-in_err-successors-clause-refused g c = refused_as _ c.from_residual.result _ c.from_residual.ensures.1 c.in_err-successors.ensures.refused

pub loop-successor-init : goal.loop-successor-init
loop-successor-init g c = ap (map (λ (end : ℕ × ℕ). end.0)) c.clear.ensures.items

pub offset_bounds-successor-items-successor-index : goal.offset_bounds-successor-items-successor-index
offset_bounds-successor-items-successor-index g c = c.loop-successor.auto.successor-index-end

pub bounds-successor-items-successor-index : goal.bounds-successor-items-successor-index
bounds-successor-items-successor-index g c = c.loop-successor-test.true

pub returns-in_err-push-clause-listed : goal.returns-in_err-push-clause-listed
returns-in_err-push-clause-listed g c = IfOk-from_err _ _ c.from_residual-in_err-push.ensures.0

pub returns-in_err-push-clause-refused : goal.returns-in_err-push-clause-refused
returns-in_err-push-clause-refused g c = refused_by _ c.from_residual-in_err-push.result c.from_residual-in_err-push.ensures.1

pub loop-successor-smaller : goal.loop-successor-smaller
loop-successor-smaller g c = omega (arith, c.loop-successor-test.true)

pub loop-successor-preserved : goal.loop-successor-preserved
loop-successor-preserved g c =
    let all = c.deref-successor-items.result.now in
    let i = c.loop-successor.successor-index in
    let e = c.successor-item.result in
    ap (map (λ (end : ℕ × ℕ). end.0)) c.in_ok-push.ensures.items
    ∙ map-append (λ (end : ℕ × ℕ). end.0) c.loop-successor.ends.items ((e.0, 0) ∷ [])
    ∙ ap (λ (xs : List ℕ). xs ++ e.0 ∷ []) c.loop-successor.invariant
    ∙ sym (map-append (λ (end : ℕ × g.row.C.Denot). end.0) (take i all) (e ∷ []))
    ∙ sym (ap (map (λ (end : ℕ × g.row.C.Denot). end.0)) (take_more all i e c.loop-successor-test.true ∙ ap (λ (x : ℕ × g.row.C.Denot). take i all ++ x ∷ []) (sym c.successor-item.is)))
