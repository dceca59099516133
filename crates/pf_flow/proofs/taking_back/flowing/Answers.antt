use Rattle.std.proofs.Common.{◌≡◌, ◌≤◌, ◌∙◌, ◌++◌, ◌∷◌, [], List, arith, length, take, map, ap, sym, subst, ℕ}
use Rattle.std.proofs.lemmas.List.{take_all, take_more, map-append}
use Rattle.pf_residual.specs.declared.cancelling.arcs.Arc.{Arc}
use Rattle.pf_residual.specs.Internal.Settled.{arc_of, HoldFlows}
use Rattle.pf_flow.proofs.TakeBackLemmas.{hold_flows}
use Rattle.std.proofs.lemmas.Result.{IfOk-from_err}
use Rattle.pf_base.proofs.Outcomes.{refused_as, refused_by}
use Rattle.pf_flow.proofs.taking_back.flowing.Goals as goal

pub returns-clause-flows : goal.returns-clause-flows
returns-clause-flows g c =
    let N = g.S.FlowStore.network c.args.store.now in
    let value = g.C.Number.value in
    let items = c.in_ok-flows.flows.items in
    let seen : c.deref-flow-items.result.now ≡ items = c.deref-flow-items.ensures.value in
    let all : length items ≤ c.flows.flow-index = omega (arith, c.flows-test.false, ap length seen) in
    let whole : take c.flows.flow-index c.deref-flow-items.result.now ≡ items = ap (take c.flows.flow-index) seen ∙ take_all c.flows.flow-index items all in
    let v = c.flows.invariant in
    let made = hold_flows value N items c.in_ok-flows.ensures.listed in
    let one = subst (λ (es : List Arc). HoldFlows value N es (map (λ (f : (ℕ × ℕ) × g.row.C.Denot). f.1) items)) (sym (v.ends ∙ ap (map arc_of) whole)) made in
    subst (λ (xs : List g.row.C.Denot). HoldFlows value N c.flows.ends.items xs) (sym (v.amounts ∙ ap (map (λ (f : (ℕ × ℕ) × g.row.C.Denot). f.1)) whole)) one

pub list_flows-requires : goal.list_flows-requires
list_flows-requires g c = c.requires

pub flows-init : goal.flows-init
flows-init g c = record { ends = c.new-ends.ensures.items; amounts = c.new-amounts.ensures.items }

pub bounds-flow-items-flow-index : goal.bounds-flow-items-flow-index
bounds-flow-items-flow-index g c = c.flows-test.true

pub flows-smaller : goal.flows-smaller
flows-smaller g c = omega (arith, c.flows-test.true)

pub flows-preserved : goal.flows-preserved
flows-preserved g c =
    let items = c.deref-flow-items.result.now in
    let flow = c.flow-item.result in
    let so_far = take c.flows.flow-index items in
    let more = ap (λ (f : (ℕ × ℕ) × g.row.C.Denot). so_far ++ f ∷ []) c.flow-item.is ∙ sym (take_more items c.flows.flow-index flow c.flows-test.true) in
    record {
      ends = c.in_ok-push.ensures.items ∙ ap (λ es. es ++ arc_of flow ∷ []) c.flows.invariant.ends ∙ sym (map-append arc_of so_far (flow ∷ [])) ∙ ap (map arc_of) more;
      amounts = c.in_ok-push-2.ensures.items ∙ ap (λ xs. xs ++ flow.1 ∷ []) c.flows.invariant.amounts ∙ sym (map-append (λ (f : (ℕ × ℕ) × g.row.C.Denot). f.1) so_far (flow ∷ [])) ∙ ap (map (λ (f : (ℕ × ℕ) × g.row.C.Denot). f.1)) more;
    }

pub returns-in_err-flows-clause-flows : goal.returns-in_err-flows-clause-flows
returns-in_err-flows-clause-flows g c = IfOk-from_err _ _ c.from_residual.ensures.0

pub returns-in_err-flows-clause-refused : goal.returns-in_err-flows-clause-refused
returns-in_err-flows-clause-refused g c = refused_as _ c.from_residual.result _ c.from_residual.ensures.1 c.in_err-flows.ensures.refused

pub returns-in_err-push-clause-flows : goal.returns-in_err-push-clause-flows
returns-in_err-push-clause-flows g c = IfOk-from_err _ _ c.from_residual-in_err-push.ensures.0

pub returns-in_err-push-clause-refused : goal.returns-in_err-push-clause-refused
returns-in_err-push-clause-refused g c = refused_by _ c.from_residual-in_err-push.result c.from_residual-in_err-push.ensures.1

pub returns-in_err-push-2-clause-flows : goal.returns-in_err-push-2-clause-flows
returns-in_err-push-2-clause-flows g c = IfOk-from_err _ _ c.from_residual-in_err-push-2.ensures.0

pub returns-in_err-push-2-clause-refused : goal.returns-in_err-push-2-clause-refused
returns-in_err-push-2-clause-refused g c = refused_by _ c.from_residual-in_err-push-2.result c.from_residual-in_err-push-2.ensures.1
