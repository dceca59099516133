use Rattle.std.proofs.Common.{◌≤◌, List, ℕ, arith, sym, subst}
use Rattle.std.proofs.lemmas.Result.{IfOk-from_err}
use Rattle.std.specs.Prelude.{◌<ℤ◌, pos}
use Rattle.pf_residual.specs.Listings.{ListsVertices}
use Rattle.pf_residual.specs.Internal.Prefixes.{ListsFlowsBefore}
use Rattle.pf_residual.proofs.ChangeListings.{lists_none, lists_same}
use Rattle.pf_base.proofs.Outcomes.{refused_as}
use Rattle.pf_flow.proofs.listings.list_flows.Goals as goal

pub rows-init : goal.rows-init
rows-init g c =
    let N = g.S.FlowStore.network c.args.store.now in
    subst (ListsFlowsBefore g.C.Number.value N 0) (sym c.new-flows.ensures.items) (lists_none g.C.Number.value N.vertices N.flow _ (λ a b p. absurd (let l = p.0 in omega (arith, l))))

pub rows-preserved : goal.rows-preserved
rows-preserved g c = c.in_ok-add_flows.ensures.listed

pub flows_from-requires : goal.flows_from-requires
flows_from-requires g c = omega (arith, c.size-from-end.ensures, c.rows-test.true)

pub add_flows-requires-clause-from : goal.add_flows-requires-clause-from
add_flows-requires-clause-from g c = omega (arith, c.size-from-end.ensures, c.rows-test.true)

pub add_flows-requires-clause-before : goal.add_flows-requires-clause-before
add_flows-requires-clause-before g c = c.rows.invariant

pub add_flows-requires-clause-ends : goal.add_flows-requires-clause-ends
add_flows-requires-clause-ends g c =
    let N = g.S.FlowStore.network c.args.store.now in
    subst (λ (ends : List ℕ). ListsVertices N.vertices (λ to. pos 0 <ℤ N.flow c.rows.from to) ends) (sym c.deref.ensures.value) c.in_ok-ends.ensures.listed

pub returns-clause-listed : goal.returns-clause-listed
returns-clause-listed g c =
    let N = g.S.FlowStore.network c.args.store.now in
    let all : N.vertices ≤ c.rows.from = omega (arith, c.size-from-end.ensures, c.rows-test.false) in
    lists_same g.C.Number.value N.vertices N.flow _ _ c.rows.flows.items (λ a b l m k. k.1) (λ a b l m k. (omega (arith, all, l), k)) c.rows.invariant

pub returns-in_err-ends-clause-listed : goal.returns-in_err-ends-clause-listed
returns-in_err-ends-clause-listed g c = IfOk-from_err _ _ c.from_residual.ensures.0

pub returns-in_err-ends-clause-refused : goal.returns-in_err-ends-clause-refused
returns-in_err-ends-clause-refused g c = refused_as _ c.from_residual.result _ c.from_residual.ensures.1 c.in_err-ends.ensures.refused

pub returns-in_err-add_flows-clause-listed : goal.returns-in_err-add_flows-clause-listed
returns-in_err-add_flows-clause-listed g c = IfOk-from_err _ _ c.from_residual-in_err-add_flows.ensures.0

pub returns-in_err-add_flows-clause-refused : goal.returns-in_err-add_flows-clause-refused
returns-in_err-add_flows-clause-refused g c = refused_as _ c.from_residual-in_err-add_flows.result _ c.from_residual-in_err-add_flows.ensures.1 c.in_err-add_flows.ensures.refused

pub rows-smaller : goal.rows-smaller
rows-smaller g c = omega (arith, c.rows-test.true)
