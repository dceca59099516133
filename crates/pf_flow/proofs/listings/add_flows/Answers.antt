use Rattle.std.proofs.Common.{◌+◌, arith, get_or, sym, subst}
use Rattle.std.proofs.lemmas.Option.{slice_get-get_or}
use Rattle.pf_residual.specs.Internal.Prefixes.{ListsFlowsTo}
use Rattle.pf_residual.proofs.ChangeListings.{flows_begin, flows_more, flows_end}
use Rattle.pf_base.proofs.Outcomes.{refused_by}
use Rattle.std.proofs.lemmas.Result.{IfOk-from_err}
use Rattle.pf_flow.proofs.listings.add_flows.Goals as goal

pub ends-init : goal.ends-init
ends-init g c = flows_begin g.C.Number.value (g.S.FlowStore.network c.args.store.now) c.args.from c.requires.from c.args.ends.now c.requires.ends c.args.flows.now.items c.requires.before

pub flow-requires-clause-to : goal.flow-requires-clause-to
flow-requires-clause-to g c = (c.requires.ends.sound c.ends.to-index (get_or c.args.ends.now c.ends.to-index 0) (slice_get-get_or c.args.ends.now c.ends.to-index 0 c.ends-test.true)).0

pub ends-preserved : goal.ends-preserved
ends-preserved g c =
    let ends = c.args.ends.now in
    let i = c.ends.to-index in
    let to = get_or ends i 0 in
    let N = g.S.FlowStore.network c.args.store.now in
    let more = flows_more g.C.Number.value N c.args.from c.requires.from ends c.requires.ends i to c.flow.result (slice_get-get_or ends i 0 c.ends-test.true) c.flow.ensures c.ends.flows.items c.ends.invariant in
    subst (ListsFlowsTo g.C.Number.value N c.args.from ends (i + 1)) (sym c.in_ok-push.ensures.items) more

pub returns-clause-listed : goal.returns-clause-listed
returns-clause-listed g c = flows_end g.C.Number.value (g.S.FlowStore.network c.args.store.now) c.args.from c.requires.from c.args.ends.now c.requires.ends c.ends.to-index (omega arith) c.ends.flows.items c.ends.invariant

pub returns-in_err-push-clause-listed : goal.returns-in_err-push-clause-listed
returns-in_err-push-clause-listed g c = IfOk-from_err _ _ c.from_residual.ensures.0

pub returns-in_err-push-clause-refused : goal.returns-in_err-push-clause-refused
returns-in_err-push-clause-refused g c = refused_by _ c.from_residual.result c.from_residual.ensures.1
