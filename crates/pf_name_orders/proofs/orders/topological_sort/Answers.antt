use Rattle.std.proofs.Common.{◌∙◌}
use Rattle.pf_base.specs.NodeRefs.{nodes_of}
use Rattle.pf_name_orders.proofs.ByName.{cycle_by_name, cycle_is_listed, order_by_name}
use Rattle.pf_name_orders.proofs.orders.topological_sort.Goals as goal

pub returns-in-Ok-clause-order : goal.returns-in-Ok-clause-order
returns-in-Ok-clause-order g c =
    let o = rw c.in-Ok.is at c.in_ok-order.ensures.order in
    order_by_name g.met.N.Eq.laws g.C.Number.value c.args.list.now c.deref.result.now (c.deref.ensures.value ∙ c.in_ok-roots.ensures.numbers) c.in-Ok.order.items o
    (nodes_of c.in_ok-listed_names-in-Ok.field-0.items) (rw c.deref-in-Ok.ensures.value at c.in_ok-listed_names-in-Ok.ensures.names)

pub returns-in-Some-clause-cycle : goal.returns-in-Some-clause-cycle
returns-in-Some-clause-cycle g c =
    let found = rw c.in-Err.is at c.in_ok-order.ensures.cycle in
    cycle_by_name g.met.N.Eq.laws g.C.Number.value c.args.list.now c.deref.result.now (c.deref.ensures.value ∙ c.in_ok-roots.ensures.numbers) c.in-Err.number found c.in-Some.name.now c.in-Some.ensures

pub unreachable-requires : goal.unreachable-requires
unreachable-requires g c =
    let found = rw c.in-Err.is at c.in_ok-order.ensures.cycle in
    cycle_is_listed g.met.N.Eq.laws g.C.Number.value c.args.list.now c.deref.result.now (c.deref.ensures.value ∙ c.in_ok-roots.ensures.numbers) c.in-Err.number found c.in-None.ensures
