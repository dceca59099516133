use Rattle.std.proofs.lemmas.Result.{IfOk-weaker}
use Rattle.pf_base.specs.NodeRefs.{nodes_of}
use Rattle.pf_name_orders.proofs.ByName.{component_with}
use Rattle.pf_name_orders.proofs.components.strongly_connected_component.Goals as goal

pub returns-clause-component : goal.returns-clause-component
returns-clause-component g c =
    IfOk-weaker c.names_along.result _ _ (λ names e. component_with g.met.N.Eq.laws g.C.Number.value c.args.list.now c.args.name.now c.number_or_next-number.result c.number_or_next-number.ensures
    c.in_ok-component.component.items c.in_ok-component.ensures.component (nodes_of names.items) e) (rw c.deref.ensures.value at c.names_along.ensures.names)
