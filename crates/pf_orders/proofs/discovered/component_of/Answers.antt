use Rattle.std.proofs.Common.{length, ap, arith, [], ◌∷◌}
use Rattle.pf_orders.specs.StrongComponents.{lists_of}
use Rattle.pf_orders.proofs.ComponentLists.{none_popped, last_list}
use Rattle.pf_orders.proofs.ComponentNodes.{some_component, last_component}
use Rattle.pf_orders.proofs.discovered.component_of.Goals as goal

pub components_of-requires-clause-graph : goal.components_of-requires-clause-graph
components_of-requires-clause-graph g c = let r = c.requires.graph in (r.0 ∷ [], r.1, r.2)

pub unreachable-requires : goal.unreachable-requires
unreachable-requires g c =
    let r = c.requires.graph in
    let items = c.in_ok-components.components.items in
    let l = some_component g.N.PartialEq.eq g.met.N.Eq.laws r.1 r.0 (lists_of items) (c.in_ok-components.ensures.components (r.0 ∷ []) r.1 r.2) in
    let none = none_popped items c.pop.new.self.items _ c.in-None.ensures.items c.in-None.ensures.rest c.in-None.ensures.cases.0 in
    omega (arith, l, ap (λ vs. length (lists_of vs)) none)

pub returns : goal.returns
returns g c = record {
  component = λ node next a.
      let items = c.in_ok-components.components.items in
      let last = last_list items c.pop.new.self.items c.in-Some.component c.in-Some.ensures.items in
      last_component g.N.PartialEq.eq g.met.N.Eq.laws next node (lists_of items) (c.in_ok-components.ensures.components (node ∷ []) next a) (length (lists_of c.pop.new.self.items)) c.in-Some.component.items last.0 last.1;
  refused = tt;
}
