use Rattle.std.proofs.Common.{◌<◌, ℕ, length, ap, sym, subst, arith}
use Rattle.pf_core.proofs.UnitLemmas.{begins_all, starts_stand}
use Rattle.pf_core.specs.Hops.{hops_from}
use Rattle.pf_orders.specs.StrongComponents.{lists_of}
use Rattle.pf_orders.proofs.ComponentLists.{if_ok}
use Rattle.pf_orders.proofs.ComponentNodes.{strong_components_of}
use Rattle.pf_orders.proofs.discovered.components_of.Goals as goal

pub strong_components-requires-clause-graph : goal.strong_components-requires-clause-graph
strong_components-requires-clause-graph g c =
    let r = c.requires.graph in
    (hops_from r.0 r.1, r.2.explores)

pub strong_components-requires-clause-begins : goal.strong_components-requires-clause-begins
strong_components-requires-clause-begins g c = λ k l. begins_all g.N.PartialEq.eq g.met.N.Eq.laws (g.M.Numbering.keys c.args.graph.nodes) k l

pub components_at-requires-clause-inside : goal.components_at-requires-clause-inside
components_at-requires-clause-inside g c = λ i k m.
    let r = c.requires.graph in
    let n = c.in_ok-components.ensures.numbered (hops_from r.0 r.1) r.2.explores in
    subst (λ (l : ℕ). k < l) (ap length (sym c.as_slice.ensures.keys)) (n.inside i k (rw c.deref.ensures.value at m))

pub returns : goal.returns
returns g c = record {
  components = λ starts next b.
      let eq = g.N.PartialEq.eq in
      let laws = g.met.N.Eq.laws in
      let e = c.in_ok-components.ensures in
      let y = e.graph (hops_from starts next) b.explores in
      let h = e.numbered (hops_from starts next) b.explores in
      if_ok _ _ c.components_at.result
      (λ answer z. strong_components_of eq laws next y
      (λ n m. let s = (starts_stand eq laws starts (g.M.Numbering.keys c.args.graph.nodes) b.same n).1 m in (s.0, omega (arith, s.1, e.grows.more), e.grows.stays s.0 n s.2)) (lists_of c.in_ok-components.components.items) (lists_of answer.items) h z)
      (rw (c.deref.ensures.value, c.as_slice.ensures.keys) at c.components_at.ensures.nodes);
  refused = c.components_at.ensures.refused;
}
