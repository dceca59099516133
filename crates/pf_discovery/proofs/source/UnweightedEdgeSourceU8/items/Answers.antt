use Rattle.std.proofs.Common.{subst, List, ℤ}
use Rattle.pf_base.specs.Edges.{InReach}
use Rattle.pf_core.specs.HopLaws.{reach_next}
use Rattle.pf_core.proofs.UnitLemmas.{hops_said}
use Rattle.pf_discovery.proofs.source.UnweightedEdgeSourceU8.items.Goals as goal

pub successors-requires : goal.successors-requires
successors-requires g c =
    let r = c.requires.within in
    let a = r.3 in
    let eq = g.N.PartialEq.eq in
    record { within = (r.0, a.0, reach_next eq a.0 r.0 c.args.node.now (subst (λ (f : g.row.N.Denot → List (g.row.N.Denot × ℤ)). InReach eq f r.0 c.args.node.now) a.1 r.2), a.2) }

pub returns : goal.returns
returns g c = record {
  goes_on = λ starts edges reach a.
      let eq = g.N.PartialEq.eq in
      (a.0, a.1, c.successors.ensures.goes_on starts a.0 (reach_next eq a.0 starts c.args.node.now (subst (λ (f : g.row.N.Denot → List (g.row.N.Denot × ℤ)). InReach eq f starts c.args.node.now) a.1 reach)) a.2);
  listed = λ starts edges reach a.
      let eq = g.N.PartialEq.eq in
      let there = reach_next eq a.0 starts c.args.node.now (subst (λ (f : g.row.N.Denot → List (g.row.N.Denot × ℤ)). InReach eq f starts c.args.node.now) a.1 reach) in
      hops_said eq _ _ _ _ edges a.0 a.1 c.args.node.now c.successors.result (c.successors.ensures.listed starts a.0 there a.2);
}
