use Rattle.std.proofs.Common.{◌∙◌, inl, inr, sym, ap}
use Rattle.std.proofs.lemmas.Result.{IfOk-from_err}
use Rattle.pf_residual.proofs.AgreeLemmas.{capacities_kept, shape_more}
use Rattle.pf_residual.proofs.NetworkLemmas.{none_sum}
use Rattle.pf_base.proofs.Outcomes.{refused_as}
use Rattle.pf_residual.proofs.NamedLemmas.{yields_more}
use Rattle.pf_flow.proofs.by_names.put_edges.Goals as goal

pub edges-init : goal.edges-init
edges-init g c =
    let N = g.S.FlowStore.network c.args.store.now in
    let zero = ap g.C.Number.value c.zero-sum.ensures ∙ g.met.C.Zero.zero_law g.met.C.Integral.exact_law in
    record {
      shape = (capacities_kept N).shape;
      unused = c.requires.unused;
      sum = zero ∙ sym (none_sum N c.requires.none);
      held = record { accepted = tt; capacities = c.requires.none };
    }

pub edges-preserved : goal.edges-preserved
edges-preserved g c =
    let i = c.edges.invariant in
    let e = c.in_ok-sum.ensures in
    record {
      shape = shape_more i.shape e.shape;
      unused = e.unused;
      sum = e.sum;
      held = e.held c.edges.yielded i.held;
    }

pub put_edge-requires-clause-vertices : goal.put_edge-requires-clause-vertices
put_edge-requires-clause-vertices g c = c.edges.invariant.shape.vertices ∙ c.requires.vertices

pub returns-clause-held : goal.returns-clause-held
returns-clause-held g c =
    (c.into_iter-edge-iterator.result, c.edges.yielded, c.into_iter-edge-iterator.ensures.into_iter_gives, (c.next.new.self, (c.edges.edge-iterator, c.edges.yielded_by, c.in-None.ensures.steps)), c.edges.invariant.held)

pub put_edge-requires-clause-unused : goal.put_edge-requires-clause-unused
put_edge-requires-clause-unused g c = c.edges.invariant.unused

pub put_edge-requires-clause-sum : goal.put_edge-requires-clause-sum
put_edge-requires-clause-sum g c = c.edges.invariant.sum

pub returns-clause-unused : goal.returns-clause-unused
returns-clause-unused g c = c.edges.invariant.unused

pub returns-clause-shape : goal.returns-clause-shape
returns-clause-shape g c = c.edges.invariant.shape

pub returns-in_err-sum : goal.returns-in_err-sum
returns-in_err-sum g c = record {
  refused =
      let i = c.edges.invariant in
      refused_as _ c.from_residual.result _ c.from_residual.ensures.1 (elim c.in_err-sum.ensures.refused [
        | inl r ↦ inl r
        | inr r ↦ inr (
          c.into_iter-edge-iterator.result,
          c.edges.yielded,
          c.in-Some.edge,
          c.next.new.self,
          c.into_iter-edge-iterator.ensures.into_iter_gives,
          yields_more g.IC.IntoIter.Iterator.next_gives _ c.edges.yielded c.edges.edge-iterator c.next.new.self c.in-Some.edge c.edges.yielded_by c.in-Some.ensures.steps,
          r c.edges.yielded i.held,
        )
      ]);
  unused = IfOk-from_err _ _ c.from_residual.ensures.0;
  shape = IfOk-from_err _ _ c.from_residual.ensures.0;
  held = IfOk-from_err _ _ c.from_residual.ensures.0;
}
