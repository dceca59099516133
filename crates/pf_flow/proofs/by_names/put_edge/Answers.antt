use Rattle.std.proofs.Common.{inl, inr}
use Rattle.std.proofs.lemmas.Result.{IfOk-from_err}
use Rattle.pf_base.proofs.Outcomes.{on_ok, refused_as}
use Rattle.pf_residual.proofs.NamedLemmas.{from_in, put_held, put_refused, to_in, both_ok, err_gives}
use Rattle.pf_flow.proofs.by_names.put_edge.Goals as goal

pub put_capacity-requires-clause-unused : goal.put_capacity-requires-clause-unused
put_capacity-requires-clause-unused g c = c.requires.unused

pub put_capacity-requires-clause-sum : goal.put_capacity-requires-clause-sum
put_capacity-requires-clause-sum g c = c.requires.sum

pub put_capacity-requires-clause-from : goal.put_capacity-requires-clause-from
put_capacity-requires-clause-from g c = from_in g.N.PartialEq.eq g.C.Number.value c.args.names.now.keys (g.S.FlowStore.network c.args.store.now) c.args.edge c.in_ok-from.from c.in_ok-to.to c.requires.vertices c.in_ok-from.ensures.number c.in_ok-to.ensures.number c.in_ok-from.ensures.known c.in_ok-to.ensures.known

pub put_capacity-requires-clause-to : goal.put_capacity-requires-clause-to
put_capacity-requires-clause-to g c = to_in g.N.PartialEq.eq g.C.Number.value c.args.names.now.keys (g.S.FlowStore.network c.args.store.now) c.args.edge c.in_ok-from.from c.in_ok-to.to c.requires.vertices c.in_ok-from.ensures.number c.in_ok-to.ensures.number c.in_ok-from.ensures.known c.in_ok-to.ensures.known

pub returns : goal.returns
returns g c = record {
  unused = c.put_capacity.ensures.unused;
  sum = c.put_capacity.ensures.sum;
  shape = on_ok c.put_capacity.result c.put_capacity.ensures.changed (λ x. x.shape);
  held =
      both_ok c.put_capacity.result c.put_capacity.ensures.changed c.put_capacity.ensures.unused
      (λ x w edges h. put_held g.N.PartialEq.eq g.C.Number.value c.args.names.now.keys (g.S.FlowStore.network c.args.store.now) c.args.edge c.in_ok-from.from c.in_ok-to.to c.requires.vertices c.in_ok-from.ensures.number c.in_ok-to.ensures.number c.in_ok-from.ensures.known c.in_ok-to.ensures.known g.C.Number.fits edges x w h);
  refused =
      err_gives c.put_capacity.result c.put_capacity.ensures.refused
      (put_refused g.N.PartialEq.eq g.C.Number.value c.args.names.now.keys (g.S.FlowStore.network c.args.store.now) c.args.edge c.in_ok-from.from c.in_ok-to.to c.requires.vertices c.in_ok-from.ensures.number c.in_ok-to.ensures.number c.in_ok-from.ensures.known c.in_ok-to.ensures.known g.C.Number.fits);
}

pub returns-in_err-from : goal.returns-in_err-from
returns-in_err-from g c = record {
  unused = IfOk-from_err _ _ c.from_residual.ensures.0;
  sum = IfOk-from_err _ _ c.from_residual.ensures.0;
  shape = IfOk-from_err _ _ c.from_residual.ensures.0;
  held = IfOk-from_err _ _ c.from_residual.ensures.0;
  refused =
      let unknown = c.in_err-from.ensures.refused in
      refused_as _ c.from_residual.result _ c.from_residual.ensures.1 (inr (λ edges h. record { accepted = h.accepted; why = inl (unknown.0, inl unknown.1) }));
}

pub returns-in_err-to : goal.returns-in_err-to
returns-in_err-to g c = record {
  unused = IfOk-from_err _ _ c.from_residual-in_err-to.ensures.0;
  sum = IfOk-from_err _ _ c.from_residual-in_err-to.ensures.0;
  shape = IfOk-from_err _ _ c.from_residual-in_err-to.ensures.0;
  held = IfOk-from_err _ _ c.from_residual-in_err-to.ensures.0;
  refused =
      let unknown = c.in_err-to.ensures.refused in
      refused_as _ c.from_residual-in_err-to.result _ c.from_residual-in_err-to.ensures.1 (inr (λ edges h. record { accepted = h.accepted; why = inl (unknown.0, inr unknown.1) }));
}
