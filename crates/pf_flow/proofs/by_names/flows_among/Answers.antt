use Rattle.std.proofs.Common.{inl, inr}
use Rattle.std.proofs.lemmas.Result.{IfOk-from_err}
use Rattle.pf_base.proofs.Outcomes.{on_any, refused_as}
use Rattle.pf_residual.proofs.NamedLemmas.{err_gives, ok_gives}
use Rattle.pf_flow.proofs.by_names.flows_among.Goals as goal

pub flows_of-requires-clause-ends : goal.flows_of-requires-clause-ends
flows_of-requires-clause-ends g c = c.requires.ends

pub flows_of-requires-clause-unused : goal.flows_of-requires-clause-unused
flows_of-requires-clause-unused g c = c.in_ok-store.ensures.unused

pub flows_of-requires-clause-none : goal.flows_of-requires-clause-none
flows_of-requires-clause-none g c = c.in_ok-store.ensures.none

pub flows_of-requires-clause-vertices : goal.flows_of-requires-clause-vertices
flows_of-requires-clause-vertices g c = c.in_ok-store.ensures.fresh.vertices

pub flows_of-requires-clause-details : goal.flows_of-requires-clause-details
flows_of-requires-clause-details g c = c.in_ok-store.ensures.fresh.details

pub returns : goal.returns
returns g c = record {
  source = on_any c.flows_of.result c.in_ok-store.ensures.source;
  sink = on_any c.flows_of.result c.in_ok-store.ensures.sink;
  answer = ok_gives c.flows_of.result c.flows_of.ensures.answer (λ answer p. p c.args.source.now c.args.sink.now c.in_ok-store.ensures.fresh);
  refused = err_gives c.flows_of.result c.flows_of.ensures.refused (λ e why. elim why [ inl r ↦ inl r | inr r ↦ inr (inr (c.in_ok-store.ensures.source, c.in_ok-store.ensures.sink, r)) ]);
}

pub returns-in_err-store : goal.returns-in_err-store
returns-in_err-store g c = record {
  source = IfOk-from_err _ _ c.from_residual.ensures.0;
  sink = IfOk-from_err _ _ c.from_residual.ensures.0;
  answer = IfOk-from_err _ _ c.from_residual.ensures.0;
  refused = refused_as _ c.from_residual.result _ c.from_residual.ensures.1 (elim c.in_err-store.ensures.refused [ inl r ↦ inl r | inr r ↦ inr (inl r) ]);
}
