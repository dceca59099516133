use Rattle.std.proofs.Common.{sym, arith}
use Rattle.std.proofs.lemmas.Result.{IfOk-from_err}
use Rattle.pf_base.proofs.Outcomes.{if_refused, refused_as, refused_by}
use Rattle.pf_graph.proofs.undirected.numbered.number_edges.Goals as goal

pub returns : goal.returns
returns g c = record {
  few = omega (arith, c.in_ok-narrowed.ensures.same);
  numbered = (c.number_into.new.nodes.keys, sym c.len-count.ensures.len, c.in_ok-number_into.ensures.numbered);
  in_order = c.in_ok-number_into.ensures.in_order;
  weighed = c.in_ok-number_into.ensures.weighed;
  refused = tt;
}

pub returns-in_err-numbered : goal.returns-in_err-numbered
returns-in_err-numbered g c = record {
  few = IfOk-from_err _ _ c.from_residual.ensures.0;
  numbered = IfOk-from_err _ _ c.from_residual.ensures.0;
  in_order = IfOk-from_err _ _ c.from_residual.ensures.0;
  weighed = IfOk-from_err _ _ c.from_residual.ensures.0;
  refused = refused_by _ c.from_residual.result c.from_residual.ensures.1;
}

pub returns-in_err-number_into : goal.returns-in_err-number_into
returns-in_err-number_into g c = record {
  few = if_refused _ c.from_residual-in_err-number_into.result _ c.from_residual-in_err-number_into.ensures.1;
  numbered = if_refused _ c.from_residual-in_err-number_into.result _ c.from_residual-in_err-number_into.ensures.1;
  in_order = if_refused _ c.from_residual-in_err-number_into.result _ c.from_residual-in_err-number_into.ensures.1;
  weighed = if_refused _ c.from_residual-in_err-number_into.result _ c.from_residual-in_err-number_into.ensures.1;
  refused = refused_as _ c.from_residual-in_err-number_into.result _ c.from_residual-in_err-number_into.ensures.1 c.in_err-number_into.ensures.refused;
}

pub returns-in_err-narrowed : goal.returns-in_err-narrowed
returns-in_err-narrowed g c = record {
  few = if_refused _ c.from_residual-in_err-narrowed.result _ c.from_residual-in_err-narrowed.ensures.1;
  numbered = if_refused _ c.from_residual-in_err-narrowed.result _ c.from_residual-in_err-narrowed.ensures.1;
  in_order = if_refused _ c.from_residual-in_err-narrowed.result _ c.from_residual-in_err-narrowed.ensures.1;
  weighed = if_refused _ c.from_residual-in_err-narrowed.result _ c.from_residual-in_err-narrowed.ensures.1;
  refused = refused_as _ c.from_residual-in_err-narrowed.result _ c.from_residual-in_err-narrowed.ensures.1 c.in_err-narrowed.ensures.refused;
}

pub number_into-requires-clause-weighs : goal.number_into-requires-clause-weighs
number_into-requires-clause-weighs g c = c.requires.weighs
