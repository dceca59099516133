use Rattle.std.proofs.Common.{inl}
use Rattle.std.proofs.lemmas.Result.{IfOk-from_err}
use Rattle.pf_base.proofs.Outcomes.{refused_as}
use Rattle.pf_yen.proofs.directed.yen.YenPaths+N+C+F+T+A.new.Goals as goal

pub over-requires : goal.over-requires
over-requires g c = record { one = c.in_ok-nodes.ensures.one }

pub returns : goal.returns
returns g c = record {
  begins = c.over.ensures.begins;
  graph = c.over.ensures.graph c.args.start.now ((c.in_ok-nodes.ensures.same c.args.start.now).1 (inl (g.met.N.Eq.laws.refl c.args.start.now)));
  refused = tt;
}

pub returns-in_err-nodes : goal.returns-in_err-nodes
returns-in_err-nodes g c = record {
  begins = IfOk-from_err _ _ c.from_residual.ensures.0;
  graph = IfOk-from_err _ _ c.from_residual.ensures.0;
  refused = refused_as _ c.from_residual.result c.in_err-nodes.field-0.0 c.from_residual.ensures.1 c.in_err-nodes.ensures.refused;
}
