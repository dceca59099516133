use Rattle.std.proofs.Common.{◌∙◌, inl, inr}
use Rattle.std.proofs.lemmas.Result.{IfOk-from_err}
use Rattle.pf_residual.proofs.FillLemmas.{unused_of_fresh}
use Rattle.pf_base.proofs.Outcomes.{on_any, refused_as}
use Rattle.pf_residual.proofs.NamedLemmas.{err_gives, ok_both, ok_gives}
use Rattle.pf_flow.proofs.by_names.store_between.Goals as goal

pub returns : goal.returns
returns g c = record {
  source = on_any c.new.result c.in_ok-from.ensures.known;
  sink = on_any c.new.result c.in_ok-to.ensures.known;
  fresh =
      ok_gives c.new.result c.new.ensures.fresh (λ store fresh. record {
        vertices = fresh.vertices ∙ c.len.ensures.len;
        source = fresh.source ∙ c.in_ok-from.ensures.number;
        sink = fresh.sink ∙ c.in_ok-to.ensures.number;
        flow = fresh.flow;
        total = fresh.total;
        details = fresh.details;
      });
  unused = ok_both c.new.result c.new.ensures.fresh c.new.ensures.network (λ store fresh network. unused_of_fresh fresh network);
  none = c.new.ensures.capacities;
  refused = err_gives c.new.result c.new.ensures.refused (λ e why. inl why);
}

pub returns-in_err-from : goal.returns-in_err-from
returns-in_err-from g c = record {
  source = IfOk-from_err _ _ c.from_residual.ensures.0;
  sink = IfOk-from_err _ _ c.from_residual.ensures.0;
  fresh = IfOk-from_err _ _ c.from_residual.ensures.0;
  unused = IfOk-from_err _ _ c.from_residual.ensures.0;
  none = IfOk-from_err _ _ c.from_residual.ensures.0;
  refused = let r = c.in_err-from.ensures.refused in refused_as _ c.from_residual.result _ c.from_residual.ensures.1 (inr (r.0, inl r.1));
}

pub returns-in_err-to : goal.returns-in_err-to
returns-in_err-to g c = record {
  source = IfOk-from_err _ _ c.from_residual-in_err-to.ensures.0;
  sink = IfOk-from_err _ _ c.from_residual-in_err-to.ensures.0;
  fresh = IfOk-from_err _ _ c.from_residual-in_err-to.ensures.0;
  unused = IfOk-from_err _ _ c.from_residual-in_err-to.ensures.0;
  none = IfOk-from_err _ _ c.from_residual-in_err-to.ensures.0;
  refused = let r = c.in_err-to.ensures.refused in refused_as _ c.from_residual-in_err-to.result _ c.from_residual-in_err-to.ensures.1 (inr (r.0, inr r.1));
}
