use Rattle.std.proofs.lemmas.Result.{IfOk-from_err}
use Rattle.pf_residual.specs.Internal.Levels.{reached}
use Rattle.pf_flow.proofs.CutOfLevels.{cut_of_levels}
use Rattle.pf_base.proofs.Outcomes.{on_any, refused_as}
use Rattle.pf_flow.proofs.augmenting.augment_apart.Goals as goal

pub run_phases-requires-clause-network : goal.run_phases-requires-clause-network
run_phases-requires-clause-network g c = c.requires.network

pub run_phases-requires-clause-apart : goal.run_phases-requires-clause-apart
run_phases-requires-clause-apart g c = c.requires.apart

pub list_answer-requires-clause-network : goal.list_answer-requires-clause-network
list_answer-requires-clause-network g c = c.run_phases.ensures.network

pub list_answer-requires-clause-cut_off : goal.list_answer-requires-clause-cut_off
list_answer-requires-clause-cut_off g c = c.in_ok-run_phases.ensures.cut_off

pub returns : goal.returns
returns g c = record {
  network = c.run_phases.ensures.network;
  kept = c.run_phases.ensures.kept;
  total = c.run_phases.ensures.total;
  cut =
      let law = g.met.S.FlowStore.network_law c.run_phases.new.store in
      let e = c.in_ok-run_phases.ensures.cut_off in
      let levels = c.run_phases.new.found.levels.items in
      on_any c.list_answer.result (λ apart. (reached levels, cut_of_levels levels c.run_phases.new.found.parents.items c.run_phases.ensures.network law.source_in law.sink_in e.found e.len e.top));
  answer = c.list_answer.ensures.answer;
  refused = c.list_answer.ensures.refused;
  ticked = c.run_phases.ensures.ticked;
  paths = c.run_phases.ensures.paths;
}

pub returns-in_err-run_phases : goal.returns-in_err-run_phases
returns-in_err-run_phases g c = record {
  network = c.run_phases.ensures.network;
  kept = c.run_phases.ensures.kept;
  total = c.run_phases.ensures.total;
  cut = IfOk-from_err _ _ c.from_residual.ensures.0;
  answer = IfOk-from_err _ _ c.from_residual.ensures.0;
  refused = refused_as _ c.from_residual.result _ c.from_residual.ensures.1 c.in_err-run_phases.ensures.refused;
  ticked = c.run_phases.ensures.ticked;
  paths = c.run_phases.ensures.paths;
}
