use Rattle.std.proofs.Common.{◌∙◌, ap}
use Rattle.pf_residual.specs.DenseStores.{table_number}
use Rattle.pf_residual.proofs.NetworkLemmas.{network_of_fresh}
use Rattle.pf_residual.proofs.DenseLemmas.{zero_tables, zero_fresh, zero_capacities}
use Rattle.pf_residual.proofs.OppositeLemmas.{opposite_none}
use Rattle.std.proofs.lemmas.Option.{none-some}
use Rattle.std.proofs.lemmas.Result.{IfOk-from_err}
use Rattle.pf_base.proofs.Outcomes.{refused_as}
use Rattle.pf_flow.proofs.dense_capacity.DenseCapacityEdmondsKarp.new.Goals as goal

pub returns-clause-network : goal.returns-clause-network
returns-clause-network g c =
    let value = g.C.Number.value in
    let exact = g.met.C.Integral.exact_law in
    let nought = ap value c.zero.ensures ∙ g.met.C.Zero.zero_law exact in
    let residuals = c.in_ok-residuals.residuals in
    let flows = c.in_ok-flows.flows in
    let left = c.in_ok-residuals.ensures in
    let right = c.in_ok-flows.ensures in
    network_of_fresh (g.met.C.Zero.zero_fits_law exact)
    (zero_fresh value residuals flows c.args.size c.args.source c.args.sink left.square right.square (value c.zero.result) right.zero nought)
    (zero_capacities value residuals flows c.args.size c.args.source c.args.sink left.square right.square (value c.zero.result) left.zero right.zero)

pub returns-clause-fresh : goal.returns-clause-fresh
returns-clause-fresh g c =
    let value = g.C.Number.value in
    let nought = ap value c.zero.ensures ∙ g.met.C.Zero.zero_law g.met.C.Integral.exact_law in
    let left = c.in_ok-residuals.ensures in
    let right = c.in_ok-flows.ensures in
    zero_fresh value c.in_ok-residuals.residuals c.in_ok-flows.flows c.args.size c.args.source c.args.sink left.square right.square (value c.zero.result) right.zero nought

pub returns-clause-capacities : goal.returns-clause-capacities
returns-clause-capacities g c =
    let value = g.C.Number.value in
    let left = c.in_ok-residuals.ensures in
    let right = c.in_ok-flows.ensures in
    zero_capacities value c.in_ok-residuals.residuals c.in_ok-flows.flows c.args.size c.args.source c.args.sink left.square right.square (value c.zero.result) left.zero right.zero

pub returns-in_err-residuals : goal.returns-in_err-residuals
returns-in_err-residuals g c = record {
  fresh = IfOk-from_err _ _ c.from_residual.ensures.0;
  capacities = IfOk-from_err _ _ c.from_residual.ensures.0;
  network = IfOk-from_err _ _ c.from_residual.ensures.0;
  refused = refused_as _ c.from_residual.result _ c.from_residual.ensures.1 c.in_err-residuals.ensures.refused;
}

pub returns-in_err-flows : goal.returns-in_err-flows
returns-in_err-flows g c = record {
  fresh = IfOk-from_err _ _ c.from_residual-in_err-flows.ensures.0;
  capacities = IfOk-from_err _ _ c.from_residual-in_err-flows.ensures.0;
  network = IfOk-from_err _ _ c.from_residual-in_err-flows.ensures.0;
  refused = refused_as _ c.from_residual-in_err-flows.result _ c.from_residual-in_err-flows.ensures.1 c.in_err-flows.ensures.refused;
}

pub invariant_of-result : goal.invariant_of-result
invariant_of-result g c =
    let value = g.C.Number.value in
    let residuals = c.in_ok-residuals.residuals in
    let flows = c.in_ok-flows.flows in
    let left = c.in_ok-residuals.ensures in
    let right = c.in_ok-flows.ensures in
    record {
      stored = zero_tables value residuals flows c.args.size c.args.source c.args.sink left.square right.square c.requires.source c.requires.sink;
      opposite = opposite_none _ (λ a b. ap (λ n. table_number value n flows a b) left.square.rows ∙ right.zero.at a b);
      summed = λ z e. absurd (none-some z e);
    }
