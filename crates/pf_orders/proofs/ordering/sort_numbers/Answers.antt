use Rattle.std.proofs.Common.{arith}
use Rattle.std.proofs.lemmas.Result.{IfOk-from_err}
use Rattle.pf_base.proofs.Outcomes.{refused_as}
use Rattle.pf_core.proofs.SearchLemmas.{Grows-refl}
use Rattle.pf_orders.proofs.ordering.sort_numbers.Goals as goal

pub walk_on-cycle-requires-clause-graph : goal.walk_on-cycle-requires-clause-graph
walk_on-cycle-requires-clause-graph g c = c.requires.graph

pub walk_on-cycle-requires-clause-begun : goal.walk_on-cycle-requires-clause-begun
walk_on-cycle-requires-clause-begun g c =
    let e = c.in_ok-walk.ensures in
    rw c.node_count.ensures at e.begun

pub returns-in_err-walk : goal.returns-in_err-walk
returns-in_err-walk g c = record {
  grows = Grows-refl _ _;
  graph = λ h x. x;
  order = λ h x. IfOk-from_err _ _ c.from_residual.ensures.0;
  cycle = IfOk-from_err _ _ c.from_residual.ensures.0;
  on_cycle = λ h x. IfOk-from_err _ _ c.from_residual.ensures.0;
  ticked = omega arith;
  asked = omega arith;
  errors = refused_as _ c.from_residual.result _ c.from_residual.ensures.1 c.in_err-walk.ensures.refused;
}

pub returns-in_err-number : goal.returns-in_err-number
returns-in_err-number g c =
    let e = c.in_err-number.ensures in
    let r = c.from_residual-in_err-number in
    record {
      grows = e.grows;
      graph = e.graph;
      order = λ h x. IfOk-from_err _ _ r.ensures.0;
      cycle = IfOk-from_err _ _ r.ensures.0;
      on_cycle = λ h x. IfOk-from_err _ _ r.ensures.0;
      ticked = e.ticked;
      asked = e.asked;
      errors = refused_as _ r.result _ r.ensures.1 e.refused;
    }

pub returns-in-Some : goal.returns-in-Some
returns-in-Some g c =
    let e = c.in_ok-number.ensures in
    record {
      grows = e.grows;
      graph = e.graph;
      order = λ h x. tt;
      cycle = (let r = c.requires.graph in let p = rw c.in-Some.is at (e.cycle r.0 r.1) in p.0);
      on_cycle = λ h x. (let p = rw c.in-Some.is at (e.cycle h x) in p.1);
      ticked = e.ticked;
      asked = e.asked;
      errors = tt;
    }

pub returns-in-None : goal.returns-in-None
returns-in-None g c =
    let e = c.in_ok-number.ensures in
    record {
      grows = e.grows;
      graph = e.graph;
      order = λ h x. rw c.into_order-order.ensures (rw c.in-None.is at (e.order h x));
      cycle = tt;
      on_cycle = λ h x. tt;
      ticked = e.ticked;
      asked = e.asked;
      errors = tt;
    }
