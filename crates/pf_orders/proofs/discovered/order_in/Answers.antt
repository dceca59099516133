use Rattle.std.proofs.Common.{refl, ◌≡◌, ◌<◌, ℕ, length, ap, sym, subst, slice_get, Some}
use Rattle.std.proofs.lemmas.Result.{IfOk-from_err}
use Rattle.pf_core.specs.Nodes.{StandsFor}
use Rattle.pf_core.specs.Hops.{hops_from}
use Rattle.pf_base.proofs.ListLemmas.{at_place}
use Rattle.pf_base.proofs.Outcomes.{refused_as}
use Rattle.pf_orders.proofs.SortLemmas.{asked_in_reach, topological_order, node_on_cycle, stands_in_reach}
use Rattle.pf_orders.proofs.discovered.order_in.Goals as goal

pub sort_numbers-requires : goal.sort_numbers-requires
sort_numbers-requires g c =
    let r = c.requires.graph in
    record { graph = (hops_from r.0 r.1, r.2.explores) }

pub clones_at-requires-clause-inside : goal.clones_at-requires-clause-inside
clones_at-requires-clause-inside g c =
    let r = c.requires.graph in
    let o = rw c.in-Ok.is at (c.in_ok-numbers.ensures.order (hops_from r.0 r.1) r.2.explores) in
    λ k h. subst (λ (n : ℕ). k < n) (ap length (sym c.as_slice.ensures.keys)) (o.inside k (rw c.deref.ensures.value at h))

pub returns-in_err-numbers : goal.returns-in_err-numbers
returns-in_err-numbers g c =
    let r = c.from_residual in
    let e = c.in_err-numbers.ensures in
    record {
      order = λ roots next b. IfOk-from_err _ _ r.ensures.0;
      cycle = λ roots next b. IfOk-from_err _ _ r.ensures.0;
      asked = λ roots next b. asked_in_reach g.N.PartialEq.eq g.met.N.Eq.laws _ next (e.graph (hops_from roots next) b.explores) _ _ e.asked;
      ticked = e.ticked;
      errors = refused_as _ r.result _ r.ensures.1 e.errors;
    }

pub returns-in_ok-order-in-Ok : goal.returns-in_ok-order-in-Ok
returns-in_ok-order-in-Ok g c =
    let eq = g.N.PartialEq.eq in
    let laws = g.met.N.Eq.laws in
    let e = c.in_ok-numbers.ensures in
    record {
      order = λ roots next b.
          let h = hops_from roots next in
          let o = rw c.in-Ok.is at (e.order h b.explores) in
          topological_order eq laws (g.M.Numbering.keys c.sort_numbers.new.graph.nodes) next (e.graph h b.explores) (g.M.Numbering.keys c.args.graph.now.nodes) b.same e.grows c.in-Ok.numbers.items c.in_ok-order-in-Ok.order.items
          (rw c.as_slice.ensures.keys at (rw c.deref.ensures.value at c.in_ok-order-in-Ok.ensures.nodes)) o;
      cycle = λ roots next b. tt;
      asked = λ roots next b. asked_in_reach eq laws _ next (e.graph (hops_from roots next) b.explores) _ _ e.asked;
      ticked = e.ticked;
      errors = tt;
    }

pub returns-in_ok-node-in-Err : goal.returns-in_ok-node-in-Err
returns-in_ok-node-in-Err g c =
    let eq = g.N.PartialEq.eq in
    let laws = g.met.N.Eq.laws in
    let e = c.in_ok-numbers.ensures in
    record {
      order = λ roots next b. tt;
      cycle = λ roots next b.
          let h = hops_from roots next in
          let keys = g.M.Numbering.keys c.sort_numbers.new.graph.nodes in
          let o = rw c.in-Err.is at (e.on_cycle h b.explores) in
          let number = c.in-Err.number in
          let m = c.index-as_slice-number.result in
          let inside : number < length c.as_slice-in-Err.result.now = subst (λ (n : ℕ). number < n) (ap length (sym c.as_slice-in-Err.ensures.keys)) (rw c.in-Err.is at e.cycle) in
          let at : slice_get keys number ≡ Some m = rw c.as_slice-in-Err.ensures.keys at (at_place c.as_slice-in-Err.result.now number _ _ inside (sym c.index-as_slice-number.is)) in
          let node = c.in_ok-node-in-Err.node in
          let here : StandsFor eq keys number node = (m, at, c.requires.clones m node c.in_ok-node-in-Err.ensures.cases) in
          (stands_in_reach eq laws keys next (e.graph h b.explores) number node here, node_on_cycle eq laws keys next number node here o);
      asked = λ roots next b. asked_in_reach eq laws _ next (e.graph (hops_from roots next) b.explores) _ _ e.asked;
      ticked = e.ticked;
      errors = tt;
    }

pub returns-in_err-order-in-Ok : goal.returns-in_err-order-in-Ok
returns-in_err-order-in-Ok g c =
    let r = c.from_residual-in_err-order-in-Ok in
    let e = c.in_ok-numbers.ensures in
    record {
      order = λ roots next b. IfOk-from_err _ _ r.ensures.0;
      cycle = λ roots next b. IfOk-from_err _ _ r.ensures.0;
      asked = λ roots next b. asked_in_reach g.N.PartialEq.eq g.met.N.Eq.laws _ next (e.graph (hops_from roots next) b.explores) _ _ e.asked;
      ticked = e.ticked;
      errors = refused_as _ r.result _ r.ensures.1 c.in_err-order-in-Ok.ensures.refused;
    }

pub returns-in_err-node-in-Err : goal.returns-in_err-node-in-Err
returns-in_err-node-in-Err g c =
    let r = c.from_residual-in_err-node-in-Err in
    let e = c.in_ok-numbers.ensures in
    record {
      order = λ roots next b. IfOk-from_err _ _ r.ensures.0;
      cycle = λ roots next b. IfOk-from_err _ _ r.ensures.0;
      asked = λ roots next b. asked_in_reach g.N.PartialEq.eq g.met.N.Eq.laws _ next (e.graph (hops_from roots next) b.explores) _ _ e.asked;
      ticked = e.ticked;
      errors = refused_as _ r.result _ r.ensures.1 refl;
    }
