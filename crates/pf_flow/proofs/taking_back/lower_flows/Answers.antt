use Rattle.std.proofs.Common.{◌≡◌, Some, arith, get_or, sym}
use Rattle.std.specs.Prelude.{slice_get}
use Rattle.std.proofs.lemmas.Option.{slice_get-get_or}
use Rattle.pf_base.proofs.ListLemmas.{at_place}
use Rattle.pf_residual.specs.declared.cancelling.arcs.Arc.{Arc}
use Rattle.pf_flow.proofs.TakeBackLemmas.{carries_next, settled_none, settled_step}
use Rattle.pf_flow.proofs.taking_back.lower_flows.Goals as goal

abbrev none : Arc
none = record { from = 0; to = 0 }

pub lower_flow-requires : goal.lower_flow-requires
lower_flow-requires g c =
    let ends = c.args.ends.now in
    let xs = c.args.amounts.now in
    let k = c.arcs.number in
    let h = c.requires.flowing in
    let at : slice_get ends k ≡ Some (get_or ends k none) = slice_get-get_or ends k none (omega (arith, c.arcs-test.true, h.ends_long)) in
    let has : slice_get xs k ≡ Some c.index-amounts-number.result = at_place xs k _ _ (omega (arith, c.arcs-test.true, h.long)) (sym c.index-amounts-number.is) in
    record {
      balanced = c.arcs.invariant.balanced;
      carries = carries_next g.C.Number.value c.args.count ends xs (g.S.FlowStore.network c.args.store.now) h k (get_or ends k none) c.index-amounts-number.result (g.S.FlowStore.network c.arcs.store) c.arcs-test.true at has c.arcs.invariant.settled;
    }

pub arcs-preserved : goal.arcs-preserved
arcs-preserved g c =
    let ends = c.args.ends.now in
    let xs = c.args.amounts.now in
    let k = c.arcs.number in
    let h = c.requires.flowing in
    let e = c.lower_flow.ensures in
    let at : slice_get ends k ≡ Some (get_or ends k none) = slice_get-get_or ends k none (omega (arith, c.arcs-test.true, h.ends_long)) in
    let has : slice_get xs k ≡ Some c.index-amounts-number.result = at_place xs k _ _ (omega (arith, c.arcs-test.true, h.long)) (sym c.index-amounts-number.is) in
    record {
      balanced = e.balanced;
      settled = settled_step g.C.Number.value c.args.count ends xs (g.S.FlowStore.network c.args.store.now) h k (get_or ends k none) c.index-amounts-number.result (g.S.FlowStore.network c.arcs.store) (g.S.FlowStore.network c.lower_flow.new.store) at has c.arcs.invariant.settled e.kept e.moved e.total;
    }

pub arcs-init : goal.arcs-init
arcs-init g c = record {
  balanced = c.requires.balanced;
  settled = settled_none g.C.Number.value c.args.ends.now c.args.amounts.now (g.S.FlowStore.network c.args.store.now);
}
