use Rattle.std.proofs.Common.{arith, sym, refl}
use Rattle.std.specs.HashMap.{get}
use Rattle.std.proofs.lemmas.Result.{IfOk-from_err}
use Rattle.pf_core.proofs.LabelLemmas.{HasLabel-inside}
use Rattle.pf_base.proofs.ListLemmas.{at_place}
use Rattle.pf_search.proofs.MapLemmas.{label_read, label_none, maps_none, maps_same, maps_more, maps_whole}
use Rattle.pf_search.proofs.discovered.map_of.Goals.{in-Some+in_ok-parent+in_ok-node+in_ok-insert, in_default}
use Rattle.pf_search.proofs.discovered.map_of.Goals as goal

pub bounds-nodes-label : goal.bounds-nodes-label
bounds-nodes-label g c = c.requires.behind c.numbers.number c.in-Some.label c.numbers.invariant.positive (label_read c.args.labels.now c.numbers.number c.index-labels-number.result c.label.result c.in-Some.label c.numbers-test.true c.index-labels-number.is c.label.ensures c.in-Some.is)

pub offset_bounds-nodes-label : goal.offset_bounds-nodes-label
offset_bounds-nodes-label g c = omega (arith, bounds-nodes-label g c)

pub numbers-init : goal.numbers-init
numbers-init g c = record {
  positive = omega arith;
  maps = maps_none g.N.PartialEq.eq g.met.N.Eq.laws c.args.nodes.now c.args.labels.now _ (λ x. rw c.in_ok-parents.ensures.empty refl);
}

pub numbers-preserved : goal.numbers-preserved
numbers-preserved g c =
    let eq = g.N.PartialEq.eq in
    let laws = g.met.N.Eq.laws in
    let nodes = c.args.nodes.now in
    let labels = c.args.labels.now in
    let n = c.numbers.number in
    let v = c.numbers.invariant in
    let wide = c.requires.wide in
    record {
      positive = omega (arith, v.positive);
      maps = elim c.match-label.branch [
        | in-Some+in_ok-parent+in_ok-node+in_ok-insert w ↦
            let l = w.in-Some.label in
            let at = label_read labels n c.index-labels-number.result c.label.result l c.numbers-test.true c.index-labels-number.is c.label.ensures w.in-Some.is in
            let i = HasLabel-inside labels n l at in
            rw w.parents-is
            (maps_more eq laws nodes labels n (get eq c.numbers.parents) _ l w.index-nodes-number.result w.in_ok-node.node w.index-nodes-label.result w.in_ok-parent.parent v.positive at
            (at_place nodes n w.index-nodes-number.result _ (omega (arith, i, wide)) (sym w.index-nodes-number.is)) (c.requires.clones _ _ w.in_ok-node.ensures.cases)
            (at_place nodes l.parent w.index-nodes-label.result _ (c.requires.behind n l v.positive at) (sym w.index-nodes-label.is)) (c.requires.clones _ _ w.in_ok-parent.ensures.cases)
            w.in_ok-insert.ensures.updates.0 v.maps)
        | in_default w ↦ rw w.parents-is (maps_same eq laws nodes labels n (get eq c.numbers.parents) (label_none labels n c.index-labels-number.result c.label.result c.numbers-test.true c.index-labels-number.is c.label.ensures w.in_default.not-Some) v.maps)
      ];
    }

pub returns-clause-maps : goal.returns-clause-maps
returns-clause-maps g c = maps_whole g.N.PartialEq.eq g.met.N.Eq.laws c.args.nodes.now c.args.labels.now c.numbers.number _ (omega (arith, c.numbers-test.false)) c.numbers.invariant.maps

pub returns-in_err-parents-clause-maps : goal.returns-in_err-parents-clause-maps
returns-in_err-parents-clause-maps g c = IfOk-from_err _ _ c.from_residual.ensures.0

pub returns-in_err-parent-clause-maps : goal.returns-in_err-parent-clause-maps
returns-in_err-parent-clause-maps g c = IfOk-from_err _ _ c.from_residual-in_err-parent.ensures.0

pub returns-in_err-node-clause-maps : goal.returns-in_err-node-clause-maps
returns-in_err-node-clause-maps g c = IfOk-from_err _ _ c.from_residual-in_err-node.ensures.0

pub returns-in_err-insert-clause-maps : goal.returns-in_err-insert-clause-maps
returns-in_err-insert-clause-maps g c = IfOk-from_err _ _ c.from_residual-in_err-insert.ensures.0

pub bounds-nodes-number : goal.bounds-nodes-number
bounds-nodes-number g c = omega (arith, c.requires.wide, c.numbers-test.true)

pub offset_bounds-nodes-number : goal.offset_bounds-nodes-number
offset_bounds-nodes-number g c = omega (arith, bounds-nodes-number g c)
