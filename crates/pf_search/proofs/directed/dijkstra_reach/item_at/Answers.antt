use Rattle.std.proofs.Common.{◌≡◌, ◌<◌, ◌∙◌, sym, ap, subst, length, Some, slice_get, refl, ℕ, arith}
use Rattle.std.specs.Prelude.{MatchOption}
use Rattle.std.proofs.lemmas.Option.{same_Some}
use Rattle.std.proofs.lemmas.Result.{IfOk-from_err}
use Rattle.pf_core.specs.declared.labels.Label.{Label}
use Rattle.pf_core.specs.Nodes.{StandsFor}
use Rattle.pf_base.proofs.ListLemmas.{at_place}
use Rattle.pf_core.proofs.LabelLemmas.{HasLabel-inside}
use Rattle.pf_search.proofs.directed.dijkstra_reach.item_at.Goals.{in-Some+in_ok-clone-in-Some, in-None}
use Rattle.pf_search.proofs.directed.dijkstra_reach.item_at.Goals as goal

pub label_of-label-requires : goal.label_of-label-requires
label_of-label-requires g c = c.requires.labelled

pub bounds-nodes-parent : goal.bounds-nodes-parent
bounds-nodes-parent g c =
    let l = c.requires.labelled.0 in
    let at = c.requires.labelled.1 in
    let slot : slice_get c.args.labels.now.items c.args.number ≡ Some c.index.result.now = at_place _ _ _ _ (HasLabel-inside c.args.labels.now.items c.args.number l at) (sym c.index.ensures) in
    let told : c.index.result.now ≡ Some l = same_Some c.index.result.now (Some l) (sym slot ∙ at) in
    let q = c.in-Some.ensures in
    let same : q.0 ≡ l = same_Some q.0 l (sym q.1 ∙ told) in
    let before : l.parent ≡ c.in-Some.parent = sym (ap (λ (n : Label g.row.C.Denot). n.parent) same) ∙ q.2 in
    let deep : 0 < l.depth = subst (λ (n : Label g.row.C.Denot). 0 < n.depth) same q.3 in
    subst (λ (n : ℕ). n < length c.args.nodes.now) before (c.requires.behind l at deep)

pub offset_bounds-nodes-parent : goal.offset_bounds-nodes-parent
offset_bounds-nodes-parent g c = omega (arith, bounds-nodes-parent g c)

pub index-requires : goal.index-requires
index-requires g c = omega (arith, HasLabel-inside c.args.labels.now.items c.args.number c.requires.labelled.0 c.requires.labelled.1, c.args.labels.now.ok)

pub returns-clause-item : goal.returns-clause-item
returns-clause-item g c =
    let eq = g.N.PartialEq.eq in
    let l = c.label_of-label.result in
    let at = c.label_of-label.ensures in
    let m = c.index-nodes-number.result in
    let here : slice_get c.args.nodes.now c.args.number ≡ Some m = at_place _ _ _ _ c.requires.inside (sym c.index-nodes-number.is) in
    let slot : slice_get c.args.labels.now.items c.args.number ≡ Some c.index.result.now = at_place _ _ _ _ (HasLabel-inside c.args.labels.now.items c.args.number l at) (sym c.index.ensures) in
    let told : c.index.result.now ≡ Some l = same_Some c.index.result.now (Some l) (sym slot ∙ at) in (
      l,
      at,
      refl,
      (m, here, c.requires.clones m c.in_ok-node.node c.in_ok-node.ensures.cases),
      elim c.match-parent.branch as (λ _. MatchOption c.match-parent.parent (l.depth ≡ 0) (λ parent. (0 < l.depth) × StandsFor eq c.args.nodes.now l.parent parent)) [
        | in-Some+in_ok-clone-in-Some w ↦
            let q = w.in-Some.ensures in
            let same : q.0 ≡ l = same_Some q.0 l (sym q.1 ∙ told) in
            let before : l.parent ≡ w.in-Some.parent = sym (ap (λ (n : Label g.row.C.Denot). n.parent) same) ∙ q.2 in
            let deep : 0 < l.depth = subst (λ (n : Label g.row.C.Denot). 0 < n.depth) same q.3 in
            let m' = w.index-nodes-parent.result in
            let inside : w.in-Some.parent < length c.args.nodes.now = subst (λ (n : ℕ). n < length c.args.nodes.now) before (c.requires.behind l at deep) in
            let there : slice_get c.args.nodes.now w.in-Some.parent ≡ Some m' = at_place _ _ _ _ inside (sym w.index-nodes-parent.is) in
            rw (w.parent-is, before) (deep, (m', there, c.requires.clones m' w.in_ok-clone-in-Some.field-0 w.in_ok-clone-in-Some.ensures.cases))
        | in-None w ↦ rw w.parent-is (w.in-None.ensures l told)
      ],
    )

pub returns-in_err-clone-in-Some-clause-item : goal.returns-in_err-clone-in-Some-clause-item
returns-in_err-clone-in-Some-clause-item g c = IfOk-from_err _ _ c.from_residual-in_err-clone-in-Some.ensures.0

pub returns-in_err-node-clause-item : goal.returns-in_err-node-clause-item
returns-in_err-node-clause-item g c = IfOk-from_err _ _ c.from_residual.ensures.0
