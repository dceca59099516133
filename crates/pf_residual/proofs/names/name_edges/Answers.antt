use Rattle.std.proofs.Common.{◌≡◌, ◌∙◌, ◌<◌, ◌+◌, ◌∷◌, ◌++◌, [], refl, sym, ap, subst, take, take_all, length, arith}
use Rattle.std.specs.List.{AllZip}
use Rattle.std.proofs.lemmas.List.{take_more}
use Rattle.pf_base.proofs.ListLemmas.{at_place, AllZip-append}
use Rattle.pf_residual.specs.NamedNetworks.{IsNamed}
use Rattle.std.proofs.lemmas.Result.{IfOk-from_err}
use Rattle.pf_base.proofs.Outcomes.{refused_by}
use Rattle.pf_residual.proofs.names.name_edges.Goals as goal

pub bounds-names-from : goal.bounds-names-from
bounds-names-from g c = (c.requires.inside c.numbered.edge-index c.edge-item.result (at_place c.args.numbered.now c.numbered.edge-index _ _ c.numbered-test.true (sym c.edge-item.is))).0

pub bounds-names-to : goal.bounds-names-to
bounds-names-to g c = (c.requires.inside c.numbered.edge-index c.edge-item.result (at_place c.args.numbered.now c.numbered.edge-index _ _ c.numbered-test.true (sym c.edge-item.is))).1

pub offset_bounds-names-from : goal.offset_bounds-names-from
offset_bounds-names-from g c =
    let l : c.edge-item.result.0.0 < length c.args.names.now = (c.requires.inside c.numbered.edge-index c.edge-item.result (at_place c.args.numbered.now c.numbered.edge-index _ _ c.numbered-test.true (sym c.edge-item.is))).0 in
    omega (arith, l)

pub offset_bounds-names-to : goal.offset_bounds-names-to
offset_bounds-names-to g c =
    let l : c.edge-item.result.0.1 < length c.args.names.now = (c.requires.inside c.numbered.edge-index c.edge-item.result (at_place c.args.numbered.now c.numbered.edge-index _ _ c.numbered-test.true (sym c.edge-item.is))).1 in
    omega (arith, l)

pub numbered-preserved : goal.numbered-preserved
numbered-preserved g c =
    let names = c.args.names.now in
    let numbered = c.args.numbered.now in
    let i = c.numbered.edge-index in
    let e = c.edge-item.result in
    let inside = c.requires.inside i e (at_place numbered i _ _ c.numbered-test.true (sym c.edge-item.is)) in
    let more : take (i + 1) numbered ≡ take i numbered ++ e ∷ [] = take_more numbered i e c.numbered-test.true ∙ ap (λ y. take i numbered ++ y ∷ []) (sym c.edge-item.is) in
    subst (λ ns. AllZip (IsNamed names) ns c.push.new.self.items) (sym more)
    (subst (λ xs. AllZip (IsNamed names) (take i numbered ++ e ∷ []) xs) (sym c.in_ok-push.ensures.items)
    (AllZip-append (IsNamed names) (take i numbered) c.numbered.edges.items e _ c.numbered.invariant
    (record { from = at_place names e.0.0 _ _ inside.0 (sym c.index-names-from.is); to = at_place names e.0.1 _ _ inside.1 (sym c.index-names-to.is); same = refl })))

pub numbered-init : goal.numbered-init
numbered-init g c = rw c.in_ok-edges.ensures.items tt

pub returns-clause-named : goal.returns-clause-named
returns-clause-named g c = subst (λ ns. AllZip (IsNamed c.args.names.now) ns c.numbered.edges.items) (take_all c.numbered.edge-index c.args.numbered.now c.numbered-test.false) c.numbered.invariant

pub returns-in_err-edges-clause-named : goal.returns-in_err-edges-clause-named
returns-in_err-edges-clause-named g c = IfOk-from_err _ _ c.from_residual.ensures.0

pub returns-in_err-edges-clause-refused : goal.returns-in_err-edges-clause-refused
returns-in_err-edges-clause-refused g c = refused_by _ c.from_residual.result c.from_residual.ensures.1

pub returns-in_err-push-clause-named : goal.returns-in_err-push-clause-named
returns-in_err-push-clause-named g c = IfOk-from_err _ _ c.from_residual-in_err-push.ensures.0

pub returns-in_err-push-clause-refused : goal.returns-in_err-push-clause-refused
returns-in_err-push-clause-refused g c = refused_by _ c.from_residual-in_err-push.result c.from_residual-in_err-push.ensures.1

pub bounds-numbered-edge-index : goal.bounds-numbered-edge-index
bounds-numbered-edge-index g c = c.numbered-test.true

pub offset_bounds-numbered-edge-index : goal.offset_bounds-numbered-edge-index
offset_bounds-numbered-edge-index g c = omega (arith, c.numbered-test.true)

pub numbered-smaller : goal.numbered-smaller
numbered-smaller g c = omega (arith, c.numbered-test.true)

pub returns-clause-refused : goal.returns-clause-refused
returns-clause-refused g c = tt
