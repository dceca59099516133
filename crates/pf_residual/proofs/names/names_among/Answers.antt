use Rattle.std.proofs.Common.{◌≡◌, ◌∙◌, ◌∷◌, ◌++◌, ◌+◌, [], sym, ap, take, take_all, arith}
use Rattle.std.proofs.lemmas.List.{take_more}
use Rattle.std.proofs.lemmas.List.Sums.{fold-append}
use Rattle.indexmap.specs.IndexSet.{insert_key}
use Rattle.pf_residual.specs.NamedNetworks.{names_of}
use Rattle.pf_base.proofs.Outcomes.{refused_by}
use Rattle.std.proofs.lemmas.Result.{IfOk-from_err}
use Rattle.pf_residual.proofs.names.names_among.Goals as goal

pub vertices-preserved : goal.vertices-preserved
vertices-preserved g c =
    let eq = g.N.PartialEq.eq in
    let vs = c.args.vertices.now in
    let i = c.vertices.vertex-index in
    let x = c.vertex-item.result in
    let more : take (i + 1) vs ≡ take i vs ++ x ∷ [] = take_more vs i x c.vertices-test.true ∙ ap (λ y. take i vs ++ y ∷ []) (sym c.vertex-item.is) in
    c.in_ok-insert.ensures.keys ∙ ap (λ ks. insert_key eq ks x) c.vertices.invariant ∙ sym (ap (names_of eq) more ∙ fold-append (insert_key eq) [] (take i vs) (x ∷ []))

pub returns-clause-names : goal.returns-clause-names
returns-clause-names g c = c.vertices.invariant ∙ ap (names_of g.N.PartialEq.eq) (take_all c.vertices.vertex-index c.args.vertices.now c.vertices-test.false)

pub returns-in_err-insert-clause-names : goal.returns-in_err-insert-clause-names
returns-in_err-insert-clause-names g c = IfOk-from_err _ _ c.from_residual.ensures.0

pub returns-in_err-insert-clause-refused : goal.returns-in_err-insert-clause-refused
returns-in_err-insert-clause-refused g c = refused_by _ c.from_residual.result c.from_residual.ensures.1

pub vertices-init : goal.vertices-init
vertices-init g c = c.new-names.ensures.empty

pub bounds-vertices-vertex-index : goal.bounds-vertices-vertex-index
bounds-vertices-vertex-index g c = c.vertices-test.true

pub offset_bounds-vertices-vertex-index : goal.offset_bounds-vertices-vertex-index
offset_bounds-vertices-vertex-index g c = omega (arith, c.vertices-test.true)

pub vertices-smaller : goal.vertices-smaller
vertices-smaller g c = omega (arith, c.vertices-test.true)

pub returns-clause-refused : goal.returns-clause-refused
returns-clause-refused g c = tt
