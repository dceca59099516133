use Rattle.std.proofs.Common.{◌≡◌, ◌∷◌, [], refl, sym, ◌∙◌, ap, take, take_all, length, Some, slice_get}
use Rattle.std.proofs.lemmas.Option.{slice_get_read}
use Rattle.std.proofs.lemmas.List.Sums.{fold-append}
use Rattle.indexmap.specs.IndexSet.{insert_all, insert_key}
use Rattle.pf_base.specs.NodeRefs.{nodes_of}
use Rattle.pf_base.proofs.Outcomes.{on_failed}
use Rattle.pf_adjacency.proofs.LayoutLemmas.{take_at}
use Rattle.pf_edge_lists.proofs.NumberedNames.{refs_insert}
use Rattle.pf_edge_lists.proofs.names.add_names.Goals as goal

pub loop-name-init : goal.loop-name-init
loop-name-init g c = refl

pub returns-in_err-insert_full : goal.returns-in_err-insert_full
returns-in_err-insert_full g c = on_failed _ _ c.from_residual.ensures.0

pub loop-name-preserved : goal.loop-name-preserved
loop-name-preserved g c =
    let eq = g.N.PartialEq.eq in
    let given = c.args.given.now in
    let first = nodes_of c.args.names.now.keys in
    let i = c.loop-name.name-index in
    let x = c.name-item.result in
    let stands : slice_get given i ≡ Some x = slice_get_read given (length given) i x refl c.loop-name-test.true c.name-item.is in
    let one : nodes_of c.insert_full.new.self.keys ≡ insert_key eq (insert_all eq first (take i given)) x = ap nodes_of c.in_ok-insert_full.ensures.keys ∙ refs_insert g.met.N.Eq.laws c.loop-name.names.keys _ ∙ ap (λ ns. insert_key eq ns x) c.loop-name.invariant in
    one ∙ sym (ap (insert_all eq first) (take_at given i x stands) ∙ fold-append (insert_key eq) first (take i given) (x ∷ []))

pub returns : goal.returns
returns g c = c.loop-name.invariant ∙ ap (insert_all g.N.PartialEq.eq (nodes_of c.args.names.now.keys)) (take_all c.loop-name.name-index c.args.given.now c.loop-name-test.false)
