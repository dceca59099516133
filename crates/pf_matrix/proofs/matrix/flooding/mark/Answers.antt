use Rattle.std.proofs.Common.{◌≡◌, ◌∙◌, refl, sym, ap, subst, arith, Bool, false, true, Some, get_or}
use Rattle.std.specs.List.{refill, length_refill}
use Rattle.std.specs.Prelude.{◌↔◌, slice_get}
use Rattle.std.proofs.lemmas.List.{take_all, with_items_is}
use Rattle.std.proofs.lemmas.Option.{slice_get-get_or}
use Rattle.pf_matrix.specs.Internal.Flooding.{Has}
use Rattle.pf_matrix.specs.Tables.{Table, value_at}
use Rattle.pf_matrix.proofs.TableLemmas.{matrix_anew}
use Rattle.pf_matrix.proofs.MarkLemmas.{marked_more, marked_none}
use Rattle.pf_matrix.proofs.matrix.flooding.mark.Goals as goal

pub loop-position-init : goal.loop-position-init
loop-position-init g c =
    marked_none c.args.table.now _ (ap (λ t. t.rows) c.table.view_is) (ap (λ t. t.columns) c.table.view_is) (λ k.
    ap (λ ws. get_or ws k false) (with_items_is c.table.inside.values c.clear.new.values (c.clear.auto.values ∙ c.as_mut_slice.ensures.len)) ∙ c.clear.ensures k)

pub open-requires : goal.open-requires
open-requires g c =
    let i = c.loop-position.position-index in
    let ps = c.deref-position-items.result.now in
    let p = get_or ps i (0, 0) in
    let there = subst (λ qs. slice_get qs i ≡ Some p) c.deref-position-items.ensures.value (slice_get-get_or ps i (0, 0) c.loop-position-test.true) in
    let at = c.requires p (i, there) in
    (rw c.loop-position.invariant.rows at.0, rw c.loop-position.invariant.columns at.1)

pub loop-position-preserved : goal.loop-position-preserved
loop-position-preserved g c =
    let i = c.loop-position.position-index in
    let ps = c.deref-position-items.result.now in
    let p = get_or ps i (0, 0) in
    let there = subst (λ qs. slice_get qs i ≡ Some p) c.deref-position-items.ensures.value (slice_get-get_or ps i (0, 0) c.loop-position-test.true) in
    marked_more c.args.table.now c.loop-position.table c.open.new.table ps i p (0, 0) c.loop-position.invariant c.loop-position-test.true refl (c.requires p (i, there)) c.open.ensures.below c.open.ensures.opened

pub returns : goal.returns
returns g c =
    let all = c.loop-position.invariant in
    let whole = take_all c.loop-position.position-index c.deref-position-items.result.now c.loop-position-test.false ∙ c.deref-position-items.ensures.value in
    record {
      sizes = (all.rows, all.columns);
      marked = λ p h. subst (λ ps. (value_at c.loop-position.table p.0 p.1 false ≡ true) ↔ Has ps p) whole (all.marks p h);
    }

pub invariant_of-table : goal.invariant_of-table
invariant_of-table g c =
    let s = c.table.inside in
    let m : Table Bool = record { rows = s.rows; columns = s.columns; values = s.values.items } in
    matrix_anew m (refill s.values.len s.values.items c.clear.new.values) c.table.invariant (sym (length_refill s.values.len s.values.items c.clear.new.values s.values.ok.0) ∙ s.values.ok.0)

pub bounds-position-items-position-index : goal.bounds-position-items-position-index
bounds-position-items-position-index g c = c.loop-position-test.true

pub loop-position-smaller : goal.loop-position-smaller
loop-position-smaller g c = omega (arith, c.loop-position-test.true)
