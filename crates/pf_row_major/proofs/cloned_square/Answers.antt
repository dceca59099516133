use Rattle.std.proofs.Common.{◌≡◌, ℕ, ◌+◌, ◌*◌, ◌∙◌, sym, ap, subst, arith, length, get_or}
use Rattle.std.proofs.lemmas.List.{with_items_is}
use Rattle.std.proofs.lemmas.Nat.{mul-add-lt}
use Rattle.pf_row_major.specs.Parts.{row_from}
use Rattle.std.proofs.lemmas.Result.{IfOk-from_err}
use Rattle.pf_row_major.proofs.FillLemmas.{Filling, fill_begin, fill_row}
use Rattle.pf_row_major.proofs.SliceLemmas.{row_before}
use Rattle.pf_row_major.proofs.SquareLemmas.{filled_on, placed, placed_below, placed_both}
use Rattle.pf_row_major.proofs.cloned_square.Goals as goal

pub loop-row-preserved : goal.loop-row-preserved
loop-row-preserved g c =
    let a = c.in_ok-extend_with_clones.ensures.items in
    let n = c.args.size in
    let from = c.loop-from.from in
    let row = c.loop-row.row in
    let source = λ (r k : ℕ). row_from c.args.upwards c.args.size r * c.args.size + k in
    rw a.1 (fill_row g.C.Clone.is_clone n (placed from source) c.args.all.now c.loop-row.values.items row c.run.result.now a.0 c.run.ensures.len
    (λ k d h. c.run.ensures.values k d h ∙ ap (λ i. get_or c.args.all.now i d) (ap (λ (t : ℕ). t * n + k) c.row_from.ensures.from ∙ sym (placed_below from source row k (omega arith)))) a.2 c.loop-row.invariant)

pub loop-from-preserved : goal.loop-from-preserved
loop-from-preserved g c =
    let like = g.C.Clone.is_clone in
    let n = c.args.size in
    let from = c.loop-from.from in
    let to : ℕ = c.loop-from.from + c.min.result in
    let source = λ (r k : ℕ). row_from c.args.upwards c.args.size r * c.args.size + k in
    let before = c.as_mut_slice.result.now in
    let after = c.exchange_band.new.values in
    let end : c.loop-row.row ≡ c.loop-from.from + c.min.result = omega arith in
    let rows : Filling like n (placed from source) c.args.all.now before (to * n) = subst (λ ys. Filling like n (placed from source) c.args.all.now ys (to * n)) (sym c.as_mut_slice.ensures.value) (rw end at c.loop-row.invariant) in
    record {
      within = omega arith;
      filled = rw (with_items_is c.loop-row.values after (c.exchange_band.auto.values ∙ c.as_mut_slice.ensures.len))
          (filled_on like n from to source c.args.all.now before after (omega arith) (omega arith) c.exchange_band.ensures.exchanged c.exchange_band.ensures.others rows c.exchange_band.auto.values);
    }

pub returns : goal.returns
returns g c =
    let n = c.args.size in
    let end : c.loop-from.from ≡ c.args.size = omega (arith, c.loop-from.invariant.within) in
    let source = λ (r k : ℕ). row_from c.args.upwards c.args.size r * c.args.size + k in
    record {
      len = omega (arith, c.loop-from.values.ok.0, rw end at c.loop-from.invariant.filled.size);
      values = λ r k d h b.
          subst (λ (i : ℕ). g.C.Clone.is_clone (get_or c.args.all.now i d) (get_or c.loop-from.values.items (r * n + k) d)) (placed_both c.loop-from.from source r k (omega arith) (omega arith))
          (c.loop-from.invariant.filled.values r k d d b (rw end (omega (arith, mul-add-lt r n k n h b))));
    }

pub returns-in_err-values-clause-len : goal.returns-in_err-values-clause-len
returns-in_err-values-clause-len g c = IfOk-from_err _ _ c.from_residual.ensures.0

pub returns-in_err-values-clause-values : goal.returns-in_err-values-clause-values
returns-in_err-values-clause-values g c = IfOk-from_err _ _ c.from_residual.ensures.0

pub loop-from-init : goal.loop-from-init
loop-from-init g c =
    let source = λ (r k : ℕ). row_from c.args.upwards c.args.size r * c.args.size + k in
    record {
      within = omega arith;
      filled = fill_begin g.C.Clone.is_clone c.args.size (placed 0 source) c.args.all.now c.in_ok-values.values.items c.in_ok-values.ensures.items;
    }

pub overflow_sub-size : goal.overflow_sub-size
overflow_sub-size g c = c.loop-from.invariant.within

pub overflow_add-to : goal.overflow_add-to
overflow_add-to g c = omega (arith, c.min.ensures, c.loop-from-test.true)

pub loop-row-init : goal.loop-row-init
loop-row-init g c = c.loop-from.invariant.filled

pub row_from-requires : goal.row_from-requires
row_from-requires g c = omega (arith, c.min.ensures, c.loop-from-test.true, c.loop-row-test.true)

pub overflow_mul-begin : goal.overflow_mul-begin
overflow_mul-begin g c = omega (arith, c.requires, row_before c.row_from.result c.args.size c.args.size c.row_from.ensures.inside)

pub run-requires : goal.run-requires
run-requires g c = omega (arith, c.requires, row_before c.row_from.result c.args.size c.args.size c.row_from.ensures.inside)

pub loop-row-smaller : goal.loop-row-smaller
loop-row-smaller g c = omega (arith, c.loop-row-test.true)

pub exchange_band-requires-clause-order : goal.exchange_band-requires-clause-order
exchange_band-requires-clause-order g c = omega arith

pub exchange_band-requires-clause-inside : goal.exchange_band-requires-clause-inside
exchange_band-requires-clause-inside g c = omega (arith, c.min.ensures, c.loop-from-test.true)

pub exchange_band-requires-clause-size : goal.exchange_band-requires-clause-size
exchange_band-requires-clause-size g c =
    let end : c.loop-row.row ≡ c.loop-from.from + c.min.result = omega arith in
    ap length c.as_mut_slice.ensures.value ∙ rw end at c.loop-row.invariant.size

pub loop-from-smaller : goal.loop-from-smaller
loop-from-smaller g c = omega (arith, c.min.ensures, c.loop-from-test.true)
