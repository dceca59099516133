use Rattle.std.proofs.Common.{◌≡◌, ℕ, ◌+◌, ◌-◌, ◌*◌, arith}
use Rattle.std.proofs.lemmas.Nat.{mul-add-lt}
use Rattle.pf_row_major.proofs.FillLemmas.{fill_begin, fill_row}
use Rattle.pf_row_major.proofs.SliceLemmas.{row_before}
use Rattle.pf_row_major.proofs.cloned_upwards.Goals as goal

pub loop-row-init : goal.loop-row-init
loop-row-init g c = fill_begin g.C.Clone.is_clone c.args.columns (λ (r k : ℕ). (c.args.rows - 1 - r) * c.args.columns + k) c.args.all.now c.in_ok-values.values.items c.in_ok-values.ensures.items

pub overflow_mul-begin : goal.overflow_mul-begin
overflow_mul-begin g c = omega (arith, c.requires, row_before (c.args.rows - 1 - c.loop-row.row) c.args.rows c.args.columns (omega arith))

pub run-requires : goal.run-requires
run-requires g c = omega (arith, c.requires, row_before (c.args.rows - 1 - c.loop-row.row) c.args.rows c.args.columns (omega arith))

pub loop-row-preserved : goal.loop-row-preserved
loop-row-preserved g c =
    let a = c.in_ok-extend_with_clones.ensures.items in
    let place = λ (r k : ℕ). (c.args.rows - 1 - r) * c.args.columns + k in
    rw a.1 (fill_row g.C.Clone.is_clone c.args.columns place c.args.all.now c.loop-row.values.items c.loop-row.row c.run.result.now a.0 c.run.ensures.len c.run.ensures.values a.2 c.loop-row.invariant)

pub returns-clause-values : goal.returns-clause-values
returns-clause-values g c = λ r k d h b.
    let end : c.loop-row.row ≡ c.args.rows = omega arith in
    c.loop-row.invariant.values r k d d b (rw end (omega (arith, mul-add-lt r c.args.columns k c.args.rows h b)))

pub returns-clause-len : goal.returns-clause-len
returns-clause-len g c =
    let end : c.loop-row.row ≡ c.args.rows = omega arith in
    omega (arith, c.loop-row.values.ok.0, rw end at c.loop-row.invariant.size)
