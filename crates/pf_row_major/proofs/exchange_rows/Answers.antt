use Rattle.std.proofs.Common.{◌≡◌, ◌+◌, ◌-◌, ◌*◌, ap, sym, ◌∙◌, arith, get_or, inl, inr}
use Rattle.std.proofs.lemmas.Bool.{cases_lt, cases_eq}
use Rattle.pf_row_major.proofs.SliceLemmas.{row_before}
use Rattle.pf_row_major.proofs.exchange_rows.Goals as goal

pub swap_rows-requires-clause-inside : goal.swap_rows-requires-clause-inside
swap_rows-requires-clause-inside g c = omega (arith, row_before (c.args.rows - 1 - c.loop-row.row) c.args.rows c.args.columns (omega arith), c.requires, c.loop-row.auto.values)

pub loop-row-preserved : goal.loop-row-preserved
loop-row-preserved g c =
    let rows = c.args.rows in
    let w = c.args.columns in
    let row = c.loop-row.row in
    let i = c.loop-row.invariant in
    let swap = c.swap_rows.ensures in
    record {
      above = λ r k d h b. elim (cases_eq r row) [
        | inl e ↦ ap (λ s. get_or c.swap_rows.new.values (s * w + k) d) e ∙ swap.row k d b ∙ i.left (rows - 1 - row) k d (omega arith) (omega arith) b ∙ ap (λ s. get_or c.args.values.now ((rows - 1 - s) * w + k) d) (sym e)
        | inr n ↦ swap.others r k d n (λ e. absurd (omega (arith, e))) b ∙ i.above r k d (omega arith) b
      ];
      below = λ r k d l h b. elim (cases_eq r (rows - 1 - row)) [
        | inl e ↦
            let back : row ≡ rows - 1 - r = omega arith in
            ap (λ s. get_or c.swap_rows.new.values (s * w + k) d) e ∙ swap.other k d b ∙ i.left row k d (omega arith) (omega arith) b ∙ ap (λ s. get_or c.args.values.now (s * w + k) d) back
        | inr n ↦ swap.others r k d (λ e. absurd (omega (arith, e))) n b ∙ i.below r k d (omega arith) h b
      ];
      left = λ r k d l h b. swap.others r k d (λ e. absurd (omega (arith, e))) (λ e. absurd (omega (arith, e))) b ∙ i.left r k d (omega arith) (omega arith) b;
    }

pub returns : goal.returns
returns g c =
    let i = c.loop-row.invariant in
    record {
      values = λ r k d h b. elim (cases_lt r c.loop-row.row) [
        | inl o ↦ i.above r k d o b
        | inr o ↦ elim (cases_lt (r + c.loop-row.row) c.args.rows) [
          | inl m ↦
              let middle : r ≡ c.args.rows - 1 - r = omega arith in
              i.left r k d o m b ∙ ap (λ s. get_or c.args.values.now (s * c.args.columns + k) d) middle
          | inr m ↦ i.below r k d m h b
        ]
      ];
    }
