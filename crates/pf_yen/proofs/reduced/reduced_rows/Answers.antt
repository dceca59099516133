use Rattle.std.proofs.Common.{◌≡◌, ◌<◌, ◌∙◌, Some, arith, ap, length, sym, true, true≢false, refl}
use Rattle.std.specs.Prelude.{pos, slice_get}
use Rattle.pf_base.proofs.ListLemmas.{at_place}
use Rattle.pf_yen.specs.Internal.Adjacency.{is_goal}
use Rattle.pf_yen.proofs.ReducedLemmas.{row_more}
use Rattle.pf_yen.proofs.reduced.reduced_rows.Goals.{else-is_goal-via-then-is_goal+else-not-is_nothing, else-is_goal-via-else-is_goal}
use Rattle.std.proofs.lemmas.Result.{IfOk-from_err}
use Rattle.pf_base.proofs.Outcomes.{refused_as}
use Rattle.pf_yen.proofs.reduced.reduced_rows.Goals as goal

pub numbers-preserved : goal.numbers-preserved
numbers-preserved g c =
    let value = g.C.Number.value in
    let costs = c.args.costs.now in
    let k = c.args.adjacency.now in
    let n = c.numbers.number in
    let inside : n < length costs = omega (arith, c.numbers-test.true, c.len-number-end.ensures, c.requires) in
    let free : is_goal k n ≡ true → (y : g.row.C.Denot) × (slice_get costs n ≡ Some (Some y)) × (value y ≡ pos 0) = λ t. elim c.else-is_goal.branch as (λ _. (y : g.row.C.Denot) × (slice_get costs n ≡ Some (Some y)) × (value y ≡ pos 0)) [
      | else-is_goal-via-then-is_goal+else-not-is_nothing w ↦
          let z = w.is_nothing.ensures w.if-not-is_nothing.false in
          (z.0, at_place costs n w.index-costs-number.result w.index-costs-number.result inside (sym w.index-costs-number.is) ∙ ap Some z.1, z.2)
      | else-is_goal-via-else-is_goal w ↦ absurd (true≢false (sym t ∙ sym c.is_goal.ensures ∙ w.if-is_goal.false))
    ] in
    let reduced = rw c.row.ensures at (c.in_ok-reduce_row.ensures.reduced c.if-not-branch.false) in
    rw (c.in_ok-add.ensures.added, c.deref.ensures.value) (row_more value costs k n _ c.numbers.invariant inside c.index-costs-number-in-numbers.result c.index-costs-number-in-numbers.is c.reduce_row.new.reduced.items reduced free)

pub returns-clause-reduced : goal.returns-clause-reduced
returns-clause-reduced g c =
    let i = c.numbers.invariant in
    let end : c.numbers.number ≡ length c.args.adjacency.now.rows = omega (arith, c.numbers.auto.number-end, c.numbers-test.false, c.len-number-end.ensures) in
    record {
      wide = i.wide ∙ end;
      each = λ a here h. i.each a here (omega (arith, h, end));
      free = λ a h. i.free a (omega (arith, h, end));
    }

pub returns-then-not-is_nothing : goal.returns-then-not-is_nothing
returns-then-not-is_nothing g c = record { reduced = tt; refused = tt }

pub returns-in_err-reduce_row : goal.returns-in_err-reduce_row
returns-in_err-reduce_row g c = record {
  reduced = IfOk-from_err _ _ c.from_residual.ensures.0;
  refused = refused_as _ c.from_residual.result c.in_err-reduce_row.field-0.0 c.from_residual.ensures.1 c.in_err-reduce_row.ensures.refused;
}

pub returns-then-not-branch : goal.returns-then-not-branch
returns-then-not-branch g c = record { reduced = tt; refused = tt }

pub returns-in_err-add : goal.returns-in_err-add
returns-in_err-add g c = record {
  reduced = IfOk-from_err _ _ c.from_residual-in_err-add.ensures.0;
  refused = refused_as _ c.from_residual-in_err-add.result c.in_err-add.field-0.0 c.from_residual-in_err-add.ensures.1 c.in_err-add.ensures.refused;
}

pub numbers-init : goal.numbers-init
numbers-init g c = rw c.new-rows.ensures (record { wide = refl; each = λ a here h. absurd (omega (arith, h)); free = λ a h. absurd (omega (arith, h)) })

pub is_goal-requires : goal.is_goal-requires
is_goal-requires g c = omega (arith, c.numbers-test.true, c.len-number-end.ensures)

pub offset_bounds-costs-number : goal.offset_bounds-costs-number
offset_bounds-costs-number g c = omega (arith, c.numbers-test.true, c.len-number-end.ensures, c.requires)

pub bounds-costs-number : goal.bounds-costs-number
bounds-costs-number g c = omega (arith, c.numbers-test.true, c.len-number-end.ensures, c.requires)

pub row-requires : goal.row-requires
row-requires g c = omega (arith, c.numbers-test.true, c.len-number-end.ensures)

pub offset_bounds-costs-number-in-numbers : goal.offset_bounds-costs-number-in-numbers
offset_bounds-costs-number-in-numbers g c = omega (arith, c.numbers-test.true, c.len-number-end.ensures, c.requires)

pub bounds-costs-number-in-numbers : goal.bounds-costs-number-in-numbers
bounds-costs-number-in-numbers g c = omega (arith, c.numbers-test.true, c.len-number-end.ensures, c.requires)

pub numbers-smaller : goal.numbers-smaller
numbers-smaller g c = omega (arith, c.numbers-test.true)

pub returns-clause-refused : goal.returns-clause-refused
returns-clause-refused g c = tt
