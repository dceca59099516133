use Rattle.std.proofs.Common.{ℕ, ◌≡◌, ◌-◌, ◌∙◌, ap, arith, List, length, take, length-take, get_or-take, inl, inr}
use Rattle.std.specs.Prelude.{slice_index}
use Rattle.std.proofs.lemmas.List.{get_or_read, get_or_past}
use Rattle.std.proofs.lemmas.Bool.{cases_lt}
use Rattle.std.proofs.lemmas.Result.{IfOk-from_err}
use Rattle.pf_base.proofs.Outcomes.{refused_as, refused_by}
use Rattle.pf_union_find.proofs.RowLemmas.{rows_of_starts}
use Rattle.pf_union_find.proofs.rows.Rows.new.Goals as goal

none_yet : (n : ℕ) (starts ends : List ℕ) → ends ≡ take n starts → (row : ℕ) → slice_index ends row - slice_index starts row ≡ 0
none_yet n starts ends e row =
    let here : slice_index ends row ≡ slice_index (take n starts) row = ap (λ (xs : List ℕ). slice_index xs row) e in
    elim (cases_lt row n) [
      | inl l ↦ omega (arith, here, get_or-take n starts row 0 l)
      | inr m ↦ omega (arith, here, get_or_past (take n starts) row 0 (omega (arith, length-take n starts, m)))
    ]

pub returns-in_err-starts-clause-count : goal.returns-in_err-starts-clause-count
returns-in_err-starts-clause-count g c = IfOk-from_err _ _ c.from_residual.ensures.0

pub returns-in_err-starts-clause-room : goal.returns-in_err-starts-clause-room
returns-in_err-starts-clause-room g c = IfOk-from_err _ _ c.from_residual.ensures.0

pub returns-in_err-starts-clause-none : goal.returns-in_err-starts-clause-none
returns-in_err-starts-clause-none g c = IfOk-from_err _ _ c.from_residual.ensures.0

pub returns-in_err-starts-clause-refused : goal.returns-in_err-starts-clause-refused
returns-in_err-starts-clause-refused g c = refused_as _ c.from_residual.result _ c.from_residual.ensures.1 c.in_err-starts.ensures.refused

pub slice_bounds-from_slice-end : goal.slice_bounds-from_slice-end
slice_bounds-from_slice-end g c = omega (arith, length-take (length c.args.counts.now) c.deref.result.now, ap length c.deref.ensures.value, c.in_ok-starts.ensures.starts.wide)

pub returns-in_err-ends-clause-count : goal.returns-in_err-ends-clause-count
returns-in_err-ends-clause-count g c = IfOk-from_err _ _ c.from_residual-in_err-ends.ensures.0

pub returns-in_err-ends-clause-room : goal.returns-in_err-ends-clause-room
returns-in_err-ends-clause-room g c = IfOk-from_err _ _ c.from_residual-in_err-ends.ensures.0

pub returns-in_err-ends-clause-none : goal.returns-in_err-ends-clause-none
returns-in_err-ends-clause-none g c = IfOk-from_err _ _ c.from_residual-in_err-ends.ensures.0

pub returns-in_err-ends-clause-refused : goal.returns-in_err-ends-clause-refused
returns-in_err-ends-clause-refused g c = refused_by _ c.from_residual-in_err-ends.result c.from_residual-in_err-ends.ensures.1

pub index-requires : goal.index-requires
index-requires g c = omega (arith, c.in_ok-starts.ensures.starts.wide, c.in_ok-starts.starts.ok)

pub returns-in_err-places-clause-count : goal.returns-in_err-places-clause-count
returns-in_err-places-clause-count g c = IfOk-from_err _ _ c.from_residual-in_err-places.ensures.0

pub returns-in_err-places-clause-room : goal.returns-in_err-places-clause-room
returns-in_err-places-clause-room g c = IfOk-from_err _ _ c.from_residual-in_err-places.ensures.0

pub returns-in_err-places-clause-none : goal.returns-in_err-places-clause-none
returns-in_err-places-clause-none g c = IfOk-from_err _ _ c.from_residual-in_err-places.ensures.0

pub returns-in_err-places-clause-refused : goal.returns-in_err-places-clause-refused
returns-in_err-places-clause-refused g c = refused_as _ c.from_residual-in_err-places.result _ c.from_residual-in_err-places.ensures.1 c.in_err-places.ensures.refused

pub returns-clause-count : goal.returns-clause-count
returns-clause-count g c = omega (arith, ap length c.in_ok-ends.ensures.items, length-take (length c.args.counts.now) c.deref.result.now, ap length c.deref.ensures.value, c.in_ok-starts.ensures.starts.wide)

pub returns-clause-room : goal.returns-clause-room
returns-clause-room g c = λ row l. omega (arith, c.in_ok-starts.ensures.starts.steps row l)

pub returns-clause-none : goal.returns-clause-none
returns-clause-none g c = none_yet (length c.args.counts.now) c.in_ok-starts.starts.items c.in_ok-ends.ends.items (c.in_ok-ends.ensures.items ∙ ap (take (length c.args.counts.now)) c.deref.ensures.value)

pub invariant_of-result : goal.invariant_of-result
invariant_of-result g c =
    let starts = c.in_ok-starts.starts in
    let known = c.in_ok-starts.ensures.starts in
    let wide = known.wide in
    rows_of_starts c.args.counts.now starts.items known c.in_ok-ends.ends.items c.in_ok-places.places.items
    (c.in_ok-ends.ensures.items ∙ ap (take (length c.args.counts.now)) c.deref.ensures.value)
    (c.in_ok-places.ensures.len ∙ get_or_read starts.items _ _ (omega (arith, wide)) c.index.ensures 0)
