use Rattle.std.proofs.Common.{◌≡◌, ◌⊎◌, inl, inr, refl, ◌+◌, ◌*◌, ◌^◌, ◌<◌, ℕ, ap, sym, ◌∙◌, List, ◌++◌, length, arith, true≢false, Fits, w64}
use Rattle.pf_base.proofs.Outcomes.{on_refused, refused_as}
use Rattle.pf_matrix.specs.declared.error.MatrixFormatError.TheVariants.{EmptyRow, OutOfMemory, WrongLength}
use Rattle.std.specs.Prelude.{Bool, true, false}
use Rattle.std.specs.Bool.{◌==◌}
use Rattle.std.proofs.lemmas.Bool.Decides.{eqb_tells}
use Rattle.std.proofs.lemmas.List.{nil_from_length}
use Rattle.std.proofs.lemmas.Nat.{mul-le}
use Rattle.pf_base.proofs.Outcomes.{on_err}
use Rattle.pf_matrix.specs.Tables.{Table}
use Rattle.pf_matrix.proofs.TableLemmas.{matrix_anew}
use Rattle.pf_matrix.proofs.RowLemmas.{empty_is_not_long, empty_is_not_memory, long_is_not_memory, ok_is_no_error, refused_is}
use Rattle.pf_matrix.proofs.matrix.Matrix.extend.Goals as goal

-- what the test of `is_empty` says of the length
none_of : (n : ℕ) (b : Bool) → b ≡ (n == 0) → b ≡ true → n ≡ 0
none_of n b e t = elim (eqb_tells n 0) [ inl w ↦ w.1 | inr w ↦ absurd (true≢false (sym t ∙ e ∙ w.0)) ]

some_of : (n : ℕ) (b : Bool) → b ≡ (n == 0) → b ≡ false → 0 < n
some_of n b e f = elim (eqb_tells n 0) [ inl w ↦ absurd (true≢false (sym w.0 ∙ sym e ∙ f)) | inr w ↦ omega (arith, w.1) ]

more_sized : (rows columns old n new : ℕ) → old ≡ rows * columns → n ≡ columns → new ≡ old + n → new ≡ (rows + 1) * columns
more_sized rows columns old n new sized same size = let more : (rows + 1) * columns ≡ rows * columns + columns = omega arith in omega (arith, more, size, same, sized)

more_fits : (rows columns new : ℕ) → new ≡ (rows + 1) * columns → 0 < columns → new < 2 ^ 63 → Fits w64 (rows + 1)
more_fits rows columns new sized some room = omega (arith, mul-le (rows + 1) 1 (rows + 1) columns (omega arith) some, sized, room)

pub returns-then-is_empty-clause-extended : goal.returns-then-is_empty-clause-extended
returns-then-is_empty-clause-extended g c = tt

pub returns-then-is_empty-clause-refused : goal.returns-then-is_empty-clause-refused
returns-then-is_empty-clause-refused g c = inl refl

pub returns-then-row-self-clause-extended : goal.returns-then-row-self-clause-extended
returns-then-row-self-clause-extended g c = tt

pub returns-then-row-self-clause-refused : goal.returns-then-row-self-clause-refused
returns-then-row-self-clause-refused g c = inr (inl refl)

pub returns-in_err-extend_with_clones-clause-extended : goal.returns-in_err-extend_with_clones-clause-extended
returns-in_err-extend_with_clones-clause-extended g c = on_refused _ c.from_residual.result OutOfMemory c.from_residual.ensures.1

pub returns-in_err-extend_with_clones-clause-refused : goal.returns-in_err-extend_with_clones-clause-refused
returns-in_err-extend_with_clones-clause-refused g c = refused_as (λ e. (e ≡ EmptyRow) ⊎ (e ≡ WrongLength) ⊎ (e ≡ OutOfMemory)) c.from_residual.result OutOfMemory c.from_residual.ensures.1 (inr (inr refl))

pub returns-clause-stays : goal.returns-clause-stays
returns-clause-stays g c = tt

pub returns-clause-refused : goal.returns-clause-refused
returns-clause-refused g c = tt

pub returns-then-is_empty-clause-stays : goal.returns-then-is_empty-clause-stays
returns-then-is_empty-clause-stays g c = refl

pub returns-then-is_empty-clause-empty_row : goal.returns-then-is_empty-clause-empty_row
returns-then-is_empty-clause-empty_row g c = (λ q. nil_from_length c.args.row.now (none_of (length c.args.row.now) c.is_empty.result c.is_empty.ensures c.if-is_empty.true), λ h. refl)

pub returns-then-is_empty-clause-wrong_length : goal.returns-then-is_empty-clause-wrong_length
returns-then-is_empty-clause-wrong_length g c = (λ q. absurd (empty_is_not_long (sym (refused_is _ EmptyRow WrongLength refl q))), λ h. absurd (h.0 (nil_from_length c.args.row.now (none_of (length c.args.row.now) c.is_empty.result c.is_empty.ensures c.if-is_empty.true))))

pub returns-then-row-self-clause-stays : goal.returns-then-row-self-clause-stays
returns-then-row-self-clause-stays g c = refl

pub invariant_of-self : goal.invariant_of-self
invariant_of-self g c =
    let s = c.self.inside in
    let m : Table g.row.C.Denot = record { rows = s.rows; columns = s.columns; values = s.values.items } in
    matrix_anew m c.extend_with_clones.new.self.items c.self.invariant (ap length c.in_err-extend_with_clones.ensures.err.0)

pub returns-in_err-extend_with_clones-clause-stays : goal.returns-in_err-extend_with_clones-clause-stays
returns-in_err-extend_with_clones-clause-stays g c =
    let s = c.self.inside in
    let with : List g.row.C.Denot → Table g.row.C.Denot = λ ws. record { rows = s.rows; columns = s.columns; values = ws } in
    on_err c.from_residual.result (ap with c.in_err-extend_with_clones.ensures.err.0 ∙ c.self.view_is)

pub returns-in_err-extend_with_clones-clause-empty_row : goal.returns-in_err-extend_with_clones-clause-empty_row
returns-in_err-extend_with_clones-clause-empty_row g c = (λ q. absurd (empty_is_not_memory (refused_is c.from_residual.result OutOfMemory EmptyRow c.from_residual.ensures.1 q)), λ e. absurd (let n : length c.args.row.now ≡ 0 = ap length e in omega (arith, n, some_of (length c.args.row.now) c.is_empty.result c.is_empty.ensures c.if-is_empty.false)))

pub returns-in_err-extend_with_clones-clause-wrong_length : goal.returns-in_err-extend_with_clones-clause-wrong_length
returns-in_err-extend_with_clones-clause-wrong_length g c = (λ q. absurd (long_is_not_memory (refused_is c.from_residual.result OutOfMemory WrongLength c.from_residual.ensures.1 q)), λ h. absurd (h.1 (c.if-row-self.false ∙ ap (λ t. t.columns) c.self.view_is)))

pub overflow_add-self : goal.overflow_add-self
overflow_add-self g c =
    let s = c.self.inside in
    let new = c.extend_with_clones.new.self in
    let sized = more_sized s.rows s.columns (length s.values.items) (length c.args.row.now) (length new.items) c.self.invariant.sized c.if-row-self.false (sym new.ok.0 ∙ c.in_ok-extend_with_clones.ensures.len ∙ ap (λ k. k + length c.args.row.now) s.values.ok.0) in
    let some : 0 < s.columns = rw (← c.if-row-self.false) (some_of (length c.args.row.now) c.is_empty.result c.is_empty.ensures c.if-is_empty.false) in
    more_fits s.rows s.columns (length new.items) sized some (omega (arith, new.ok.0, new.ok.1, new.small))

pub invariant_of-self-2 : goal.invariant_of-self-2
invariant_of-self-2 g c =
    let s = c.self.inside in
    let new = c.extend_with_clones.new.self in
    let sized = more_sized s.rows s.columns (length s.values.items) (length c.args.row.now) (length new.items) c.self.invariant.sized c.if-row-self.false (sym new.ok.0 ∙ c.in_ok-extend_with_clones.ensures.len ∙ ap (λ k. k + length c.args.row.now) s.values.ok.0) in
    record { sized = sized; filled = λ p. rw (← c.if-row-self.false) (some_of (length c.args.row.now) c.is_empty.result c.is_empty.ensures c.if-is_empty.false); fits = omega (arith, sized, new.ok.0, new.ok.1, new.small) }

pub returns-clause-extended : goal.returns-clause-extended
returns-clause-extended g c =
    let is = c.self.view_is in
    let put = c.in_ok-extend_with_clones.ensures.items in
    record {
      rows = ap (λ t. t.rows + 1) is;
      columns = ap (λ t. t.columns) is;
      values = (put.0, put.1 ∙ ap (λ t. t.values ++ put.0) is, put.2);
      matrix = invariant_of-self-2 g c;
    }

pub returns-clause-empty_row : goal.returns-clause-empty_row
returns-clause-empty_row g c = (λ q. absurd (ok_is_no_error _ _ q), λ e. absurd (let n : length c.args.row.now ≡ 0 = ap length e in omega (arith, n, some_of (length c.args.row.now) c.is_empty.result c.is_empty.ensures c.if-is_empty.false)))

pub returns-clause-wrong_length : goal.returns-clause-wrong_length
returns-clause-wrong_length g c = (λ q. absurd (ok_is_no_error _ _ q), λ h. absurd (h.1 (c.if-row-self.false ∙ ap (λ t. t.columns) c.self.view_is)))
