use Rattle.std.proofs.Common.{rules, inl, inr, refl, ◌≡◌, ◌⊎◌, arith, Ok, Err}
use Rattle.std.specs.Prelude.{Result, IfErr}
use Rattle.pf_matrix.specs.declared.error.MatrixFormatError.{MatrixFormatError}
use Rattle.pf_matrix.specs.declared.error.MatrixFormatError.TheVariants.{EmptyRow, OutOfMemory, WrongIndex}
use Rattle.pf_matrix.proofs.matrix.Matrix.slice.Goals as goal

-- an error that came is for memory
memory_of : {T : Type 0} (r : Result T MatrixFormatError) (v : MatrixFormatError) → IfErr r (λ e. e ≡ OutOfMemory) → r ≡ Err v → v ≡ OutOfMemory
memory_of r v h q = rw q at h

index_is_not_memory : WrongIndex ≡ OutOfMemory → ⊥
index_is_not_memory q = cc

row_is_not_memory : EmptyRow ≡ OutOfMemory → ⊥
row_is_not_memory q = cc

same_error : {T : Type 0} {v w : MatrixFormatError} → (λ (r : Result T MatrixFormatError). r) (Err v) ≡ Err w → v ≡ w
same_error q = cc

row_is_not_index : EmptyRow ≡ WrongIndex → ⊥
row_is_not_index q = cc

widen : {T : Type 0} (r : Result T MatrixFormatError) → IfErr r (λ e. e ≡ OutOfMemory) → IfErr r (λ e. (e ≡ WrongIndex) ⊎ (e ≡ EmptyRow) ⊎ (e ≡ OutOfMemory))
widen (Ok x) h = tt
widen (Err e) h = inr (inr h)

pub returns-then-rows-clause-wrong_index : goal.returns-then-rows-clause-wrong_index
returns-then-rows-clause-wrong_index g c = search rules

pub returns-then-rows-clause-empty_row : goal.returns-then-rows-clause-empty_row
returns-then-rows-clause-empty_row g c = search rules

pub returns-then-rows-clause-part : goal.returns-then-rows-clause-part
returns-then-rows-clause-part g c = tt

pub returns-then-rows-clause-refused : goal.returns-then-rows-clause-refused
returns-then-rows-clause-refused g c = inl refl

pub returns-then-width-eq0-clause-part : goal.returns-then-width-eq0-clause-part
returns-then-width-eq0-clause-part g c = tt

pub returns-then-width-eq0-clause-refused : goal.returns-then-width-eq0-clause-refused
returns-then-width-eq0-clause-refused g c = inr (inl refl)

pub overflow_sub-width : goal.overflow_sub-width
overflow_sub-width g c = c.if-columns.false

pub returns-then-width-eq0-clause-no_rows : goal.returns-then-width-eq0-clause-no_rows
returns-then-width-eq0-clause-no_rows g c = λ w e. absurd (omega (arith, c.if-height-gt0.true, e))

pub returns-then-width-eq0-clause-wrong_index : goal.returns-then-width-eq0-clause-wrong_index
returns-then-width-eq0-clause-wrong_index g c = (λ q. absurd (row_is_not_index (same_error q)), λ n. absurd (n (rw (← c.self.view_is) (record { rows_order = c.if-rows.false; rows_fit = c.if-rows-self.false; columns_order = c.if-columns.false; columns_fit = c.if-columns-self.false }))))

pub returns-then-width-eq0-clause-empty_row : goal.returns-then-width-eq0-clause-empty_row
returns-then-width-eq0-clause-empty_row g c = (λ q. (rw (← c.self.view_is) (record { rows_order = c.if-rows.false; rows_fit = c.if-rows-self.false; columns_order = c.if-columns.false; columns_fit = c.if-columns-self.false }), omega (arith, c.if-height-gt0.true), omega (arith, c.if-columns.false, c.if-width-eq0.true)), λ h. refl)

pub part-requires-clause-rows : goal.part-requires-clause-rows
part-requires-clause-rows g c = rw (← c.self.view_is) (omega (arith, c.if-rows.false, c.if-rows-self.false))

pub part-requires-clause-columns : goal.part-requires-clause-columns
part-requires-clause-columns g c = rw (← c.self.view_is) (omega (arith, c.if-columns.false, c.if-columns-self.false))

pub part-requires-clause-filled : goal.part-requires-clause-filled
part-requires-clause-filled g c = λ p. elim c.else-height-gt0.either [ inl w ↦ omega (arith, w.1) | inr w ↦ absurd (omega (arith, w, p)) ]

pub returns-clause-part : goal.returns-clause-part
returns-clause-part g c = c.part.ensures.part

pub returns-clause-wrong_index : goal.returns-clause-wrong_index
returns-clause-wrong_index g c = (λ q. absurd (index_is_not_memory (memory_of c.part.result WrongIndex c.part.ensures.refused q)), λ n. absurd (n (rw (← c.self.view_is) (record { rows_order = c.if-rows.false; rows_fit = c.if-rows-self.false; columns_order = c.if-columns.false; columns_fit = c.if-columns-self.false }))))

pub returns-clause-empty_row : goal.returns-clause-empty_row
returns-clause-empty_row g c = (λ q. absurd (row_is_not_memory (memory_of c.part.result EmptyRow c.part.ensures.refused q)), λ h. absurd (elim c.else-height-gt0.either [ inl w ↦ w.1 (omega (arith, h.2)) | inr w ↦ omega (arith, w, h.1) ]))

pub returns-clause-no_rows : goal.returns-clause-no_rows
returns-clause-no_rows g c = λ w e. c.part.ensures.no_rows (omega (arith, e))

pub returns-clause-refused : goal.returns-clause-refused
returns-clause-refused g c = widen c.part.result c.part.ensures.refused
