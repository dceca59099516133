use Rattle.std.proofs.Common.{inl, inr, refl, ◌≡◌, ◌*◌, ◌^◌, ◌<◌, ℕ, arith, ◌∙◌, ap, sym, Some, None, Option, true≢false}
use Rattle.std.specs.Prelude.{Bool, true, false, not}
use Rattle.std.specs.Option.{SomeIff, option_eq}
use lib.Dec.{eqb}
use Rattle.pf_matrix.specs.declared.error.MatrixFormatError.TheVariants.{EmptyRow, WrongLength}
use Rattle.pf_matrix.proofs.RowLemmas.{empty_is_not_long, ok_is_no_error, refused_is}
use Rattle.std.proofs.lemmas.Bool.Decides.{eqb_tells}
use Rattle.pf_matrix.proofs.matrix.Matrix.from_vec.Goals as goal

-- what the comparison of the product says
product_of : (r : Option ℕ) (p n : ℕ) (b : Bool) → SomeIff r (p < 2 ^ 64) p → b ≡ not (option_eq eqb r (Some n)) → b ≡ false → p ≡ n
product_of None p n b h e f = absurd (true≢false (sym e ∙ f))
product_of (Some x) p n b h e f = elim (eqb_tells x n) [ inl w ↦ sym h.1 ∙ w.1 | inr w ↦ absurd (true≢false (sym (e ∙ ap not w.0) ∙ f)) ]

other_product : (r : Option ℕ) (p n : ℕ) (b : Bool) → SomeIff r (p < 2 ^ 64) p → b ≡ not (option_eq eqb r (Some n)) → b ≡ true → n < 2 ^ 64 → p ≡ n → ⊥
other_product None p n b h e t l q = h (omega (arith, l, q))
other_product (Some x) p n b h e t l q = elim (eqb_tells x n) [ inl w ↦ true≢false (sym t ∙ e ∙ ap not w.0) | inr w ↦ w.1 (h.1 ∙ q) ]

pub returns-then-ne-clause-made : goal.returns-then-ne-clause-made
returns-then-ne-clause-made g c = tt

pub returns-then-ne-clause-matrix : goal.returns-then-ne-clause-matrix
returns-then-ne-clause-matrix g c = tt

pub returns-then-ne-clause-refused : goal.returns-then-ne-clause-refused
returns-then-ne-clause-refused g c = inl refl

pub returns-then-columns-eq0-clause-made : goal.returns-then-columns-eq0-clause-made
returns-then-columns-eq0-clause-made g c = tt

pub returns-then-columns-eq0-clause-matrix : goal.returns-then-columns-eq0-clause-matrix
returns-then-columns-eq0-clause-matrix g c = tt

pub returns-then-columns-eq0-clause-refused : goal.returns-then-columns-eq0-clause-refused
returns-then-columns-eq0-clause-refused g c = inr refl

pub returns-clause-made : goal.returns-clause-made
returns-clause-made g c = refl

pub returns-clause-refused : goal.returns-clause-refused
returns-clause-refused g c = tt

pub returns-then-ne-clause-wrong_length : goal.returns-then-ne-clause-wrong_length
returns-then-ne-clause-wrong_length g c = (λ q. λ e. other_product c.checked_mul.result (c.args.rows * c.args.columns) c.len.result c.ne.result c.checked_mul.ensures c.ne.ensures c.if-ne.true (omega (arith, c.len.type_inv)) (e ∙ sym c.len.ensures), λ n. refl)

pub returns-then-ne-clause-empty_row : goal.returns-then-ne-clause-empty_row
returns-then-ne-clause-empty_row g c = (λ q. absurd (empty_is_not_long (refused_is _ WrongLength EmptyRow refl q)), λ h. absurd (other_product c.checked_mul.result (c.args.rows * c.args.columns) c.len.result c.ne.result c.checked_mul.ensures c.ne.ensures c.if-ne.true (omega (arith, c.len.type_inv)) (h.0 ∙ sym c.len.ensures)))

pub returns-then-columns-eq0-clause-empty_row : goal.returns-then-columns-eq0-clause-empty_row
returns-then-columns-eq0-clause-empty_row g c = (λ q. (product_of c.checked_mul.result (c.args.rows * c.args.columns) c.len.result c.ne.result c.checked_mul.ensures c.ne.ensures c.if-ne.false ∙ c.len.ensures, c.if-rows-gt0.true, c.if-columns-eq0.true), λ h. refl)

pub invariant_of-result : goal.invariant_of-result
invariant_of-result g c =
    let e : c.args.rows * c.args.columns ≡ c.len.result = product_of c.checked_mul.result (c.args.rows * c.args.columns) c.len.result c.ne.result c.checked_mul.ensures c.ne.ensures c.if-ne.false in
    let v = c.args.values in
    record {
      sized = omega (arith, e, c.len.ensures, v.ok.0);
      filled = λ p. elim c.else-rows-gt0.either [ inl w ↦ omega (arith, w.1) | inr w ↦ absurd (omega (arith, w, p)) ];
      fits = omega (arith, e, c.len.type_inv);
    }

pub returns-clause-matrix : goal.returns-clause-matrix
returns-clause-matrix g c = invariant_of-result g c

pub returns-clause-wrong_length : goal.returns-clause-wrong_length
returns-clause-wrong_length g c = (λ q. absurd (ok_is_no_error _ _ q), λ n. absurd (n (product_of c.checked_mul.result (c.args.rows * c.args.columns) c.len.result c.ne.result c.checked_mul.ensures c.ne.ensures c.if-ne.false ∙ c.len.ensures)))

pub returns-clause-empty_row : goal.returns-clause-empty_row
returns-clause-empty_row g c = (λ q. absurd (ok_is_no_error _ _ q), λ h. absurd (elim c.else-rows-gt0.either [ inl w ↦ w.1 h.2 | inr w ↦ omega (arith, w, h.1) ]))
