-- Tables by their values.
use Rattle.std.proofs.Common.{◌≡◌, ℕ, ◌+◌, ◌-◌, ◌*◌, ◌<◌, ◌≤◌, min, refl, sym, ap, ◌∙◌, arith, List, length, get_or}
use Rattle.std.specs.List.{swap}
use Rattle.std.proofs.lemmas.Nat.{mul-add-lt, mul-le}
use Rattle.std.proofs.lemmas.List.Edits.{length-swap}
use Rattle.pf_matrix.specs.Tables.{Table, IsMatrix, HasPosition, value_at}
use Rattle.pf_matrix.specs.Arrange.{IsArranged, IsExchanged, IsOverwritten, IsTransposed, itself}
use Rattle.pf_row_major.specs.Parts.{IsCovered}
use Rattle.pf_row_major.proofs.SquareLemmas.{swap_first, swap_second, swap_other, apart}

module _ {C : Type 0} where
  -- the place of a position inside is one of a value
  pub place_in : (m : Table C) → IsMatrix m → (r c : ℕ) → r < m.rows → c < m.columns → r * m.columns + c < length m.values
  place_in m ok r c h k = omega (arith, ok.sized, mul-add-lt r m.columns c m.rows h k)

  -- a table of other values, as many
  pub matrix_anew : (m : Table C) (ws : List C) → IsMatrix m → length ws ≡ length m.values → IsMatrix (let t : Table C = record { rows = m.rows; columns = m.columns; values = ws } in t)
  matrix_anew m ws ok size = record { sized = size ∙ ok.sized; filled = ok.filled; fits = ok.fits }

  -- such a table, whose values come from positions of the first
  pub arranged_anew : (m : Table C) (ws : List C) (from : ℕ → ℕ → ℕ × ℕ) → IsMatrix m → length ws ≡ length m.values
      → ((r c : ℕ) (d : C) → r < m.rows → c < m.columns → get_or ws (r * m.columns + c) d ≡ value_at m (from r c).0 (from r c).1 d)
      → IsArranged itself m.rows m.columns from m (record { rows = m.rows; columns = m.columns; values = ws })
  arranged_anew m ws from ok size reads = record {
    rows = refl;
    columns = refl;
    values = reads;
    matrix = matrix_anew m ws ok size;
  }

  -- a square whose rows and columns are exchanged, in place
  pub transposed_anew : (m : Table C) (ws : List C) → IsMatrix m → m.rows ≡ m.columns → length ws ≡ length m.values
      → ((r c : ℕ) (d : C) → r < m.rows → c < m.rows → get_or ws (r * m.rows + c) d ≡ get_or m.values (c * m.rows + r) d)
      → IsTransposed itself m (record { rows = m.rows; columns = m.columns; values = ws })
  transposed_anew m ws ok square size reads = record {
    rows = square;
    columns = sym square;
    values = λ r c d p q. ap (λ w. get_or ws (r * w + c) d) (sym square) ∙ reads r c d (omega (arith, square, p)) q ∙ ap (λ w. get_or m.values (c * w + r) d) square;
    matrix = matrix_anew m ws ok size;
  }

  -- rows among those of a matrix
  pub rows_within : (m : Table C) (rows : ℕ) (ws : List C) → IsMatrix m → ws ≡ m.values → rows ≤ m.rows → rows * m.columns ≤ length ws
  rows_within m rows ws ok is h = omega (arith, mul-le rows m.columns m.rows m.columns h (omega arith), ok.sized, ap length is)

  -- a part that is written over, as far as it fits
  pub overwritten_table : (m part : Table C) (ws : List C) (at : ℕ × ℕ) (height width : ℕ) → IsMatrix m → length ws ≡ length m.values → at.0 ≤ m.rows → at.1 ≤ m.columns
      → height ≡ min part.rows (m.rows - at.0) → width ≡ min part.columns (m.columns - at.1)
      → ((r c : ℕ) (d : C) → r < height → c < width → get_or ws ((at.0 + r) * m.columns + (at.1 + c)) d ≡ get_or part.values (r * part.columns + c) d)
      → ((r c : ℕ) (d : C) → c < m.columns → ¬ (IsCovered at height width r c) → get_or ws (r * m.columns + c) d ≡ get_or m.values (r * m.columns + c) d)
      → IsOverwritten at part m (record { rows = m.rows; columns = m.columns; values = ws })
  overwritten_table m part ws at height width ok same rows columns tall wide copied others = record {
    rows = refl;
    columns = refl;
    written = λ r c d p q v.
        let row : at.0 + (r - at.0) ≡ r = omega (arith, v.below) in
        let column : at.1 + (c - at.1) ≡ c = omega (arith, v.right) in
        rw (row, column) at (copied (r - at.0) (c - at.1) d (omega (arith, v.above, v.below, tall, p)) (omega (arith, v.left, v.right, wide, q)));
    others = λ r c d p q n. others r c d q (λ v. n (record { below = v.below; above = omega (arith, v.above, tall); right = v.right; left = omega (arith, v.left, wide) }));
    matrix = matrix_anew m ws ok same;
  }

  pub exchanged_table : (m : Table C) (ws : List C) (a b : ℕ × ℕ) → IsMatrix m → HasPosition m a.0 a.1 → HasPosition m b.0 b.1
      → ws ≡ swap m.values (a.0 * m.columns + a.1) (b.0 * m.columns + b.1) → IsExchanged a b m (record { rows = m.rows; columns = m.columns; values = ws })
  exchanged_table m ws a b ok a_in b_in e =
      let i = a.0 * m.columns + a.1 in
      let j = b.0 * m.columns + b.1 in
      let i_in = place_in m ok a.0 a.1 a_in.0 a_in.1 in
      let j_in = place_in m ok b.0 b.1 b_in.0 b_in.1 in
      record {
        rows = refl;
        columns = refl;
        first = λ d. ap (λ zs. get_or zs i d) e ∙ swap_first m.values i j i_in j_in d;
        second = λ d. ap (λ zs. get_or zs j d) e ∙ swap_second m.values i j i_in j_in d;
        others = λ r c d h k n o. ap (λ zs. get_or zs (r * m.columns + c) d) e
            ∙ swap_other m.values i j i_in j_in (r * m.columns + c) d (apart r c a.0 a.1 m.columns k a_in.1 n) (apart r c b.0 b.1 m.columns k b_in.1 o);
        matrix = record { sized = ap length e ∙ length-swap m.values i j ∙ ok.sized; filled = ok.filled; fits = ok.fits };
      }
