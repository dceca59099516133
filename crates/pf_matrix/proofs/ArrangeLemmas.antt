-- One arrangement after another.
use Rattle.std.proofs.Common.{◌≡◌, ℕ, zero, suc, ◌+◌, ◌-◌, ◌*◌, ◌%◌, ◌<◌, refl, sym, ap, subst, arith, length, get_or}
use Rattle.std.proofs.lemmas.List.Elements.{AllZip-get_or, length_all_zip}
use Rattle.pf_matrix.specs.Tables.{Table, IsMatrix, value_at}
use Rattle.pf_matrix.specs.Arrange.{IsArranged, itself, IsTransposed, IsFlippedLr, IsFlippedUd, IsTurnedRight, IsTurnedLeft, IsTurnedTwice, IsTurnedBy, IsCopied}
use Rattle.pf_matrix.specs.Equality.{IsCopyOf}
use Rattle.pf_matrix.specs.Internal.Turning.{IsFlippedFor}
use Rattle.pf_matrix.proofs.TableLemmas.{place_in}

-- What is arranged once more, where a value that stands to another as `first` says, and this one to a third as `second` says, stands to the third as `both` says.
module _ {C : Type 0} (first second both : C → C → Type 0) (joined : (x y z : C) → first x y → second y z → both x z) where
  pub arranged_by_both : (h w h' w' : ℕ) (f g k : ℕ → ℕ → ℕ × ℕ) (m n o : Table C) → IsArranged first h w f m n → IsArranged second h' w' g n o
      → ((r c : ℕ) → r < h' → c < w' → ((g r c).0 < h) × ((g r c).1 < w) × (f (g r c).0 (g r c).1 ≡ k r c)) → IsArranged both h' w' k m o
  arranged_by_both h w h' w' f g k m n o a b in_range = record {
    rows = b.rows;
    columns = b.columns;
    values = λ r c d p q.
        let at = in_range r c p q in
        let step : first (value_at m (k r c).0 (k r c).1 d) (value_at n (g r c).0 (g r c).1 d) =
        subst (λ (x : ℕ × ℕ). first (value_at m x.0 x.1 d) (value_at n (g r c).0 (g r c).1 d)) at.2 (a.values (g r c).0 (g r c).1 d at.0 at.1) in
        joined (value_at m (k r c).0 (k r c).1 d) (value_at n (g r c).0 (g r c).1 d) (value_at o r c d) step (b.values r c d p q);
    matrix = b.matrix;
  }

module _ {C : Type 0} (like : C → C → Type 0) where
  -- what is arranged once more in place
  pub arranged_then : (h w h' w' : ℕ) (f g k : ℕ → ℕ → ℕ × ℕ) (m n o : Table C) → IsArranged like h w f m n → IsArranged itself h' w' g n o
      → ((r c : ℕ) → r < h' → c < w' → ((g r c).0 < h) × ((g r c).1 < w) × (f (g r c).0 (g r c).1 ≡ k r c)) → IsArranged like h' w' k m o
  arranged_then = arranged_by_both like itself like (λ x y z a e. subst (λ v. like x v) (sym e) a)

  -- the same sizes by other names
  pub arranged_sizes : (h w h' w' : ℕ) (f : ℕ → ℕ → ℕ × ℕ) (m n : Table C) → h ≡ h' → w ≡ w' → IsArranged like h w f m n → IsArranged like h' w' f m n
  arranged_sizes h w h' w' f m n e k a = subst (λ x. IsArranged like x w' f m n) e (subst (λ y. IsArranged like h y f m n) k a)

  -- a clone of a table
  pub copied_table : (m n : Table C) → IsCopyOf like m n → IsCopied like m n
  copied_table m n copy = record {
    rows = copy.rows;
    columns = copy.columns;
    values = λ r c d p q.
        let place = place_in n copy.matrix r c (omega (arith, copy.rows)) (omega (arith, copy.columns)) in
        let below : r * m.columns + c < length m.values = omega (arith, place, length_all_zip like m.values n.values copy.values, ap (λ w. r * w) copy.columns) in
        subst (λ w. like (value_at m r c d) (get_or n.values (r * w + c) d)) (sym copy.columns) (AllZip-get_or like m.values n.values (r * m.columns + c) d d copy.values below);
    matrix = copy.matrix;
  }

  turned_right : (m n o : Table C) → IsTransposed like m n → IsFlippedLr itself n o → IsTurnedRight like m o
  turned_right m n o a b =
      arranged_sizes n.rows n.columns m.columns m.rows (λ r c. (m.rows - 1 - c, r)) m o a.rows a.columns
      (arranged_then m.columns m.rows n.rows n.columns (λ r c. (c, r)) (λ r c. (r, n.columns - 1 - c)) (λ r c. (m.rows - 1 - c, r)) m n o a b
      (λ r c p q. (omega (arith, a.rows), omega (arith, a.columns), λ i. (a.columns i - 1 - c, r))))

  turned_left : (m n o : Table C) → IsTransposed like m n → IsFlippedUd itself n o → IsTurnedLeft like m o
  turned_left m n o a b =
      arranged_sizes n.rows n.columns m.columns m.rows (λ r c. (c, m.columns - 1 - r)) m o a.rows a.columns
      (arranged_then m.columns m.rows n.rows n.columns (λ r c. (c, r)) (λ r c. (n.rows - 1 - r, c)) (λ r c. (c, m.columns - 1 - r)) m n o a b
      (λ r c p q. (omega (arith, a.rows), omega (arith, a.columns), λ i. (c, a.rows i - 1 - r))))

  turned_twice : (m n o : Table C) → IsCopied like m n → IsTurnedTwice itself n o → IsTurnedTwice like m o
  turned_twice m n o a b =
      arranged_sizes n.rows n.columns m.rows m.columns (λ r c. (m.rows - 1 - r, m.columns - 1 - c)) m o a.rows a.columns
      (arranged_then m.rows m.columns n.rows n.columns (λ r c. (r, c)) (λ r c. (n.rows - 1 - r, n.columns - 1 - c)) (λ r c. (m.rows - 1 - r, m.columns - 1 - c)) m n o a b
      (λ r c p q. (omega (arith, a.rows), omega (arith, a.columns), λ i. (a.rows i - 1 - r, a.columns i - 1 - c))))

  pub flipped_lr : (m n o : Table C) → IsCopied like m n → IsFlippedLr itself n o → IsFlippedLr like m o
  flipped_lr m n o a b =
      arranged_sizes n.rows n.columns m.rows m.columns (λ r c. (r, m.columns - 1 - c)) m o a.rows a.columns
      (arranged_then m.rows m.columns n.rows n.columns (λ r c. (r, c)) (λ r c. (r, n.columns - 1 - c)) (λ r c. (r, m.columns - 1 - c)) m n o a b
      (λ r c p q. (omega (arith, a.rows), omega (arith, a.columns), λ i. (r, a.columns i - 1 - c))))

  -- a copy of a copy
  pub copied_twice : (m n o : Table C) → IsCopied like m n → IsCopied itself n o → IsCopied like m o
  copied_twice m n o a b =
      arranged_sizes n.rows n.columns m.rows m.columns (λ r c. (r, c)) m o a.rows a.columns
      (arranged_then m.rows m.columns n.rows n.columns (λ r c. (r, c)) (λ r c. (r, c)) (λ r c. (r, c)) m n o a b
      (λ r c p q. (omega (arith, a.rows), omega (arith, a.columns), refl)))

  -- both steps of a turn
  pub turned_by : (m n o : Table C) (k : ℕ) → k < 4 → (k % 2 ≡ 0 → IsCopied like m n) → (k % 2 ≡ 1 → IsTransposed like m n) → IsFlippedFor n o k → IsTurnedBy like m o k
  turned_by m n o zero h even odd f = copied_twice m n o (even refl) f
  turned_by m n o (suc zero) h even odd f = turned_right m n o (odd refl) f
  turned_by m n o (suc (suc zero)) h even odd f = turned_twice m n o (even refl) f
  turned_by m n o (suc (suc (suc zero))) h even odd f = turned_left m n o (odd refl) f
  turned_by m n o (suc (suc (suc (suc k)))) h even odd f = absurd (omega arith)

pub copied_itself : {C : Type 0} (m : Table C) → IsMatrix m → IsCopied itself m m
copied_itself m ok = record { rows = refl; columns = refl; values = λ r c d p q. refl; matrix = ok }
