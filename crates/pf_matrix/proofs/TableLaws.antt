-- Turns, flips and transpositions that give a table back.
use Rattle.std.proofs.Common.{◌≡◌, ℕ, zero, suc, ◌+◌, ◌-◌, ◌*◌, ◌/◌, ◌%◌, ◌<◌, Bool, true, refl, sym, subst, ap, ◌∙◌, arith, List, [], ◌∷◌, length, get_or}
use Rattle.std.specs.Cmp.{IsEquivalence}
use Rattle.std.specs.Cmp.Derive.{both_true}
use Rattle.std.specs.Cmp.Lexicographic.{pointwise}
use Rattle.std.proofs.lemmas.Bool.{eq-eqb}
use Rattle.std.proofs.lemmas.List.{same_lists}
use Rattle.std.proofs.lemmas.Nat.{div-add-mod', div_below, mod_below}
use Rattle.pf_matrix.specs.Tables.{Table, IsMatrix, value_at}
use Rattle.pf_matrix.specs.Arrange.{IsArranged, itself, IsCopied, IsTransposed, IsFlippedLr, IsFlippedUd, IsTurnedRight, IsTurnedLeft, IsTurnedTwice, IsTurnedBy, IsRotatedCw, IsRotatedCcw}
use Rattle.pf_matrix.specs.Equality.{same_tables}
use Rattle.pf_matrix.proofs.ArrangeLemmas.{arranged_by_both, arranged_sizes}
use Rattle.pf_matrix.proofs.PositionLemmas.{wide_at}

-- equal lists by their values
pub equal_lists : {C : Type 0} (eq : C → C → Bool) (xs ys : List C) → length xs ≡ length ys → ((k : ℕ) (d : C) → k < length xs → eq (get_or xs k d) (get_or ys k d) ≡ true) → pointwise eq xs ys ≡ true
equal_lists eq [] [] e f = refl
equal_lists eq [] (y ∷ ys) e f = absurd (omega arith)
equal_lists eq (x ∷ xs) [] e f = absurd (omega arith)
equal_lists eq (x ∷ xs) (y ∷ ys) e f = both_true (f zero x (omega arith)) (equal_lists eq xs ys (omega arith) (λ k d h. f (suc k) d (omega arith)))

module _ {C : Type 0} (like other : C → C → Type 0) (said : (x y : C) → like x y → other x y) where
  -- what stands to another as `like` says stands to it as `other` says
  pub arranged_as : (h w : ℕ) (f : ℕ → ℕ → ℕ × ℕ) (m n : Table C) → IsArranged like h w f m n → IsArranged other h w f m n
  arranged_as h w f m n a = record {
    rows = a.rows;
    columns = a.columns;
    values = λ r c d p q. said (value_at m (f r c).0 (f r c).1 d) (value_at n r c d) (a.values r c d p q);
    matrix = a.matrix;
  }

  turned_as : (m n : Table C) (k : ℕ) → IsTurnedBy like m n k → IsTurnedBy other m n k
  turned_as m n zero a = arranged_as m.rows m.columns _ m n a
  turned_as m n (suc zero) a = arranged_as m.columns m.rows _ m n a
  turned_as m n (suc (suc zero)) a = arranged_as m.rows m.columns _ m n a
  turned_as m n (suc (suc (suc k))) a = arranged_as m.columns m.rows _ m n a

  pub rotated_as : (m n : Table C) (times : ℕ) → IsRotatedCw like m n times → IsRotatedCw other m n times
  rotated_as m n times a = turned_as m n (times % 4) a

  pub rotated_back_as : (m n : Table C) (times : ℕ) → IsRotatedCcw like m n times → IsRotatedCcw other m n times
  rotated_back_as m n times a = turned_as m n (3 * (times % 4) % 4) a

-- ---- a table that is given back

module _ {C : Type 0} where
  -- two copies are as long
  same_length : (like : C → C → Type 0) (m n : Table C) → IsMatrix m → IsCopied like m n → length n.values ≡ length m.values
  same_length like m n ok a = a.matrix.sized ∙ (λ i. a.rows i * a.columns i) ∙ sym ok.sized

  -- the values of a copy by their places
  same_places : (like : C → C → Type 0) (m n : Table C) → IsMatrix m → IsCopied like m n → (k : ℕ) (d : C) → k < length m.values → like (get_or m.values k d) (get_or n.values k d)
  same_places like m n ok a k d h =
      let all : k < m.rows * m.columns = omega (arith, ok.sized) in
      let wide = wide_at m.rows m.columns k all in
      let r = k / m.columns in
      let c = k % m.columns in
      let place : r * m.columns + c ≡ k = div-add-mod' k m.columns in
      let there : r * n.columns + c ≡ k = ap (λ w. r * w + c) a.columns ∙ place in
      let at = a.values r c d (div_below k m.columns m.rows wide all) (mod_below k m.columns wide) in
      subst (λ j. like (get_or m.values k d) (get_or n.values j d)) there (subst (λ i. like (get_or m.values i d) (value_at n r c d)) place at)

  same_values : (m n : Table C) → IsMatrix m → IsCopied itself m n → n.values ≡ m.values
  same_values m n ok a =
      let long = same_length itself m n ok a in
      same_lists n.values m.values long (λ k d h. same_places itself m n ok a k d (omega (arith, long)))

  -- each value at its own position: the same table
  pub same_table : (m n : Table C) → IsMatrix m → IsCopied itself m n → n ≡ m
  same_table m n ok a = λ i. record { rows = a.rows i; columns = a.columns i; values = same_values m n ok a i }

  pub joined_itself : (x y z : C) → itself x y → itself y z → itself x z
  joined_itself x y z a b = b ∙ a

-- Arrangements that give each value its own position back, where what stands so to what stands so to a value stands so to that value.
module _ {C : Type 0} (like : C → C → Type 0) (joined : (x y z : C) → like x y → like y z → like x z) where
  twice_copied : (m n o : Table C) → IsCopied like m n → IsCopied like n o → IsCopied like m o
  twice_copied m n o a b =
      arranged_sizes like n.rows n.columns m.rows m.columns (λ r c. (r, c)) m o a.rows a.columns
      (arranged_by_both like like like joined m.rows m.columns n.rows n.columns (λ r c. (r, c)) (λ r c. (r, c)) (λ r c. (r, c)) m n o a b
      (λ r c p q. (omega (arith, a.rows), omega (arith, a.columns), refl)))

  pub twice_lr : (m n o : Table C) → IsFlippedLr like m n → IsFlippedLr like n o → IsCopied like m o
  twice_lr m n o a b =
      arranged_sizes like n.rows n.columns m.rows m.columns (λ r c. (r, c)) m o a.rows a.columns
      (arranged_by_both like like like joined m.rows m.columns n.rows n.columns (λ r c. (r, m.columns - 1 - c)) (λ r c. (r, n.columns - 1 - c)) (λ r c. (r, c)) m n o a b
      (λ r c p q. (omega (arith, a.rows), omega (arith, a.columns), let e : m.columns - 1 - (n.columns - 1 - c) ≡ c = omega (arith, a.columns) in λ i. (r, e i))))

  pub twice_ud : (m n o : Table C) → IsFlippedUd like m n → IsFlippedUd like n o → IsCopied like m o
  twice_ud m n o a b =
      arranged_sizes like n.rows n.columns m.rows m.columns (λ r c. (r, c)) m o a.rows a.columns
      (arranged_by_both like like like joined m.rows m.columns n.rows n.columns (λ r c. (m.rows - 1 - r, c)) (λ r c. (n.rows - 1 - r, c)) (λ r c. (r, c)) m n o a b
      (λ r c p q. (omega (arith, a.rows), omega (arith, a.columns), let e : m.rows - 1 - (n.rows - 1 - r) ≡ r = omega (arith, a.rows) in λ i. (e i, c))))

  pub twice_transposed : (m n o : Table C) → IsTransposed like m n → IsTransposed like n o → IsCopied like m o
  twice_transposed m n o a b =
      arranged_sizes like n.columns n.rows m.rows m.columns (λ r c. (r, c)) m o a.columns a.rows
      (arranged_by_both like like like joined m.columns m.rows n.columns n.rows (λ r c. (c, r)) (λ r c. (c, r)) (λ r c. (r, c)) m n o a b
      (λ r c p q. (omega (arith, a.rows), omega (arith, a.columns), refl)))

  two_right : (m n o : Table C) → IsTurnedRight like m n → IsTurnedRight like n o → IsTurnedTwice like m o
  two_right m n o a b =
      arranged_sizes like n.columns n.rows m.rows m.columns (λ r c. (m.rows - 1 - r, m.columns - 1 - c)) m o a.columns a.rows
      (arranged_by_both like like like joined m.columns m.rows n.columns n.rows (λ r c. (m.rows - 1 - c, r)) (λ r c. (n.rows - 1 - c, r)) (λ r c. (m.rows - 1 - r, m.columns - 1 - c)) m n o a b
      (λ r c p q. (omega (arith, a.rows), omega (arith, a.columns), λ i. (m.rows - 1 - r, a.rows i - 1 - c))))

  two_left : (m n o : Table C) → IsTurnedLeft like m n → IsTurnedLeft like n o → IsTurnedTwice like m o
  two_left m n o a b =
      arranged_sizes like n.columns n.rows m.rows m.columns (λ r c. (m.rows - 1 - r, m.columns - 1 - c)) m o a.columns a.rows
      (arranged_by_both like like like joined m.columns m.rows n.columns n.rows (λ r c. (c, m.columns - 1 - r)) (λ r c. (c, n.columns - 1 - r)) (λ r c. (m.rows - 1 - r, m.columns - 1 - c)) m n o a b
      (λ r c p q. (omega (arith, a.rows), omega (arith, a.columns), λ i. (a.columns i - 1 - r, m.columns - 1 - c))))

  two_twice : (m n o : Table C) → IsTurnedTwice like m n → IsTurnedTwice like n o → IsCopied like m o
  two_twice m n o a b =
      arranged_sizes like n.rows n.columns m.rows m.columns (λ r c. (r, c)) m o a.rows a.columns
      (arranged_by_both like like like joined m.rows m.columns n.rows n.columns (λ r c. (m.rows - 1 - r, m.columns - 1 - c)) (λ r c. (n.rows - 1 - r, n.columns - 1 - c)) (λ r c. (r, c)) m n o a b
      (λ r c p q. (
        omega (arith, a.rows),
        omega (arith, a.columns),
        let e : m.rows - 1 - (n.rows - 1 - r) ≡ r = omega (arith, a.rows) in
            let f : m.columns - 1 - (n.columns - 1 - c) ≡ c = omega (arith, a.columns) in λ i. (e i, f i),
      )))

  right_left : (m n o : Table C) → IsTurnedRight like m n → IsTurnedLeft like n o → IsCopied like m o
  right_left m n o a b =
      arranged_sizes like n.columns n.rows m.rows m.columns (λ r c. (r, c)) m o a.columns a.rows
      (arranged_by_both like like like joined m.columns m.rows n.columns n.rows (λ r c. (m.rows - 1 - c, r)) (λ r c. (c, n.columns - 1 - r)) (λ r c. (r, c)) m n o a b
      (λ r c p q. (
        omega (arith, a.rows),
        omega (arith, a.columns),
        let e : m.rows - 1 - (n.columns - 1 - r) ≡ r = omega (arith, a.columns) in λ i. (e i, c),
      )))

  left_right : (m n o : Table C) → IsTurnedLeft like m n → IsTurnedRight like n o → IsCopied like m o
  left_right m n o a b =
      arranged_sizes like n.columns n.rows m.rows m.columns (λ r c. (r, c)) m o a.columns a.rows
      (arranged_by_both like like like joined m.columns m.rows n.columns n.rows (λ r c. (c, m.columns - 1 - r)) (λ r c. (n.rows - 1 - c, r)) (λ r c. (r, c)) m n o a b
      (λ r c p q. (
        omega (arith, a.rows),
        omega (arith, a.columns),
        let e : m.columns - 1 - (n.rows - 1 - c) ≡ c = omega (arith, a.rows) in λ i. (r, e i),
      )))

  pub four_right : (m n o p q : Table C) → IsTurnedRight like m n → IsTurnedRight like n o → IsTurnedRight like o p → IsTurnedRight like p q → IsCopied like m q
  four_right m n o p q a b c d = two_twice m o q (two_right m n o a b) (two_right o p q c d)

  pub four_left : (m n o p q : Table C) → IsTurnedLeft like m n → IsTurnedLeft like n o → IsTurnedLeft like o p → IsTurnedLeft like p q → IsCopied like m q
  four_left m n o p q a b c d = two_twice m o q (two_left m n o a b) (two_left o p q c d)

  undone : (m n o : Table C) (k : ℕ) → k < 4 → IsTurnedBy like m n k → IsTurnedBy like n o (3 * k % 4) → IsCopied like m o
  undone m n o zero h a b = twice_copied m n o a b
  undone m n o (suc zero) h a b = right_left m n o a b
  undone m n o (suc (suc zero)) h a b = two_twice m n o a b
  undone m n o (suc (suc (suc zero))) h a b = left_right m n o a b
  undone m n o (suc (suc (suc (suc k)))) h a b = absurd (omega arith)

  undone_back : (m n o : Table C) (k : ℕ) → k < 4 → IsTurnedBy like m n (3 * k % 4) → IsTurnedBy like n o k → IsCopied like m o
  undone_back m n o zero h a b = twice_copied m n o a b
  undone_back m n o (suc zero) h a b = left_right m n o a b
  undone_back m n o (suc (suc zero)) h a b = two_twice m n o a b
  undone_back m n o (suc (suc (suc zero))) h a b = right_left m n o a b
  undone_back m n o (suc (suc (suc (suc k)))) h a b = absurd (omega arith)

  pub turns_back : (m n o : Table C) (times : ℕ) → IsRotatedCw like m n times → IsRotatedCcw like n o times → IsCopied like m o
  turns_back m n o times a b = undone m n o (times % 4) (omega arith) a b

  pub turns_forth : (m n o : Table C) (times : ℕ) → IsRotatedCcw like m n times → IsRotatedCw like n o times → IsCopied like m o
  turns_forth m n o times a b = undone_back m n o (times % 4) (omega arith) a b

-- Where a clone equals its original, and the equality is lawful.
module _ {C : Type 0} (eq : C → C → Bool) where
  -- the one equals the other
  abbrev pub equals : C → C → Type 0
  equals x y = eq x y ≡ true

  pub joined_equals : IsEquivalence eq → (x y z : C) → equals x y → equals y z → equals x z
  joined_equals laws x y z a b = laws.congr x y z a ∙ b

  -- each value at its own position: an equal table
  pub equal_table : (m n : Table C) → IsMatrix m → IsCopied equals m n → same_tables eq m n ≡ true
  equal_table m n ok a =
      both_true (eq-eqb m.rows n.rows (sym a.rows))
      (both_true (eq-eqb m.columns n.columns (sym a.columns))
      (equal_lists eq m.values n.values (sym (same_length equals m n ok a)) (same_places equals m n ok a)))
