-- Rows and columns, from both ends.
use Rattle.std.proofs.Common.{◌≡◌, ℕ, zero, suc, ◌+◌, ◌-◌, ◌*◌, ◌<◌, refl, sym, ap, ◌∙◌, arith, List, [], ◌∷◌, ◌++◌, length, take, drop, length-drop, get_or, append_assoc, add-one}
use Rattle.std.proofs.lemmas.List.{take_all, take-take, drop-take, drop-drop, drop_more, append-nil}
use Rattle.pf_matrix.specs.Tables.{Table}
use Rattle.pf_matrix.specs.Lines.{rows_by, column_by, column_of, columns_from}

module _ {C : Type 0} where
  pub rows_none : (n w : ℕ) (xs : List C) → n ≡ 0 → rows_by n w xs ≡ []
  unfolding rows_by
  rows_none n w xs e = rw e refl

  first_row : (k w : ℕ) (xs : List C) → rows_by (suc k) w xs ≡ take w xs ∷ rows_by k w (drop w xs)
  unfolding rows_by
  first_row k w xs = refl

  pub rows_first : (n w : ℕ) (xs : List C) → 0 < n → rows_by n w xs ≡ take w xs ∷ rows_by (n - 1) w (drop w xs)
  rows_first zero w xs h = absurd (omega arith)
  rows_first (suc k) w xs h = let e : suc k - 1 ≡ k = omega arith in rw e (first_row k w xs)

  last_row : (k w : ℕ) (xs : List C) → length xs ≡ suc k * w → rows_by (suc k) w xs ≡ rows_by k w (take (k * w) xs) ++ drop (k * w) xs ∷ []
  unfolding rows_by
  last_row zero w xs e =
      let z : 0 * w ≡ 0 = omega arith in
      rw z (ap (λ row. row ∷ []) (take_all w xs (omega arith)))
  last_row (suc j) w xs e =
      let more : suc j * w ≡ w + j * w = omega arith in
      let size : length (drop w xs) ≡ suc j * w = simp length-drop (omega arith) in
      ap (λ rows. take w xs ∷ rows) (last_row j w (drop w xs) size)
      ∙ (rw more (λ i. sym (take-take w (w + j * w) xs (omega arith)) i ∷ (rows_by j w (sym (drop-take w (j * w) xs) i) ++ drop-drop (j * w) w xs i ∷ [])))

  pub rows_last : (n w : ℕ) (xs : List C) → 0 < n → length xs ≡ n * w → rows_by n w xs ≡ rows_by (n - 1) w (take (length xs - w) xs) ++ drop (length xs - w) xs ∷ []
  rows_last zero w xs h e = absurd (omega arith)
  rows_last (suc k) w xs h e =
      let one : suc k - 1 ≡ k = omega arith in
      let at : length xs - w ≡ k * w = omega arith in
      rw (one, at) (last_row k w xs e)

  -- ---- columns

  one_at : (xs : List C) (k : ℕ) (d : C) → k < length xs → take 1 (drop k xs) ≡ get_or xs k d ∷ []
  one_at xs k d h = rw (drop_more xs k d h) refl

  column_more_take : (n w c : ℕ) (xs : List C) → column_by (suc n) w c xs ≡ column_by n w c xs ++ take 1 (drop (n * w + c) xs)
  unfolding column_by
  column_more_take zero w c xs =
      let z : 0 * w + c ≡ c = omega arith in
      rw z (append-nil (take 1 (drop c xs)))
  column_more_take (suc n) w c xs =
      let at : w + (n * w + c) ≡ suc n * w + c = omega arith in
      ap (λ rest. take 1 (drop c xs) ++ rest) (column_more_take n w c (drop w xs))
      ∙ sym (append_assoc (take 1 (drop c xs)) (column_by n w c (drop w xs)) (take 1 (drop (n * w + c) (drop w xs))))
      ∙ ap (λ last. (take 1 (drop c xs) ++ column_by n w c (drop w xs)) ++ take 1 last) (drop-drop (n * w + c) w xs ∙ ap (λ k. drop k xs) at)

  pub column_more : (n w c : ℕ) (xs : List C) (d : C) → n * w + c < length xs → column_by (n + 1) w c xs ≡ column_by n w c xs ++ get_or xs (n * w + c) d ∷ []
  column_more n w c xs d h = rw add-one (column_more_take n w c xs ∙ ap (λ last. column_by n w c xs ++ last) (one_at xs (n * w + c) d h))

  pub column_none : (w c : ℕ) (xs : List C) → column_by 0 w c xs ≡ []
  unfolding column_by
  column_none w c xs = refl

  pub columns_none : (m : Table C) (f n : ℕ) → n ≡ 0 → columns_from m f n ≡ []
  unfolding columns_from
  columns_none m f n e = rw e refl

  first_column : (m : Table C) (f k : ℕ) → columns_from m f (suc k) ≡ column_of m f ∷ columns_from m (suc f) k
  unfolding columns_from
  first_column m f k = refl

  last_column : (m : Table C) (f k : ℕ) → columns_from m f (suc k) ≡ columns_from m f k ++ column_of m (f + k) ∷ []
  unfolding columns_from
  last_column m f zero = let z : f + 0 ≡ f = omega arith in rw z refl
  last_column m f (suc k) = let at : suc f + k ≡ f + suc k = omega arith in
      ap (λ rest. column_of m f ∷ rest) (last_column m (suc f) k) ∙ ap (λ c. column_of m f ∷ (columns_from m (suc f) k ++ column_of m c ∷ [])) at

  -- n columns from f on, where e is the end
  pub columns_first : (m : Table C) (f e : ℕ) → f < e → columns_from m f (e - f) ≡ column_of m f ∷ columns_from m (f + 1) (e - (f + 1))
  columns_first m f e h =
      let one : e - f ≡ suc (e - (f + 1)) = omega arith in
      let next : f + 1 ≡ suc f = omega arith in
      rw one (first_column m f (e - (f + 1)) ∙ ap (λ g. column_of m f ∷ columns_from m g (e - (f + 1))) (sym next))

  pub columns_last : (m : Table C) (f e : ℕ) → f < e → columns_from m f (e - f) ≡ columns_from m f (e - 1 - f) ++ column_of m (e - 1) ∷ []
  columns_last m f e h =
      let one : e - f ≡ suc (e - 1 - f) = omega arith in
      let at : f + (e - 1 - f) ≡ e - 1 = omega arith in
      rw one (last_column m f (e - 1 - f) ∙ ap (λ c. columns_from m f (e - 1 - f) ++ column_of m c ∷ []) at)
