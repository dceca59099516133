-- A row that is written among values that stand by rows.
use Rattle.std.proofs.Common.{◌≡◌, ℕ, ◌+◌, ◌-◌, ◌*◌, ◌<◌, ◌≤◌, ap, ◌∙◌, arith, List, reverse, ◌++◌, length, take, drop, get_or, length-take, length-drop, length-append, inl, inr, ◌⊎◌}
use Rattle.std.specs.Prelude.{◌≢◌}
use Rattle.std.proofs.lemmas.List.{get_or_append_left, get_or-append_right, get_or-take, get_or-drop, length-take-le, length-reverse, get_or-reverse}
use Rattle.std.proofs.lemmas.Bool.{cases_lt}
use Rattle.std.proofs.lemmas.Nat.{mul-le}
use borrow.Rule.Slice.PartMut.{put_mid}

module _ {X : Type 0} (a k : ℕ) (xs ys : List X) (fits : a + k ≤ length xs) (size : length ys ≡ k) where
  pub put_mid_below : (i : ℕ) (d : X) → i < a → get_or (put_mid a k xs ys) i d ≡ get_or xs i d
  put_mid_below i d h =
      let front : length (take a xs) ≡ a = length-take-le a xs (omega arith) in
      get_or_append_left (take a xs) (ys ++ drop k (drop a xs)) d i (omega arith) ∙ get_or-take a xs i d h

  pub put_mid_inside : (i : ℕ) (d : X) → i < k → get_or (put_mid a k xs ys) (a + i) d ≡ get_or ys i d
  put_mid_inside i d h =
      let front : length (take a xs) ≡ a = length-take-le a xs (omega arith) in
      let at : a + i - a ≡ i = omega arith in
      get_or-append_right (take a xs) (ys ++ drop k (drop a xs)) a (a + i) d front (omega arith)
      ∙ ap (λ j. get_or (ys ++ drop k (drop a xs)) j d) at
      ∙ get_or_append_left ys (drop k (drop a xs)) d i (omega arith)

  pub put_mid_above : (i : ℕ) (d : X) → a + k ≤ i → get_or (put_mid a k xs ys) i d ≡ get_or xs i d
  put_mid_above i d h =
      let front : length (take a xs) ≡ a = length-take-le a xs (omega arith) in
      let at : a + (k + (i - a - k)) ≡ i = omega arith in
      get_or-append_right (take a xs) (ys ++ drop k (drop a xs)) a i d front (omega arith)
      ∙ get_or-append_right ys (drop k (drop a xs)) k (i - a) d size (omega arith)
      ∙ get_or-drop k (drop a xs) (i - a - k) d
      ∙ get_or-drop a xs (k + (i - a - k)) d
      ∙ ap (λ j. get_or xs j d) at

turned_from : (r k w c : ℕ) → c < w → (r + 1 + k) * w - 1 - (r * w + c) ≡ k * w + (w - 1 - c)
turned_from r k w c h = let e : (r + 1 + k) * w ≡ r * w + w + k * w = omega arith in omega (arith, e)

-- the place of a position, from the end
pub turned_place : (n w r c : ℕ) → r < n → c < w → n * w - 1 - (r * w + c) ≡ (n - 1 - r) * w + (w - 1 - c)
turned_place n w r c h k = let e : n ≡ r + 1 + (n - 1 - r) = omega arith in ap (λ s. s * w - 1 - (r * w + c)) e ∙ turned_from r (n - 1 - r) w c k

-- a row below another ends before it
pub row_before : (r s w : ℕ) → r < s → r * w + w ≤ s * w
row_before r s w h = let e : (r + 1) * w ≡ r * w + w = omega arith in omega (arith, mul-le (r + 1) w s w (omega arith) (omega arith))

module _ {X : Type 0} (row w n : ℕ) (xs ys : List X) (inside : row < n) (sized : length xs ≡ n * w) (size : length ys ≡ w) where
  one_row : (row + 1) * w - row * w ≡ w
  one_row = let e : (row + 1) * w ≡ row * w + w = omega arith in omega arith

  pub this_row : (r c : ℕ) (d : X) → r ≡ row → c < w → get_or (put_mid (row * w) ((row + 1) * w - row * w) xs ys) (r * w + c) d ≡ get_or ys c d
  this_row r c d e h = rw (e, one_row) (put_mid_inside (row * w) w xs ys (omega (arith, row_before row n w inside)) size c d h)

  pub other_row : (r c : ℕ) (d : X) → r ≢ row → c < w → get_or (put_mid (row * w) ((row + 1) * w - row * w) xs ys) (r * w + c) d ≡ get_or xs (r * w + c) d
  other_row r c d e h = rw one_row (by (cases_lt r row))
    where
      fits : row * w + w ≤ length xs
      fits = omega (arith, row_before row n w inside)

      by : (r < row) ⊎ (row ≤ r) → get_or (put_mid (row * w) w xs ys) (r * w + c) d ≡ get_or xs (r * w + c) d
      by (inl b) = put_mid_below (row * w) w xs ys fits size (r * w + c) d (omega (arith, row_before r row w b))
      by (inr b) = put_mid_above (row * w) w xs ys fits size (r * w + c) d (omega (arith, row_before row r w (omega arith)))

module _ {X : Type 0} (row w n : ℕ) (xs : List X) (inside : row < n) (sized : length xs ≡ n * w) where
  row_of : List X
  row_of = take ((row + 1) * w - row * w) (drop (row * w) xs)

  size_of_row : length row_of ≡ w
  unfolding row_of
  size_of_row =
      let e : (row + 1) * w ≡ row * w + w = omega arith in
      let room = row_before row n w inside in
      simp (length-take, length-drop) (omega arith)

  read_row : (c : ℕ) (d : X) → c < w → get_or row_of c d ≡ get_or xs (row * w + c) d
  unfolding row_of
  read_row c d h =
      let e : (row + 1) * w ≡ row * w + w = omega arith in
      get_or-take ((row + 1) * w - row * w) (drop (row * w) xs) c d (omega arith) ∙ get_or-drop (row * w) xs c d

  pub length-reversed_row : length (reverse (take ((row + 1) * w - row * w) (drop (row * w) xs))) ≡ w
  unfolding row_of
  length-reversed_row = length-reverse row_of ∙ size_of_row

  pub get_or-reversed_row : (c : ℕ) (d : X) → c < w → get_or (reverse (take ((row + 1) * w - row * w) (drop (row * w) xs))) c d ≡ get_or xs (row * w + (w - 1 - c)) d
  unfolding row_of
  get_or-reversed_row c d h =
      let size = size_of_row in
      let at : length row_of - 1 - c ≡ w - 1 - c = omega arith in
      get_or-reverse row_of c d (omega arith) ∙ ap (λ k. get_or row_of k d) at ∙ read_row (w - 1 - c) d (omega arith)

-- a part of a slice, as `&xs[a..a + k]` is
pub length-part : {X : Type 0} (a k : ℕ) (xs : List X) → a + k ≤ length xs → length (take (a + k - a) (drop a xs)) ≡ k
length-part a k xs h = simp (length-take, length-drop) (omega arith)

pub get_or-part : {X : Type 0} (a k : ℕ) (xs : List X) (c : ℕ) (d : X) → c < k → get_or (take (a + k - a) (drop a xs)) c d ≡ get_or xs (a + c) d
get_or-part a k xs c d h = get_or-take (a + k - a) (drop a xs) c d (omega arith) ∙ get_or-drop a xs c d

-- after two rows were exchanged, of a slice that was split before the second of them
module _ {X : Type 0} (row other w : ℕ) (xs above below us vs : List X) (order : row < other) (room : other * w + w ≤ length xs) (front : above ≡ take (other * w) xs) (back : below ≡ drop (other * w) xs) (us_size : length us ≡ w) (vs_size : length vs ≡ w) where
  width : row * w + w - row * w ≡ w
  width = omega arith

  above_size : length above ≡ other * w
  above_size = ap length front ∙ length-take-le (other * w) xs (omega arith)

  fits : row * w + w ≤ length above
  fits = omega (arith, row_before row other w order, above_size)

  joined_size : length (put_mid (row * w) w above us) ≡ other * w
  joined_size =
      let a = length-take-le (row * w) above (omega (arith, fits)) in
      let b = fits in
      let c = above_size in
      simp (length-append, length-drop, a, us_size) (omega arith)

  pub swapped_others : (r c : ℕ) (d : X) → r ≢ row → r ≢ other → c < w → get_or (put_mid (row * w) (row * w + w - row * w) above us ++ (vs ++ drop w below)) (r * w + c) d ≡ get_or xs (r * w + c) d
  swapped_others r c d e f h = rw width (by (cases_lt r other))
    where
      first : r < other → (r < row) ⊎ (row ≤ r) → get_or (put_mid (row * w) w above us) (r * w + c) d ≡ get_or above (r * w + c) d
      first o (inl b) = put_mid_below (row * w) w above us fits us_size (r * w + c) d (omega (arith, row_before r row w b))
      first o (inr b) = put_mid_above (row * w) w above us fits us_size (r * w + c) d (omega (arith, row_before row r w (omega arith)))

      by : (r < other) ⊎ (other ≤ r) → get_or (put_mid (row * w) w above us ++ (vs ++ drop w below)) (r * w + c) d ≡ get_or xs (r * w + c) d
      by (inl b) =
          let below_it = row_before r other w b in
          get_or_append_left (put_mid (row * w) w above us) (vs ++ drop w below) d (r * w + c) (omega (arith, joined_size))
          ∙ first b (cases_lt r row) ∙ ap (λ zs. get_or zs (r * w + c) d) front ∙ get_or-take (other * w) xs (r * w + c) d (omega arith)
      by (inr b) =
          let after = row_before other r w (omega arith) in
          let at : other * w + (w + (r * w + c - other * w - w)) ≡ r * w + c = omega arith in
          get_or-append_right (put_mid (row * w) w above us) (vs ++ drop w below) (other * w) (r * w + c) d joined_size (omega arith)
          ∙ get_or-append_right vs (drop w below) w (r * w + c - other * w) d vs_size (omega arith)
          ∙ get_or-drop w below (r * w + c - other * w - w) d
          ∙ ap (λ zs. get_or zs (w + (r * w + c - other * w - w)) d) back
          ∙ get_or-drop (other * w) xs (w + (r * w + c - other * w - w)) d
          ∙ ap (λ k. get_or xs k d) at

-- the two rows that were exchanged, each of which has what the other had
module _ {X : Type 0} (row other w : ℕ) (xs above below us vs : List X) (order : row < other) (room : other * w + w ≤ length xs) (front : above ≡ take (other * w) xs) (back : below ≡ drop (other * w) xs) (us_is : us ≡ take w below) (vs_is : vs ≡ take (row * w + w - row * w) (drop (row * w) above)) where
  first_fits : row * w + w ≤ length above
  first_fits = omega (arith, row_before row other w order, ap length front ∙ length-take-le (other * w) xs (omega arith))

  pub first_size : length us ≡ w
  first_size = ap length us_is ∙ length-take-le w below (omega (arith, ap length back, length-drop (other * w) xs))

  pub second_size : length vs ≡ w
  second_size = ap length vs_is ∙ length-part (row * w) w above first_fits

  pub swapped_first : (c : ℕ) (d : X) → c < w → get_or (put_mid (row * w) (row * w + w - row * w) above us ++ (vs ++ drop w below)) (row * w + c) d ≡ get_or xs (other * w + c) d
  swapped_first c d h =
      let width : row * w + w - row * w ≡ w = omega arith in
      let mid = put_mid_inside (row * w) w above us first_fits first_size c d h in
      let size : length (put_mid (row * w) w above us) ≡ other * w = joined_size row other w xs above below us vs order room front back first_size second_size in
      rw width (get_or_append_left (put_mid (row * w) w above us) (vs ++ drop w below) d (row * w + c) (omega (arith, size, row_before row other w order))
      ∙ mid ∙ ap (λ zs. get_or zs c d) us_is ∙ get_or-take w below c d h ∙ ap (λ zs. get_or zs c d) back ∙ get_or-drop (other * w) xs c d)

  pub swapped_second : (c : ℕ) (d : X) → c < w → get_or (put_mid (row * w) (row * w + w - row * w) above us ++ (vs ++ drop w below)) (other * w + c) d ≡ get_or xs (row * w + c) d
  swapped_second c d h =
      let width : row * w + w - row * w ≡ w = omega arith in
      let at : other * w + c - other * w ≡ c = omega arith in
      let size : length (put_mid (row * w) w above us) ≡ other * w = joined_size row other w xs above below us vs order room front back first_size second_size in
      rw width (get_or-append_right (put_mid (row * w) w above us) (vs ++ drop w below) (other * w) (other * w + c) d size (omega arith)
      ∙ ap (λ k. get_or (vs ++ drop w below) k d) at
      ∙ get_or_append_left vs (drop w below) d c (omega (arith, second_size))
      ∙ ap (λ zs. get_or zs c d) vs_is ∙ get_or-part (row * w) w above c d h
      ∙ ap (λ zs. get_or zs (row * w + c) d) front ∙ get_or-take (other * w) xs (row * w + c) d (omega (arith, row_before row other w order)))
