-- Rows that are put in one after another.
use Rattle.std.proofs.Common.{◌≡◌, ℕ, ◌+◌, ◌*◌, ◌<◌, refl, sym, ap, ◌∙◌, arith, List, [], ◌∷◌, ◌++◌, length, length-append, add-zero, take, drop, get_or, Some, None, Ok, Err, Option, inl, inr, ◌⊎◌}
use Rattle.std.specs.Prelude.{◌≢◌, ◌/◌, MatchOption, OnErr, Result, IsErrAnd, unwrap_or}
use Rattle.std.specs.Borrow.{Bor}
use Rattle.std.specs.List.{AllZip}
use Rattle.std.proofs.lemmas.Bool.Decides.{nat_tests}
use Rattle.std.proofs.lemmas.Nat.{div-mul-add}
use Rattle.std.proofs.lemmas.List.{take_more, at_drop_more, flat_map_more, nil_from_length}
use Rattle.pf_matrix.specs.declared.error.MatrixFormatError.{MatrixFormatError}
use Rattle.pf_matrix.specs.declared.error.MatrixFormatError.TheVariants.{EmptyRow, OutOfMemory, WrongLength}
use Rattle.pf_matrix.specs.Rows.{joined, first_length, first_refusal, flat, AllOfLength}

pub AllZip-append : {A B : Type 0} (R : A → B → Type 0) (xs us : List A) (ys vs : List B) → AllZip R xs ys → AllZip R us vs → AllZip R (xs ++ us) (ys ++ vs)
AllZip-append R [] us [] vs a b = b
AllZip-append R [] us (y ∷ ys) vs a b = absurd a
AllZip-append R (x ∷ xs) us [] vs a b = absurd a
AllZip-append R (x ∷ xs) us (y ∷ ys) vs a b = (a.0, AllZip-append R xs us ys vs a.1 b)

module _ {C : Type 0} where
  pub joined_more : (rows : List (Bor (List C))) (i : ℕ) (x : Bor (List C)) → i < length rows → x ≡ get_or rows i x → joined (take (i + 1) rows) ≡ joined (take i rows) ++ x.now
  joined_more rows i x h e =
      ap joined (take_more rows i x h ∙ ap (λ y. take i rows ++ y ∷ []) (sym e)) ∙ sym (flat_map_more (λ (r : Bor (List C)). r.now) [] (take i rows) x)

  pub refusal_next : (rows : List (Bor (List C))) (i columns : ℕ) (x : Bor (List C)) → i < length rows → x ≡ get_or rows i x → first_refusal columns (drop i rows) ≡ first_refusal columns (x ∷ drop (i + 1) rows)
  refusal_next rows i columns x h e = at_drop_more (first_refusal columns) rows i x h ∙ ap (λ y. first_refusal columns (y ∷ drop (i + 1) rows)) (sym e)

  pub refusal_fits : (columns : ℕ) (x : Bor (List C)) (rows : List (Bor (List C))) → length x.now ≢ 0 → length x.now ≡ columns → first_refusal columns (x ∷ rows) ≡ first_refusal columns rows
  refusal_fits columns x rows n e = grind (arith, nat_tests)

  refusal_empty : (columns : ℕ) (x : Bor (List C)) (rows : List (Bor (List C))) → x.now ≡ [] → first_refusal columns (x ∷ rows) ≡ Some EmptyRow
  refusal_empty columns x rows e = let none : length x.now ≡ 0 = ap length e in grind (arith, nat_tests)

  refusal_long : (columns : ℕ) (x : Bor (List C)) (rows : List (Bor (List C))) → x.now ≢ [] → length x.now ≢ columns → first_refusal columns (x ∷ rows) ≡ Some WrongLength
  refusal_long columns x rows n d = let some : length x.now ≢ 0 = λ e. n (nil_from_length x.now e) in grind (arith, nat_tests)

  -- the row that was refused is the first that is
  pub refusal_of : (rows : List (Bor (List C))) (i columns : ℕ) (x : Bor (List C)) (error : MatrixFormatError) → i < length rows → x ≡ get_or rows i x → first_refusal (first_length rows) (drop i rows) ≡ first_refusal (first_length rows) rows
      → columns ≡ first_length rows → (error ≡ EmptyRow → x.now ≡ []) → (error ≡ WrongLength → (x.now ≢ []) × (length x.now ≢ columns)) → (error ≡ EmptyRow) ⊎ (error ≡ WrongLength) ⊎ (error ≡ OutOfMemory)
      → (error ≡ OutOfMemory) ⊎ (first_refusal (first_length rows) rows ≡ Some error)
  refusal_of rows i columns x error inside is rest same empty long (inl e) =
      inr (sym rest ∙ refusal_next rows i (first_length rows) x inside is ∙ refusal_empty (first_length rows) x (drop (i + 1) rows) (empty e) ∙ ap Some (sym e))
  refusal_of rows i columns x error inside is rest same empty long (inr (inl e)) =
      inr (sym rest ∙ refusal_next rows i (first_length rows) x inside is ∙ refusal_long (first_length rows) x (drop (i + 1) rows) (long e).0 (λ h. (long e).1 (h ∙ sym same)) ∙ ap Some (sym e))
  refusal_of rows i columns x error inside is rest same empty long (inr (inr e)) = inl e

  pub flat_more : (lists : List (List C)) (xs : List C) → flat (lists ++ xs ∷ []) ≡ flat lists ++ xs
  flat_more lists xs = sym (flat_map_more (λ (r : List C). r) [] lists xs)

  pub AllOfLength-more : (w : ℕ) (lists : List (List C)) (xs : List C) → AllOfLength w lists → length xs ≡ w → AllOfLength w (lists ++ xs ∷ [])
  AllOfLength-more w [] xs a e = (e, tt)
  AllOfLength-more w (r ∷ rs) xs a e = (a.0, AllOfLength-more w rs xs a.1 e)

  pub length-flat : (w : ℕ) (lists : List (List C)) → AllOfLength w lists → length (flat lists) ≡ length lists * w
  length-flat w [] a = omega arith
  length-flat w (r ∷ rs) a = length-append r (flat rs) ∙ omega (arith, a.0, length-flat w rs a.1)

  pub grown : (width : Option ℕ) (lists : List (List C)) (xs : List C) (n : ℕ) → n ≡ length xs → MatchOption width (lists ≡ []) (λ w. (0 < length lists) × AllOfLength w lists)
      → unwrap_or width n ≡ n → (0 < length (lists ++ xs ∷ [])) × AllOfLength n (lists ++ xs ∷ [])
  grown None lists xs n e a f = rw a (omega arith, (sym e, tt))
  grown (Some w) lists xs n e a f = (rw (length-append lists (xs ∷ [])) (omega arith), AllOfLength-more n lists xs (rw f at a.1) (sym e))

  pub other_width : (width : Option ℕ) (lists : List (List C)) (n : ℕ) → MatchOption width (lists ≡ []) (λ w. (0 < length lists) × AllOfLength w lists)
      → unwrap_or width n ≢ n → (first : ℕ) × (0 < length lists) × AllOfLength first lists × (first ≢ n)
  other_width None lists n a f = absurd (f refl)
  other_width (Some w) lists n a f = (w, a.0, a.1, f)

  -- as many values as this number of rows of this width
  pub rows_matrix : (lists : List (List C)) (values : List C) (n w : ℕ) → 0 < w → n ≡ length values → values ≡ flat lists → AllOfLength w lists → n / w ≡ length lists
  rows_matrix lists values n w h e f a = ap (λ k. k / w) (e ∙ ap length f ∙ length-flat w lists a ∙ sym (add-zero (length lists * w))) ∙ div-mul-add (length lists) w 0 h

pub on_err : {T E P : Type 0} (r : Result T E) → P → OnErr r P
on_err (Ok x) p = tt
on_err (Err e) p = p

-- which error it is that `?` hands on
pub refused_is : {T E : Type 0} (r : Result T E) (e v : E) → IsErrAnd r (λ x. x ≡ e) → r ≡ Err v → v ≡ e
refused_is r e v h q = rw q at h

-- errors that differ
pub ok_is_no_error : {T E : Type 0} (x : T) (v : E) → Ok x ≡ Err v → ⊥
ok_is_no_error x v q = cc

pub empty_is_not_long : EmptyRow ≡ WrongLength → ⊥
empty_is_not_long q = cc

pub long_is_not_memory : WrongLength ≡ OutOfMemory → ⊥
long_is_not_memory q = cc

pub empty_is_not_memory : EmptyRow ≡ OutOfMemory → ⊥
empty_is_not_memory q = cc
