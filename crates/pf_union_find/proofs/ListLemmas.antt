-- Lemmas on lists.
use Rattle.std.proofs.Common.{ℕ, zero, suc, ◌≡◌, refl, ◌∙◌, ap, subst, arith, List, [], ◌∷◌, ◌++◌, inl, inr, Some}
use Rattle.std.specs.List.{AllZip}
use Rattle.std.proofs.lemmas.Option.{slice_get-get_or, slice_get_within, get_or_from_slice_get}
use Rattle.std.proofs.lemmas.List.Elements.{Contains-append_left, Contains-append_right, Contains-append_cases}
use Rattle.pf_base.proofs.ListLemmas.{none_in}
use Rattle.std.specs.Prelude.{slice_get, Contains, ◌⊎◌}

-- ---- two lists place by place

module _ {A B : Type 0} (R : A → B → Type 0) where
  pub zip_get : (xs : List A) (ys : List B) (i : ℕ) (y : B) → AllZip R xs ys → slice_get ys i ≡ Some y → (x : A) × (slice_get xs i ≡ Some x) × R x y
  zip_get [] [] i y z h = absurd (none_in i y h)
  zip_get [] (b ∷ qs) i y z h = absurd z
  zip_get (a ∷ ps) [] i y z h = absurd z
  zip_get (a ∷ ps) (b ∷ qs) zero y z h = let e : Some b ≡ Some y = h in let f : b ≡ y = cc in (a, refl, subst (λ u. R a u) f z.0)
  zip_get (a ∷ ps) (b ∷ qs) (suc i) y z h = zip_get ps qs i y z.1 h

  pub zip_get_left : (xs : List A) (ys : List B) (i : ℕ) (x : A) → AllZip R xs ys → slice_get xs i ≡ Some x → (y : B) × (slice_get ys i ≡ Some y) × R x y
  zip_get_left [] [] i x z h = absurd (none_in i x h)
  zip_get_left [] (b ∷ qs) i x z h = absurd z
  zip_get_left (a ∷ ps) [] i x z h = absurd z
  zip_get_left (a ∷ ps) (b ∷ qs) zero x z h = let e : Some a ≡ Some x = h in let f : a ≡ x = cc in (b, refl, subst (λ u. R u b) f z.0)
  zip_get_left (a ∷ ps) (b ∷ qs) (suc i) x z h = zip_get_left ps qs i x z.1 h

  pub zip_append : (xs us : List A) (ys vs : List B) → AllZip R xs ys → AllZip R us vs → AllZip R (xs ++ us) (ys ++ vs)
  zip_append [] us [] vs z w = w
  zip_append [] us (b ∷ qs) vs z w = absurd z
  zip_append (a ∷ ps) us [] vs z w = absurd z
  zip_append (a ∷ ps) us (b ∷ qs) vs z w = (z.0, zip_append ps us qs vs z.1 w)

  pub zip_split : (xs : List A) (before : List B) (y : B) (after : List B) → AllZip R xs (before ++ y ∷ after) → (front : List A) × (x : A) × (back : List A) × (xs ≡ front ++ x ∷ back) × AllZip R front before × R x y × AllZip R back after
  zip_split [] [] y after z = absurd z
  zip_split [] (b ∷ qs) y after z = absurd z
  zip_split (a ∷ ps) [] y after z = ([], a, ps, refl, tt, z.0, z.1)
  zip_split (a ∷ ps) (b ∷ qs) y after z = let r = zip_split ps qs y after z.1 in (a ∷ r.0, r.1, r.2, ap (λ us. a ∷ us) r.3, (z.0, r.4), r.5, r.6)

pub get_contains : {A : Type 0} (xs : List A) (i : ℕ) (x : A) → slice_get xs i ≡ Some x → Contains xs x
get_contains xs i x h = (i, slice_get_within xs i x h, get_or_from_slice_get xs i x x h)

pub contains_get : {A : Type 0} (xs : List A) (x : A) → Contains xs x → (i : ℕ) × (slice_get xs i ≡ Some x)
contains_get xs x h = (h.0, slice_get-get_or xs h.0 x h.1 ∙ ap Some h.2)

pub contains_here : {A : Type 0} (x : A) (xs : List A) → Contains (x ∷ xs) x
contains_here x xs = (0, omega arith, refl)

pub contains_later : {A : Type 0} (x y : A) (xs : List A) → Contains xs y → Contains (x ∷ xs) y
contains_later x y xs h = (suc h.0, omega (arith, h.1), h.2)

pub contains_cons : {A : Type 0} (x y : A) (xs : List A) → Contains (x ∷ xs) y → (x ≡ y) ⊎ Contains xs y
contains_cons x y xs (zero, l, e) = inl e
contains_cons x y xs (suc k, l, e) = inr (k, omega (arith, l), e)

pub contains_middle : {A : Type 0} (xs : List A) (x : A) (ys : List A) → Contains (xs ++ x ∷ ys) x
contains_middle xs x ys = Contains-append_right xs (x ∷ ys) x (contains_here x ys)

pub contains_around : {A : Type 0} (xs : List A) (x : A) (ys : List A) (y : A) → Contains (xs ++ ys) y → Contains (xs ++ x ∷ ys) y
contains_around xs x ys y h = elim (Contains-append_cases xs ys y h) [
  | inl c ↦ Contains-append_left xs (x ∷ ys) y c
  | inr c ↦ Contains-append_right xs (x ∷ ys) y (contains_later x y ys c)
]
