-- Lemmas on what a list has at a place.
use Rattle.std.proofs.Common.{◌≡◌, ◌≢◌, ℕ, zero, suc, ◌<◌, ◌≤◌, ◌+◌, ◌-◌, List, [], ◌∷◌, ◌++◌, ◌∙◌, length, take, drop, replicate, Option, Some, None, slice_get, refl, sym, ap, subst, arith, inl, inr, add-one, get_or, Vec, length-append}
use Rattle.std.specs.Prelude.{◌⊎◌, slice_set, Contains, map, Result, Ok, Err, IfOk}
use Rattle.std.proofs.lemmas.List.{map-append, append-nil}
use Rattle.std.specs.List.{AllZip}
use Rattle.std.specs.Option.{option_map}
use Rattle.std.proofs.lemmas.Option.{slice_get_read, slice_get-map}
use Rattle.pf_base.proofs.ListLemmas.{none_in, get_set}
use Rattle.pf_orders.specs.StrongComponents.{lists_of}
use Rattle.pf_orders.specs.Internal.ComponentSearch.{IsAt}

module _ {A : Type 0} where
  pub at_one : (xs : List A) (k : ℕ) (x y : A) → IsAt xs k x → IsAt xs k y → x ≡ y
  at_one xs k x y a b = let e : Some x ≡ Some y = sym a ∙ b in cc

  pub at_some : (xs : List A) (k : ℕ) → k < length xs → (x : A) × IsAt xs k x
  at_some [] k l = absurd (omega (arith, l))
  at_some (x ∷ xs) zero l = (x, refl)
  at_some (x ∷ xs) (suc k) l = at_some xs k (omega (arith, l))

  pub at_end : (xs : List A) (x : A) → IsAt (xs ++ x ∷ []) (length xs) x
  at_end [] x = refl
  at_end (y ∷ ys) x = at_end ys x

  pub at_behind : (xs ys : List A) (i k : ℕ) (m : A) → k ≡ length xs + i → IsAt ys i m → IsAt (xs ++ ys) k m
  at_behind [] ys i k m e h = let f : i ≡ k = omega (arith, e) in subst (λ (n : ℕ). IsAt ys n m) f h
  at_behind (x ∷ xs) ys i zero m e h = absurd (omega (arith, e))
  at_behind (x ∷ xs) ys i (suc k) m e h = at_behind xs ys i k m (omega (arith, e)) h

  pub at_split : (xs ys : List A) (k : ℕ) (m : A) → IsAt (xs ++ ys) k m → IsAt xs k m ⊎ ((i : ℕ) × (k ≡ length xs + i) × IsAt ys i m)
  at_split [] ys k m h = inr (k, omega arith, h)
  at_split (x ∷ xs) ys zero m h = inl h
  at_split (x ∷ xs) ys (suc k) m h = elim (at_split xs ys k m h) as (λ _. IsAt (x ∷ xs) (suc k) m ⊎ ((i : ℕ) × (suc k ≡ length (x ∷ xs) + i) × IsAt ys i m)) [
    | inl a ↦ inl a
    | inr a ↦ inr (a.0, omega (arith, a.1), a.2)
  ]

  at_single : (x m : A) (i : ℕ) → IsAt (x ∷ []) i m → (i ≡ 0) × (x ≡ m)
  at_single x m zero h = (refl, (let e : Some x ≡ Some m = h in cc))
  at_single x m (suc i) h = absurd (none_in i m h)

  pub at_more : (xs : List A) (x : A) (k : ℕ) (m : A) → IsAt (xs ++ x ∷ []) k m → IsAt xs k m ⊎ ((k ≡ length xs) × (x ≡ m))
  at_more xs x k m h = elim (at_split xs (x ∷ []) k m h) as (λ _. IsAt xs k m ⊎ ((k ≡ length xs) × (x ≡ m))) [
    | inl a ↦ inl a
    | inr a ↦ let s = at_single x m a.0 a.2 in inr (omega (arith, a.1, s.0), s.1)
  ]

  pub take_below : (n : ℕ) (xs : List A) (k : ℕ) (m : A) → IsAt (take n xs) k m → k < n
  take_below zero [] k m h = absurd (none_in k m h)
  take_below zero (x ∷ xs) k m h = absurd (none_in k m h)
  take_below (suc n) [] k m h = absurd (none_in k m h)
  take_below (suc n) (x ∷ xs) zero m h = omega arith
  take_below (suc n) (x ∷ xs) (suc k) m h = let l = take_below n xs k m h in omega (arith, l)

  pub drop_get : (n : ℕ) (xs : List A) (p : ℕ) (m : A) → IsAt (drop n xs) p m → (q : ℕ) × (q ≡ n + p) × IsAt xs q m
  drop_get zero [] p m h = absurd (none_in p m h)
  drop_get zero (x ∷ xs) p m h = (p, omega arith, h)
  drop_get (suc n) [] p m h = absurd (none_in p m h)
  drop_get (suc n) (x ∷ xs) p m h = let q = drop_get n xs p m h in (suc q.0, omega (arith, q.1), q.2)

  pub get_drop : (n : ℕ) (xs : List A) (p : ℕ) (m : A) → n ≤ p → IsAt xs p m → (q : ℕ) × (p ≡ n + q) × IsAt (drop n xs) q m
  get_drop n [] p m l h = absurd (none_in p m h)
  get_drop zero (x ∷ xs) p m l h = (p, omega arith, h)
  get_drop (suc n) (x ∷ xs) zero m l h = absurd (omega (arith, l))
  get_drop (suc n) (x ∷ xs) (suc p) m l h = let q = get_drop n xs p m (omega (arith, l)) h in (q.0, omega (arith, q.1), q.2)

  pub at_replicate : (n : ℕ) (x : A) (k : ℕ) (m : A) → IsAt (replicate n x) k m → x ≡ m
  at_replicate zero x k m h = absurd (none_in k m h)
  at_replicate (suc n) x zero m h = let e : Some x ≡ Some m = h in cc
  at_replicate (suc n) x (suc k) m h = at_replicate n x k m h

  pub set_other : (xs : List A) (n : ℕ) (v : A) (k : ℕ) (m : A) → n < length xs → k ≢ n → IsAt xs k m → IsAt (slice_set xs n v) k m
  set_other xs n v k m l d h = elim (get_set xs n k v l) as (λ _. IsAt (slice_set xs n v) k m) [
    | inl a ↦ absurd (d a.0)
    | inr a ↦ a.1 ∙ h
  ]

  pub set_here : (xs : List A) (n : ℕ) (v : A) → n < length xs → IsAt (slice_set xs n v) n v
  set_here xs n v l = elim (get_set xs n n v l) as (λ _. IsAt (slice_set xs n v) n v) [
    | inl a ↦ a.1
    | inr a ↦ absurd (a.0 refl)
  ]

  pub set_cases : (xs : List A) (n : ℕ) (v : A) (k : ℕ) (m : A) → n < length xs → IsAt (slice_set xs n v) k m → ((k ≡ n) × (v ≡ m)) ⊎ ((k ≢ n) × IsAt xs k m)
  set_cases xs n v k m l h = elim (get_set xs n k v l) as (λ _. ((k ≡ n) × (v ≡ m)) ⊎ ((k ≢ n) × IsAt xs k m)) [
    | inl a ↦ let e : Some v ≡ Some m = sym a.1 ∙ h in inl (a.0, cc)
    | inr a ↦ inr (a.0, sym a.1 ∙ h)
  ]

-- the ends of steps
pub ends_at : {C : Type 0} (steps : List (ℕ × C)) (i j : ℕ) → IsAt (map (λ (s : ℕ × C). s.0) steps) i j → (c : C) × Contains steps (j, c)
ends_at [] i j h = absurd (none_in i j h)
ends_at (s ∷ steps) zero j h = let e : Some s.0 ≡ Some j = h in let f : s.0 ≡ j = cc in (s.1, (0, omega arith, ap (λ (k : ℕ). (k, s.1)) f))
ends_at (s ∷ steps) (suc i) j h = let q = ends_at steps i j h in (q.0, (suc q.1.0, omega (arith, q.1.1), q.1.2))

pub at_ends : {C : Type 0} (steps : List (ℕ × C)) (j : ℕ) (c : C) → Contains steps (j, c) → (i : ℕ) × IsAt (map (λ (s : ℕ × C). s.0) steps) i j
at_ends [] j c h = absurd (omega (arith, h.1))
at_ends (s ∷ steps) j c (zero, l, e) = (0, ap (λ (t : ℕ × _). Some t.0) e)
at_ends (s ∷ steps) j c (suc k, l, e) = let q = at_ends steps j c (k, omega (arith, l), e) in (suc q.0, q.1)

pub below_or : (n k : ℕ) → (k < n) ⊎ (n ≤ k)
below_or n k = elim (nat_le_dec n k) as (λ _. (k < n) ⊎ (n ≤ k)) [ inl a ↦ inr a | inr a ↦ inl a ]
  where
    nat_le_dec : (a b : ℕ) → (a ≤ b) ⊎ (b < a)
    nat_le_dec zero b = inl (omega arith)
    nat_le_dec (suc a) zero = inr (omega arith)
    nat_le_dec (suc a) (suc b) = elim (nat_le_dec a b) as (λ _. (suc a ≤ suc b) ⊎ (suc b < suc a)) [ inl l ↦ inl (omega (arith, l)) | inr l ↦ inr (omega (arith, l)) ]

pub set_length : {A : Type 0} (xs : List A) (n : ℕ) (v : A) → length (slice_set xs n v) ≡ length xs
set_length [] n v = refl
set_length (x ∷ xs) zero v = refl
set_length (x ∷ xs) (suc n) v = ap suc (set_length xs n v)

pub none_left : {A : Type 0} (xs : List A) → slice_get xs (length xs - 1) ≡ None → xs ≡ []
none_left [] h = refl
none_left (x ∷ xs) h = let q = at_some (x ∷ xs) (length (x ∷ xs) - 1) (omega arith) in let e : Some q.0 ≡ None = sym q.1 ∙ h in cc

pub none_at : {A : Type 0} (xs : List A) → ((k : ℕ) (x : A) → ¬ (IsAt xs k x)) → xs ≡ []
none_at [] h = refl
none_at (x ∷ xs) h = absurd (h 0 x refl)

-- what is left without the last element
pub popped : {A : Type 0} (xs ys rest : List A) (n : ℕ) → rest ≡ take (n - 1) xs → length ys ≡ n → ys ≡ xs → rest ≡ take (length xs - 1) xs
popped xs ys rest n r l e = r ∙ ap (λ (m : ℕ). take (m - 1) xs) (sym l ∙ ap length e)

take_none : {A : Type 0} (k : ℕ) → take {A = A} k [] ≡ []
take_none zero = refl
take_none (suc k) = refl

pub resized_none : {A : Type 0} (n len : ℕ) (xs ys : List A) (x : A) → ys ≡ take n xs ++ replicate (n - len) x → xs ≡ [] → len ≡ 0 → ys ≡ replicate n x
resized_none {A} n len xs ys x e none from = e ∙ ap (λ zs. take n zs ++ replicate (n - len) x) none ∙ ap (λ zs. zs ++ replicate (n - len) x) (take_none {A = A} n) ∙ ap (λ m. replicate m x) (let m : n - len ≡ n = omega (arith, from) in m)

take_at : {A : Type 0} (xs : List A) (i : ℕ) (x : A) → IsAt xs i x → take (suc i) xs ≡ take i xs ++ x ∷ []
take_at [] i x h = absurd (none_in i x h)
take_at (y ∷ xs) zero x h = let e : Some y ≡ Some x = h in let f : y ≡ x = cc in ap (λ z. z ∷ []) f
take_at (y ∷ xs) (suc i) x h = ap (λ zs. y ∷ zs) (take_at xs i x h)

pub take_more_at : {A : Type 0} (xs : List A) (i : ℕ) (x : A) → IsAt xs i x → take (i + 1) xs ≡ take i xs ++ x ∷ []
take_more_at xs i x h = ap (λ (n : ℕ). take n xs) (add-one i) ∙ take_at xs i x h

pub take_one_more : {A : Type 0} (xs : List A) (i : ℕ) (x : A) → i < length xs → x ≡ get_or xs i x → take (i + 1) xs ≡ take i xs ++ x ∷ []
take_one_more xs i x l e = take_more_at xs i x (slice_get_read xs (length xs) i x refl l e)

pub contained_at : {A : Type 0} (xs : List A) (x : A) → Contains xs x → (p : ℕ) × IsAt xs p x
contained_at [] x h = absurd (omega (arith, h.1))
contained_at (y ∷ xs) x (zero, l, e) = (0, ap Some e)
contained_at (y ∷ xs) x (suc k, l, e) = let q = contained_at xs x (k, omega (arith, l), e) in (suc q.0, q.1)

pub list_at : {T A : Type 0} (vs : List (Vec T A)) (i : ℕ) (v : Vec T A) → i < length vs → v ≡ get_or vs i v → IsAt (lists_of vs) i v.items
list_at vs i v l e = slice_get-map (λ (w : Vec _ _). w.items) vs i ∙ ap (option_map (λ (w : Vec _ _). w.items)) (slice_get_read vs (length vs) i v refl l e)

zip_more : {A B : Type 0} (P : A → B → Type 0) (xs : List A) (ys : List B) (x : A) (y : B) → AllZip P xs ys → P x y → AllZip P (xs ++ x ∷ []) (ys ++ y ∷ [])
zip_more P [] [] x y z p = (p, tt)
zip_more P [] (b ∷ ys) x y z p = absurd z
zip_more P (a ∷ xs) [] x y z p = absurd z
zip_more P (a ∷ xs) (b ∷ ys) x y z p = (z.0, zip_more P xs ys x y z.1 p)

pub zip_one_more : {A B : Type 0} (P : A → B → Type 0) (xs : List A) (i : ℕ) (x : A) (ys : List B) (y : B) → IsAt xs i x → AllZip P (take i xs) ys → P x y → AllZip P (take (i + 1) xs) (ys ++ y ∷ [])
zip_one_more P xs i x ys y at z p = subst (λ zs. AllZip P zs (ys ++ y ∷ [])) (sym (take_more_at xs i x at)) (zip_more P (take i xs) ys x y z p)

take_zero : {A : Type 0} (xs : List A) → take 0 xs ≡ []
take_zero [] = refl
take_zero (x ∷ xs) = refl

-- a list that had nothing to take out has nothing
pub none_popped : {A : Type 0} (xs rest : List A) (n : ℕ) → xs ≡ rest ++ [] → rest ≡ take (n - 1) xs → n ≡ 0 → xs ≡ []
none_popped xs rest n e r l = e ∙ append-nil rest ∙ r ∙ ap (λ (m : ℕ). take m xs) (let f : n - 1 ≡ 0 = omega (arith, l) in f) ∙ take_zero xs

pub last_list : {T A : Type 0} (vs rest : List (Vec T A)) (v : Vec T A) → vs ≡ rest ++ v ∷ [] → IsAt (lists_of vs) (length (lists_of rest)) v.items × (length (lists_of rest) + 1 ≡ length (lists_of vs))
last_list vs rest v e =
    let f : lists_of vs ≡ lists_of rest ++ v.items ∷ [] = ap lists_of e ∙ map-append (λ (w : Vec _ _). w.items) rest (v ∷ []) in (
      subst (λ (l : List (List _)). IsAt l (length (lists_of rest)) v.items) (sym f) (at_end (lists_of rest) v.items),
      (let g = length-append (lists_of rest) (v.items ∷ []) in let h = ap length f in omega (arith, g, h)),
    )

pub if_ok : {A E : Type 0} (P Q : A → Type 0) (r : Result A E) → ((a : A) → P a → Q a) → IfOk r P → IfOk r Q
if_ok P Q (Ok a) f h = f a h
if_ok P Q (Err e) f h = tt

-- the last element, as it is read
pub last_waits : (xs ys : List ℕ) (o : Option ℕ) (number : ℕ) → ys ≡ xs → o ≡ slice_get ys (length ys - 1) → o ≡ Some number → IsAt xs (length xs - 1) number
last_waits xs ys o number e at is = rw e at (sym at ∙ is)
