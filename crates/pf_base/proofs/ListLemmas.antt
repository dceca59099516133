-- Lemmas on lists, place by place, and on whole numbers.
use Rattle.std.proofs.Common.{ℕ, zero, suc, ◌<◌, ◌≡◌, ◌≢◌, refl, ◌∙◌, ap, arith, List, [], ◌∷◌, ◌++◌, length, take, replicate, ◌-◌, inl, inr, Some, ◌+◌, ◌≤◌, sym, subst, Bool, true, false, get_or, drop, take_all, cond, ◌||◌, add-one, ℤ, Option, None, true≢false}
use Rattle.std.specs.Prelude.{slice_get, slice_set, ◌⊎◌, Contains, MatchBool, MatchOption, count_by, reverse, ◌≤ℤ◌, ◌<ℤ◌}
use Rattle.std.specs.List.{AllZip}
use Rattle.std.specs.Option.{option_to_list}
use Rattle.std.specs.Ordering.{int_cmp, is_lt, MatchOrdering}
use Rattle.std.specs.Cmp.{int_ranks}
use Rattle.std.specs.declared.cmp.Ordering.{Ordering}
use Rattle.std.specs.declared.cmp.Ordering.TheVariants.{Less, Equal, Greater}
use Rattle.std.proofs.lemmas.Int.{ints}
use Rattle.std.proofs.lemmas.List.{reverse-append}
use Rattle.std.proofs.lemmas.List.Sums.{sum_by-set}
use Rattle.std.proofs.lemmas.Option.{slice_get-get_or, slice_get_within}

pub none_in : {A : Type 0} (k : ℕ) (m : A) → slice_get [] k ≡ Some m → ⊥
none_in zero m h = cc
none_in (suc k) m h = cc

-- the element at i after a write at n
pub get_set : {A : Type 0} (xs : List A) (n i : ℕ) (v : A) → n < length xs → ((i ≡ n) × (slice_get (slice_set xs n v) i ≡ Some v)) ⊎ ((i ≢ n) × (slice_get (slice_set xs n v) i ≡ slice_get xs i))
get_set [] n i v h = absurd (omega arith)
get_set (x ∷ xs) zero zero v h = inl (refl, refl)
get_set (x ∷ xs) zero (suc i) v h = inr (omega arith, refl)
get_set (x ∷ xs) (suc n) zero v h = inr (omega arith, refl)
get_set (x ∷ xs) (suc n) (suc i) v h = elim (get_set xs n i v (omega arith)) as (λ _. ((suc i ≡ suc n) × (slice_get (slice_set (x ∷ xs) (suc n) v) (suc i) ≡ Some v)) ⊎ ((suc i ≢ suc n) × (slice_get (slice_set (x ∷ xs) (suc n) v) (suc i) ≡ slice_get (x ∷ xs) (suc i)))) [
  | inl r ↦ inl (ap suc r.0, r.1)
  | inr r ↦ inr (omega (arith, r.0), r.1)
]

-- the element at i after one more is put at the end
pub get_push : {A : Type 0} (xs : List A) (x : A) (i : ℕ) (m : A) → slice_get (xs ++ x ∷ []) i ≡ Some m → (slice_get xs i ≡ Some m) ⊎ ((i ≡ length xs) × (x ≡ m))
get_push [] x zero m h = inr (refl, (cc))
get_push [] x (suc i) m h = absurd (none_in i m h)
get_push (y ∷ ys) x zero m h = inl h
get_push (y ∷ ys) x (suc i) m h = elim (get_push ys x i m h) as (λ _. (slice_get (y ∷ ys) (suc i) ≡ Some m) ⊎ ((suc i ≡ length (y ∷ ys)) × (x ≡ m))) [ inl e ↦ inl e | inr e ↦ inr (ap suc e.0, e.1) ]

-- the same, with the place
pub get_pushed : {A : Type 0} (xs : List A) (x : A) (i : ℕ) (m : A) → slice_get (xs ++ x ∷ []) i ≡ Some m → ((i < length xs) × (slice_get xs i ≡ Some m)) ⊎ ((i ≡ length xs) × (x ≡ m))
get_pushed [] x zero m h = inr (refl, cc)
get_pushed [] x (suc i) m h = absurd (none_in i m h)
get_pushed (y ∷ ys) x zero m h = inl (omega arith, h)
get_pushed (y ∷ ys) x (suc i) m h = elim (get_pushed ys x i m h) as (λ _. ((suc i < length (y ∷ ys)) × (slice_get (y ∷ ys) (suc i) ≡ Some m)) ⊎ ((suc i ≡ length (y ∷ ys)) × (x ≡ m))) [
  | inl e ↦ inl (omega (arith, e.0), e.1)
  | inr e ↦ inr (ap suc e.0, e.1)
]

pub get-append : {A : Type 0} (xs ys : List A) (k : ℕ) (m : A) → slice_get xs k ≡ Some m → slice_get (xs ++ ys) k ≡ Some m
get-append [] ys k m h = absurd (none_in k m h)
get-append (x ∷ xs) ys zero m h = h
get-append (x ∷ xs) ys (suc k) m h = get-append xs ys k m h

pub get_at_end : {A : Type 0} (xs : List A) (x : A) → slice_get (xs ++ x ∷ []) (length xs) ≡ Some x
get_at_end [] x = refl
get_at_end (y ∷ ys) x = get_at_end ys x

pub get_within : {A : Type 0} (xs : List A) (i : ℕ) → i < length xs → (m : A) × (slice_get xs i ≡ Some m)
get_within [] i h = absurd (omega arith)
get_within (x ∷ xs) zero h = (x, refl)
get_within (x ∷ xs) (suc i) h = get_within xs i (omega arith)

take_none : {A : Type 0} (n : ℕ) → ◌≡◌ {A = List A} (take n []) []
take_none zero = refl
take_none (suc n) = refl

-- what fills up an empty list
pub resized : {A : Type 0} (n : ℕ) (xs after : List A) (m : ℕ) (v : A) → xs ≡ [] → m ≡ 0 → after ≡ take n xs ++ replicate (n - m) v → after ≡ replicate n v
resized n xs after m v e f h = h ∙ ap (λ ys. take n ys ++ replicate (n - m) v) e ∙ ap (λ ys. ys ++ replicate (n - m) v) (take_none n) ∙ ap (λ (k : ℕ). replicate k v) (omega (arith, f))

pub AllZip-append : {A B : Type 0} (R : A → B → Type 0) (xs : List A) (ys : List B) (x : A) (y : B) → AllZip R xs ys → R x y → AllZip R (xs ++ x ∷ []) (ys ++ y ∷ [])
AllZip-append R [] [] x y z r = (r, tt)
AllZip-append R [] (b ∷ bs) x y z r = absurd z
AllZip-append R (a ∷ as') [] x y z r = absurd z
AllZip-append R (a ∷ as') (b ∷ bs) x y z r = (z.0, AllZip-append R as' bs x y z.1 r)

pub nat_dec : (j k : ℕ) → (j ≡ k) ⊎ (j ≢ k)
nat_dec zero zero = inl refl
nat_dec zero (suc k) = inr (omega arith)
nat_dec (suc j) zero = inr (omega arith)
nat_dec (suc j) (suc k) = elim (nat_dec j k) as (λ _. (suc j ≡ suc k) ⊎ (suc j ≢ suc k)) [ inl e ↦ inl (ap suc e) | inr e ↦ inr (omega (arith, e)) ]

pub bool_dec : (b : Bool) → (b ≡ true) ⊎ (b ≡ false)
bool_dec true = inl refl
bool_dec false = inr refl

pub or_left : (a b : Bool) → a || b ≡ false → a ≡ false
or_left true b h = absurd (true≢false h)
or_left false b h = refl

pub or_right : (a b : Bool) → a || b ≡ false → b ≡ false
or_right true b h = absurd (true≢false h)
or_right false b h = h

pub or_true : (a b : Bool) → b ≡ true → a || b ≡ true
or_true true b h = refl
or_true false b h = h

pub or_cases : (a b : Bool) → a || b ≡ true → (a ≡ true) ⊎ (b ≡ true)
or_cases true b h = inl refl
or_cases false b h = inr h

-- what the test of an order of whole numbers says
pub lt_means : (x y : ℤ) (r : Bool) → r ≡ is_lt (int_cmp x y) → MatchBool r (x <ℤ y) (y ≤ℤ x)
lt_means x y r h = by r (int_cmp x y) (int_ranks x y) h
  where
    by : (r : Bool) (o : Ordering) → MatchOrdering o (x <ℤ y) (x ≡ y) (y <ℤ x) → r ≡ is_lt o → MatchBool r (x <ℤ y) (y ≤ℤ x)
    by true Less m e = m
    by true Equal m e = absurd (true≢false e)
    by true Greater m e = absurd (true≢false e)
    by false Less m e = absurd (true≢false (sym e))
    by false Equal m e = omega (arith, ints, m)
    by false Greater m e = omega (arith, ints, m)

pub int_dec : (a b : ℤ) → (a ≤ℤ b) ⊎ (b <ℤ a)
int_dec a b = by (is_lt (int_cmp b a)) (lt_means b a (is_lt (int_cmp b a)) refl)
  where
    by : (r : Bool) → MatchBool r (b <ℤ a) (a ≤ℤ b) → (a ≤ℤ b) ⊎ (b <ℤ a)
    by true h = inr h
    by false h = inl h

pub at_place : {A : Type 0} (xs : List A) (k : ℕ) (d x : A) → k < length xs → get_or xs k d ≡ x → slice_get xs k ≡ Some x
at_place xs k d x h e = slice_get-get_or xs k d h ∙ ap Some e

pub get-append_cases : {A : Type 0} (xs : List A) (x : A) (k : ℕ) (m : A) → slice_get (xs ++ x ∷ []) k ≡ Some m → slice_get xs k ≡ Some m ⊎ (x ≡ m)
get-append_cases [] x zero m h = inr (cc)
get-append_cases [] x (suc k) m h = absurd (none_in k m h)
get-append_cases (y ∷ ys) x zero m h = inl h
get-append_cases (y ∷ ys) x (suc k) m h = get-append_cases ys x k m h

pub take_get : {A : Type 0} (n : ℕ) (xs : List A) (k : ℕ) (m : A) → slice_get (take n xs) k ≡ Some m → slice_get xs k ≡ Some m
take_get zero [] k m h = h
take_get (suc n) [] k m h = h
take_get zero (x ∷ xs) k m h = absurd (none_in k m h)
take_get (suc n) (x ∷ xs) zero m h = h
take_get (suc n) (x ∷ xs) (suc k) m h = take_get n xs k m h

pub get_take : {A : Type 0} (n : ℕ) (xs : List A) (k : ℕ) (m : A) → k < n → slice_get xs k ≡ Some m → slice_get (take n xs) k ≡ Some m
get_take n [] k m l h = absurd (none_in k m h)
get_take zero (x ∷ xs) k m l h = absurd (omega (arith, l))
get_take (suc n) (x ∷ xs) zero m l h = h
get_take (suc n) (x ∷ xs) (suc k) m l h = get_take n xs k m (omega (arith, l)) h

get_at : {A : Type 0} (xs : List A) (n : ℕ) (x : A) → slice_get xs n ≡ Some x → get_or xs n x ≡ x
get_at [] n x h = refl
get_at (y ∷ ys) zero x h = let e : Some y ≡ Some x = h in cc
get_at (y ∷ ys) (suc n) x h = get_at ys n x h

-- how many elements pass, after a write of one that passes as the old one does
pub count_by-set : {A : Type 0} (p : A → Bool) (xs : List A) (n : ℕ) (v x : A) → slice_get xs n ≡ Some x → p v ≡ p x → count_by p (slice_set xs n v) ≡ count_by p xs
count_by-set p xs n v x h e =
    let f : _ → ℕ = λ y. cond (p y) 1 0 in
    let s = sum_by-set f xs n v x (slice_get_within xs n x h) in
    let at : f (get_or xs n x) ≡ f x = ap f (get_at xs n x h) in
    let same : f v ≡ f x = ap (λ b. cond b 1 0) e in
    omega (arith, s, at, same)

-- and of one that passes where the old one does not
pub count_by-set_more : {A : Type 0} (p : A → Bool) (xs : List A) (n : ℕ) (v x : A) → slice_get xs n ≡ Some x → p x ≡ false → p v ≡ true → count_by p (slice_set xs n v) ≡ count_by p xs + 1
count_by-set_more p xs n v x h e g =
    let f : _ → ℕ = λ y. cond (p y) 1 0 in
    let s = sum_by-set f xs n v x (slice_get_within xs n x h) in
    let at : f (get_or xs n x) ≡ f x = ap f (get_at xs n x h) in
    let was : f x ≡ 0 = ap (λ b. cond b 1 0) e in
    let now : f v ≡ 1 = ap (λ b. cond b 1 0) g in
    omega (arith, s, at, was, now)

pub Contains-head : {A : Type 0} (xs : List A) (x : A) → Contains (x ∷ xs) x
Contains-head xs x = (0, omega arith, refl)

pub Contains-tail : {A : Type 0} (xs : List A) (x y : A) → Contains xs y → Contains (x ∷ xs) y
Contains-tail xs x y h = (suc h.0, omega (arith, h.1), h.2)

pub Contains-cases : {A : Type 0} (xs : List A) (x y : A) → Contains (x ∷ xs) y → (x ≡ y) ⊎ Contains xs y
Contains-cases xs x y (zero, l, e) = inl e
Contains-cases xs x y (suc k, l, e) = inr (k, omega (arith, l), e)

-- the first elements, and one more
take_more_suc : {A : Type 0} (xs : List A) (i : ℕ) (d y : A) → Contains (take (suc i) xs) y → Contains (take i xs) y ⊎ (get_or xs i d ≡ y)
take_more_suc [] zero d y h = inl h
take_more_suc [] (suc i) d y h = inl h
take_more_suc (x ∷ xs) zero d y h = elim (Contains-cases [] x y h) as (λ _. Contains [] y ⊎ (x ≡ y)) [ inl e ↦ inr e | inr k ↦ inl k ]
take_more_suc (x ∷ xs) (suc i) d y h = elim (Contains-cases (take (suc i) xs) x y h) as (λ _. Contains (x ∷ take i xs) y ⊎ (get_or xs i d ≡ y)) [
  | inl e ↦ inl (0, omega arith, e)
  | inr k ↦ elim (take_more_suc xs i d y k) as (λ _. Contains (x ∷ take i xs) y ⊎ (get_or xs i d ≡ y)) [ inl j ↦ inl (Contains-tail (take i xs) x y j) | inr e ↦ inr e ]
]

pub Contains-take_more : {A : Type 0} (xs : List A) (i : ℕ) (d y : A) → Contains (take (i + 1) xs) y → Contains (take i xs) y ⊎ (get_or xs i d ≡ y)
Contains-take_more xs i d y h = take_more_suc xs i d y (subst (λ (n : ℕ). Contains (take n xs) y) (add-one i) h)

take_suc : {A : Type 0} (xs : List A) (i : ℕ) (y : A) → Contains (take i xs) y → Contains (take (suc i) xs) y
take_suc [] zero y h = h
take_suc [] (suc i) y h = h
take_suc (x ∷ xs) zero y h = absurd (omega (arith, h.1))
take_suc (x ∷ xs) (suc i) y h = elim (Contains-cases (take i xs) x y h) as (λ _. Contains (x ∷ take (suc i) xs) y) [
  | inl e ↦ (0, omega arith, e)
  | inr k ↦ Contains-tail (take (suc i) xs) x y (take_suc xs i y k)
]

pub Contains-take : {A : Type 0} (xs : List A) (i : ℕ) (y : A) → Contains (take i xs) y → Contains (take (i + 1) xs) y
Contains-take xs i y h = subst (λ (n : ℕ). Contains (take n xs) y) (sym (add-one i)) (take_suc xs i y h)

here_suc : {A : Type 0} (xs : List A) (i : ℕ) (y : A) → i < length xs → y ≡ get_or xs i y → Contains (take (suc i) xs) y
here_suc [] i y h e = absurd (omega arith)
here_suc (x ∷ xs) zero y h e = (0, omega arith, sym e)
here_suc (x ∷ xs) (suc i) y h e = Contains-tail (take (suc i) xs) x y (here_suc xs i y (omega arith) e)

pub Contains-take_here : {A : Type 0} (xs : List A) (i : ℕ) (y : A) → i < length xs → y ≡ get_or xs i y → Contains (take (i + 1) xs) y
Contains-take_here xs i y h e = subst (λ (n : ℕ). Contains (take n xs) y) (sym (add-one i)) (here_suc xs i y h e)

pub Contains-here : {A : Type 0} (xs : List A) (i : ℕ) (y : A) → i < length xs → y ≡ get_or xs i y → Contains xs y
Contains-here xs i y h e = (i, h, sym e)

pub Contains-take_all : {A : Type 0} (xs : List A) (i : ℕ) (y : A) → length xs ≤ i → Contains xs y → Contains (take i xs) y
Contains-take_all xs i y h k = subst (λ (ys : List _). Contains ys y) (sym (take_all i xs h)) k

pub reverse-cons : {A : Type 0} (x : A) (xs : List A) → reverse (x ∷ xs) ≡ reverse xs ++ x ∷ []
reverse-cons x xs = reverse-append (x ∷ []) xs

pub Contains-append_one : {A : Type 0} (xs : List A) (x y : A) → Contains (xs ++ x ∷ []) y → Contains xs y ⊎ (x ≡ y)
Contains-append_one [] x y h = elim (Contains-cases [] x y h) as (λ _. Contains [] y ⊎ (x ≡ y)) [ inl e ↦ inr e | inr k ↦ inl k ]
Contains-append_one (z ∷ zs) x y h = elim (Contains-cases (zs ++ x ∷ []) z y h) as (λ _. Contains (z ∷ zs) y ⊎ (x ≡ y)) [
  | inl e ↦ inl (0, omega arith, e)
  | inr k ↦ elim (Contains-append_one zs x y k) as (λ _. Contains (z ∷ zs) y ⊎ (x ≡ y)) [ inl i ↦ inl (Contains-tail zs z y i) | inr e ↦ inr e ]
]

pub Contains-reverse : {A : Type 0} (xs : List A) (y : A) → Contains (reverse xs) y → Contains xs y
Contains-reverse [] y h = h
Contains-reverse (x ∷ xs) y h = elim (Contains-append_one (reverse xs) x y (subst (λ (zs : List _). Contains zs y) (reverse-cons x xs) h)) as (λ _. Contains (x ∷ xs) y) [
  | inl i ↦ Contains-tail xs x y (Contains-reverse xs y i)
  | inr e ↦ (0, omega arith, e)
]

get_or-any : {A : Type 0} (xs : List A) (i : ℕ) (d e : A) → i < length xs → get_or xs i e ≡ get_or xs i d
get_or-any [] i d e h = absurd (omega arith)
get_or-any (x ∷ xs) zero d e h = refl
get_or-any (x ∷ xs) (suc i) d e h = get_or-any xs i d e (omega arith)

pub Contains-index : {A : Type 0} (xs : List A) (i : ℕ) (d : A) → i < length xs → Contains xs (get_or xs i d)
Contains-index xs i d h = (i, h, get_or-any xs i d (get_or xs i d) h)

-- what is left of a list without its last element, from back to front
pub popped : {A : Type 0} (xs ys : List A) (o : Option A) (n m : ℕ) (Q : A → Type 0) → xs ≡ ys ++ option_to_list o → MatchOption o ((n ≡ 0) × (m ≡ 0)) Q → length ys ≡ m → reverse ys ≡ drop 1 (reverse xs)
popped xs ys (Some x) n m Q e h len = sym (ap (λ zs. drop 1 (reverse zs)) e ∙ ap (drop 1) (reverse-append ys (x ∷ [])))
popped xs [] None n m Q e h len = sym (ap (λ zs. drop 1 (reverse zs)) e)
popped xs (y ∷ ys) None n m Q e h len = absurd (omega (arith, len, h.1))
