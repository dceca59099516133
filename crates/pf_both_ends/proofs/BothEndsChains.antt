-- Searches by rising cost from both ends: the beginnings of chains of numbers.
use Rattle.std.proofs.Common.{◌≡◌, ℕ, zero, suc, ◌+◌, ◌<◌, ◌≤◌, ◌^◌, ℤ, pos, List, [], ◌∷◌, ◌++◌, ◌∙◌, length, take, reverse, Some, slice_get, refl, sym, ap, subst, arith, inl, inr}
use Rattle.std.specs.Prelude.{◌⊎◌, ◌≤ℤ◌, ◌+ℤ◌, Contains}
use Rattle.std.proofs.lemmas.Int.{ints}
use Rattle.std.proofs.lemmas.Option.{slice_get_within}
use Rattle.std.proofs.lemmas.List.Elements.{Contains-push}
use Rattle.pf_core.specs.declared.labels.Label.{Label}
use Rattle.pf_core.specs.Labels.{Labels, HasLabel, Climbs, IsChain}
use Rattle.pf_base.proofs.ListLemmas.{Contains-cases, Contains-head, Contains-tail, Contains-reverse, reverse-cons, none_in}

module _ {A : Type 0} where
  get_last : (xs : List A) (x : A) (i : ℕ) (m : A) → slice_get (xs ++ x ∷ []) i ≡ Some m → (slice_get xs i ≡ Some m) ⊎ ((x ≡ m) × (i ≡ length xs))
  get_last [] x zero m h = let e : Some x ≡ Some m = h in inr (cc, refl)
  get_last [] x (suc i) m h = absurd (none_in i m h)
  get_last (y ∷ xs) x zero m h = inl h
  get_last (y ∷ xs) x (suc i) m h = elim (get_last xs x i m h) as (λ _. (slice_get (y ∷ xs) (suc i) ≡ Some m) ⊎ ((x ≡ m) × (suc i ≡ length (y ∷ xs)))) [ inl e ↦ inl e | inr e ↦ inr (e.0, omega (arith, e.1)) ]

  take_front : (xs : List A) (x : A) (i : ℕ) (m : A) → slice_get xs i ≡ Some m → take (suc i) (xs ++ x ∷ []) ≡ take (suc i) xs
  take_front [] x i m h = absurd (none_in i m h)
  take_front (y ∷ xs) x zero m h = refl
  take_front (y ∷ xs) x (suc i) m h = ap (λ l. y ∷ l) (take_front xs x i m h)

  take_whole : (xs : List A) (x : A) (i : ℕ) → i ≡ length xs → take (suc i) (xs ++ x ∷ []) ≡ xs ++ x ∷ []
  take_whole [] x zero e = refl
  take_whole [] x (suc i) e = absurd (omega (arith, e))
  take_whole (y ∷ xs) x zero e = absurd (omega (arith, e))
  take_whole (y ∷ xs) x (suc i) e = ap (λ l. y ∷ l) (take_whole xs x i (omega (arith, e)))

-- a sum that a cost bounds is not above it
pub past_sum : (a b c : ℤ) → (c +ℤ pos 1) ≤ℤ (a +ℤ b) → (a +ℤ b) ≤ℤ c → ⊥
past_sum a b c h g = omega (arith, ints, h, g)

-- a place of a list that lies in memory
pub place_fits : (xs : List ℕ) (place x n cap : ℕ) → slice_get xs place ≡ Some x → (n ≡ length xs) × (n ≤ cap) → cap < 2 ^ 63 → place < 2 ^ 63
place_fits xs place x n cap at ok small = omega (arith, slice_get_within xs place x at, ok, small)

-- what stands in the beginning of a list
pub take_inside : {A : Type 0} (xs : List A) (n : ℕ) (y : A) → Contains (take n xs) y → Contains xs y
take_inside xs zero y h = absurd (omega (arith, h.1))
take_inside [] (suc n) y h = h
take_inside (x ∷ xs) (suc n) y h = elim (Contains-cases (take n xs) x y h) as (λ _. Contains (x ∷ xs) y) [
  | inl e ↦ subst (λ z. Contains (x ∷ xs) z) e (Contains-head xs x)
  | inr r ↦ Contains-tail xs x y (take_inside xs n y r)
]

take_to : {A : Type 0} (xs : List A) (i : ℕ) (m : A) → slice_get xs i ≡ Some m → (y : A) → Contains (take (suc i) xs) y → (y ≡ m) ⊎ Contains (take i xs) y
take_to [] i m at y h = absurd (none_in i m at)
take_to (x ∷ xs) zero m at y h = elim (Contains-cases [] x y h) as (λ _. (y ≡ m) ⊎ Contains [] y) [
  | inl e ↦ let f : Some x ≡ Some m = at in let k : x ≡ m = cc in inl (sym e ∙ k)
  | inr r ↦ inr r
]
take_to (x ∷ xs) (suc i) m at y h = elim (Contains-cases (take (suc i) xs) x y h) as (λ _. (y ≡ m) ⊎ Contains (x ∷ take i xs) y) [
  | inl e ↦ inr (subst (λ z. Contains (x ∷ take i xs) z) e (Contains-head (take i xs) x))
  | inr r ↦ elim (take_to xs i m at y r) as (λ _. (y ≡ m) ⊎ Contains (x ∷ take i xs) y) [ inl e ↦ inl e | inr q ↦ inr (Contains-tail (take i xs) x y q) ]
]

-- what stands in a beginning is its last element, or stands before that
pub last_of_take : {A : Type 0} (xs : List A) (i : ℕ) (m : A) → slice_get xs i ≡ Some m → (y : A) → Contains (take (i + 1) xs) y → (y ≡ m) ⊎ Contains (take i xs) y
last_of_take xs i m at y h = let n : i + 1 ≡ suc i = omega arith in take_to xs i m at y (subst (λ (k : ℕ). Contains (take k xs) y) n h)

module _ {C : Type 0} (labels : Labels C) where
  climbs_labelled : (above : List ℕ) (k : ℕ) → Climbs labels k above → (j : ℕ) → Contains (k ∷ above) j → (l : Label C) × HasLabel labels j l
  climbs_labelled [] k c j h = elim (Contains-cases [] k j h) as (λ _. (l : Label C) × HasLabel labels j l) [ inl e ↦ (c.0, subst (λ (n : ℕ). HasLabel labels n c.0) e c.1) | inr r ↦ absurd (omega (arith, r.1)) ]
  climbs_labelled (p ∷ ps) k c j h = elim (Contains-cases (p ∷ ps) k j h) as (λ _. (l : Label C) × HasLabel labels j l) [ inl e ↦ (c.0, subst (λ (n : ℕ). HasLabel labels n c.0) e c.1) | inr r ↦ climbs_labelled ps p c.4 j r ]

  -- each number of a chain has a label
  pub chain_labelled : (k : ℕ) (ks : List ℕ) → IsChain labels k ks → (j : ℕ) → Contains ks j → (l : Label C) × HasLabel labels j l
  chain_labelled k ks c j h = climbs_labelled c.above k c.climbs j (Contains-reverse (k ∷ c.above) j (subst (λ l. Contains l j) c.is h))

  -- a chain ends with its number
  pub chain_last : (k : ℕ) (ks : List ℕ) → IsChain labels k ks → Contains ks k
  chain_last k ks c = subst (λ l. Contains l k) (sym (c.is ∙ reverse-cons k c.above)) (Contains-push (reverse c.above) k)

  chain_whole : (above : List ℕ) (k : ℕ) → Climbs labels k above → (i c : ℕ) → (k ≡ c) × (i ≡ length (reverse above)) → IsChain labels c (take (suc i) (reverse above ++ k ∷ []))
  chain_whole above k climbs i c e = subst (λ (n : ℕ). IsChain labels n (take (suc i) (reverse above ++ k ∷ []))) e.0
      (subst (IsChain labels k) (sym (take_whole (reverse above) k i e.1)) (record { above = above; climbs = climbs; is = sym (reverse-cons k above) }))

  prefix_of : (above : List ℕ) (k : ℕ) → Climbs labels k above → (i c : ℕ) → slice_get (reverse above ++ k ∷ []) i ≡ Some c → IsChain labels c (take (suc i) (reverse above ++ k ∷ []))
  prefix_of [] k climbs i c h = elim (get_last [] k i c h) as (λ _. IsChain labels c (take (suc i) (reverse [] ++ k ∷ []))) [
    | inl e ↦ absurd (none_in i c e)
    | inr e ↦ chain_whole [] k climbs i c e
  ]
  prefix_of (p ∷ ps) k climbs i c h = elim (get_last (reverse (p ∷ ps)) k i c h) as (λ _. IsChain labels c (take (suc i) (reverse (p ∷ ps) ++ k ∷ []))) [
    | inl e ↦
        let before = prefix_of ps p climbs.4 i c (subst (λ l. slice_get l i ≡ Some c) (reverse-cons p ps) e) in
        subst (IsChain labels c) (sym (take_front (reverse (p ∷ ps)) k i c e)) (subst (λ l. IsChain labels c (take (suc i) l)) (sym (reverse-cons p ps)) before)
    | inr e ↦ chain_whole (p ∷ ps) k climbs i c e
  ]

  -- the beginning of a chain is the chain of the number at which it ends
  pub chain_front : (k : ℕ) (ks : List ℕ) → IsChain labels k ks → (i c : ℕ) → slice_get ks i ≡ Some c → IsChain labels c (take (i + 1) ks)
  chain_front k ks w i c h =
      let e = w.is ∙ reverse-cons k w.above in
      let n : suc i ≡ i + 1 = omega arith in
      subst (λ (n : ℕ). IsChain labels c (take n ks)) n (subst (λ l. IsChain labels c (take (suc i) l)) (sym e) (prefix_of w.above k w.climbs i c (subst (λ l. slice_get l i ≡ Some c) e h)))
