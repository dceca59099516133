-- Lists of vertices in rising order, vertex by vertex.
use Rattle.std.proofs.Common.{◌≡◌, ◌∙◌, refl, sym, ap, subst, ◌<◌, ◌≤◌, ◌+◌, ℕ, ℤ, zero, suc, pos, arith, add-one, inl, inr, ◌⊎◌, Bool, true, false, List, [], ◌∷◌, ◌++◌, map, length, Some, nat_eq}
use Rattle.std.specs.Prelude.{◌<ℤ◌, ◌≤ℤ◌, slice_get}
use Rattle.std.proofs.lemmas.Int.{ints}
use Rattle.std.proofs.lemmas.Option.{slice_get_within, slice_get-map}
use Rattle.std.specs.Option.{option_map}
use borrow.Author.Tests.{eqb-true, eqb-false}
use Rattle.pf_residual.specs.Listings.{ListsVertices, ListsNumbers}
use Rattle.pf_base.proofs.ListLemmas.{get_pushed}

-- no element of an empty list
get_none : {A : Type 0} {B : Type 0} (i : ℕ) (y : A) → slice_get [] i ≡ Some y → B
get_none {A} i y h = absurd (omega (arith, slice_get_within {A = A} [] i y h))

pub get_end : {A : Type 0} (xs : List A) (x : A) → slice_get (xs ++ x ∷ []) (length xs) ≡ Some x
get_end [] x = refl
get_end (y ∷ xs) x = get_end xs x

pub get_before : {A : Type 0} (xs : List A) (x : A) (i : ℕ) (y : A) → slice_get xs i ≡ Some y → slice_get (xs ++ x ∷ []) i ≡ Some y
get_before [] x i y h = get_none i y h
get_before (z ∷ xs) x zero y h = h
get_before (z ∷ xs) x (suc i) y h = get_before xs x i y h

-- below the next number, or there
next_or_below : (k a : ℕ) → a < suc k → (a < k) ⊎ (a ≡ k)
next_or_below k a l = pick (nat_eq a k) refl
  where
    pick : (t : Bool) → nat_eq a k ≡ t → (a < k) ⊎ (a ≡ k)
    pick true e = inr (eqb-true a k e)
    pick false e = let apart = eqb-false a k e in inl (omega (arith, l, apart))

module _ {C : Type 0} (value : C → ℤ) (numbers : ℕ → ℤ) where
  -- nothing is listed of no vertices
  pub numbers_none : ListsNumbers value 0 numbers []
  numbers_none = record {
    rising = λ i j d e l p q. get_none i d p;
    sound = λ i e p. get_none i e p;
    complete = λ a l p. absurd (omega (arith, l));
  }

  -- vertices without a number above 0 are passed over
  pub numbers_passed : (k n : ℕ) (ends : List (ℕ × C)) → k ≤ n → ((a : ℕ) → k ≤ a → a < n → numbers a ≤ℤ pos 0) → ListsNumbers value k numbers ends → ListsNumbers value n numbers ends
  numbers_passed k n ends l none h = record {
    rising = h.rising;
    sound = λ i e p. let s = h.sound i e p in (omega (arith, s.0, l), s.1, s.2);
    complete = λ a m p. h.complete a (below_of k n a m (λ o. let q = none a o m in absurd (omega (arith, ints, p, q)))) p;
  }
    where
      below_of : (k n a : ℕ) → a < n → (k ≤ a → ⊥) → a < k
      below_of k n a m never = omega (arith, never)

  -- the next vertex is listed
  pub numbers_pushed : (k : ℕ) (c : C) (ends : List (ℕ × C)) → value c ≡ numbers k → pos 0 <ℤ value c → ListsNumbers value k numbers ends → ListsNumbers value (suc k) numbers (ends ++ (k, c) ∷ [])
  numbers_pushed k c ends is above h = record {
    rising = λ i j d e l p q. elim (get_pushed ends (k, c) i d p) as (λ _. d.0 < e.0) [
      | inl u ↦ elim (get_pushed ends (k, c) j e q) as (λ _. d.0 < e.0) [
        | inl v ↦ h.rising i j d e l u.1 v.1
        | inr v ↦ (let s = h.sound i d u.1 in let same = ap (λ (t : ℕ × C). t.0) v.1 in omega (arith, s.0, same))
      ]
      | inr u ↦ elim (get_pushed ends (k, c) j e q) as (λ _. d.0 < e.0) [
        | inl v ↦ absurd (omega (arith, u.0, v.0, l))
        | inr v ↦ absurd (omega (arith, u.0, v.0, l))
      ]
    ];
    sound = λ i e p. elim (get_pushed ends (k, c) i e p) as (λ _. (e.0 < suc k) × (value e.1 ≡ numbers e.0) × (pos 0 <ℤ value e.1)) [
      | inl u ↦ (let s = h.sound i e u.1 in (omega (arith, s.0), s.1, s.2))
      | inr u ↦ subst (λ (t : ℕ × C). (t.0 < suc k) × (value t.1 ≡ numbers t.0) × (pos 0 <ℤ value t.1)) u.1 (omega arith, is, above)
    ];
    complete = λ a l p. elim (next_or_below k a l) as (λ _. (i : ℕ) × (c' : C) × (slice_get (ends ++ (k, c) ∷ []) i ≡ Some (a, c'))) [
      | inl m ↦ (let s = h.complete a m p in (s.0, s.1, get_before ends (k, c) s.0 (a, s.1) s.2))
      | inr m ↦ (length ends, c, get_end ends (k, c) ∙ ap (λ (t : ℕ). Some (t, c)) (sym m))
    ];
  }

module _ (chosen : ℕ → Type 0) where
  -- nothing is listed of no vertices
  pub vertices_none : ListsVertices 0 chosen []
  vertices_none = record {
    rising = λ i j a b l p q. get_none i a p;
    sound = λ i a p. get_none i a p;
    complete = λ a l p. absurd (omega (arith, l));
  }

  -- vertices that are not chosen are passed over
  pub vertices_passed : (k n : ℕ) (ends : List ℕ) → k ≤ n → ((a : ℕ) → k ≤ a → a < n → chosen a → ⊥) → ListsVertices k chosen ends → ListsVertices n chosen ends
  vertices_passed k n ends l none h = record {
    rising = h.rising;
    sound = λ i a p. let s = h.sound i a p in (omega (arith, s.0, l), s.1);
    complete = λ a m p. h.complete a (below_of k n a m (λ o. none a o m p)) p;
  }
    where
      below_of : (k n a : ℕ) → a < n → (k ≤ a → ⊥) → a < k
      below_of k n a m never = omega (arith, never)

  -- the next vertex is listed
  pub vertices_pushed : (k : ℕ) (ends : List ℕ) → chosen k → ListsVertices k chosen ends → ListsVertices (suc k) chosen (ends ++ k ∷ [])
  vertices_pushed k ends here h = record {
    rising = λ i j a b l p q. elim (get_pushed ends k i a p) as (λ _. a < b) [
      | inl u ↦ elim (get_pushed ends k j b q) as (λ _. a < b) [
        | inl v ↦ h.rising i j a b l u.1 v.1
        | inr v ↦ (let s = h.sound i a u.1 in omega (arith, s.0, v.1))
      ]
      | inr u ↦ elim (get_pushed ends k j b q) as (λ _. a < b) [
        | inl v ↦ absurd (omega (arith, u.0, v.0, l))
        | inr v ↦ absurd (omega (arith, u.0, v.0, l))
      ]
    ];
    sound = λ i a p. elim (get_pushed ends k i a p) as (λ _. (a < suc k) × chosen a) [
      | inl u ↦ (let s = h.sound i a u.1 in (omega (arith, s.0), s.1))
      | inr u ↦ subst (λ (t : ℕ). (t < suc k) × chosen t) u.1 (omega arith, here)
    ];
    complete = λ a l p. elim (next_or_below k a l) as (λ _. (i : ℕ) × (slice_get (ends ++ k ∷ []) i ≡ Some a)) [
      | inl m ↦ (let s = h.complete a m p in (s.0, get_before ends k s.0 a s.1))
      | inr m ↦ (length ends, get_end ends k ∙ ap (λ (t : ℕ). Some t) (sym m))
    ];
  }

-- the steps of a loop over the vertices
pub numbers_more : {C : Type 0} (value : C → ℤ) (numbers : ℕ → ℤ) (k : ℕ) (c : C) (ends : List (ℕ × C)) → value c ≡ numbers k → pos 0 <ℤ value c → ListsNumbers value k numbers ends
    → ListsNumbers value (k + 1) numbers (ends ++ (k, c) ∷ [])
numbers_more value numbers k c ends is above h = subst (λ n. ListsNumbers value n numbers (ends ++ (k, c) ∷ [])) (sym (add-one k)) (numbers_pushed value numbers k c ends is above h)

pub numbers_same : {C : Type 0} (value : C → ℤ) (numbers : ℕ → ℤ) (k : ℕ) (ends : List (ℕ × C)) → numbers k ≤ℤ pos 0 → ListsNumbers value k numbers ends → ListsNumbers value (k + 1) numbers ends
numbers_same value numbers k ends low h = numbers_passed value numbers k (k + 1) ends (omega arith) (λ a l m. let same : a ≡ k = omega (arith, l, m) in subst (λ n. numbers n ≤ℤ pos 0) (sym same) low) h

pub vertices_more : (chosen : ℕ → Type 0) (k : ℕ) (ends : List ℕ) → chosen k → ListsVertices k chosen ends → ListsVertices (k + 1) chosen (ends ++ k ∷ [])
vertices_more chosen k ends here h = subst (λ n. ListsVertices n chosen (ends ++ k ∷ [])) (sym (add-one k)) (vertices_pushed chosen k ends here h)

pub vertices_same : (chosen : ℕ → Type 0) (k : ℕ) (ends : List ℕ) → (chosen k → ⊥) → ListsVertices k chosen ends → ListsVertices (k + 1) chosen ends
vertices_same chosen k ends never h = vertices_passed chosen k (k + 1) ends (omega arith) (λ a l m p. let same : a ≡ k = omega (arith, l, m) in never (subst chosen same p)) h

pub never_above : (z : ℤ) → z ≤ℤ pos 0 → pos 0 <ℤ z → ⊥
never_above z l m = absurd (omega (arith, ints, l, m))

-- the vertices of listed numbers
pub vertices_of_numbers : {C : Type 0} (value : C → ℤ) (n : ℕ) (numbers : ℕ → ℤ) (ends : List (ℕ × C)) → ListsNumbers value n numbers ends → ListsVertices n (λ a. pos 0 <ℤ numbers a) (map (λ end. end.0) ends)
vertices_of_numbers {C} value n numbers ends h = record {
  rising = λ i j a b l p q.
      let d = listed i a p in
      let e = listed j b q in
      let r = h.rising i j d.0 e.0 l d.1 e.1 in
      omega (arith, r, d.2, e.2);
  sound = λ i a p.
      let d = listed i a p in
      let s = h.sound i d.0 d.1 in
      let inside = s.0 in
      (omega (arith, inside, d.2), subst (λ a. pos 0 <ℤ numbers a) d.2 (subst (λ z. pos 0 <ℤ z) s.1 s.2));
  complete = λ a l p. let s = h.complete a l p in (s.0, slice_get-map (λ end. end.0) ends s.0 ∙ ap (option_map (λ (end : ℕ × C). end.0)) s.2);
}
  where
    from : {C : Type 0} (xs : List (ℕ × C)) (i a : ℕ) → slice_get (map (λ end. end.0) xs) i ≡ Some a → (end : ℕ × C) × (slice_get xs i ≡ Some end) × (end.0 ≡ a)
    from [] i a p = get_none i a p
    from (x ∷ xs) zero a p = (x, refl, cc)
    from (x ∷ xs) (suc i) a p = from xs i a p

    listed : (i a : ℕ) → slice_get (map (λ end. end.0) ends) i ≡ Some a → (end : ℕ × C) × (slice_get ends i ≡ Some end) × (end.0 ≡ a)
    listed i a p = from ends i a p
