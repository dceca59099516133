-- What is found from given numbers, and from the names that they stand for.
use Rattle.std.proofs.Common.{◌≡◌, inl, inr, ℕ, zero, suc, nat_eq, refl, subst, ap, ◌∙◌, Bool, true, false, List, [], ◌∷◌, ◌++◌, take, if◌then◌else◌}
use Rattle.std.specs.Prelude.{Some, slice_get}
use Rattle.std.specs.Cmp.{IsEquivalence}
use Rattle.std.specs.List.{list_any}
use Rattle.indexmap.specs.IndexSet.{insert_all, insert_key}
use Rattle.pf_base.specs.Answers.{SameNodes}
use Rattle.pf_base.specs.Orders.{found_from, successors_of}
use Rattle.pf_base.specs.Walks.{HasNode, NoRepeats}
use Rattle.pf_base.proofs.ListLemmas.{none_in}
use Rattle.pf_edge_lists.proofs.NameWalks.{Stands, same_name, test_stands}
use Rattle.pf_name_numbers.proofs.NameReach.{Zip, zip_all}
use Rattle.pf_search.proofs.BreadthLemmas.{in_append, inserted_cases}
use borrow.Author.Tests.{eqb-true}

module _ {N : Type 0} {eq : N → N → Bool} (laws : IsEquivalence eq) (names : List N) (distinct : NoRepeats eq names) where
  abbrev Z : List ℕ → List N → Type 0
  Z = Zip laws names distinct

  pub zip_append : (ks js : List ℕ) (xs ys : List N) → Z ks xs → Z js ys → Z (ks ++ js) (xs ++ ys)
  zip_append [] js [] ys z w = w
  zip_append [] js (x ∷ xs) ys z w = absurd z
  zip_append (k ∷ ks) js [] ys z w = absurd z
  zip_append (k ∷ ks) js (x ∷ xs) ys z w = (z.0, zip_append ks js xs ys z.1 w)

  pub zip_get : (ks : List ℕ) (xs : List N) (n k : ℕ) → Z ks xs → slice_get ks n ≡ Some k → (x : N) × (slice_get xs n ≡ Some x) × Stands laws names k x
  zip_get [] [] n k z h = absurd (none_in n k h)
  zip_get [] (x ∷ xs) n k z h = absurd z
  zip_get (j ∷ ks) [] n k z h = absurd z
  zip_get (j ∷ ks) (x ∷ xs) zero k z h = let e : Some j ≡ Some k = h in let f : j ≡ k = cc in (x, refl, subst (λ (i : ℕ). Stands laws names i x) f z.0)
  zip_get (j ∷ ks) (x ∷ xs) (suc n) k z h = zip_get ks xs n k z.1 h

  pub zip_got : (ks : List ℕ) (xs : List N) (n : ℕ) (x : N) → Z ks xs → slice_get xs n ≡ Some x → (k : ℕ) × (slice_get ks n ≡ Some k) × Stands laws names k x
  zip_got [] [] n x z h = absurd (none_in n x h)
  zip_got [] (y ∷ xs) n x z h = absurd z
  zip_got (j ∷ ks) [] n x z h = absurd z
  zip_got (j ∷ ks) (y ∷ xs) zero x z h = let e : Some y ≡ Some x = h in let f : y ≡ x = cc in (j, refl, subst (Stands laws names j) f z.0)
  zip_got (j ∷ ks) (y ∷ xs) (suc n) x z h = zip_got ks xs n x z.1 h

  pub zip_take : (n : ℕ) (ks : List ℕ) (xs : List N) → Z ks xs → Z (take n ks) (take n xs)
  zip_take zero [] [] z = tt
  zip_take zero [] (x ∷ xs) z = absurd z
  zip_take zero (k ∷ ks) [] z = absurd z
  zip_take zero (k ∷ ks) (x ∷ xs) z = tt
  zip_take (suc n) [] [] z = tt
  zip_take (suc n) [] (x ∷ xs) z = absurd z
  zip_take (suc n) (k ∷ ks) [] z = absurd z
  zip_take (suc n) (k ∷ ks) (x ∷ xs) z = (z.0, zip_take n ks xs z.1)

  -- ---- sets of numbers and sets of names

  zip_any : (ks : List ℕ) (xs : List N) (k : ℕ) (x : N) → Z ks xs → Stands laws names k x → list_any (nat_eq k) ks ≡ list_any (eq x) xs
  zip_any [] [] k x z s = refl
  zip_any [] (y ∷ xs) k x z s = absurd z
  zip_any (j ∷ ks) [] k x z s = absurd z
  zip_any (j ∷ ks) (y ∷ xs) k x z s =
      let head : nat_eq k j ≡ eq x y = test_stands laws names distinct j y z.0 k x s in
      let rest = zip_any ks xs k x z.1 s in
      cc

  zip_insert : (ks : List ℕ) (xs : List N) (k : ℕ) (x : N) → Z ks xs → Stands laws names k x → Z (insert_key nat_eq ks k) (insert_key eq xs x)
  zip_insert ks xs k x z s = by (list_any (nat_eq k) ks) (list_any (eq x) xs) (zip_any ks xs k x z s)
    where
      by : (b c : Bool) → b ≡ c → Z (if b then ks else ks ++ k ∷ []) (if c then xs else xs ++ x ∷ [])
      by true true p = z
      by true false p = cc
      by false true p = cc
      by false false p = zip_append ks (k ∷ []) xs (x ∷ []) z (s, tt)

  zip_insert_all : (ks : List ℕ) (xs : List N) (js : List ℕ) (ys : List N) → Z ks xs → Z js ys → Z (insert_all nat_eq ks js) (insert_all eq xs ys)
  zip_insert_all ks xs [] [] z w = z
  zip_insert_all ks xs [] (y ∷ ys) z w = absurd w
  zip_insert_all ks xs (j ∷ js) [] z w = absurd w
  zip_insert_all ks xs (j ∷ js) (y ∷ ys) z w = zip_insert_all (insert_key nat_eq ks j) (insert_key eq xs y) js ys (zip_insert ks xs j y z w.0) w.1

  -- ---- equal lists

  -- lists of equal numbers are equal
  pub equal_numbers : (ks js : List ℕ) → SameNodes nat_eq ks js → ks ≡ js
  equal_numbers [] [] s = refl
  equal_numbers [] (j ∷ js) s = absurd s
  equal_numbers (k ∷ ks) [] s = absurd s
  equal_numbers (k ∷ ks) (j ∷ js) s = ap (λ (i : ℕ). i ∷ ks) (eqb-true k j s.0) ∙ ap (λ is. j ∷ is) (equal_numbers ks js s.1)

  -- the names of numbers are equal
  pub same_names : (ks : List ℕ) (xs ys : List N) → Z ks xs → Z ks ys → SameNodes eq xs ys
  same_names [] [] [] z w = tt
  same_names [] [] (y ∷ ys) z w = absurd w
  same_names [] (x ∷ xs) ys z w = absurd z
  same_names (k ∷ ks) [] ys z w = absurd z
  same_names (k ∷ ks) (x ∷ xs) [] z w = absurd w
  same_names (k ∷ ks) (x ∷ xs) (y ∷ ys) z w = (same_name laws names k x y z.0 w.0, same_names ks xs ys z.1 w.1)

  -- names that are one list are equal
  pub same_refl : (xs : List N) → SameNodes eq xs xs
  same_refl [] = tt
  same_refl (x ∷ xs) = (laws.refl x, same_refl xs)

  module _ (nextM : ℕ → List ℕ) (nextN : N → List N) (alike : (a : ℕ) (x : N) → Stands laws names a x → Z (nextM a) (nextN x)) where
    zip_successors : (ks : List ℕ) (xs : List N) → Z ks xs → Z (successors_of nat_eq nextM ks) (successors_of eq nextN xs)
    zip_successors [] [] z = tt
    zip_successors [] (x ∷ xs) z = absurd z
    zip_successors (k ∷ ks) [] z = absurd z
    zip_successors (k ∷ ks) (x ∷ xs) z = zip_append (nextM k) (successors_of nat_eq nextM ks) (nextN x) (successors_of eq nextN xs) (alike k x z.0) (zip_successors ks xs z.1)

    module _ (start : ℕ) (from : N) (begins : Stands laws names start from) where
      pub zip_found : (ks : List ℕ) (xs : List N) → Z ks xs → Z (found_from nat_eq nextM start ks) (found_from eq nextN from xs)
      zip_found ks xs z = zip_insert_all [] [] (start ∷ successors_of nat_eq nextM ks) (from ∷ successors_of eq nextN xs) tt (begins, zip_successors ks xs z)

      module _ (next_named : (a b : ℕ) → HasNode nat_eq (nextM a) b → (x : N) × Stands laws names b x) where
        successor_named : (ks : List ℕ) (k : ℕ) → HasNode nat_eq (successors_of nat_eq nextM ks) k → (x : N) × Stands laws names k x
        successor_named [] k h = absurd h
        successor_named (j ∷ ks) k h = elim (in_append nat_eq (nextM j) (successors_of nat_eq nextM ks) k h) as (λ _. (x : N) × Stands laws names k x) [
          | inl n ↦ next_named j k n
          | inr n ↦ successor_named ks k n
        ]

        -- each number that is found stands for a name
        pub found_named : (ks : List ℕ) (k : ℕ) → HasNode nat_eq (found_from nat_eq nextM start ks) k → (x : N) × Stands laws names k x
        found_named ks k h = elim (inserted_cases nat_eq (start ∷ successors_of nat_eq nextM ks) [] k h) as (λ _. (x : N) × Stands laws names k x) [
          | inl n ↦ absurd n
          | inr n ↦ one n
        ]
          where
            one : HasNode nat_eq (start ∷ successors_of nat_eq nextM ks) k → (x : N) × Stands laws names k x
            one (inl e) = (from, subst (λ (i : ℕ). Stands laws names i from) (eqb-true start k e) begins)
            one (inr n) = successor_named ks k n

        pub found_zip : (ks js : List ℕ) → SameNodes nat_eq js (found_from nat_eq nextM start ks) → (v : List N) × Z js v
        found_zip ks js s = zip_all laws names distinct js (λ k h. found_named ks k (subst (λ is. HasNode nat_eq is k) (equal_numbers js (found_from nat_eq nextM start ks) s) h))
