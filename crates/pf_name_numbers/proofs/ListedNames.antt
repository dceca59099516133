-- The names of a list alone, and their numbers.
use Rattle.std.proofs.Common.{◌≡◌, inl, inr, ℕ, zero, suc, ◌+◌, ◌<◌, ◌≤◌, nat_eq, eq-eqb, sym, subst, arith, Bool, List, [], ◌∷◌, ◌++◌, length, slice_get, ap, ◌∙◌}
use Rattle.std.specs.Cmp.{IsEquivalence}
use Rattle.std.specs.List.{AllZip, cons_option, filter_map, range_with_len}
use Rattle.pf_base.specs.Walks.{HasNode, NoRepeats}
use Rattle.pf_base.proofs.ListLemmas.{get_within, nat_dec}
use Rattle.pf_core.specs.NodeLaws.{StandsFor-inside}
use Rattle.pf_edge_lists.specs.EdgeLists.{NamesAndEdges, mentions_of, names_of}
use Rattle.pf_edge_lists.proofs.NameWalks.{Stands}
use Rattle.pf_edge_lists.proofs.NumberedNames.{any_of_node, has_at, names_apart, names_are_mentions, number_stands}
use Rattle.pf_base.specs.Places.{number_of}
use Rattle.pf_name_numbers.proofs.NameReach.{SameStarts}
use borrow.Author.Tests.{eqb-true}

-- the numbers from a on
in_from : (a n k : ℕ) → a ≤ k → k < a + n → HasNode nat_eq (range_with_len a n) k
in_from a zero k l h = absurd (omega (arith, h, l))
in_from a (suc n) k l h = elim (nat_dec a k) as (λ _. HasNode nat_eq (range_with_len a (suc n)) k) [
  | inl e ↦ inl (eq-eqb a k e)
  | inr e ↦ inr (in_from (a + 1) n k (omega (arith, l, e)) (omega (arith, h)))
]

from_within : (a n k : ℕ) → HasNode nat_eq (range_with_len a n) k → k < a + n
from_within a zero k h = absurd h
from_within a (suc n) k (inl e) = let s = eqb-true a k e in omega (arith, s)
from_within a (suc n) k (inr h) = let l = from_within (a + 1) n k h in omega (arith, l)

pub in_range : (n k : ℕ) → k < n → HasNode nat_eq (range_with_len 0 n) k
in_range n k h = in_from 0 n k (omega arith) (omega (arith, h))

pub range_within : (n k : ℕ) → HasNode nat_eq (range_with_len 0 n) k → k < n
range_within n k h = let l = from_within 0 n k h in omega (arith, l)

-- one number more
pushed : (a n m : ℕ) → m ≡ a + n → range_with_len a (suc n) ≡ range_with_len a n ++ m ∷ []
pushed a zero m e = ap (λ (x : ℕ). x ∷ []) (let f : a ≡ m = omega (arith, e) in f)
pushed a (suc n) m e = ap (λ xs. a ∷ xs) (pushed (a + 1) n m (omega (arith, e)))

pub range_pushed : (n : ℕ) → range_with_len 0 (n + 1) ≡ range_with_len 0 n ++ n ∷ []
range_pushed n = ap (range_with_len 0) (let f : n + 1 ≡ suc n = omega arith in f) ∙ pushed 0 n n (omega arith)

pub range_apart : (a n : ℕ) → NoRepeats nat_eq (range_with_len a n)
range_apart a zero = tt
range_apart a (suc n) = ((λ h. below (a + 1) n a (omega arith) h), range_apart (a + 1) n)
  where
    below : (b m k : ℕ) → k < b → HasNode nat_eq (range_with_len b m) k → ⊥
    below b zero k l h = h
    below b (suc m) k l (inl e) = let s = eqb-true b k e in absurd (omega (arith, l, s))
    below b (suc m) k l (inr h) = below (b + 1) m k (omega (arith, l)) h

module _ {N C : Type 0} {eq : N → N → Bool} (laws : IsEquivalence eq) (list : NamesAndEdges N C) where
  abbrev pub Listed : ℕ → N → Type 0
  Listed = Stands laws (names_of eq list)

  -- a number below the number of names stands for a name
  pub listed_at : (k : ℕ) → k < length (names_of eq list) → (x : N) × Listed k x
  listed_at k h = let m = get_within (names_of eq list) k h in (m.0, (m.0, m.1, laws.refl m.0))

  -- the names of numbers that stand for names
  pub zip_listed : (ks : List ℕ) (xs : List N) → AllZip Listed ks xs → AllZip Listed ks (filter_map (slice_get (names_of eq list)) ks)
  zip_listed [] [] z = tt
  zip_listed [] (x ∷ xs) z = absurd z
  zip_listed (k ∷ ks) [] z = absurd z
  zip_listed (k ∷ ks) (x ∷ xs) z = subst (λ o. AllZip Listed (k ∷ ks) (cons_option o (filter_map (slice_get (names_of eq list)) ks))) (sym z.0.1) ((z.0.0, z.0.1, laws.refl z.0.0), zip_listed ks xs z.1)

  pub listed_inside : (k : ℕ) (x : N) → Listed k x → k < length (names_of eq list)
  listed_inside k x s = StandsFor-inside eq (names_of eq list) k x s

  -- what a number stands for is mentioned
  pub listed_mention : (a : ℕ) (x : N) → Listed a x → HasNode eq (mentions_of list) x
  listed_mention a x s = (names_are_mentions laws list x).0 (has_at laws (names_of eq list) a s.0 x s.1 s.2)

  -- all numbers are those of the names that are mentioned
  pub all_starts : SameStarts laws (names_of eq list) (names_apart laws list) (range_with_len 0 (length (names_of eq list))) (mentions_of list)
  all_starts = record {
    out = λ a x s h. listed_mention a x s;
    back = λ x h.
        let m = number_stands laws (names_of eq list) x (any_of_node laws (names_of eq list) x ((names_are_mentions laws list x).1 h)) in
        let s : Listed (number_of eq (names_of eq list) x) x = m in
        (number_of eq (names_of eq list) x, s, in_range (length (names_of eq list)) (number_of eq (names_of eq list) x) (StandsFor-inside eq (names_of eq list) (number_of eq (names_of eq list) x) x s));
    inside = λ a x s h. in_range (length (names_of eq list)) a (StandsFor-inside eq (names_of eq list) a x s);
    named = λ a h. listed_at a (range_within (length (names_of eq list)) a h);
  }
