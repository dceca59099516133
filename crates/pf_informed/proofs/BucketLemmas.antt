-- A queue whose entries of the least sum stand in a bucket.
use Rattle.std.proofs.Common.{◌≡◌, ◌∙◌, refl, length, sym, ap, subst, arith, Bool, true, false, true≢false, List, [], ◌∷◌, ◌++◌, ℤ, Option, Some, None, inl, inr}
use Rattle.std.specs.Prelude.{Contains, IsPermutation, IfSome, MatchOption, ◌≤ℤ◌, ◌+◌, ◌⊎◌}
use Rattle.std.proofs.lemmas.Int.{ints}
use Rattle.std.proofs.lemmas.List.{append_assoc}
use Rattle.std.proofs.lemmas.List.Elements.{Contains-append_left, Contains-append_right, Contains-append_cases}
use Rattle.std.proofs.lemmas.List.Sorted.{Contains-permutation, IsPermutation-sym, IsPermutation-trans, IsPermutation-refl, IsPermutation-append_comm, IsPermutation-append_left, IsPermutation-append_right, length_permutation}
use Rattle.pf_base.proofs.ListLemmas.{Contains-head, Contains-tail, Contains-cases, Contains-append_one}
use Rattle.pf_informed.specs.Internal.Waiting.{Entry, IsBucket, IsTakenOut}

module _ {X : Type 0} where
  -- one is put at the end of the first of two lists
  pub put_between : (xs ys : List X) (x : X) → IsPermutation (x ∷ (xs ++ ys)) ((xs ++ x ∷ []) ++ ys)
  put_between xs ys x = IsPermutation-append_left ys (x ∷ xs) (xs ++ x ∷ []) (IsPermutation-append_comm (x ∷ []) xs)

  -- one is put into the second of two lists
  pub put_behind : (xs ys zs : List X) (x : X) → IsPermutation (x ∷ ys) zs → IsPermutation (x ∷ (xs ++ ys)) (xs ++ zs)
  put_behind xs ys zs x p = IsPermutation-trans (x ∷ (xs ++ ys)) (xs ++ (x ∷ ys)) (xs ++ zs) (subst (IsPermutation (x ∷ (xs ++ ys))) (append_assoc xs (x ∷ []) ys) (put_between xs ys x)) (IsPermutation-append_right xs (x ∷ ys) zs p)

  -- one is moved from the second of two lists to the end of the first
  pub moved_over : (xs ys zs : List X) (x : X) → IsPermutation ys (x ∷ zs) → IsPermutation (xs ++ ys) ((xs ++ x ∷ []) ++ zs)
  moved_over xs ys zs x p = subst (IsPermutation (xs ++ ys)) (sym (append_assoc xs (x ∷ []) zs)) (IsPermutation-append_right xs ys (x ∷ zs) p)

  -- one is taken out of the second of two lists
  pub taken_behind : (xs ys zs : List X) (x : X) → IsPermutation ys (x ∷ zs) → IsPermutation (xs ++ ys) (x ∷ (xs ++ zs))
  taken_behind xs ys zs x p = IsPermutation-trans (xs ++ ys) (xs ++ (x ∷ zs)) (x ∷ (xs ++ zs)) (IsPermutation-append_right xs ys (x ∷ zs) p) (IsPermutation-sym _ _ (put_behind xs zs (x ∷ zs) x (IsPermutation-refl (x ∷ zs))))

  -- the last of the first list is taken out
  pub taken_last : (xs rest ys : List X) (x : X) → xs ≡ rest ++ x ∷ [] → IsPermutation (xs ++ ys) (x ∷ (rest ++ ys))
  taken_last xs rest ys x is = subst (λ (zs : List X). IsPermutation (zs ++ ys) (x ∷ (rest ++ ys))) (sym is) (IsPermutation-sym _ _ (put_between rest ys x))

  empty_of : (xs : List X) → 0 ≡ length xs → xs ≡ []
  empty_of [] e = refl
  empty_of (x ∷ xs) e = absurd (omega (arith, e))

  -- what is empty in another order was so before
  pub none_before : (xs ys : List X) → IsPermutation xs ys → ys ≡ [] → xs ≡ []
  none_before xs ys p none = empty_of xs (sym (ap length none) ∙ length_permutation xs ys p)

-- what comes first is taken out of a queue of costs, once it is known
pub taken_first : {C : Type 0} (before items rest : List (Entry C)) (front : Option (Entry C)) (e : Entry C) → IsPermutation before items → IfSome front (λ f. items ≡ f ∷ rest) → front ≡ Some e → IsPermutation before (e ∷ rest)
taken_first before items rest front e p is at = subst (IsPermutation before) (subst (λ (o : Option (Entry _)). IfSome o (λ f. items ≡ f ∷ rest)) at is) p

module _ {C : Type 0} (value : C → ℤ) where
  -- what holds of no less a sum holds of what is left
  pub least_left : (items rest : List (Entry C)) (e : Entry C) → IsPermutation items (e ∷ rest) → ((f : Entry C) → Contains items f → value e.0 ≤ℤ value f.0) → (f : Entry C) → Contains rest f → value e.0 ≤ℤ value f.0
  least_left items rest e p low f h = low f (Contains-permutation (e ∷ rest) items f (IsPermutation-sym _ _ p) (Contains-tail rest e f h))

  module _ (bucket later : List (Entry C)) (sum : C) (is_below : Bool) (b : IsBucket value bucket later sum is_below) where
    pub bucket_more : (e : Entry C) (bucket' : List (Entry C)) → bucket' ≡ bucket ++ e ∷ [] → value e.0 ≡ value sum → IsBucket value bucket' later sum is_below
    bucket_more e bucket' is same = record {
      alike = λ f h. elim (Contains-append_one bucket e f (subst (λ (es : List (Entry C)). Contains es f) is h)) as (λ _. value f.0 ≡ value sum) [ inl i ↦ b.alike f i | inr s ↦ ap (λ (x : Entry C). value x.0) (sym s) ∙ same ];
      above = b.above;
    }

    pub bucket_before : (e : Entry C) (later' : List (Entry C)) → IsPermutation (e ∷ later) later' → value sum ≤ℤ value e.0 → IsBucket value bucket later' sum is_below
    bucket_before e later' p low = record {
      alike = b.alike;
      above = λ none f h. elim (Contains-cases later e f (Contains-permutation later' (e ∷ later) f (IsPermutation-sym _ _ p) h)) as (λ _. value sum ≤ℤ value f.0) [
        | inl s ↦ subst (λ (x : Entry C). value sum ≤ℤ value x.0) s low
        | inr i ↦ b.above none f i
      ];
    }

    pub bucket_shorter : (e : Entry C) (bucket' : List (Entry C)) → bucket ≡ bucket' ++ e ∷ [] → IsBucket value bucket' later sum is_below
    bucket_shorter e bucket' is = record {
      alike = λ f h. b.alike f (subst (λ (es : List (Entry C)). Contains es f) (sym is) (Contains-append_left bucket' (e ∷ []) f h));
      above = b.above;
    }

    pub bucket_below : (later' : List (Entry C)) → IsBucket value bucket later' sum true
    bucket_below later' = record { alike = b.alike; above = λ none. absurd (true≢false none) }

  -- ---- an entry is taken out
  module _ (e : Entry C) (bucket later bucket' later' : List (Entry C)) (sum : C) where
    -- of the bucket
    pub out_of_bucket : bucket ≡ bucket' ++ e ∷ [] → ((f : Entry C) → Contains bucket f → value f.0 ≡ value sum) → ((f : Entry C) → Contains later f → value sum ≤ℤ value f.0) → IsTakenOut value e bucket later bucket' later
    out_of_bucket is alike above =
        let before : (f : Entry C) → Contains bucket' f → Contains bucket f = λ f h. subst (λ (es : List (Entry C)). Contains es f) (sym is) (Contains-append_left bucket' (e ∷ []) f h) in
        let own = alike e (subst (λ (es : List (Entry C)). Contains es e) (sym is) (Contains-append_right bucket' (e ∷ []) e (Contains-head [] e))) in
        record {
          moved = taken_last bucket bucket' later e is;
          least = λ f h. elim (Contains-append_cases bucket' later f h) as (λ _. value e.0 ≤ℤ value f.0) [
            | inl i ↦ omega (arith, ints, own, alike f (before f i))
            | inr i ↦ omega (arith, ints, own, above f i)
          ];
          kept = before;
          behind = λ f h. h;
        }

    -- of the others, where no entry of the bucket has a lesser sum
    pub out_of_later : IsPermutation later (e ∷ later') → ((f : Entry C) → Contains later' f → value e.0 ≤ℤ value f.0) → ((f : Entry C) → Contains bucket f → value e.0 ≤ℤ value f.0) → IsTakenOut value e bucket later bucket later'
    out_of_later p low alike = record {
      moved = taken_behind bucket later later' e p;
      least = λ f h. elim (Contains-append_cases bucket later' f h) as (λ _. value e.0 ≤ℤ value f.0) [ inl i ↦ alike f i | inr i ↦ low f i ];
      kept = λ f h. h;
      behind = λ f h. Contains-permutation (e ∷ later') later f (IsPermutation-sym _ _ p) (Contains-tail later' e f h);
    }

    -- the others stood in another order before
    pub out_of_order : (first : List (Entry C)) → IsPermutation first later → IsTakenOut value e bucket later bucket' later' → IsTakenOut value e bucket first bucket' later'
    out_of_order first p t = record {
      moved = IsPermutation-trans _ _ _ (IsPermutation-append_right bucket first later p) t.moved;
      least = t.least;
      kept = t.kept;
      behind = λ f h. Contains-permutation later first f (IsPermutation-sym _ _ p) (t.behind f h);
    }

    pub bucket_after : (is_below : Bool) → IsTakenOut value e bucket later bucket' later' → IsBucket value bucket later sum is_below → IsBucket value bucket' later' sum is_below
    bucket_after is_below t b = record { alike = λ f h. b.alike f (t.kept f h); above = λ none f h. b.above none f (t.behind f h) }

  -- the bucket is empty, and one of the others is taken out, if there is one
  later_or_none : (r : Option (Entry C)) (later later' : List (Entry C)) (sum : C) → MatchOption r ((later ≡ []) × (later' ≡ [])) (λ e. IsPermutation later (e ∷ later') × ((f : Entry C) → Contains later' f → value e.0 ≤ℤ value f.0))
      → MatchOption r (([] ++ later ≡ []) × ([] ++ later' ≡ [])) (λ e. IsTakenOut value e [] later [] later')
  later_or_none None later later' sum h = h
  later_or_none (Some e) later later' sum h = out_of_later e [] later [] later' sum h.0 h.1 (λ f i. absurd (omega (arith, i.1)))

  pub later_taken : (bucket bucket' later later' : List (Entry C)) (sum : C) (r : Option (Entry C)) → bucket ≡ [] → bucket' ≡ [] → MatchOption r ((later ≡ []) × (later' ≡ [])) (λ e. IsPermutation later (e ∷ later') × ((f : Entry C) → Contains later' f → value e.0 ≤ℤ value f.0))
      → MatchOption r ((bucket ++ later ≡ []) × (bucket' ++ later' ≡ [])) (λ e. IsTakenOut value e bucket later bucket' later')
  later_taken bucket bucket' later later' sum r was now h = rw (was, now) (later_or_none r later later' sum h)

  -- what is taken out, where the others stood in another order before
  pub either_order : (r : Option (Entry C)) (bucket first later bucket' later' : List (Entry C)) (sum : C) → IsPermutation first later → MatchOption r ((bucket ++ later ≡ []) × (bucket' ++ later' ≡ [])) (λ e. IsTakenOut value e bucket later bucket' later')
      → MatchOption r ((bucket ++ first ≡ []) × (bucket' ++ later' ≡ [])) (λ e. IsTakenOut value e bucket first bucket' later')
  either_order None bucket first later bucket' later' sum p h = (none_before (bucket ++ first) (bucket ++ later) (IsPermutation-append_right bucket first later p) h.0, h.1)
  either_order (Some e) bucket first later bucket' later' sum p h = out_of_order e bucket later bucket' later' sum first p h

  -- an empty bucket is filled
  pub bucket_filled : (bucket bucket' ordered later : List (Entry C)) (sum : C) → bucket ≡ [] → ((f : Entry C) → Contains bucket' f → Contains bucket f ⊎ (value f.0 ≡ value sum)) → IsPermutation bucket' ordered → ((f : Entry C) → Contains later f → value sum ≤ℤ value f.0)
      → IsBucket value ordered later sum false
  bucket_filled bucket bucket' ordered later sum none from p above = record {
    alike = λ f h. elim (from f (Contains-permutation ordered bucket' f (IsPermutation-sym _ _ p) h)) as (λ _. value f.0 ≡ value sum) [
      | inl i ↦ let gone = subst (λ (es : List (Entry C)). Contains es f) none i in absurd (omega (arith, gone.1))
      | inr e ↦ e
    ];
    above = λ _. above;
  }

  -- the entries in another order
  pub bucket_permuted : (bucket later later' : List (Entry C)) (sum : C) (is_below : Bool) → IsPermutation later later' → IsBucket value bucket later sum is_below → IsBucket value bucket later' sum is_below
  bucket_permuted bucket later later' sum is_below p b = record { alike = b.alike; above = λ none f h. b.above none f (Contains-permutation later' later f (IsPermutation-sym _ _ p) h) }

  -- what is taken out, where the entries stood in another order before
  pub first_taken : (before bucket later bucket' later' : List (Entry C)) (r : Option (Entry C)) → IsPermutation before (bucket ++ later) → MatchOption r ((bucket ++ later ≡ []) × (bucket' ++ later' ≡ [])) (λ e. IsTakenOut value e bucket later bucket' later')
      → MatchOption r ((before ≡ []) × (bucket' ++ later' ≡ [])) (λ e. IsPermutation before (e ∷ (bucket' ++ later')) × (length (bucket' ++ later') + 1 ≡ length before))
  first_taken before bucket later bucket' later' None p h = (none_before before (bucket ++ later) p h.0, h.1)
  first_taken before bucket later bucket' later' (Some e) p h =
      let moved = IsPermutation-trans before (bucket ++ later) (e ∷ (bucket' ++ later')) p h.moved in
      (moved, omega (arith, length_permutation before (e ∷ (bucket' ++ later')) moved))

  -- the bucket stays one
  pub bucket_still : (bucket later bucket' later' : List (Entry C)) (sum : C) (is_below : Bool) (r : Option (Entry C)) → MatchOption r ((bucket ++ later ≡ []) × (bucket' ++ later' ≡ [])) (λ e. IsTakenOut value e bucket later bucket' later')
      → IsBucket value bucket later sum is_below → IsBucket value bucket' later' sum is_below
  bucket_still bucket later bucket' later' sum is_below None h b = record {
    alike = λ f i. let gone = subst (λ (es : List (Entry C)). Contains es f) h.1 (Contains-append_left bucket' later' f i) in absurd (omega (arith, gone.1));
    above = λ _ f i. let gone = subst (λ (es : List (Entry C)). Contains es f) h.1 (Contains-append_right bucket' later' f i) in absurd (omega (arith, gone.1));
  }
  bucket_still bucket later bucket' later' sum is_below (Some e) h b = bucket_after e bucket later bucket' later' sum is_below h b
