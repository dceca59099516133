-- Sums of costs that are added from both ends.
use Rattle.std.proofs.Common.{ℕ, suc, ◌<◌, ◌≡◌, ◌≢◌, refl, sym, ◌∙◌, ap, subst, arith, List, [], ◌∷◌, ◌++◌, length, get_or, inl, inr, ◌⊎◌, Bool, true, false, true≢false, Some, ℤ, pos, Ordering}
use Rattle.std.specs.Prelude.{slice_get, ◌≤ℤ◌, ◌<ℤ◌, ◌+ℤ◌, MatchBool}
use Rattle.std.specs.declared.cmp.Ordering.TheVariants.{Less, Equal, Greater}
use Rattle.std.specs.Ordering.{is_lt, int_cmp, MatchOrdering}
use Rattle.std.specs.Cmp.{IsTotalOrder}
use Rattle.std.specs.List.Sorted.{IsSorted}
use Rattle.std.proofs.lemmas.Int.{ints}
use Rattle.std.proofs.lemmas.Cmp.{int_ranked}
use Rattle.std.proofs.lemmas.List.Sorted.{sorted_far, ranks_by}
use Rattle.std.proofs.lemmas.Option.{slice_get_within, get_or_from_slice_get}
use Rattle.pf_graph.specs.Internal.Spanning.SpanningSteps.{IsTaken, values_sum}
use Rattle.pf_base.proofs.ListLemmas.{get-append, get_at_end}
use Rattle.pf_graph.proofs.Spanning.OrderLemmas.{at_most}

module _ {C : Type 0} (value : C → ℤ) where
  -- the values never fall
  pub record Rises (ws : List C) : Type 0 where
    pub up : (i j : ℕ) (x y : C) → i < j → slice_get ws i ≡ Some x → slice_get ws j ≡ Some y → value x ≤ℤ value y

  pub Rises-sorted : {cmp : C → C → Ordering} → IsTotalOrder cmp → ((x y : C) → cmp x y ≡ int_cmp (value x) (value y)) → (ws : List C) → IsSorted cmp ws → Rises ws
  Rises-sorted {cmp} total agree ws sorted = record {
    up = λ i j x y l a b.
        let far = sorted_far (λ (u v : C). is_lt (cmp u v)) (ranks_by total (λ (u : C). u)) ws sorted i j x (omega (arith, l)) (slice_get_within ws j y b) in
        let here : get_or ws i x ≡ x = get_or_from_slice_get ws i x x a in
        let there : get_or ws j x ≡ y = get_or_from_slice_get ws j y x b in
        let k = at_most total x y (subst (λ (u : C). is_lt (cmp y u) ≡ false) here (subst (λ (u : C). is_lt (cmp u (get_or ws i x)) ≡ false) there far)) in
        by (value x) (value y) (int_cmp (value x) (value y)) (int_ranked (value x) (value y) _ refl) (λ e. k (agree x y ∙ e));
  }
    where
      by : (u v : ℤ) (o : Ordering) → MatchOrdering o (u <ℤ v) (u ≡ v) (v <ℤ u) → o ≢ Greater → u ≤ℤ v
      by u v Less m n = omega (arith, ints, m)
      by u v Equal m n = omega (arith, ints, m)
      by u v Greater m n = absurd (n refl)

  pub Rises-taken : (last : Bool) (w : C) (rest ws : List C) → IsTaken last w rest ws → Rises ws → Rises rest
  Rises-taken true w rest ws e r = record { up = λ i j x y l a b. r.up i j x y l (subst (λ us. slice_get us i ≡ Some x) (sym e) (get-append rest (w ∷ []) i x a)) (subst (λ us. slice_get us j ≡ Some y) (sym e) (get-append rest (w ∷ []) j y b)) }
  Rises-taken false w rest ws e r = record { up = λ i j x y l a b. r.up (suc i) (suc j) x y (omega (arith, l)) (subst (λ us. slice_get us (suc i) ≡ Some x) (sym e) a) (subst (λ us. slice_get us (suc j) ≡ Some y) (sym e) b) }

  sum_push : (ws : List C) (w : C) → values_sum value (ws ++ w ∷ []) ≡ value w +ℤ values_sum value ws
  sum_push [] w = refl
  sum_push (v ∷ vs) w = let ih = sum_push vs w in omega (arith, ints, ih)

  pub sum_taken : (last : Bool) (w : C) (rest ws : List C) → IsTaken last w rest ws → values_sum value ws ≡ value w +ℤ values_sum value rest
  sum_taken true w rest ws e = ap (values_sum value) e ∙ sum_push rest w
  sum_taken false w rest ws e = ap (values_sum value) e

  from_zero : (ws : List C) → ((j : ℕ) (y : C) → slice_get ws j ≡ Some y → pos 0 ≤ℤ value y) → pos 0 ≤ℤ values_sum value ws
  from_zero [] h = omega (arith, ints)
  from_zero (w ∷ ws) h = let a = h 0 w refl in let b = from_zero ws (λ j y e. h (suc j) y e) in omega (arith, ints, a, b)

  to_zero : (ws : List C) → ((j : ℕ) (y : C) → slice_get ws j ≡ Some y → value y ≤ℤ pos 0) → values_sum value ws ≤ℤ pos 0
  to_zero [] h = omega (arith, ints)
  to_zero (w ∷ ws) h = let a = h 0 w refl in let b = to_zero ws (λ j y e. h (suc j) y e) in omega (arith, ints, a, b)

  int_dec : (a b : ℤ) → (a ≤ℤ b) ⊎ (b <ℤ a)
  int_dec a b = by (int_cmp a b) (int_ranked a b (int_cmp a b) refl)
    where
      by : (o : Ordering) → MatchOrdering o (a <ℤ b) (a ≡ b) (b <ℤ a) → (a ≤ℤ b) ⊎ (b <ℤ a)
      by Less m = inl (omega (arith, ints, m))
      by Equal m = inl (omega (arith, ints, m))
      by Greater m = inr m

  -- what the test for a negative sum says
  pub below_zero : (x z : ℤ) (r : Bool) → r ≡ is_lt (int_cmp x z) → MatchBool r (x <ℤ z) (z ≤ℤ x)
  below_zero x z r h = by r (int_cmp x z) (int_ranked x z (int_cmp x z) refl) h
    where
      by : (r : Bool) (o : Ordering) → MatchOrdering o (x <ℤ z) (x ≡ z) (z <ℤ x) → r ≡ is_lt o → MatchBool r (x <ℤ z) (z ≤ℤ x)
      by true Less m e = m
      by true Equal m e = absurd (true≢false e)
      by true Greater m e = absurd (true≢false e)
      by false Less m e = absurd (true≢false (sym e))
      by false Equal m e = omega (arith, ints, m)
      by false Greater m e = omega (arith, ints, m)

  -- a sum on the way that does not fit: the whole sum does not fit
  pub past_range : (fits : ℤ → Type 0) (between : (x y z : ℤ) → fits x → fits z → x ≤ℤ y → y ≤ℤ z → fits y) (last : Bool) (w : C) (rest ws : List C) (sum whole : ℤ)
      → IsTaken last w rest ws → Rises ws → MatchBool last (sum <ℤ pos 0) (pos 0 ≤ℤ sum) → fits sum → fits (value w) → (sum +ℤ values_sum value ws) ≡ whole → ¬ (fits (sum +ℤ value w)) → ¬ (fits whole)
  past_range fits between true w rest ws sum whole e r low fits_sum fits_w is past fits_whole = elim (int_dec (pos 0) (value w)) [
    | inl h ↦ past (between sum (sum +ℤ value w) (value w) fits_sum fits_w (omega (arith, ints, h)) (omega (arith, ints, low)))
    | inr h ↦
        let all = to_zero rest (λ j y a.
        let up = r.up j (length rest) y w (slice_get_within rest j y a) (subst (λ us. slice_get us j ≡ Some y) (sym e) (get-append rest (w ∷ []) j y a)) (subst (λ us. slice_get us (length rest) ≡ Some w) (sym e) (get_at_end rest w)) in
        omega (arith, ints, up, h)) in
        let parts = sum_taken true w rest ws e in
        past (between whole (sum +ℤ value w) sum fits_whole fits_sum (omega (arith, ints, all, parts, is)) (omega (arith, ints, h)))
  ]
  past_range fits between false w rest ws sum whole e r high fits_sum fits_w is past fits_whole = elim (int_dec (pos 0) (value w)) [
    | inl h ↦
        let all = from_zero rest (λ j y a.
        let up = r.up 0 (suc j) w y (omega arith) (subst (λ us. slice_get us 0 ≡ Some w) (sym e) refl) (subst (λ us. slice_get us (suc j) ≡ Some y) (sym e) a) in
        omega (arith, ints, up, h)) in
        let parts = sum_taken false w rest ws e in
        past (between sum (sum +ℤ value w) whole fits_sum fits_whole (omega (arith, ints, h)) (omega (arith, ints, all, parts, is)))
    | inr h ↦ past (between (value w) (sum +ℤ value w) sum fits_w fits_sum (omega (arith, ints, high)) (omega (arith, ints, h)))
  ]
