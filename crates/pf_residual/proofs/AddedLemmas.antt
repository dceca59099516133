-- Tables with more at a pair.
use Rattle.std.proofs.Common.{◌≡◌, ◌≢◌, ◌∙◌, refl, sym, ap, subst, ◌<◌, ◌+ℤ◌, ℕ, ℤ, pos, arith, Bool, true, false, true≢false, eq-eqb, nat_eq}
use Rattle.std.specs.Prelude.{◌&&◌, neg_ℤ, if◌then◌else◌}
use Rattle.std.proofs.lemmas.Int.{ints}
use borrow.Author.Tests.{eqb-true}
use Rattle.pf_residual.specs.Flows.{PairTable, added}
use Rattle.pf_base.specs.Sums.{sum_to}
use Rattle.pf_residual.specs.Internal.AugmentingPaths.{amount_at}
use Rattle.pf_residual.proofs.SumLemmas.{sum_ext, sum_add, sum_only}

both_true : (p q : Bool) (x z : ℤ) → p ≡ true → q ≡ true → (if p && q then x +ℤ z else x) ≡ x +ℤ z
both_true true true x z e f = refl
both_true true false x z e f = absurd (true≢false (sym f))
both_true false q x z e f = absurd (true≢false (sym e))

not_both : (p q : Bool) (x z : ℤ) → (p ≡ true → q ≡ true → ⊥) → (if p && q then x +ℤ z else x) ≡ x
not_both true true x z h = absurd (h refl refl)
not_both true false x z h = refl
not_both false q x z h = refl

pub added_here : (t : PairTable) (u v : ℕ) (z : ℤ) → added t u v z u v ≡ t u v +ℤ z
added_here t u v z = both_true (nat_eq u u) (nat_eq v v) (t u v) z (eq-eqb u u refl) (eq-eqb v v refl)

pub added_elsewhere : (t : PairTable) (u v : ℕ) (z : ℤ) (a b : ℕ) → (a ≡ u → b ≡ v → ⊥) → added t u v z a b ≡ t a b
added_elsewhere t u v z a b h = not_both (nat_eq a u) (nat_eq b v) (t a b) z (λ e f. h (eqb-true a u e) (eqb-true b v f))

-- a number that was moved from a pair to its reverse
module _ (t : PairTable) (u v : ℕ) (z w : ℤ) (d : u ≢ v) where
  pub moved_here : added (added t u v z) v u w u v ≡ t u v +ℤ z
  moved_here = added_elsewhere (added t u v z) v u w u v (λ e f. d e) ∙ added_here t u v z

  pub moved_back : added (added t u v z) v u w v u ≡ t v u +ℤ w
  moved_back = added_here (added t u v z) v u w ∙ ap (λ x. x +ℤ w) (added_elsewhere t u v z v u (λ e f. d (sym e)))

  pub moved_elsewhere : (a b : ℕ) → (a ≡ u → b ≡ v → ⊥) → (a ≡ v → b ≡ u → ⊥) → added (added t u v z) v u w a b ≡ t a b
  moved_elsewhere a b h g = added_elsewhere (added t u v z) v u w a b g ∙ added_elsewhere t u v z a b h

  -- each pair is the one, its reverse, or neither
  pub moved_cases : (P : ℤ → ℕ → ℕ → Type 0) → P (t u v +ℤ z) u v → P (t v u +ℤ w) v u → ((a b : ℕ) → (a ≡ u → b ≡ v → ⊥) → (a ≡ v → b ≡ u → ⊥) → P (t a b) a b) → (a b : ℕ) → P (added (added t u v z) v u w a b) a b
  moved_cases P here back other a b = by (nat_eq a u) (nat_eq b v) refl refl
    where
      third : (p q : Bool) → nat_eq a v ≡ p → nat_eq b u ≡ q → (a ≡ u → b ≡ v → ⊥) → P (added (added t u v z) v u w a b) a b
      third true true e f h =
          subst (λ a. P (added (added t u v z) v u w a b) a b) (sym (eqb-true a v e))
          (subst (λ b. P (added (added t u v z) v u w v b) v b) (sym (eqb-true b u f))
          (subst (λ x. P x v u) (sym moved_back) back))
      third true false e f h = subst (λ x. P x a b) (sym (moved_elsewhere a b h (λ k l. absurd (true≢false (sym (eq-eqb b u l) ∙ f))))) (other a b h (λ k l. absurd (true≢false (sym (eq-eqb b u l) ∙ f))))
      third false q e f h = subst (λ x. P x a b) (sym (moved_elsewhere a b h (λ k l. absurd (true≢false (sym (eq-eqb a v k) ∙ e))))) (other a b h (λ k l. absurd (true≢false (sym (eq-eqb a v k) ∙ e))))

      by : (p q : Bool) → nat_eq a u ≡ p → nat_eq b v ≡ q → P (added (added t u v z) v u w a b) a b
      by true true e f =
          subst (λ a. P (added (added t u v z) v u w a b) a b) (sym (eqb-true a u e))
          (subst (λ b. P (added (added t u v z) v u w u b) u b) (sym (eqb-true b v f))
          (subst (λ x. P x u v) (sym moved_here) here))
      by true false e f = third (nat_eq a v) (nat_eq b u) refl refl (λ k l. absurd (true≢false (sym (eq-eqb b v l) ∙ f)))
      by false q e f = third (nat_eq a v) (nat_eq b u) refl refl (λ k l. absurd (true≢false (sym (eq-eqb a u k) ∙ e)))

-- the row of a vertex with an amount more at one pair
added_as_sum : (p q : Bool) (x z : ℤ) → (if p && q then x +ℤ z else x) ≡ x +ℤ (if q then (if p then z else pos 0) else pos 0)
added_as_sum true true x z = refl
added_as_sum true false x z = omega (arith, ints)
added_as_sum false true x z = omega (arith, ints)
added_as_sum false false x z = omega (arith, ints)

at_vertex : (v : ℕ) (x : ℤ) (n : ℕ) → v < n → sum_to (λ b. if nat_eq b v then x else pos 0) n ≡ x
at_vertex v x n l =
    sum_only (λ b. if nat_eq b v then x else pos 0) n v l (λ a m h. off a (nat_eq a v) refl h)
    ∙ ap (λ (q : Bool). if q then x else pos 0) (eq-eqb v v refl)
  where
    off : (a : ℕ) (q : Bool) → nat_eq a v ≡ q → a ≢ v → (if q then x else pos 0) ≡ pos 0
    off a true e h = absurd (h (eqb-true a v e))
    off a false e h = refl

pub added_row : (t : PairTable) (u v : ℕ) (z : ℤ) (n a : ℕ) → v < n → sum_to (added t u v z a) n ≡ sum_to (t a) n +ℤ amount_at u z a
added_row t u v z n a l =
    sum_ext (added t u v z a) (λ b. t a b +ℤ (if nat_eq b v then amount_at u z a else pos 0)) n (λ b m. added_as_sum (nat_eq a u) (nat_eq b v) (t a b) z)
    ∙ sum_add (t a) (λ b. if nat_eq b v then amount_at u z a else pos 0) n
    ∙ ap (λ x. sum_to (t a) n +ℤ x) (at_vertex v (amount_at u z a) n l)

amount_back : (p : Bool) (x z : ℤ) → x +ℤ (if p then neg_ℤ z else pos 0) +ℤ (if p then z else pos 0) ≡ x
amount_back true x z = omega (arith, ints)
amount_back false x z = omega (arith, ints)

-- the rows where an amount is moved on from one vertex to the next
pub moved_row : (t : PairTable) (u v : ℕ) (z : ℤ) (n a : ℕ) → u < n → v < n → sum_to (added (added t u v z) v u (neg_ℤ z) a) n +ℤ amount_at v z a ≡ sum_to (t a) n +ℤ amount_at u z a
moved_row t u v z n a l m =
    ap (λ x. x +ℤ amount_at v z a) (added_row (added t u v z) v u (neg_ℤ z) n a l ∙ ap (λ x. x +ℤ amount_at v (neg_ℤ z) a) (added_row t u v z n a m))
    ∙ amount_back (nat_eq a v) (sum_to (t a) n +ℤ amount_at u z a) z
