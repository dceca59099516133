-- How a caller shows that its function answers a step. J is what the values keep: that a call may be made at them, and what their next values need.
use Rattle.std.proofs.Common.{◌≡◌, ℕ, ℤ, zero, suc, sym, subst, Bool, true, nat_eq}
use Rattle.std.specs.Fn.{Shared, iterate}
use Rattle.std.specs.Ordering.{int_eq}
use Rattle.std.specs.Cmp.{signed_Decides}
use Rattle.std.proofs.lemmas.Cmp.{int_eq_equiv}
use borrow.Author.Tests.{eqb-true}
use Rattle.pf_base.proofs.Callers.{nat_refl}
use Rattle.pf_cycles.specs.Cycles.{AnswersStep, IsMet}

iterate_keeps : {N : Type 0} (next : N → N) (J : N → Type 0) → ((x : N) → J x → J (next x)) → (i : ℕ) (x : N) → J x → J (iterate next i x)
iterate_keeps next J keeps zero x j = j
iterate_keeps next J keeps (suc i) x j = iterate_keeps next J keeps i (next x) (keeps x j)

-- of values that are equal only to themselves
module _ {F N : Type 0} {calls : Shared F (N × Unit {0}) N} {eq : N → N → Bool} where
  pub step_by : (next : N → N) (start : N) (J : N → Type 0) {f : F} → ((x : N) → eq x x ≡ true) → ((x y : N) → eq x y ≡ true → x ≡ y)
      → J start → ((x : N) → J x → J (next x))
      → ((x : N) → J x → calls.pre f (x, tt))
      → ((x r : N) → J x → calls.post f (x, tt) r → r ≡ next x)
      → AnswersStep calls eq f (IsMet eq next start) next
  step_by next start J same one j keeps takes gives = record {
    alike = λ x y w e. subst (λ z. eq (next x) (next z) ≡ true) (one x y e) (same (next x));
    callable = λ x w. takes x (subst J (one (iterate next w.0 start) x w.1) (iterate_keeps next J keeps w.0 start j));
    answers = λ x r w p. subst (λ z. eq (next x) z ≡ true) (sym (gives x r (subst J (one (iterate next w.0 start) x w.1) (iterate_keeps next J keeps w.0 start j)) p)) (same (next x));
  }

-- of numbers
pub nat_step : {F : Type 0} {calls : Shared F (ℕ × Unit {0}) ℕ} (next : ℕ → ℕ) (start : ℕ) (J : ℕ → Type 0) {f : F}
    → J start → ((x : ℕ) → J x → J (next x))
    → ((x : ℕ) → J x → calls.pre f (x, tt))
    → ((x r : ℕ) → J x → calls.post f (x, tt) r → r ≡ next x)
    → AnswersStep calls nat_eq f (IsMet nat_eq next start) next
nat_step next start J = step_by next start J nat_refl eqb-true

-- of numbers with a sign
pub int_step : {F : Type 0} {calls : Shared F (ℤ × Unit {0}) ℤ} (next : ℤ → ℤ) (start : ℤ) (J : ℤ → Type 0) {f : F}
    → J start → ((x : ℤ) → J x → J (next x))
    → ((x : ℤ) → J x → calls.pre f (x, tt))
    → ((x r : ℤ) → J x → calls.post f (x, tt) r → r ≡ next x)
    → AnswersStep calls int_eq f (IsMet int_eq next start) next
int_step next start J = step_by next start J int_eq_equiv.refl (λ x y. (signed_Decides x y).0)
