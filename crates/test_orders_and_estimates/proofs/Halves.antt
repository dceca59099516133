-- Maps in which each parent is a lesser number.
use Rattle.std.proofs.Common.{◌≡◌, ◌<◌, ℕ, Bool, true, false, Option, Some, ◌∙◌, sym, ap, subst, refl, cond, nat_eq}
use borrow.Author.Tests.{eqb-true}
use Rattle.std.proofs.lemmas.Option.{same_Some}

abbrev pub Falls : (ℕ → Option (ℕ × ℕ)) → Type 0
Falls entry = (x parent cost : ℕ) → entry x ≡ Some (parent, cost) → parent < x

-- one entry more
pub falls_more : (old new : ℕ → Option (ℕ × ℕ)) (n half cost : ℕ) → half < n → ((q : ℕ) → new q ≡ cond (nat_eq n q) (Some (half, cost)) (old q)) → Falls old → Falls new
falls_more old new n half cost less put f x parent c e = by (nat_eq n x) refl
  where
    by : (b : Bool) → nat_eq n x ≡ b → parent < x
    by true t =
        let q : (half, cost) ≡ (parent, c) = same_Some (half, cost) (parent, c) (sym (put x ∙ ap (λ d. cond d (Some (half, cost)) (old x)) t) ∙ e) in
        subst (λ (m : ℕ). parent < m) (eqb-true n x t) (subst (λ (m : ℕ). m < n) (ap (λ (r : ℕ × ℕ). r.0) q) less)
    by false u = f x parent c (sym (put x ∙ ap (λ d. cond d (Some (half, cost)) (old x)) u) ∙ e)
