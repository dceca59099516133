-- Counts of steps that fit.
use Rattle.std.proofs.Common.{ℕ, ◌≡◌, ◌<◌, ◌≤◌, ◌^◌, refl, sym, subst, arith, Option, Some, None}
use Rattle.std.specs.Prelude.{Result, IfOk, IfErr, SomeIff}
use Rattle.std.specs.Option.{ok_or}

-- a count that fits, or the error that is put in its place
pub fits_or : {E : Type 0} (o : Option ℕ) (n : ℕ) (e : E) (r : Result ℕ E) → SomeIff o (n < 2 ^ 64) n → r ≡ ok_or o e → IfOk r (λ m. m ≡ n) × IfErr r (λ f. (f ≡ e) × (2 ^ 64 ≤ n))
fits_or (Some x) n e r s h = subst (λ q. IfOk q (λ m. m ≡ n) × IfErr q (λ f. (f ≡ e) × (2 ^ 64 ≤ n))) (sym h) (s.1, tt)
fits_or None n e r s h = subst (λ q. IfOk q (λ m. m ≡ n) × IfErr q (λ f. (f ≡ e) × (2 ^ 64 ≤ n))) (sym h) (tt, (refl, omega (arith, s)))
