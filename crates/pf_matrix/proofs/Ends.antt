-- An iterator that shows the list of what is left: an item leaves one fewer, and at the end nothing is left.
use Rattle.std.proofs.Common.{◌≡◌, ◌<◌, refl, arith, List, [], ◌∷◌, length, Some}
use Rattle.std.specs.Prelude.{Result, Ok, Err, IfOk, IfErr, MatchResult}
use Rattle.std.specs.List.{zip}
use Rattle.std.specs.Iterator.{MakesProgress, item_count}

module _ {S A B : Type 0} {can : S → Type 0} (rest : S → List B) where
  pub progress_one : (s t : S) (x : A) → can t → length (rest t) < length (rest s) → MakesProgress can (item_count {A = B} rest) s (Some x) t
  progress_one s t x c h = record { on = λ f. (c, f, h); keeps = c; rests = λ f. tt }

pub match_result : {A E : Type 0} (P : A → Type 0) (Q : E → Type 0) (r : Result A E) → IfOk r P → IfErr r Q → MatchResult r P Q
match_result P Q (Ok x) p q = p
match_result P Q (Err e) p q = q

pub zip_none : {K X : Type 0} (ks : List K) (xs : List X) → length xs ≡ 0 → zip ks xs ≡ []
zip_none [] xs e = refl
zip_none (k ∷ ks) [] e = refl
zip_none (k ∷ ks) (x ∷ xs) e = absurd (omega (arith, e))
