-- Lemmas on answers that are handed on.
use Rattle.std.proofs.Common.{◌≡◌, sym, subst}
use Rattle.std.specs.Prelude.{Result, Ok, Err, IsOkAnd, IfOk, IfErr, MatchResult}

-- an answer that is made of another, where an error is kept
module _ {T E : Type 0} (R : T → T → Type 0) where
  pub made_so : (r s : Result T E) → MatchResult r (λ x. IsOkAnd s (λ y. R x y)) (λ e. s ≡ Err e) → (P Q : T → Type 0) (F : E → Type 0) → ((x y : T) → R x y → P x → Q y) → MatchResult r P F → IfOk s Q
  made_so (Ok x) (Ok y) m P Q F f h = f x y m h
  made_so (Ok x) (Err e) m P Q F f h = absurd m
  made_so (Err e) s m P Q F f h = subst (λ t. IfOk t Q) (sym m) tt

  pub error_kept : (r s : Result T E) → MatchResult r (λ x. IsOkAnd s (λ y. R x y)) (λ e. s ≡ Err e) → (P : T → Type 0) (F : E → Type 0) → MatchResult r P F → IfErr s F
  error_kept (Ok x) (Ok y) m P F h = tt
  error_kept (Ok x) (Err e) m P F h = absurd m
  error_kept (Err e) s m P F h = subst (λ t. IfErr t F) (sym m) h

-- a value has what another thing that it has gives
pub ok_so : {T E : Type 0} (r : Result T E) (P Q : T → Type 0) → ((x : T) → P x → Q x) → IfOk r P → IfOk r Q
ok_so (Ok x) P Q f h = f x h
ok_so (Err e) P Q f h = tt
