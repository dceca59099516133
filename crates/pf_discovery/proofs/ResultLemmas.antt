-- Lemmas on answers that are handed on.
use Rattle.std.proofs.Common.{◌≡◌, Bool, true, false, true≢false, Err, Some, None, sym, subst}
use Rattle.std.specs.Prelude.{Option, Result, Ok, IsOkAnd, IfOk, IfErr, IfSome, MatchBool, MatchOption, MatchResult}

-- what an answer has, the answer in `Some` has
pub in_some : {T E : Type 0} (r : Result T E) (s : Result (Option T) E) → MatchResult r (λ x. IsOkAnd s (λ y. y ≡ Some x)) (λ e. s ≡ Err e) → (P : T → Type 0) (Q : Option T → Type 0) → ((x : T) → P x → Q (Some x)) → IfOk r P → IfOk s Q
in_some (Ok x) (Ok y) m P Q f h = subst Q (sym m) (f x h)
in_some (Ok x) (Err e) m P Q f h = absurd m
in_some (Err e) s m P Q f h = subst (λ t. IfOk t Q) (sym m) tt

-- an error that is handed on
pub error_kept : {T E : Type 0} (r : Result T E) (s : Result (Option T) E) → MatchResult r (λ x. IsOkAnd s (λ y. y ≡ Some x)) (λ e. s ≡ Err e) → (P : E → Type 0) → IfErr r P → IfErr s P
error_kept (Ok x) (Ok y) m P h = tt
error_kept (Ok x) (Err e) m P h = absurd m
error_kept (Err e) s m P h = subst (λ t. IfErr t P) (sym m) h

none_some : {A : Type 0} (x : A) → None ≡ Some x → ⊥
none_some x e = cc

-- what is known of a test, once it is known how it went
pub when_true : (P Q : Type 0) (b : Bool) → b ≡ true → MatchBool b P Q → P
when_true P Q true e h = h
when_true P Q false e h = absurd (true≢false (sym e))

pub when_false : (P Q : Type 0) (b : Bool) → b ≡ false → MatchBool b P Q → Q
when_false P Q true e h = absurd (true≢false e)
when_false P Q false e h = h

pub when_some : {A : Type 0} (P : Type 0) (Q : A → Type 0) (o : Option A) (x : A) → o ≡ Some x → MatchOption o P Q → Q x
when_some P Q (Some y) x e h = let f : y ≡ x = cc in subst Q f h
when_some P Q None x e h = absurd (none_some x e)

pub if_some : {A : Type 0} (Q : A → Type 0) (o : Option A) (x : A) → o ≡ Some x → IfSome o Q → Q x
if_some Q (Some y) x e h = let f : y ≡ x = cc in subst Q f h
if_some Q None x e h = absurd (none_some x e)

pub when_none : {A : Type 0} (P : Type 0) (Q : A → Type 0) (o : Option A) → o ≡ None → MatchOption o P Q → P
when_none P Q (Some y) e h = absurd (none_some y (sym e))
when_none P Q None e h = h
