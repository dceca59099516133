-- What holds of a result or an option that is known.
use Rattle.std.proofs.Common.{◌≡◌, subst, Option, Some, None}
use Rattle.std.specs.Prelude.{MatchOption}

pub at_some : {X : Type 0} (P : Type 0) (Q : X → Type 0) (o : Option X) (x : X) → o ≡ Some x → MatchOption o P Q → Q x
at_some P Q o x e h = subst (λ o. MatchOption o P Q) e h

pub at_none : {X : Type 0} (P : Type 0) (Q : X → Type 0) (o : Option X) → o ≡ None → MatchOption o P Q → P
at_none P Q o e h = subst (λ o. MatchOption o P Q) e h
