-- What a call hands on of a refusal.
use Rattle.std.proofs.Common.{◌≡◌, ◌∙◌, refl, sym, ap, subst, inl, inr}
use Rattle.std.proofs.lemmas.Bool.{false≢true}
use Rattle.std.specs.Prelude.{Result, Ok, Err, IfOk, IfErr, IsErr, OnErr, OnOk, IsErrAnd, ◌⊎◌}
use Rattle.pf_base.specs.declared.error.PathError.{PathError}
use Rattle.pf_base.specs.declared.error.PathError.TheVariants.{OutOfMemory, CostOverflow, UnknownVertex}

module _ {T E : Type 0} where
  -- what the error has that `?` hands on
  pub refused_as : (P : E → Type 0) (r : Result T E) (e : E) → IsErrAnd r (λ x. x ≡ e) → P e → IfErr r P
  refused_as P (Ok x) e h p = absurd h
  refused_as P (Err x) e h p = subst P (sym h) p

  pub refused_by : (P : E → Type 0) (r : Result T E) → IsErrAnd r P → IfErr r P
  refused_by P (Ok x) h = tt
  refused_by P (Err x) h = h

  -- why a call is refused, from why the call in it was
  pub refused_for : (Q P : E → Type 0) (r : Result T E) → ((e : E) → Q e → P e) → IsErrAnd r Q → IfErr r P
  refused_for Q P (Ok x) h k = tt
  refused_for Q P (Err e) h k = h e k

  -- a refusal owes nothing of what an answer owes
  pub on_refused : (P : Type 0) (r : Result T E) (e : E) → IsErrAnd r (λ x. x ≡ e) → OnOk r P
  on_refused P (Ok x) e h = absurd h
  on_refused P (Err x) e h = tt

  pub on_failed : (P : Type 0) (r : Result T E) → IsErr r → OnOk r P
  on_failed P (Ok x) h = absurd (false≢true h)
  on_failed P (Err e) h = tt

  pub if_refused : (P : T → Type 0) (r : Result T E) (e : E) → IsErrAnd r (λ x. x ≡ e) → IfOk r P
  if_refused P (Ok x) e h = absurd h
  if_refused P (Err x) e h = tt

  -- what holds whatever the result is
  pub on_err : {P : Type 0} (r : Result T E) → P → OnErr r P
  on_err (Ok x) p = tt
  on_err (Err x) p = p

  pub on_any : {P : Type 0} (r : Result T E) → P → OnOk r P
  on_any (Ok x) p = p
  on_any (Err e) p = tt

  -- an answer is no refusal
  pub ok_not_err : {x : T} {e : E} → Ok x ≡ Err e → ⊥
  ok_not_err h = cc

  pub ok_is_no_error : (r : Result T E) (x : T) (e : E) → r ≡ Ok x → r ≡ Err e → ⊥
  ok_is_no_error r x e p q = ok_not_err (sym p ∙ q)

  pub no_refusal : (r : Result T E) (e : E) → r ≡ Err e → IfErr r (λ x. ⊥) → ⊥
  no_refusal r e h p = rw h at p

  -- the error that `?` hands on is the one that came
  pub is_error : (r : Result T E) (e : E) → IsErrAnd r (λ x. x ≡ e) → r ≡ Err e
  is_error (Ok x) e h = absurd h
  is_error (Err x) e h = ap Err h

  pub error_of : (r : Result T E) (e f : E) → IsErrAnd r (λ x. x ≡ e) → r ≡ Err f → e ≡ f
  error_of (Ok x) e f h q = absurd h
  error_of (Err x) e f h q = let same : x ≡ e = h in cc

  -- what stays where a call is refused, beside what it is refused for
  pub refused_still : (P : Type 0) (Q : E → Type 0) (r : Result T E) → IfErr r Q → OnErr r P → IfErr r (λ e. Q e × P)
  refused_still P Q (Ok x) h p = tt
  refused_still P Q (Err x) h p = (h, p)

pub on_ok : {A E : Type 0} {P Q : Type 0} (r : Result A E) → OnOk r P → (P → Q) → OnOk r Q
on_ok (Ok x) h f = f h
on_ok (Err e) h f = tt

pub ok_or_err : {A E P Q : Type 0} (r : Result A E) → OnOk r P → OnErr r Q → P ⊎ Q
ok_or_err (Ok x) p q = inl p
ok_or_err (Err e) p q = inr q

-- the errors of a call that hands on those of another
pub same_errors : {S T E : Type 0} (P : E → Type 0) (r : Result S E) (q : Result T E) → ((e : E) → r ≡ Err e → q ≡ Err e) → IfErr q P → IfErr r P
same_errors P (Ok x) q h p = tt
same_errors P (Err e) q h p = rw (h e refl) at p

module _ {T : Type 0} where
  -- a refusal of memory
  pub no_memory : (r : Result T PathError) → IsErrAnd r (λ e. e ≡ OutOfMemory) → IfErr r (λ e. e ≡ OutOfMemory)
  no_memory r h = refused_by _ r h

  pub no_memory_or : (P : PathError → Type 0) (r : Result T PathError) → IsErrAnd r (λ e. e ≡ OutOfMemory) → IfErr r (λ e. (e ≡ OutOfMemory) ⊎ P e)
  no_memory_or P r h = refused_as (λ e. (e ≡ OutOfMemory) ⊎ P e) r OutOfMemory h (inl refl)

  -- an overflow that `?` hands on
  pub overflow_kept : (r : Result T PathError) (e : PathError) → IsErrAnd r (λ x. x ≡ e) → r ≡ Err CostOverflow → e ≡ CostOverflow
  overflow_kept r e h q = error_of r e CostOverflow h q

  -- a refusal for memory is not one for a cost
  pub no_overflow : (r : Result T PathError) (e : PathError) → IsErrAnd r (λ x. x ≡ e) → e ≡ OutOfMemory → r ≡ Err CostOverflow → ⊥
  no_overflow r e h p q =
      let both : OutOfMemory ≡ CostOverflow = sym p ∙ error_of r e CostOverflow h q in
      cc

  pub memory_no_overflow : (r : Result T PathError) → IsErrAnd r (λ e. e ≡ OutOfMemory) → r ≡ Err CostOverflow → ⊥
  memory_no_overflow r h q = no_overflow r OutOfMemory h refl q

  -- a refusal for want of memory says of no node that it is unknown
  pub none_unknown : (r : Result T PathError) → IsErrAnd r (λ x. x ≡ OutOfMemory) → r ≡ Err UnknownVertex → ⊥
  none_unknown r h q =
      let same : OutOfMemory ≡ UnknownVertex = error_of r OutOfMemory UnknownVertex h q in
      cc
