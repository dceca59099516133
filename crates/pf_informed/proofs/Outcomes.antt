-- What an answer gives, and what there being none gives.
use Rattle.std.proofs.Common.{◌≡◌, false, inl, inr, List, sym, subst}
use Rattle.std.specs.Prelude.{Result, Ok, Err, Option, Some, None, IfOk, IfErr, MatchOption, if◌then◌else◌, ◌⊎◌}
use Rattle.std.specs.Result.{is_ok, is_err}
use Rattle.pf_base.specs.declared.error.PathError.{PathError}
use Rattle.pf_base.specs.declared.error.PathError.TheVariants.{OutOfMemory, CostOverflow}

pub answer_or_none : {X E : Type 0} (A B : Type 0) (P Q : X → Type 0) (r : Result (Option X) E) → (A → B) → ((x : X) → P x → Q x) → IfOk r (λ o. MatchOption o A P) → IfOk r (λ o. MatchOption o B Q)
answer_or_none A B P Q (Ok None) none some h = none h
answer_or_none A B P Q (Ok (Some x)) none some h = some x h
answer_or_none A B P Q (Err e) none some h = h

-- what holds of an answer that there is, and of one that there is not
pub if_found : {X E : Type 0} (F : X → Type 0) (P : Option X → Type 0) (r : Result (Option X) E) → ((x : X) → F x → P (Some x)) → IfOk r (λ o. MatchOption o ⊥ F) → IfOk r P
if_found F P (Ok None) some h = absurd h
if_found F P (Ok (Some x)) some h = some x h
if_found F P (Err e) some h = tt

pub if_none : {X E : Type 0} (F : Type 0) (P : Option X → Type 0) (r : Result (Option X) E) → (F → P None) → IfOk r (λ o. (o ≡ None) × F) → IfOk r P
if_none F P (Ok o) none h = subst P (sym h.0) (none h.1)
if_none F P (Err e) none h = tt

-- a call that is refused for memory alone does not overflow
pub only_memory : {T : Type 0} (r : Result T PathError) → IfErr r (λ e. e ≡ OutOfMemory) → r ≡ Err CostOverflow → ⊥
only_memory r h q =
    let both : CostOverflow ≡ OutOfMemory = rw q at h in
    cc

-- what a push that was not refused leaves
pub pushed_on : {T E X : Type 0} (r : Result T E) (xs ys now : List X) → now ≡ (if is_ok r then ys else xs) → is_err r ≡ false → now ≡ ys
pushed_on (Ok x) xs ys now e taken = e
pushed_on (Err x) xs ys now e taken = cc

-- the errors of a call that hands on those of another, and may be refused for memory
pub errors_before : {S T : Type 0} (P : PathError → Type 0) (r : Result S PathError) (q : Result T PathError) → IfErr r (λ e. (q ≡ Err e) ⊎ (e ≡ OutOfMemory)) → IfErr q P → P OutOfMemory → IfErr r P
errors_before P (Ok x) q h p memory = tt
errors_before P (Err e) q h p memory = elim h as (λ _. P e) [
  | inl w ↦ rw w at p
  | inr m ↦ subst P (sym m) memory
]

pub overflow_before : {S T : Type 0} (r : Result S PathError) (q : Result T PathError) → IfErr r (λ e. (q ≡ Err e) ⊎ (e ≡ OutOfMemory)) → r ≡ Err CostOverflow → q ≡ Err CostOverflow
overflow_before r q h e = elim (rw e at h) as (λ _. q ≡ Err CostOverflow) [
  | inl w ↦ w
  | inr m ↦ absurd (other m)
]
  where
    other : CostOverflow ≡ OutOfMemory → ⊥
    other m = cc
