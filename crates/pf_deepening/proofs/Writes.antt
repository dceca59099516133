-- What stands in a list after a write.
use Rattle.std.proofs.Common.{◌≡◌, ◌<◌, ℕ, Option, Some, None, List, length, sym, refl, inl, inr, ◌∙◌}
use Rattle.std.specs.Prelude.{◌⊎◌, ◌↔◌, slice_get, slice_set}
use Rattle.pf_base.proofs.ListLemmas.{get_set}

pub of_some : {A : Type 0} (x y : A) → Some x ≡ Some y → x ≡ y
of_some x y e = cc

pub none_is : {A : Type 0} (x : A) → Some x ≡ None → ⊥
none_is x e = cc

-- the element at the place of a write
pub set_here : {A : Type 0} (xs : List A) (n : ℕ) (v : A) → n < length xs → slice_get (slice_set xs n v) n ≡ Some v
set_here xs n v h = elim (get_set xs n n v h) as (λ _. slice_get (slice_set xs n v) n ≡ Some v) [ inl r ↦ r.1 | inr r ↦ absurd (r.0 refl) ]

-- the element at another place than that of a write
pub set_other : {A : Type 0} (xs : List A) (n k : ℕ) (v : A) → n < length xs → ¬ (k ≡ n) → slice_get (slice_set xs n v) k ≡ slice_get xs k
set_other xs n k v h ne = elim (get_set xs n k v h) as (λ _. slice_get (slice_set xs n v) k ≡ slice_get xs k) [ inl r ↦ absurd (ne r.0) | inr r ↦ r.1 ]

-- what stands in a list of options that is longer by places of nothing, once something is written
pub written_from : {A : Type 0} (xs ys : List (Option A)) (n : ℕ) (v : A) → n < length ys
    → ((k : ℕ) (x : Option A) → slice_get ys k ≡ Some x → slice_get xs k ≡ Some x ⊎ (x ≡ None))
    → (k : ℕ) (x : A) → slice_get (slice_set ys n (Some v)) k ≡ Some (Some x) → slice_get xs k ≡ Some (Some x) ⊎ ((k ≡ n) × (x ≡ v))
written_from {A} xs ys n v h from k x e = elim (get_set ys n k (Some v) h) as (λ _. slice_get xs k ≡ Some (Some x) ⊎ ((k ≡ n) × (x ≡ v))) [
  | inl q ↦ inr (q.0, of_some x v (of_some (Some x) (Some v) (sym e ∙ q.1)))
  | inr q ↦ elim (from k (Some x) (sym q.1 ∙ e)) as (λ _. slice_get xs k ≡ Some (Some x) ⊎ ((k ≡ n) × (x ≡ v))) [ inl r ↦ inl r | inr r ↦ absurd (none_is x r) ]
]

-- what stands in a list of options, once one was taken out
pub unwritten : {A : Type 0} (xs : List (Option A)) (n : ℕ) → n < length xs → (k : ℕ) (x : A) → (slice_get (slice_set xs n None) k ≡ Some (Some x)) ↔ ((slice_get xs k ≡ Some (Some x)) × ¬ (k ≡ n))
unwritten {A} xs n h k x = (
  λ e. elim (get_set xs n k None h) as (λ _. (slice_get xs k ≡ Some (Some x)) × ¬ (k ≡ n)) [
    | inl q ↦ absurd (none_is x (of_some (Some x) None (sym e ∙ q.1)))
    | inr q ↦ (sym q.1 ∙ e, q.0)
  ],
  λ e. set_other xs n k None h e.1 ∙ e.0,
)
