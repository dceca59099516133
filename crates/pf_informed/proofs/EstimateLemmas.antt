-- Estimates that are kept, one by one.
use Rattle.std.proofs.Common.{◌≡◌, ◌<◌, ℕ, zero, suc, refl, arith, ℤ, Some, Option, List, [], ◌∷◌, ◌++◌, ◌∙◌, sym, subst, ap, slice_get, length, inl, inr}
use Rattle.pf_base.proofs.ListLemmas.{get_push}
use Rattle.pf_informed.specs.Internal.Estimated.{IsEstimated}

pub IsEstimated-push : {N C : Type 0} (value : C → ℤ) (h : N → ℤ) (at : ℕ → Option N) (xs ys : List C) (c : C) → ys ≡ xs ++ c ∷ [] → (x : N) → at (length xs) ≡ Some x → value c ≡ h x → IsEstimated value h at xs → IsEstimated value h at ys
IsEstimated-push value h at xs ys c is x here e old k y d a g = elim (get_push xs c k d (subst (λ zs. slice_get zs k ≡ Some d) is g)) as (λ _. value d ≡ h y) [
  | inl i ↦ old k y d a i
  | inr q ↦
      let same : Some x ≡ Some y = sym here ∙ ap at (sym q.0) ∙ a in
      let xy : x ≡ y = cc in
      ap value (sym q.1) ∙ e ∙ ap h xy
]

-- an estimate for each number
pub estimate_at : {C : Type 0} (estimates : List C) (k : ℕ) → k < length estimates → (h : C) × (slice_get estimates k ≡ Some h)
estimate_at [] k l = absurd (omega (arith, l))
estimate_at (h ∷ estimates) zero l = (h, refl)
estimate_at (h ∷ estimates) (suc k) l = estimate_at estimates k (omega (arith, l))
