-- What stands at places, taken one by one.
use Rattle.std.proofs.Common.{ℕ, zero, suc, ◌+◌, ◌≡◌, refl, ◌∙◌, ap, List, [], ◌∷◌, ◌++◌, Option, Some, None, take, add-one}
use Rattle.std.specs.Prelude.{slice_get}
use Rattle.std.proofs.lemmas.List.{append-nil}
use Rattle.pf_base.proofs.ListLemmas.{none_in}
use Rattle.pf_tables.specs.Graphs.{present}
use Rattle.pf_tables.proofs.Faulty.{some_same}

present-append : {E : Type 0} (xs ys : List (Option E)) → present (xs ++ ys) ≡ present xs ++ present ys
present-append [] ys = refl
present-append (None ∷ xs) ys = present-append xs ys
present-append (Some e ∷ xs) ys = ap (λ es. e ∷ es) (present-append xs ys)

take_suc : {E : Type 0} (xs : List E) (i : ℕ) (x : E) → slice_get xs i ≡ Some x → take (suc i) xs ≡ take i xs ++ x ∷ []
take_suc [] i x h = absurd (none_in i x h)
take_suc (y ∷ ys) zero x h = ap (λ z. z ∷ []) (some_same h)
take_suc (y ∷ ys) (suc i) x h = ap (λ zs. y ∷ zs) (take_suc ys i x h)

take_more : {E : Type 0} (xs : List E) (i : ℕ) (x : E) → slice_get xs i ≡ Some x → take (i + 1) xs ≡ take i xs ++ x ∷ []
take_more xs i x h = ap (λ (n : ℕ). take n xs) (add-one i) ∙ take_suc xs i x h

module _ {E : Type 0} (places : List (Option E)) (i : ℕ) where
  pub present_more : (edge : E) → slice_get places i ≡ Some (Some edge) → present (take (i + 1) places) ≡ present (take i places) ++ edge ∷ []
  present_more edge h = ap present (take_more places i (Some edge) h) ∙ present-append (take i places) (Some edge ∷ [])

  pub present_same : slice_get places i ≡ Some None → present (take (i + 1) places) ≡ present (take i places)
  present_same h = ap present (take_more places i None h) ∙ present-append (take i places) (None ∷ []) ∙ append-nil (present (take i places))
