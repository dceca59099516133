-- What stands in the list of the images of a list.
use Rattle.std.proofs.Common.{◌≡◌, ℕ, zero, suc, ◌<◌, List, [], ◌∷◌, map, refl, sym, ap, ◌∙◌, subst, arith}
use Rattle.std.specs.Prelude.{Contains, Some, slice_get}
use Rattle.std.proofs.lemmas.List.{get_or-map, length-map}
use Rattle.pf_base.proofs.ListLemmas.{none_in}

pub mapped_in : {A B : Type 0} (f : A → B) (xs : List A) (x : A) → Contains xs x → Contains (map f xs) (f x)
mapped_in f xs x c = (c.0, subst (λ (n : ℕ). c.0 < n) (sym (length-map xs f)) c.1, get_or-map f xs c.0 x (f x) c.1 ∙ ap f c.2)

pub in_mapped : {A B : Type 0} (f : A → B) (xs : List A) (y : B) → Contains (map f xs) y → (x : A) × Contains xs x × (f x ≡ y)
in_mapped f [] y c = absurd (omega (arith, c.1))
in_mapped f (x ∷ xs) y (zero, lt, e) = (x, (0, omega arith, refl), e)
in_mapped f (x ∷ xs) y (suc k, lt, e) = let r = in_mapped f xs y (k, omega (arith, lt), e) in (r.0, (suc r.1.0, omega (arith, r.1.1), r.1.2), r.2)

-- what stands at a place of the images
pub got_mapped : {A B : Type 0} (f : A → B) (xs : List A) (i : ℕ) (y : B) → slice_get (map f xs) i ≡ Some y → (x : A) × (slice_get xs i ≡ Some x) × (f x ≡ y)
got_mapped f [] i y e = cc
got_mapped f (x ∷ xs) zero y e = (x, refl, cc)
got_mapped f (x ∷ xs) (suc i) y e = got_mapped f xs i y e

pub at_mapped : {A B : Type 0} (f : A → B) (xs : List A) (i : ℕ) (x : A) → slice_get xs i ≡ Some x → slice_get (map f xs) i ≡ Some (f x)
at_mapped f [] i x e = absurd (none_in i x e)
at_mapped f (y ∷ xs) zero x e = let s : y ≡ x = cc in ap (λ z. Some (f z)) s
at_mapped f (y ∷ xs) (suc i) x e = at_mapped f xs i x e
