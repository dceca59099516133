-- That no two numbers stand for one node.
use Rattle.std.proofs.Common.{◌≡◌, ◌<◌, length, ℕ, zero, suc, ℤ, Bool, true, false, Some, sym, ◌∙◌, ap, subst, refl, true≢false, [], ◌∷◌}
use Rattle.std.proofs.lemmas.Option.{slice_get_within}
use Rattle.std.specs.Cmp.{IsEquivalence}
use Rattle.std.specs.List.{IsDistinct, AllByRecursion}
use Rattle.std.specs.Prelude.{List, slice_get}
use Rattle.pf_core.specs.Nodes.{NodeGraph, StandsFor, Explores}

at_get : {N : Type 0} (P : N → Type 0) (xs : List N) (i : ℕ) (x : N) → AllByRecursion P xs → slice_get xs i ≡ Some x → P x
at_get P [] zero x a h = cc
at_get P [] (suc i) x a h = cc
at_get P (y ∷ ys) zero x a h = let e : Some y ≡ Some x = h in let f : y ≡ x = cc in subst P f a.0
at_get P (y ∷ ys) (suc i) x a h = at_get P ys i x a.1 h

module _ {N : Type 0} (eq : N → N → Bool) (laws : IsEquivalence eq) where
  distinct_one : (keys : List N) → IsDistinct eq keys → (i j : ℕ) (m n : N) → slice_get keys i ≡ Some m → slice_get keys j ≡ Some n → eq m n ≡ true → i ≡ j
  unfolding IsDistinct
  distinct_one [] d i j m n a b e = cc
  distinct_one (k ∷ ks) d zero zero m n a b e = refl
  distinct_one (k ∷ ks) d zero (suc j) m n a b e =
      let f : Some k ≡ Some m = a in
      let g : k ≡ m = cc in
      absurd (true≢false (sym e ∙ subst (λ (z : N). eq z n ≡ false) g (at_get (λ y. eq k y ≡ false) ks j n d.0 b)))
  distinct_one (k ∷ ks) d (suc i) zero m n a b e =
      let f : Some k ≡ Some n = b in
      let g : k ≡ n = cc in
      absurd (true≢false (sym e ∙ laws.symm m n ∙ subst (λ (z : N). eq z m ≡ false) g (at_get (λ y. eq k y ≡ false) ks i m d.0 a)))
  distinct_one (k ∷ ks) d (suc i) (suc j) m n a b e = ap suc (distinct_one ks d.1 i j m n a b e)

  pub StandsFor-one : (keys : List N) → IsDistinct eq keys → (i j : ℕ) (x : N) → StandsFor eq keys i x → StandsFor eq keys j x → i ≡ j
  StandsFor-one keys d i j x a b = distinct_one keys d i j a.0 b.0 a.1 b.1 (laws.congr a.0 x b.0 a.2 ∙ laws.symm x b.0 ∙ b.2)

pub StandsFor-inside : {N : Type 0} (eq : N → N → Bool) (keys : List N) (k : ℕ) (x : N) → StandsFor eq keys k x → k < length keys
StandsFor-inside eq keys k x h = slice_get_within keys k h.0 h.1

pub Explores-one : {N S : Type 0} {eq : N → N → Bool} {answers : S → List N → (N → List (N × ℤ)) → Type 0} {g : NodeGraph N} {keys : List N} {source : S} → IsEquivalence eq → Explores eq answers g keys source
    → (i j : ℕ) (x : N) → StandsFor eq keys i x → StandsFor eq keys j x → i ≡ j
Explores-one {eq = eq} {keys = keys} laws e i j x a b = StandsFor-one eq laws keys e.distinct i j x a b
