-- That no two places of a set of references have one node.
use Rattle.std.proofs.Common.{ℕ, zero, suc, ◌≡◌, refl, sym, ◌∙◌, ap, subst, true≢false, List, [], ◌∷◌, Bool, true, false, Some}
use Rattle.std.specs.Prelude.{slice_get}
use Rattle.std.specs.Borrow.{Bor}
use Rattle.std.specs.Cmp.{IsEquivalence}
use Rattle.std.specs.List.{IsDistinct, AllByRecursion}
use Rattle.pf_base.proofs.ListLemmas.{none_in}

at_get : {A : Type 0} (P : A → Type 0) (xs : List A) (i : ℕ) (x : A) → AllByRecursion P xs → slice_get xs i ≡ Some x → P x
at_get P [] i x a h = absurd (none_in i x h)
at_get P (y ∷ ys) zero x a h = let e : Some y ≡ Some x = h in let f : y ≡ x = cc in subst P f a.0
at_get P (y ∷ ys) (suc i) x a h = at_get P ys i x a.1 h

module _ {N : Type 0} {eq : N → N → Bool} (laws : IsEquivalence eq) where
  pub distinct_one : (nodes : List (Bor N)) → IsDistinct (λ (p q : Bor N). eq p.now q.now) nodes → (i j : ℕ) (m n : Bor N) → slice_get nodes i ≡ Some m → slice_get nodes j ≡ Some n → eq m.now n.now ≡ true → i ≡ j
  unfolding IsDistinct
  distinct_one [] d i j m n a b e = absurd (none_in i m a)
  distinct_one (k ∷ ks) d zero zero m n a b e = refl
  distinct_one (k ∷ ks) d zero (suc j) m n a b e =
      let f : Some k ≡ Some m = a in
      let g : k ≡ m = cc in
      absurd (true≢false (sym e ∙ subst (λ (z : Bor N). eq z.now n.now ≡ false) g (at_get (λ (y : Bor N). eq k.now y.now ≡ false) ks j n d.0 b)))
  distinct_one (k ∷ ks) d (suc i) zero m n a b e =
      let f : Some k ≡ Some n = b in
      let g : k ≡ n = cc in
      absurd (true≢false (sym e ∙ laws.symm m.now n.now ∙ subst (λ (z : Bor N). eq z.now m.now ≡ false) g (at_get (λ (y : Bor N). eq k.now y.now ≡ false) ks i m d.0 a)))
  distinct_one (k ∷ ks) d (suc i) (suc j) m n a b e = ap suc (distinct_one ks d.1 i j m n a b e)
