-- What links join, carried over from nodes of one kind to nodes of another that stand for them.
use Rattle.std.proofs.Common.{◌≡◌, ◌∙◌, inl, inr, ◌⊎◌, Bool, true}
use Rattle.std.specs.Cmp.{IsEquivalence}
use Rattle.pf_union_find.specs.Joined.{Joined, same, linked, back, chain}

-- which v stands for which x: the same where x is the same
pub record StandsAlike {M N : Type 0} (eq : M → M → Bool) (eq' : N → N → Bool) (stands : M → N → Type 0) : Type 0 where
  pub across : (x y : M) (u v : N) → stands x u → stands y v → eq x y ≡ true → eq' u v ≡ true
  pub closed : (x y : M) (u : N) → eq x y ≡ true → stands y u → stands x u

module _ {M N : Type 0} {eq : M → M → Bool} {eq' : N → N → Bool} {stands : M → N → Type 0} (laws : IsEquivalence eq) (alike : StandsAlike eq eq' stands) {link : M → M → Type 0} {link' : N → N → Type 0} where
  pub Joined-carried_some : ((x y : M) → link x y → (u : N) × (v : N) × stands x u × stands y v × Joined eq' link' u v) → {x y : M} → Joined eq link x y → (eq x y ≡ true) ⊎ ((u : N) × (v : N) × stands x u × stands y v × Joined eq' link' u v)
  Joined-carried_some f (same e) = inl e
  Joined-carried_some f (linked l) = inr (f _ _ l)
  Joined-carried_some f (back {x = x} {y = y} j) = elim (Joined-carried_some f j) [
    | inl e ↦ inl (laws.symm x y ∙ e)
    | inr r ↦ inr (r.1, r.0, r.3, r.2, back r.4)
  ]
  Joined-carried_some f (chain {x = x} {y = z} {z = y} j k) = elim (Joined-carried_some f j) [
    | inl e ↦ elim (Joined-carried_some f k) [
      | inl d ↦ inl (laws.congr x z y e ∙ d)
      | inr r ↦ inr (r.0, r.1, alike.closed x z r.0 e r.2, r.3, r.4)
    ]
    | inr q ↦ elim (Joined-carried_some f k) [
      | inl d ↦ inr (q.0, q.1, q.2, alike.closed y z q.1 (laws.symm y z ∙ d) q.3, q.4)
      | inr r ↦ inr (q.0, r.1, q.2, r.3, chain q.4 (chain (same (alike.across z z q.1 r.0 q.3 r.2 (laws.refl z))) r.4))
    ]
  ]

  pub Joined-carried : ((x y : M) → link x y → (u : N) × (v : N) × stands x u × stands y v × Joined eq' link' u v) → (x y : M) (u v : N) → stands x u → stands y v → Joined eq link x y → Joined eq' link' u v
  Joined-carried f x y u v a b j = elim (Joined-carried_some f j) [
    | inl e ↦ same (alike.across x y u v a b e)
    | inr r ↦ chain (same (alike.across x x u r.0 a r.2 (laws.refl x))) (chain r.4 (same (alike.across y y r.1 v r.3 b (laws.refl y))))
  ]
