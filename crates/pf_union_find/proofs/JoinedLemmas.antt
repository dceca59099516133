-- What links join.
use Rattle.std.proofs.Common.{◌≡◌, sym, subst, inl, inr, ◌⊎◌, Bool}
use Rattle.std.specs.Cmp.{IsEquivalence}
use Rattle.pf_union_find.specs.Joined.{Joined, same, linked, back, chain}

-- x is joined with a, and y with b, or the other way round
abbrev pub Across : {N : Type 0} → (N → N → Bool) → (N → N → Type 0) → N → N → N → N → Type 0
Across eq link a b x y = (Joined eq link x a × Joined eq link y b) ⊎ (Joined eq link x b × Joined eq link y a)

module _ {N : Type 0} {eq : N → N → Bool} where
  -- what some links join is joined by any links that join each of them
  pub Joined-by : {link other : N → N → Type 0} → ((x y : N) → link x y → Joined eq other x y) → {x y : N} → Joined eq link x y → Joined eq other x y
  Joined-by f (same e) = same e
  Joined-by f (linked l) = f _ _ l
  Joined-by f (back j) = back (Joined-by f j)
  Joined-by f (chain j k) = chain (Joined-by f j) (Joined-by f k)

  pub Joined-more : {link other : N → N → Type 0} → ((x y : N) → link x y → other x y) → {x y : N} → Joined eq link x y → Joined eq other x y
  Joined-more f j = Joined-by (λ x y l. linked (f x y l)) j

  -- one more link, between a and b: what it joins was joined, or runs across it
  pub Joined-split : (laws : IsEquivalence eq) {link more : N → N → Type 0} (a b : N) → ((x y : N) → more x y → link x y ⊎ ((x ≡ a) × (y ≡ b))) → {x y : N} → Joined eq more x y → Joined eq link x y ⊎ Across eq link a b x y
  Joined-split laws a b f (same e) = inl (same e)
  Joined-split laws {link} a b f (linked l) = elim (f _ _ l) [
    | inl k ↦ inl (linked k)
    | inr k ↦ inr (inl (subst (λ n. Joined eq link n a) (sym k.0) (same (laws.refl a)), subst (λ n. Joined eq link n b) (sym k.1) (same (laws.refl b))))
  ]
  Joined-split laws a b f (back j) = elim (Joined-split laws a b f j) [
    | inl k ↦ inl (back k)
    | inr (inl k) ↦ inr (inr (k.1, k.0))
    | inr (inr k) ↦ inr (inl (k.1, k.0))
  ]
  Joined-split laws a b f (chain j k) = elim (Joined-split laws a b f j) [
    | inl p ↦ elim (Joined-split laws a b f k) [
      | inl q ↦ inl (chain p q)
      | inr (inl q) ↦ inr (inl (chain p q.0, q.1))
      | inr (inr q) ↦ inr (inr (chain p q.0, q.1))
    ]
    | inr (inl p) ↦ elim (Joined-split laws a b f k) [
      | inl q ↦ inr (inl (p.0, chain (back q) p.1))
      | inr (inl q) ↦ inr (inl (p.0, q.1))
      | inr (inr q) ↦ inl (chain p.0 (back q.1))
    ]
    | inr (inr p) ↦ elim (Joined-split laws a b f k) [
      | inl q ↦ inr (inr (p.0, chain (back q) p.1))
      | inr (inl q) ↦ inl (chain p.0 (back q.1))
      | inr (inr q) ↦ inr (inr (p.0, q.1))
    ]
  ]
