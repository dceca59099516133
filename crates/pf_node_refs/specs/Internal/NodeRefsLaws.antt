-- Two sets of nodes are equal exactly where each node of one is in the other, and that is an equivalence.
use Rattle.std.specs.Prelude.{◌≡◌, ◌⊎◌, ◌↔◌, Bool, true, false, ◌&&◌, ◌||◌, List, [], ◌∷◌}
use Rattle.std.proofs.Common.{refl, sym, ap, ◌∙◌, inl, inr, true≢false}
use Rattle.std.specs.Cmp.{IsEquivalence, both_ways, first_so, second_so}
use Rattle.std.specs.List.{list_any}
use Rattle.pf_base.specs.Walks.{HasNode}
use Rattle.pf_base.specs.NodeRefs.{HasSameNodes, is_subset, has_same_nodes}

or_cases : (a b : Bool) → (a || b) ≡ true → (a ≡ true) ⊎ (b ≡ true)
or_cases true b h = inl refl
or_cases false b h = inr h

or_right : (a b : Bool) → b ≡ true → (a || b) ≡ true
or_right true b h = refl
or_right false b h = h

module _ {N : Type 0} (eq : N → N → Bool) where
  pub HasNode-any : (xs : List N) (x : N) → list_any (λ y. eq y x) xs ≡ true → HasNode eq xs x
  HasNode-any [] x h = absurd (true≢false (sym h))
  HasNode-any (y ∷ ys) x h = elim (or_cases (eq y x) _ h) [ inl e ↦ inl e | inr e ↦ inr (HasNode-any ys x e) ]

  pub any-HasNode : (xs : List N) (x : N) → HasNode eq xs x → list_any (λ y. eq y x) xs ≡ true
  any-HasNode [] x h = absurd h
  any-HasNode (y ∷ ys) x (inl e) = ap (λ b. b || list_any (λ z. eq z x) ys) e
  any-HasNode (y ∷ ys) x (inr h) = or_right (eq y x) _ (any-HasNode ys x h)

module _ {N : Type 0} {eq : N → N → Bool} (laws : IsEquivalence eq) where
  -- equal nodes are in the same sets
  pub HasNode-equal : (xs : List N) (x y : N) → eq x y ≡ true → HasNode eq xs x → HasNode eq xs y
  HasNode-equal [] x y e h = h
  HasNode-equal (z ∷ zs) x y e (inl a) = inl (laws.congr z x y a ∙ e)
  HasNode-equal (z ∷ zs) x y e (inr h) = inr (HasNode-equal zs x y e h)

  has_from_subset : (xs ys : List N) → is_subset eq xs ys ≡ true → (x : N) → HasNode eq xs x → HasNode eq ys x
  has_from_subset [] ys h x n = absurd n
  has_from_subset (z ∷ zs) ys h x (inl e) = HasNode-equal ys z x e (HasNode-any eq ys z (first_so _ _ h))
  has_from_subset (z ∷ zs) ys h x (inr n) = has_from_subset zs ys (second_so (list_any (λ y. eq y z) ys) _ h) x n

  subset_from_has : (xs ys : List N) → ((x : N) → HasNode eq xs x → HasNode eq ys x) → is_subset eq xs ys ≡ true
  subset_from_has [] ys h = refl
  subset_from_has (z ∷ zs) ys h = ap (λ b. b && is_subset eq zs ys) (any-HasNode eq ys z (h z (inl (laws.refl z)))) ∙ subset_from_has zs ys (λ x n. h x (inr n))

  pub same_nodes_decides : (xs ys : List N) → (has_same_nodes eq xs ys ≡ true) ↔ HasSameNodes eq xs ys
  same_nodes_decides xs ys = (
    λ h x. (has_from_subset xs ys (first_so _ _ h) x, has_from_subset ys xs (second_so (is_subset eq xs ys) _ h) x),
    λ h. ap (λ b. b && is_subset eq ys xs) (subset_from_has xs ys (λ x. (h x).0)) ∙ subset_from_has ys xs (λ x. (h x).1),
  )

  flipped : (xs ys : List N) → HasSameNodes eq xs ys → HasSameNodes eq ys xs
  flipped xs ys h x = ((h x).1, (h x).0)

  chained : (xs ys zs : List N) → HasSameNodes eq xs ys → HasSameNodes eq ys zs → HasSameNodes eq xs zs
  chained xs ys zs h k x = (λ n. (k x).0 ((h x).0 n), λ n. (h x).1 ((k x).1 n))

  flips : (xs ys : List N) → has_same_nodes eq xs ys ≡ true → has_same_nodes eq ys xs ≡ true
  flips xs ys e = (same_nodes_decides ys xs).1 (flipped xs ys ((same_nodes_decides xs ys).0 e))

  chains : (xs ys zs : List N) → has_same_nodes eq xs ys ≡ true → has_same_nodes eq ys zs ≡ true → has_same_nodes eq xs zs ≡ true
  chains xs ys zs e f = (same_nodes_decides xs zs).1 (chained xs ys zs ((same_nodes_decides xs ys).0 e) ((same_nodes_decides ys zs).0 f))

  pub same_nodes_equiv : IsEquivalence (has_same_nodes eq)
  same_nodes_equiv = record {
    refl = λ xs. (same_nodes_decides xs xs).1 (λ x. (λ n. n, λ n. n));
    symm = λ xs ys. both_ways _ _ (flips xs ys) (flips ys xs);
    congr = λ xs ys zs e. both_ways _ _ (chains ys xs zs (flips xs ys e)) (chains xs ys zs e);
  }
