-- The order in which the nodes of an answer are numbered.
use Rattle.std.proofs.Common.{◌≡◌, ℕ, ◌<◌, ◌+◌, Bool, true, Some, List, [], ◌∷◌, ◌++◌, ◌∙◌, slice_get, length, map, refl, sym, ap, subst, arith, length-append, inl, inr, ℤ}
use Rattle.std.specs.Cmp.{IsEquivalence}
use Rattle.std.specs.List.{AllZip}
use Rattle.pf_base.specs.Edges.{InReach, targets}
use Rattle.pf_base.specs.Answers.{ListsEdges, SameNodes}
use Rattle.pf_core.specs.Numbered.{NumbersInOrder}
use Rattle.pf_core.specs.NodeLaws.{StandsFor-inside}
use Rattle.pf_core.specs.Nodes.{NodeGraph, StandsFor, AddsNode, NumbersItems}
use Rattle.pf_core.proofs.NodeLemmas.{AddsNode-stays, StandsFor-same, eq-trans}

module _ {N : Type 0} (eq : N → N → Bool) (laws : IsEquivalence eq) where
  last_of : (xs : List N) (x : N) → slice_get (xs ++ x ∷ []) (length xs) ≡ Some x
  last_of [] x = refl
  last_of (y ∷ ys) x = last_of ys x

  -- one more node was numbered
  pub InOrder-push : (keys keys' : List N) (n : ℕ) (ys : List N) (x : N) (k : ℕ) → AddsNode eq x keys keys' → StandsFor eq keys' k x → NumbersInOrder (StandsFor eq keys) n ys (length keys) → NumbersInOrder (StandsFor eq keys') n (ys ++ x ∷ []) (length keys')
  InOrder-push keys keys' n [] x k a s h = elim a.grown as (λ _. NumbersInOrder (StandsFor eq keys') n (x ∷ []) (length keys')) [
    | inl e ↦ inl (k, subst (λ m. k < m) (ap length e ∙ h) (StandsFor-inside eq keys' k x s), s, ap length e ∙ h)
    | inr e ↦ inr (
      (x, subst (λ m. slice_get keys' m ≡ Some x) h (subst (λ ks. slice_get ks (length keys) ≡ Some x) (sym e) (last_of keys x)), laws.refl x),
      omega (arith, ap length e, length-append keys (x ∷ []), h),
    )
  ]
  InOrder-push keys keys' n (y ∷ ys) x k a s (inl h) = inl (h.0, h.1, (h.2.0, AddsNode-stays eq x keys keys' a h.0 h.2.0 h.2.1, h.2.2), InOrder-push keys keys' n ys x k a s h.3)
  InOrder-push keys keys' n (y ∷ ys) x k a s (inr h) = inr ((h.0.0, AddsNode-stays eq x keys keys' a n h.0.0 h.0.1, h.0.2), InOrder-push keys keys' (n + 1) ys x k a s h.1)

  -- the same nodes are numbered in the same order
  pub InOrder-same : (keys : List N) (n n' : ℕ) (xs ys : List N) → SameNodes eq xs ys → NumbersInOrder (StandsFor eq keys) n xs n' → NumbersInOrder (StandsFor eq keys) n ys n'
  InOrder-same keys n n' [] [] s h = h
  InOrder-same keys n n' [] (y ∷ ys) s h = absurd s
  InOrder-same keys n n' (x ∷ xs) [] s h = absurd s
  InOrder-same keys n n' (x ∷ xs) (y ∷ ys) s (inl h) = inl (h.0, h.1, StandsFor-same eq laws keys h.0 x y h.2 s.0, InOrder-same keys n n' xs ys s.1 h.3)
  InOrder-same keys n n' (x ∷ xs) (y ∷ ys) s (inr h) = inr (StandsFor-same eq laws keys n x y h.0 s.0, InOrder-same keys (n + 1) n' xs ys s.1 h.1)

  pub Same-trans : (xs ys zs : List N) → SameNodes eq xs ys → SameNodes eq ys zs → SameNodes eq xs zs
  Same-trans [] [] [] h k = tt
  Same-trans [] [] (z ∷ zs) h k = absurd k
  Same-trans [] (y ∷ ys) zs h k = absurd h
  Same-trans (x ∷ xs) [] zs h k = absurd h
  Same-trans (x ∷ xs) (y ∷ ys) [] h k = absurd k
  Same-trans (x ∷ xs) (y ∷ ys) (z ∷ zs) h k = (eq-trans eq laws x y z h.0 k.0, Same-trans xs ys zs h.1 k.1)

  module _ {C : Type 0} where
    -- the row numbers nodes that are the same as these
    pub Placed-same : (keys : List N) (row : List (ℕ × C)) (xs : List (N × C)) (ys : List N) → NumbersItems eq keys row xs → SameNodes eq (map (λ (x : N × C). x.0) xs) ys → AllZip (λ (r : ℕ × C) (y : N). StandsFor eq keys r.0 y) row ys
    Placed-same keys [] [] [] n s = tt
    Placed-same keys [] [] (y ∷ ys) n s = absurd s
    Placed-same keys [] (x ∷ xs) ys n s = absurd n
    Placed-same keys (r ∷ row) [] ys n s = absurd n
    Placed-same keys (r ∷ row) (x ∷ xs) [] n s = absurd s
    Placed-same keys (r ∷ row) (x ∷ xs) (y ∷ ys) n s = (StandsFor-same eq laws keys r.0 x.0 y n.0.0 s.0, Placed-same keys row xs ys n.1 s.1)

  -- edges that are listed lead to the same nodes
  pub ends_same : {C : Type 0} (value : C → ℤ) (xs : List (N × C)) (es : List (N × ℤ)) → ListsEdges eq value xs es → SameNodes eq (map (λ (x : N × C). x.0) xs) (map (λ (e : N × ℤ). e.0) es)
  ends_same value [] [] h = tt
  ends_same value [] (e ∷ es) h = absurd h
  ends_same value (x ∷ xs) [] h = absurd h
  ends_same value (x ∷ xs) (e ∷ es) h = (h.0.0, ends_same value xs es h.1)

  -- what is listed at a node leads to the successors of each node that is the same
  pub ends_at : {C : Type 0} (value : C → ℤ) (g : NodeGraph N) → ((x y : N) → InReach eq g.edges g.starts x → eq x y ≡ true → ListsEdges eq (λ z. z) (g.edges x) (g.edges y))
      → (keys : List N) (k : ℕ) (here : N) (xs : List (N × C)) → slice_get keys k ≡ Some here → InReach eq g.edges g.starts here → ListsEdges eq value xs (g.edges here)
      → (x : N) → StandsFor eq keys k x → SameNodes eq (map (λ (i : N × C). i.0) xs) (targets g.edges x)
  ends_at value g alike keys k here xs at reach l x s =
      let same : s.0 ≡ here = (let e : Some s.0 ≡ Some here = sym s.1 ∙ at in cc) in
      let h : eq here x ≡ true = subst (λ (m : N). eq m x ≡ true) same s.2 in
      Same-trans (map (λ (i : N × _). i.0) xs) (targets g.edges here) (targets g.edges x) (ends_same value xs (g.edges here) l) (ends_same (λ z. z) (g.edges here) (g.edges x) (alike here x reach h))
