-- What follows where a tree grows by the least edge that leaves it: it is a forest, and least under every bound.
use Rattle.std.proofs.Common.{◌≡◌, ◌≢◌, refl, sym, ◌∙◌, ap, subst, inl, inr, ◌⊎◌, Bool, true, List, [], ◌∷◌, ◌++◌, Ordering, arith}
use Rattle.std.specs.Prelude.{Contains}
use Rattle.std.specs.Cmp.{IsEquivalence, IsTotalOrder, Equal-is}
use Rattle.std.specs.Ordering.{ordering_then, is_eq}
use Rattle.std.specs.declared.cmp.Ordering.TheVariants.{Less, Equal, Greater}
use Rattle.std.proofs.lemmas.List.{append-nil, append_assoc}
use Rattle.std.proofs.lemmas.List.Elements.{Contains-append_left, Contains-push, Contains-push_cases}
use Rattle.pf_base.specs.Answers.{IsLawfulClone}
use Rattle.pf_union_find.specs.Joined.{Joined, same, linked, back, chain}
use Rattle.pf_graph.specs.Spanning.{Links, LinksUnder, JoinedBy, JoinedUnder, IsForest}
use Rattle.pf_graph.specs.GrownTree.{RunsBetween, Covers, LeavesByLeast, GrowsByLeast, IsLeastAround, AreChosenEitherWay}
use Rattle.pf_union_find.proofs.JoinedLemmas.{Joined-more}
use Rattle.pf_graph.proofs.Spanning.ForestLemmas.{IsForest-nil, IsForest-push}
use Rattle.pf_graph.proofs.Spanning.OrderLemmas.{le_trans}

-- whether an answer is `Greater`
pub gt_dec : (o : Ordering) → (o ≡ Greater) ⊎ (o ≢ Greater)
gt_dec Less = inr (λ g. cc)
gt_dec Equal = inr (λ g. cc)
gt_dec Greater = inl refl

-- what is at most another in two orders is so in the first
pub then_first : (a b : Ordering) → ordering_then a b ≢ Greater → a ≢ Greater
then_first a b n = λ g. n (ap (λ o. ordering_then o b) g)

pub RunsBetween-back : {N C : Type 0} (edges : List (N × N × C)) (x y : N) (w : C) → RunsBetween edges x y w → RunsBetween edges y x w
RunsBetween-back edges x y w r = elim r as (λ _. RunsBetween edges y x w) [ inl c ↦ inr c | inr c ↦ inl c ]

-- an edge that is one of the edges runs between its ends
pub RunsBetween-of : {N C : Type 0} (edges : List (N × N × C)) (d : N × N × C) (x y : N) → Contains edges d → d.0 ≡ x → d.1 ≡ y → RunsBetween edges x y d.2
RunsBetween-of {N} {C} edges d x y c p q = inl (subst (λ (n : N). Contains edges (x, n, d.2)) q (subst (λ (n : N). Contains edges (n, d.1, d.2)) p c))

module _ {N C : Type 0} {eq : N → N → Bool} (laws : IsEquivalence eq) (start : N) where
  pub Covers-same : (tree : List (N × N × C)) (x y : N) → eq x y ≡ true → Covers eq start tree x → Covers eq start tree y
  Covers-same tree x y e c = elim c as (λ _. Covers eq start tree y) [
    | inl s ↦ inl (laws.congr start x y s ∙ e)
    | inr r ↦ inr (r.0, r.1, laws.congr r.0.1 x y r.2 ∙ e)
  ]

  pub Covers-kept : (tree : List (N × N × C)) (e : N × N × C) (x : N) → Covers eq start tree x → Covers eq start (tree ++ e ∷ []) x
  Covers-kept tree e x c = elim c as (λ _. Covers eq start (tree ++ e ∷ []) x) [
    | inl s ↦ inl s
    | inr r ↦ inr (r.0, Contains-append_left tree (e ∷ []) r.0 r.1, r.2)
  ]

  pub Covers-push : (tree : List (N × N × C)) (e : N × N × C) (x : N) → eq e.1 x ≡ true → Covers eq start (tree ++ e ∷ []) x
  Covers-push tree e x s = inr (e, Contains-push tree e, s)

  pub Covers-push_cases : (tree : List (N × N × C)) (e : N × N × C) (x : N) → Covers eq start (tree ++ e ∷ []) x → Covers eq start tree x ⊎ (eq e.1 x ≡ true)
  Covers-push_cases tree e x c = elim c as (λ _. Covers eq start tree x ⊎ (eq e.1 x ≡ true)) [
    | inl s ↦ inl (inl s)
    | inr r ↦ elim (Contains-push_cases tree e r.0 r.1) as (λ _. Covers eq start tree x ⊎ (eq e.1 x ≡ true)) [
      | inl k ↦ inl (inr (r.0, k, r.2))
      | inr k ↦ inr (subst (λ (d : N × N × C). eq d.1 x ≡ true) (sym k) r.2)
    ]
  ]

  -- links whose ends are covered both or neither join none that is covered with one that is not
  both_covered : (tree : List (N × N × C)) {link : N → N → Type 0} → ((x y : N) → link x y → (Covers eq start tree x → Covers eq start tree y) × (Covers eq start tree y → Covers eq start tree x))
      → {x y : N} → Joined eq link x y → (Covers eq start tree x → Covers eq start tree y) × (Covers eq start tree y → Covers eq start tree x)
  both_covered tree f (same {x = x} {y = y} e) = (Covers-same tree x y e, Covers-same tree y x (laws.symm y x ∙ e))
  both_covered tree f (linked l) = f _ _ l
  both_covered tree f (back j) = let r = both_covered tree f j in (r.1, r.0)
  both_covered tree f (chain j k) = let r = both_covered tree f j in let s = both_covered tree f k in (λ c. s.0 (r.0 c), λ c. r.1 (s.1 c))

  -- the same, where it is only known that links do not lead from a covered end to one that is not
  neither_covered : (tree : List (N × N × C)) {link : N → N → Type 0} → ((x y : N) → link x y → (¬ (Covers eq start tree x) → ¬ (Covers eq start tree y)) × (¬ (Covers eq start tree y) → ¬ (Covers eq start tree x)))
      → {x y : N} → Joined eq link x y → (¬ (Covers eq start tree x) → ¬ (Covers eq start tree y)) × (¬ (Covers eq start tree y) → ¬ (Covers eq start tree x))
  neither_covered tree f (same {x = x} {y = y} e) = (λ n c. n (Covers-same tree y x (laws.symm y x ∙ e) c), λ n c. n (Covers-same tree x y e c))
  neither_covered tree f (linked l) = f _ _ l
  neither_covered tree f (back j) = let r = neither_covered tree f j in (r.1, r.0)
  neither_covered tree f (chain j k) = let r = neither_covered tree f j in let s = neither_covered tree f k in (λ n. s.0 (r.0 n), λ n. r.1 (s.1 n))

  module _ {cmp : C → C → Ordering} (total : IsTotalOrder cmp) (edges : List (N × N × C)) where
    -- what the edges so far keep
    record Prefix (tree : List (N × N × C)) : Type 0 where
      pub ends : (e : N × N × C) → Contains tree e → Covers eq start tree e.0 × Covers eq start tree e.1
      pub forest : IsForest eq tree
      pub least : (w : C) (x y : N) → Covers eq start tree x → Covers eq start tree y → JoinedUnder eq cmp w edges x y → JoinedUnder eq cmp w tree x y

    prefix_none : Prefix []
    prefix_none = record {
      ends = λ e c. absurd (omega (arith, c.1));
      forest = IsForest-nil;
      least = λ w x y cx cy j. same (sym (laws.congr start x y (only x cx)) ∙ only y cy);
    }
      where
        only : (x : N) → Covers {C = C} eq start [] x → eq start x ≡ true
        only x c = elim c as (λ _. eq start x ≡ true) [ inl s ↦ s | inr r ↦ absurd (omega (arith, r.1.1)) ]

    -- one more edge, that leaves what the tree covers by the least
    module _ {node_cmp : N → N → Ordering} (tree : List (N × N × C)) (e : N × N × C) (p : Prefix tree) (leaves : LeavesByLeast eq node_cmp cmp edges start tree e) (u : C) (runs : RunsBetween edges e.0 e.1 u) (tied : cmp u e.2 ≡ Equal) where
      abbrev more : List (N × N × C)
      more = tree ++ e ∷ []

      apart : ¬ (JoinedBy eq tree e.0 e.1)
      apart j = leaves.to_new ((both_covered tree (λ (x y : N) (l : Links tree x y).
          let c = p.ends l.0 l.1 in
          (λ k. subst (λ n. Covers eq start tree n) l.3 c.1, λ k. subst (λ n. Covers eq start tree n) l.2 c.0)) j).0 leaves.from_covered)

      -- edges below the weight of the new edge do not leave what the tree covers
      crossing : (w : C) → cmp e.2 w ≡ Greater → (x y : N) → JoinedUnder eq cmp w edges x y → ¬ (Covers eq start tree y) → ¬ (Covers eq start tree x)
      crossing w heavy x y j = (neither_covered tree (λ (a b : N) (l : LinksUnder cmp w edges a b).
          let runs : RunsBetween edges a b l.0.2 = RunsBetween-of edges l.0 a b l.1 l.3 l.4 in (
            λ n c. le_trans total e.2 l.0.2 w (then_first _ _ (leaves.least b a l.0.2 (RunsBetween-back edges a b l.0.2 runs) c n)) l.2 heavy,
            λ n c. le_trans total e.2 l.0.2 w (then_first _ _ (leaves.least a b l.0.2 runs c n)) l.2 heavy,
          )) j).1

      wider : (w : C) (x y : N) → JoinedUnder eq cmp w tree x y → JoinedUnder eq cmp w more x y
      wider w x y j = Joined-more (λ (a b : N) (l : LinksUnder cmp w tree a b). (l.0, Contains-append_left tree (e ∷ []) l.0 l.1, l.2, l.3, l.4)) j

      -- the new end is joined with what it was joined with
      to_new_end : (w : C) (x : N) → Covers eq start tree x → JoinedUnder eq cmp w edges x e.1 → JoinedUnder eq cmp w more x e.1
      to_new_end w x c j = elim (gt_dec (cmp e.2 w)) as (λ _. JoinedUnder eq cmp w more x e.1) [
        | inl g ↦ absurd (crossing w g x e.1 j leaves.to_new c)
        | inr n ↦
            let light : cmp u w ≢ Greater = λ g. n (sym (total.congr u e.2 w tied) ∙ g) in
            let over : JoinedUnder eq cmp w edges e.0 e.1 = elim runs as (λ _. JoinedUnder eq cmp w edges e.0 e.1) [
              | inl k ↦ linked ((e.0, e.1, u), k, light, refl, refl)
              | inr k ↦ back (linked ((e.1, e.0, u), k, light, refl, refl))
            ] in
            chain (wider w x e.0 (p.least w x e.0 c leaves.from_covered (chain j (back over)))) (linked (e, Contains-push tree e, n, refl, refl))
      ]

      prefix_push : Prefix more
      prefix_push = record {
        ends = λ d c. elim (Contains-push_cases tree e d c) as (λ _. Covers eq start more d.0 × Covers eq start more d.1) [
          | inl k ↦ let r = p.ends d k in (Covers-kept tree e d.0 r.0, Covers-kept tree e d.1 r.1)
          | inr k ↦ subst (λ (d : N × N × C). Covers eq start more d.0 × Covers eq start more d.1) k (Covers-kept tree e e.0 leaves.from_covered, Covers-push tree e e.1 (laws.refl e.1))
        ];
        forest = IsForest-push laws tree e p.forest apart;
        least = λ w x y cx cy j. elim (Covers-push_cases tree e x cx) as (λ _. JoinedUnder eq cmp w more x y) [
          | inl a ↦ elim (Covers-push_cases tree e y cy) as (λ _. JoinedUnder eq cmp w more x y) [
            | inl b ↦ wider w x y (p.least w x y a b j)
            | inr q ↦ chain (to_new_end w x a (chain j (back (same q)))) (same q)
          ]
          | inr q ↦ elim (Covers-push_cases tree e y cy) as (λ _. JoinedUnder eq cmp w more x y) [
            | inl b ↦ back (chain (to_new_end w y b (back (chain (same q) j))) (same q))
            | inr r ↦ same (sym (laws.congr e.1 x y q) ∙ r)
          ]
        ];
      }

    module _ {node_cmp : N → N → Ordering} {ceq : C → C → Bool} (agree : (x y : C) → ceq x y ≡ is_eq (cmp x y)) {is_clone : C → C → Type 0} (lawful : IsLawfulClone ceq is_clone) (tree : List (N × N × C)) (grows : GrowsByLeast eq node_cmp cmp edges start tree) (written : AreChosenEitherWay is_clone edges tree) where
      prefixes : (before after : List (N × N × C)) → tree ≡ before ++ after → Prefix before → Prefix tree
      prefixes before [] h p = subst Prefix (sym (h ∙ append-nil before)) p
      prefixes before (e ∷ rest) h p =
          let there : Contains tree e = subst (λ es. Contains es e) (sym (h ∙ sym (append_assoc before (e ∷ []) rest))) (Contains-append_left (before ++ e ∷ []) rest e (Contains-push before e)) in
          let w = written.as_written e there in
          prefixes (before ++ e ∷ []) rest (h ∙ sym (append_assoc before (e ∷ []) rest))
          (prefix_push before e p (grows.each before rest e h) w.0 w.1 ((Equal-is (cmp w.0 e.2)).0 (sym (agree w.0 e.2) ∙ lawful w.0 e.2 w.2)))

      whole : Prefix tree
      whole = prefixes [] tree refl prefix_none

      pub grown_forest : IsForest eq tree
      grown_forest = whole.forest

      pub grown_least : IsLeastAround eq cmp edges start tree
      grown_least = record { joins = λ w x y jx jy j. whole.least w x y (reach x jx) (reach y jy) j }
        where
          reach : (x : N) → JoinedBy eq edges start x → Covers eq start tree x
          reach x j = (both_covered tree (λ (a b : N) (l : Links edges a b).
              let runs : RunsBetween edges a b l.0.2 = RunsBetween-of edges l.0 a b l.1 l.2 l.3 in
              (λ c. grows.none_leaves a b l.0.2 runs c, λ c. grows.none_leaves b a l.0.2 (RunsBetween-back edges a b l.0.2 runs) c)) j).0 (inl (laws.refl start))
