-- A tree that grows by the least edge weighs least, of the forests that join the same nodes.
use Rattle.std.proofs.Common.{zero, suc, ◌≡◌, ◌≢◌, refl, sym, ◌∙◌, ap, subst, arith, inl, inr, ◌⊎◌, Bool, true, List, [], ◌∷◌, ◌++◌, Ordering, ℤ}
use Rattle.std.specs.Prelude.{Contains, ◌≤ℤ◌}
use Rattle.std.specs.Cmp.{IsEquivalence}
use Rattle.std.specs.Ordering.{int_cmp}
use Rattle.std.specs.declared.cmp.Ordering.TheVariants.{Greater}
use Rattle.std.proofs.lemmas.List.{append-nil, append_assoc}
use Rattle.std.proofs.lemmas.List.Elements.{Contains-append_left, Contains-push, Contains-push_cases}
use Rattle.pf_union_find.specs.Joined.{Joined, same, linked, back, chain}
use Rattle.pf_graph.specs.Spanning.{Links, JoinedBy, IsForest, AreChosenFrom, JoinTheSame, weight_sum}
use Rattle.pf_graph.specs.GrownTree.{RunsBetween, Covers, GrowsByLeast, IsLeastAround, AreChosenEitherWay}
use Rattle.pf_graph.proofs.Spanning.ForestLemmas.{link_of}
use Rattle.pf_graph.proofs.Spanning.TreeLemmas.{Covers-push_cases}
use Rattle.pf_graph.proofs.Spanning.LawLemmas.{least_by}

-- a list is split at each of its elements
contains_split : {E : Type 0} (xs : List E) (x : E) → Contains xs x → (before : List E) × (after : List E) × (xs ≡ before ++ x ∷ after)
contains_split [] x (k, l, e) = absurd (omega (arith, l))
contains_split (y ∷ ys) x (zero, l, e) = ([], ys, ap (λ z. z ∷ ys) e)
contains_split (y ∷ ys) x (suc k, l, e) = let r = contains_split ys x (k, omega (arith, l), e) in (y ∷ r.0, r.1, ap (λ zs. y ∷ zs) r.2)

module _ {N : Type 0} {eq : N → N → Bool} (laws : IsEquivalence eq) where
  -- what links join is the same, or stands at links
  same_or_linked : {link : N → N → Type 0} (P : N → Type 0) → ((x y : N) → eq x y ≡ true → P x → P y) → ((x y : N) → link x y → P x × P y) → {x y : N} → Joined eq link x y → (eq x y ≡ true) ⊎ (P x × P y)
  same_or_linked P closed f (same e) = inl e
  same_or_linked P closed f (linked l) = inr (f _ _ l)
  same_or_linked P closed f (back {x = x} {y = y} j) = elim (same_or_linked P closed f j) [ inl e ↦ inl (laws.symm x y ∙ e) | inr r ↦ inr (r.1, r.0) ]
  same_or_linked P closed f (chain {x = x} {y = z} {z = y} j k) = elim (same_or_linked P closed f j) [
    | inl e ↦ elim (same_or_linked P closed f k) [
      | inl d ↦ inl (laws.congr x z y e ∙ d)
      | inr r ↦ inr (closed z x (laws.symm z x ∙ e) r.0, r.1)
    ]
    | inr q ↦ elim (same_or_linked P closed f k) [
      | inl d ↦ inr (q.0, closed z y d q.1)
      | inr r ↦ inr (q.0, r.1)
    ]
  ]

  module _ {C : Type 0} (edges tree : List (N × N × C)) (start : N) {is_clone : C → C → Type 0} (written : AreChosenEitherWay is_clone edges tree) where
    -- what the first edges of the tree cover, and their ends, are joined to the start
    record Reaches (before : List (N × N × C)) : Type 0 where
      pub covered : (x : N) → Covers eq start before x → JoinedBy eq edges start x
      pub ends : (e : N × N × C) → Contains before e → JoinedBy eq edges start e.0 × JoinedBy eq edges start e.1

    reaches_none : Reaches []
    reaches_none = record {
      covered = λ x c. elim c as (λ _. JoinedBy eq edges start x) [ inl s ↦ same s | inr r ↦ absurd (omega (arith, r.1.1)) ];
      ends = λ e c. absurd (omega (arith, c.1));
    }

    reaches_push : (before : List (N × N × C)) (e : N × N × C) → Contains tree e → Covers eq start before e.0 → Reaches before → Reaches (before ++ e ∷ [])
    reaches_push before e there c p = record {
      covered = λ x k. elim (Covers-push_cases laws start before e x k) as (λ _. JoinedBy eq edges start x) [ inl i ↦ p.covered x i | inr s ↦ chain to_new (same s) ];
      ends = λ d k. elim (Contains-push_cases before e d k) as (λ _. JoinedBy eq edges start d.0 × JoinedBy eq edges start d.1) [
        | inl i ↦ p.ends d i
        | inr i ↦ subst (λ (f : N × N × C). JoinedBy eq edges start f.0 × JoinedBy eq edges start f.1) i (p.covered e.0 c, to_new)
      ];
    }
      where
        over : (w : C) → RunsBetween edges e.0 e.1 w → JoinedBy eq edges e.0 e.1
        over w r = elim r as (λ _. JoinedBy eq edges e.0 e.1) [ inl k ↦ linked (link_of edges (e.0, e.1, w) k) | inr k ↦ back (linked (link_of edges (e.1, e.0, w) k)) ]

        to_new : JoinedBy eq edges start e.1
        to_new = chain (p.covered e.0 c) (let w = written.as_written e there in over w.0 w.1)

    module _ {node_cmp : N → N → Ordering} {cmp : C → C → Ordering} (grows : GrowsByLeast eq node_cmp cmp edges start tree) where
      reaches : (before after : List (N × N × C)) → tree ≡ before ++ after → Reaches before → Reaches tree
      reaches before [] h p = subst Reaches (sym (h ∙ append-nil before)) p
      reaches before (e ∷ rest) h p =
          let more : tree ≡ (before ++ e ∷ []) ++ rest = h ∙ sym (append_assoc before (e ∷ []) rest) in
          let there : Contains tree e = subst (λ es. Contains es e) (sym more) (Contains-append_left (before ++ e ∷ []) rest e (Contains-push before e)) in
          reaches (before ++ e ∷ []) rest more (reaches_push before e there (grows.each before rest e h).from_covered p)

      -- the ends of an edge of a forest that the tree joins are joined to the start
      reached : (other : List (N × N × C)) → IsForest eq other → JoinTheSame eq tree other → (f : N × N × C) → Contains other f → JoinedBy eq edges start f.0 × JoinedBy eq edges start f.1
      reached other forest alike f c =
          let whole = reaches [] tree refl reaches_none in
          elim (same_or_linked (JoinedBy eq edges start) (λ x y e j. chain j (same e)) (λ (x y : N) (l : Links tree x y).
          let r = whole.ends l.0 l.1 in
          (subst (λ n. JoinedBy eq edges start n) l.2 r.0, subst (λ n. JoinedBy eq edges start n) l.3 r.1)) ((alike.same_nodes f.0 f.1).1 (linked (link_of other f c)))) as (λ _. JoinedBy eq edges start f.0 × JoinedBy eq edges start f.1) [
            | inl e ↦ let s = contains_split other f c in absurd (forest.apart s.0 s.1 f s.2 (same e))
            | inr r ↦ r
          ]

      pub least_tree : (value : C → ℤ) → ((x y : C) → cmp x y ≡ int_cmp (value x) (value y)) → (other : List (N × N × C)) → IsForest eq tree → IsLeastAround eq cmp edges start tree → IsForest eq other → AreChosenFrom (λ (w u : C). u ≡ w) edges other → JoinTheSame eq tree other
          → weight_sum value tree ≤ℤ weight_sum value other
      least_tree value agree other forest least forest' given alike = least_by laws value agree tree other forest forest' (λ w f c low.
          let r = given.as_written f c in
          let j = reached other forest' alike f c in
          least.joins w f.0 f.1 j.0 j.1 (linked (r.0, r.1, subst (λ (u : C). cmp u w ≢ Greater) r.4 low, r.2, r.3))) alike
