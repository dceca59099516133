-- From a walk to a way that meets no node twice and costs no more.
use Rattle.std.proofs.Common.{◌≡◌, Bool, true, true≢false, List, [], ◌∷◌, ◌∙◌, refl, sym, arith, inl, inr, ℤ}
use Rattle.std.specs.Prelude.{◌≤ℤ◌, ◌+ℤ◌, ◌⊎◌}
use Rattle.std.specs.Cmp.{IsEquivalence}
use Rattle.std.specs.List.{AllZip}
use Rattle.std.proofs.lemmas.Int.{ints}
use Rattle.pf_base.specs.Walks.{HasNode, NoRepeats, end_of}
use Rattle.pf_base.specs.Edges.{InReach}
use Rattle.pf_base.specs.Answers.{ListsEdges}
use Rattle.pf_core.specs.Steps.{GoesAlong, IsNonNegative}
use Rattle.pf_core.specs.Nodes.{NodeGraph, IsStep}
use Rattle.pf_base.proofs.ListLemmas.{bool_dec}
use Rattle.pf_core.proofs.NodeLemmas.{eq-sym, InReach-more}
use Rattle.pf_core.proofs.WalkLemmas.{HasNode-same, goes_same}

module _ {N : Type 0} (eq : N → N → Bool) (laws : IsEquivalence eq) where
  has_or_not : (xs : List N) (x : N) → HasNode eq xs x ⊎ (¬ (HasNode eq xs x))
  has_or_not [] x = inr (λ h. h)
  has_or_not (y ∷ ys) x = elim (bool_dec (eq y x)) as (λ _. HasNode eq (y ∷ ys) x ⊎ (¬ (HasNode eq (y ∷ ys) x))) [
    | inl e ↦ inl (inl e)
    | inr f ↦ elim (has_or_not ys x) as (λ _. HasNode eq (y ∷ ys) x ⊎ (¬ (HasNode eq (y ∷ ys) x))) [
      | inl h ↦ inl (inr h)
      | inr n ↦ inr (λ h. elim h as (λ _. ⊥) [ inl e ↦ true≢false (sym e ∙ f) | inr k ↦ n k ])
    ]
  ]

  same_nodes : (w : List N) → AllZip (λ x y. eq x y ≡ true) w w
  same_nodes [] = tt
  same_nodes (x ∷ w) = (laws.refl x, same_nodes w)

  module _ (g : NodeGraph N) (alike : (x y : N) → InReach eq g.edges g.starts x → eq x y ≡ true → ListsEdges eq (λ z. z) (g.edges x) (g.edges y)) (test : N → Bool) (same_test : (x y : N) → InReach eq g.edges g.starts x → eq x y ≡ true → test x ≡ test y) (p : IsNonNegative (IsStep eq g)) where
    -- a way to a goal that costs no more than t and meets no node twice
    pub record ShortWay (a : N) (t : ℤ) : Type 0 where
      pub nodes : List N
      pub cost : ℤ
      pub goes : GoesAlong (IsStep eq g) a nodes cost
      pub low : cost ≤ℤ t
      pub good : test (end_of a nodes) ≡ true
      pub distinct : NoRepeats eq (a ∷ nodes)

    end_alike : (w : List N) (a b : N) → InReach eq g.edges g.starts a → eq a b ≡ true → test (end_of a w) ≡ true → test (end_of b w) ≡ true
    end_alike [] a b r e good = sym (same_test a b r e) ∙ good
    end_alike (x ∷ w) a b r e good = good

    -- from another node that is the same as one on the way
    cut_at : (w : List N) (b a : N) (t : ℤ) → InReach eq g.edges g.starts b → GoesAlong (IsStep eq g) b w t → test (end_of b w) ≡ true → NoRepeats eq (b ∷ w) → HasNode eq (b ∷ w) a → ShortWay a t
    cut_at w b a t r goes good d (inl e) = record {
      nodes = w;
      cost = t;
      goes = goes_same eq laws g alike w w b a t e (same_nodes w) goes;
      low = omega (arith, ints);
      good = end_alike w b a r e good;
      distinct = ((λ h. d.0 (HasNode-same eq laws w a b (eq-sym eq laws b a e) h)), d.1);
    }
    cut_at [] b a t r goes good d (inr h) = absurd h
    cut_at (x ∷ w) b a t r goes good d (inr h) =
        let q = cut_at w x a goes.1 (InReach-more eq laws g.edges g.starts alike b x goes.0 r goes.2.1) goes.3 good d.1 h in
        let z = p.non_negative b goes.0 x goes.2 in
        record { nodes = q.nodes; cost = q.cost; goes = q.goes; low = omega (arith, ints, z, q.low, goes.4); good = q.good; distinct = q.distinct }

    pub shorten : (w : List N) (a : N) (t : ℤ) → InReach eq g.edges g.starts a → GoesAlong (IsStep eq g) a w t → test (end_of a w) ≡ true → ShortWay a t
    shorten [] a t r goes good = record { nodes = []; cost = t; goes = goes; low = omega (arith, ints); good = good; distinct = ((λ h. h), tt) }
    shorten (b ∷ w) a t r goes good =
        let reach = InReach-more eq laws g.edges g.starts alike a b goes.0 r goes.2.1 in
        let q = shorten w b goes.1 reach goes.3 good in
        let z = p.non_negative a goes.0 b goes.2 in
        elim (has_or_not (b ∷ q.nodes) a) as (λ _. ShortWay a t) [
          | inl h ↦
              let c = cut_at q.nodes b a q.cost reach q.goes q.good q.distinct h in
              record { nodes = c.nodes; cost = c.cost; goes = c.goes; low = omega (arith, ints, z, c.low, q.low, goes.4); good = c.good; distinct = c.distinct }
          | inr n ↦ record { nodes = b ∷ q.nodes; cost = goes.0 +ℤ q.cost; goes = (goes.0, q.cost, goes.2, q.goes, refl); low = omega (arith, ints, q.low, goes.4); good = q.good; distinct = (n, q.distinct) }
        ]
