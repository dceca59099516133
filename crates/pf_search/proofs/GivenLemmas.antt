-- Lemmas on the nodes that a walk by rising cost gave: those found whose labels are settled.
use Rattle.std.proofs.Common.{◌≡◌, ℕ, zero, suc, ◌+◌, ◌≤◌, Bool, true, false, cond, Option, Some, None, List, [], ◌∷◌, ◌∙◌, length, refl, sym, ap, subst, arith, inl, inr, true≢false}
use Rattle.std.specs.Cmp.{IsEquivalence}
use Rattle.std.specs.List.{IsDistinct}
use Rattle.std.specs.Prelude.{◌↔◌, Contains, slice_get, map, if◌then◌else◌}
use Rattle.std.proofs.lemmas.List.Sums.{sum_by-cons}
use Rattle.pf_base.specs.Answers.{SameNodes}
use Rattle.pf_base.specs.NodeRefs.{HasSameNodes}
use Rattle.pf_base.specs.Walks.{HasNode, NoRepeats}
use Rattle.pf_core.specs.declared.labels.Label.{Label}
use Rattle.pf_core.specs.Labels.{Labels, HasLabel, is_settled, settled_count}
use Rattle.pf_core.specs.Nodes.{StandsFor}
use Rattle.pf_base.proofs.ListLemmas.{Contains-head, Contains-tail, Contains-cases, none_in}
use Rattle.pf_core.proofs.UnitLemmas.{starts_stand}
use Rattle.pf_search.specs.CheapestFirst.{CheapestWalk, IsGiven}
use Rattle.pf_search.specs.Internal.CheapestSearch.{CheapestSearch, given_of}

one_more : {C : Type 0} (o : Option (Label C)) (labels : Labels C) → settled_count (o ∷ labels) ≡ cond (is_settled o) 1 0 + settled_count labels
one_more {C} o labels = sum_by-cons (λ (p : Option (Label C)). cond (is_settled p) 1 0) o labels

module _ {N C : Type 0} where
  -- a node whose label is not settled adds nothing to the given ones, and one whose label is settled adds itself
  given_step : (P : List (N × C) → Type 0) (x : N) (o : Option (Label C)) (xs : List N) (ls : Labels C) → (is_settled o ≡ false → P (given_of xs ls)) → ((l : Label C) → o ≡ Some l → l.settled ≡ true → P ((x, l.cost) ∷ given_of xs ls)) → P (given_of (x ∷ xs) (o ∷ ls))
  given_step P x None xs ls passed added = passed refl
  given_step P x (Some l) xs ls passed added = by l.settled refl
    where
      by : (b : Bool) → l.settled ≡ b → P (if b then (x, l.cost) ∷ given_of xs ls else given_of xs ls)
      by true t = added l refl t
      by false t = passed t

  abbrev IsSettledItem : List N → Labels C → N × C → Type 0
  IsSettledItem nodes labels g = (k : ℕ) × (l : Label C) × (slice_get nodes k ≡ Some g.0) × HasLabel labels k l × (l.settled ≡ true) × (l.cost ≡ g.1)

  none_contained : (g : N × C) → ¬ (Contains [] g)
  none_contained g h = omega (arith, h.1)

  item_settled : (nodes : List N) (labels : Labels C) (g : N × C) → Contains (given_of nodes labels) g → IsSettledItem nodes labels g
  item_settled [] labels g h = absurd (none_contained g h)
  item_settled (x ∷ xs) [] g h = absurd (none_contained g h)
  item_settled (x ∷ xs) (o ∷ ls) g h =
      let later : Contains (given_of xs ls) g → IsSettledItem (x ∷ xs) (o ∷ ls) g = λ c. let q = item_settled xs ls g c in (suc q.0, q.1, q.2, q.3, q.4, q.5) in
      given_step (λ gs. Contains gs g → IsSettledItem (x ∷ xs) (o ∷ ls) g) x o xs ls (λ _ c. later c)
      (λ l at t c. elim (Contains-cases (given_of xs ls) (x, l.cost) g c) as (λ _. IsSettledItem (x ∷ xs) (o ∷ ls) g) [ inl e ↦ (0, l, ap (λ (p : N × C). Some p.0) e, ap Some at, t, ap (λ (p : N × C). p.1) e) | inr r ↦ later r ]) h

  settled_item : (nodes : List N) (labels : Labels C) (k : ℕ) (x : N) (l : Label C) → slice_get nodes k ≡ Some x → HasLabel labels k l → l.settled ≡ true → Contains (given_of nodes labels) (x, l.cost)
  settled_item [] labels k x l here at t = absurd (none_in k x here)
  settled_item (y ∷ ys) [] k x l here at t = absurd (none_in k (Some l) at)
  settled_item (y ∷ ys) (o ∷ ls) zero x l here at t =
      let e : Some o ≡ Some (Some l) = at in
      let f : Some y ≡ Some x = here in
      let same : o ≡ Some l = cc in
      let node : y ≡ x = cc in
      given_step (λ gs. Contains gs (x, l.cost)) y o ys ls (λ opened. absurd (true≢false (sym t ∙ sym (ap is_settled same) ∙ opened)))
      (λ m is _. let label : Some m ≡ Some l = sym is ∙ same in let as_item : (y, m.cost) ≡ (x, l.cost) = cc in subst (Contains ((y, m.cost) ∷ given_of ys ls)) as_item (Contains-head (given_of ys ls) (y, m.cost)))
  settled_item (y ∷ ys) (o ∷ ls) (suc k) x l here at t =
      let rest = settled_item ys ls k x l here at t in
      given_step (λ gs. Contains gs (x, l.cost)) y o ys ls (λ _. rest) (λ m _ _. Contains-tail (given_of ys ls) (y, m.cost) (x, l.cost) rest)

  -- as many nodes were given as labels are settled
  pub given_count : (nodes : List N) (labels : Labels C) → length labels ≡ length nodes → length (given_of nodes labels) ≡ settled_count labels
  given_count [] [] e = refl
  given_count [] (o ∷ ls) e = absurd (omega (arith, e))
  given_count (x ∷ xs) [] e = refl
  given_count (x ∷ xs) (o ∷ ls) e =
      let rest = given_count xs ls (omega (arith, e)) in
      given_step (λ gs. length gs ≡ settled_count (o ∷ ls)) x o xs ls (λ opened. omega (arith, rest, one_more o ls, ap {B = ℕ} (λ b. cond b 1 0) opened)) (λ l is t. omega (arith, rest, one_more o ls, ap {B = ℕ} (λ b. cond b 1 0) (ap is_settled is ∙ t)))

  -- no more nodes were given than there are places for labels
  pub given_below : (nodes : List N) (labels : Labels C) → length (given_of nodes labels) ≤ length labels
  given_below [] labels = omega arith
  given_below (x ∷ xs) [] = omega arith
  given_below (x ∷ xs) (o ∷ ls) = let rest = given_below xs ls in given_step (λ gs. length gs ≤ length (o ∷ ls)) x o xs ls (λ _. omega (arith, rest)) (λ l _ _. omega (arith, rest))

  -- where no label is settled, nothing was given
  pub none_given : (nodes : List N) (labels : Labels C) → length labels ≡ length nodes → settled_count labels ≡ 0 → given_of nodes labels ≡ []
  none_given nodes labels e none = by (given_of nodes labels) (given_count nodes labels e ∙ none)
    where
      by : (gs : List (N × C)) → length gs ≡ 0 → gs ≡ []
      by [] e = refl
      by (g ∷ gs) e = absurd (omega (arith, e))

  -- distinct nodes are given once each
  module _ (eq : N → N → Bool) where
    abbrev Nodes : List (N × C) → List N
    Nodes gs = map (λ (g : N × C). g.0) gs

    given_found : (nodes : List N) (labels : Labels C) (x : N) → HasNode eq (Nodes (given_of nodes labels)) x → HasNode eq nodes x
    given_found [] labels x h = absurd h
    given_found (y ∷ ys) [] x h = absurd h
    given_found (y ∷ ys) (o ∷ ls) x h = given_step (λ gs. HasNode eq (Nodes gs) x → HasNode eq (y ∷ ys) x) y o ys ls (λ _ r. inr (given_found ys ls x r)) (λ l _ _ a. elim a as (λ _. HasNode eq (y ∷ ys) x) [ inl e ↦ inl e | inr r ↦ inr (given_found ys ls x r) ]) h

    pub given_distinct : (nodes : List N) (labels : Labels C) → NoRepeats eq nodes → NoRepeats eq (Nodes (given_of nodes labels))
    given_distinct [] labels h = tt
    given_distinct (y ∷ ys) [] h = tt
    given_distinct (y ∷ ys) (o ∷ ls) h = let rest = given_distinct ys ls h.1 in given_step (λ gs. NoRepeats eq (Nodes gs)) y o ys ls (λ _. rest) (λ l _ _. (λ r. h.0 (given_found ys ls y r), rest))

    -- where the labels stay, the same nodes are given
    pub given_same : (nodes nodes' : List N) (labels : Labels C) → SameNodes eq nodes' nodes → SameNodes eq (Nodes (given_of nodes' labels)) (Nodes (given_of nodes labels))
    given_same [] [] labels s = tt
    given_same [] (y ∷ ys) labels s = absurd s
    given_same (x ∷ xs) [] labels s = absurd s
    given_same (x ∷ xs) (y ∷ ys) [] s = tt
    given_same (x ∷ xs) (y ∷ ys) (None ∷ ls) s = given_same xs ys ls s.1
    given_same (x ∷ xs) (y ∷ ys) (Some l ∷ ls) s = by l.settled (given_same xs ys ls s.1)
      where
        by : (b : Bool) → SameNodes eq (Nodes (given_of ys ls)) (Nodes (given_of xs ls)) → SameNodes eq (Nodes (if b then (y, l.cost) ∷ given_of ys ls else given_of ys ls)) (Nodes (if b then (x, l.cost) ∷ given_of xs ls else given_of xs ls))
        by true rest = (s.0, rest)
        by false rest = rest

-- a list of one node that has the same nodes as the start alone
module _ {N : Type 0} (eq : N → N → Bool) (laws : IsEquivalence eq) where
  pub one_distinct : (keys : List N) → length keys ≡ 1 → IsDistinct eq keys
  unfolding IsDistinct
  one_distinct [] one = absurd (omega (arith, one))
  one_distinct (k ∷ []) one = (tt, tt)
  one_distinct (k ∷ l ∷ keys) one = absurd (omega (arith, one))

  pub one_begins : (keys : List N) (start : N) → length keys ≡ 1 → HasSameNodes eq keys (start ∷ []) → (x : N) → StandsFor eq keys 0 x ↔ (eq start x ≡ true)
  one_begins keys start one same x =
      let s = starts_stand eq laws (start ∷ []) keys same x in (
        λ h. elim (s.0 (0, omega (arith, one), h)) as (λ _. eq start x ≡ true) [ inl e ↦ e | inr f ↦ absurd f ],
        λ e. let b = s.1 (inl e) in subst (λ (k : ℕ). StandsFor eq keys k x) (omega (arith, one, b.1)) b.2,
      )

-- the label of the node is settled, at this cost
abbrev pub IsSettled : {N C : Type 0} → (N → N → Bool) → CheapestSearch N C → N → C → Type 0
IsSettled {N} {C} eq search x cost = (k : ℕ) × (l : Label C) × StandsFor eq search.nodes k x × HasLabel search.labels k l × (l.settled ≡ true) × (l.cost ≡ cost)

-- a node was given where its label is settled
module _ {N C F : Type 0} (eq : N → N → Bool) (walk : CheapestWalk N C F) (told : walk.given ≡ given_of walk.search.nodes walk.search.labels) (x : N) (cost : C) where
  pub settled_of_given : IsGiven eq walk x cost → IsSettled eq walk.search x cost
  settled_of_given h =
      let q = item_settled walk.search.nodes walk.search.labels h.0 (subst (λ (gs : List (N × C)). Contains gs h.0) told h.1) in
      (q.0, q.1, (h.0.0, q.2, h.2), q.3, q.4, q.5 ∙ h.3)

  pub given_of_settled : IsSettled eq walk.search x cost → IsGiven eq walk x cost
  given_of_settled s =
      let g : N × C = (s.2.0, s.1.cost) in
      (g, subst (λ (gs : List (N × C)). Contains gs g) (sym told) (settled_item walk.search.nodes walk.search.labels s.0 s.2.0 s.1 s.2.1 s.3 s.4), s.2.2, s.5)
