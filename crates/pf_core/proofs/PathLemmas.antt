-- The path that the parents of labels lead along.
use Rattle.std.proofs.Common.{ℕ, zero, suc, ◌+◌, ◌<◌, ◌≤◌, ◌≡◌, ◌≢◌, refl, sym, ◌∙◌, ap, subst, arith, Bool, true, true≢false, List, [], ◌∷◌, ◌++◌, inl, inr, ℤ, pos, nat_eq, eq-eqb}
use Rattle.std.specs.Prelude.{◌+ℤ◌, ◌⊎◌, reverse}
use Rattle.std.specs.List.{AllZip}
use borrow.Author.Tests.{eqb-true}
use Rattle.pf_base.specs.Walks.{end_of, HasNode, NoRepeats}
use Rattle.pf_core.specs.Steps.{GoesAlong, IsNumberedPath}
use Rattle.pf_core.specs.declared.labels.Label.{Label}
use Rattle.pf_core.specs.Labels.{Labels, HasLabel, cost_of, IsTree, Climbs, IsChain, Settles, Widened, Relaxed}
use Rattle.pf_base.proofs.ListLemmas.{nat_dec, reverse-cons, AllZip-append}
use Rattle.pf_core.proofs.LabelLemmas.{label_is, parent_labelled}
use Rattle.pf_core.proofs.FrontierLemmas.{goes_more, end_more}

module _ {N : Type 0} (eq : N → N → Bool) where
  pub HasNode-append_cases : (xs : List N) (y x : N) → HasNode eq (xs ++ y ∷ []) x → HasNode eq xs x ⊎ (eq y x ≡ true)
  HasNode-append_cases [] y x (inl e) = inr e
  HasNode-append_cases [] y x (inr h) = inl h
  HasNode-append_cases (z ∷ zs) y x (inl e) = inl (inl e)
  HasNode-append_cases (z ∷ zs) y x (inr h) = elim (HasNode-append_cases zs y x h) as (λ _. HasNode eq (z ∷ zs) x ⊎ (eq y x ≡ true)) [ inl k ↦ inl (inr k) | inr e ↦ inr e ]

  module _ (symm : (x y : N) → eq x y ≡ true → eq y x ≡ true) where
    pub NoRepeats-append : (xs : List N) (y : N) → NoRepeats eq xs → ¬ (HasNode eq xs y) → NoRepeats eq (xs ++ y ∷ [])
    NoRepeats-append [] y n h = ((λ k. k), tt)
    NoRepeats-append (x ∷ xs) y n h = (
      (λ k. elim (HasNode-append_cases xs y x k) as (λ _. ⊥) [ inl i ↦ n.0 i | inr e ↦ h (inl (symm y x e)) ]),
      NoRepeats-append xs y n.1 (λ k. h (inr k)),
    )

pub AllZip-map : {A B : Type 0} (R S : A → B → Type 0) → ((x : A) (y : B) → R x y → S x y) → (xs : List A) (ys : List B) → AllZip R xs ys → AllZip S xs ys
AllZip-map R S f [] [] z = tt
AllZip-map R S f [] (b ∷ bs) z = absurd z
AllZip-map R S f (a ∷ as') [] z = absurd z
AllZip-map R S f (a ∷ as') (b ∷ bs) z = (f a b z.0, AllZip-map R S f as' bs z.1)

nat_symm : (x y : ℕ) → nat_eq x y ≡ true → nat_eq y x ≡ true
nat_symm x y h = eq-eqb y x (sym (eqb-true x y h))

module _ {C : Type 0} (labels : Labels C) (tree : IsTree labels) where
  -- from each label the parents lead up to number 0
  pub climb_from : (d : ℕ) (k : ℕ) (l : Label C) → HasLabel labels k l → l.depth ≡ d → (above : List ℕ) × Climbs labels k above
  climb_from zero k l h e = ([], (l, h, e))
  climb_from (suc d) k l h e =
      let deep : 0 < l.depth = omega arith in
      let m = parent_labelled labels tree k l h deep in
      let up = climb_from d l.parent m.0 m.1 (omega (arith, m.3)) in
      (l.parent ∷ up.0, (l, h, refl, deep, up.1))

  pub tree_climbs : (k : ℕ) → (l : Label C) × HasLabel labels k l → (above : List ℕ) × Climbs labels k above
  tree_climbs k h = climb_from h.0.depth k h.0 h.1 refl

  module _ {X : Type 0} (measure : C → ℕ → ℤ) (step : X → ℤ → X → Type 0) (starts : X → Type 0) (stands : ℕ → X → Type 0)
      (rooted : (k : ℕ) (l : Label C) → HasLabel labels k l → l.depth ≡ 0 → (s : X) × starts s × stands k s × (cost_of measure l ≡ pos 0))
      (linked : (k : ℕ) (l m : Label C) → HasLabel labels k l → 0 < l.depth → HasLabel labels l.parent m → (x : X) → stands l.parent x → (y : X) × (z : ℤ) × step x z y × stands k y × (cost_of measure l ≡ cost_of measure m +ℤ z)) where
    -- the numbers stand for a path to what k stands for, at the cost of its label, and none of them has a deeper label
    pub record PathUp (k : ℕ) (l : Label C) (numbers : List ℕ) : Type 0 where
      pub first : X
      pub is_start : starts first
      pub nodes : List X
      pub path : IsNumberedPath step stands first numbers nodes (cost_of measure l)
      pub here : stands k (end_of first nodes)
      pub below : (j : ℕ) → HasNode nat_eq numbers j → (m : Label C) × HasLabel labels j m × (m.depth ≤ l.depth)

    pub climb_path : (above : List ℕ) (k : ℕ) (l : Label C) → HasLabel labels k l → Climbs labels k above → PathUp k l (reverse (k ∷ above))
    climb_path [] k l h c =
        let flat : l.depth ≡ 0 = ap (λ (m : Label C). m.depth) (label_is labels k l c.0 h c.1) ∙ c.2 in
        let root = rooted k l h flat in
        record {
          first = root.0;
          is_start = root.1;
          nodes = [];
          path = record { numbered = (root.2, tt); goes = root.3; distinct = ((λ e. e), tt) };
          here = root.2;
          below = λ j e. elim e as (λ _. (m : Label C) × HasLabel labels j m × (m.depth ≤ l.depth)) [
            | inl q ↦ (l, subst (λ (n : ℕ). HasLabel labels n l) (eqb-true k j q) h, omega arith)
            | inr q ↦ absurd q
          ];
        }
    climb_path (p ∷ ps) k l h c =
        let same : c.0 ≡ l = label_is labels k c.0 l c.1 h in
        let deep : 0 < l.depth = subst (λ (m : Label C). 0 < m.depth) same c.3 in
        let before : l.parent ≡ p = subst (λ (m : Label C). m.parent ≡ p) same c.2 in
        let m = parent_labelled labels tree k l h deep in
        let at : HasLabel labels p m.0 = subst (λ (n : ℕ). HasLabel labels n m.0) before m.1 in
        let up = climb_path ps p m.0 at c.4 in
        let next = linked k l m.0 h deep m.1 (end_of up.first up.nodes) (subst (λ (n : ℕ). stands n (end_of up.first up.nodes)) (sym before) up.here) in
        let last : end_of up.first (up.nodes ++ next.0 ∷ []) ≡ next.0 = end_more up.nodes up.first next.0 in
        let fresh : ¬ (HasNode nat_eq (reverse (p ∷ ps)) k) = λ e.
        let n = up.below k e in
        let q : n.0 ≡ l = label_is labels k n.0 l n.1 h in
        let d : n.0.depth ≡ l.depth = ap (λ (m : Label C). m.depth) q in
        omega (arith, n.2, m.3, d) in
        let path' : PathUp k l (reverse (p ∷ ps) ++ k ∷ []) = record {
          first = up.first;
          is_start = up.is_start;
          nodes = up.nodes ++ next.0 ∷ [];
          path = record {
            numbered = AllZip-append stands (reverse (p ∷ ps)) (up.first ∷ up.nodes) k next.0 up.path.numbered next.3;
            goes = subst (GoesAlong step up.first (up.nodes ++ next.0 ∷ [])) (sym next.4) (goes_more step up.nodes up.first next.0 (cost_of measure m.0) next.1 up.path.goes next.2);
            distinct = NoRepeats-append nat_eq nat_symm (reverse (p ∷ ps)) k up.path.distinct fresh;
          };
          here = subst (stands k) (sym last) next.3;
          below = λ j e. elim (HasNode-append_cases nat_eq (reverse (p ∷ ps)) k j e) as (λ _. (m : Label C) × HasLabel labels j m × (m.depth ≤ l.depth)) [
            | inl q ↦ let n = up.below j q in (n.0, n.1, omega (arith, n.2, m.3))
            | inr q ↦ (l, subst (λ (n : ℕ). HasLabel labels n l) (eqb-true k j q) h, omega arith)
          ];
        } in
        subst (PathUp k l) (sym (reverse-cons k (p ∷ ps))) path'

    -- the path that some numbers stand for
    pub path_up : (k : ℕ) (l : Label C) → HasLabel labels k l → (numbers : List ℕ) × PathUp k l numbers
    path_up k l h = let up = climb_from l.depth k l h refl in (reverse (k ∷ up.0), climb_path up.0 k l h up.1)

    pub chain_path : (numbers : List ℕ) (k : ℕ) (l : Label C) → HasLabel labels k l → IsChain labels k numbers → PathUp k l numbers
    chain_path numbers k l h c = subst (PathUp k l) (sym c.is) (climb_path c.above k l h c.climbs)

module _ {C : Type 0} (measure : C → ℕ → ℤ) (k : ℕ) (l : Label C) (labels labels1 : Labels C) (z : Settles measure k l labels labels1) where
  -- a label after k was settled is one from before, but for the mark
  pub was_label : (j : ℕ) (m : Label C) → HasLabel labels1 j m → ((j ≡ k) × (m ≡ record l { settled = true })) ⊎ ((j ≢ k) × HasLabel labels j m)
  was_label j m h = elim (nat_dec j k) as (λ _. ((j ≡ k) × (m ≡ record l { settled = true })) ⊎ ((j ≢ k) × HasLabel labels j m)) [
    | inl e ↦ inl (e, label_is labels1 k m (record l { settled = true }) (subst (λ (n : ℕ). HasLabel labels1 n m) e h) z.now)
    | inr e ↦ inr (e, z.from j m e h)
  ]

  -- what was settled is so still
  pub settled_stays_1 : (j : ℕ) (m : Label C) → HasLabel labels j m → m.settled ≡ true → HasLabel labels1 j m
  settled_stays_1 j m h t = elim (nat_dec j k) as (λ _. HasLabel labels1 j m) [
    | inl e ↦ absurd (true≢false (sym t ∙ ap (λ (n : Label C). n.settled) (label_is labels k m l (subst (λ (n : ℕ). HasLabel labels n m) e h) z.was) ∙ z.opened))
    | inr e ↦ z.others j m e h
  ]

  linked_1 : (m : Label C) → (n : Label C) × HasLabel labels m.parent n × (n.settled ≡ true) × (m.depth ≡ n.depth + 1) → (n : Label C) × HasLabel labels1 m.parent n × (n.settled ≡ true) × (m.depth ≡ n.depth + 1)
  linked_1 m r = (r.0, settled_stays_1 m.parent r.0 r.1 r.2, r.2, r.3)

  pub IsTree-settle : IsTree labels → IsTree labels1
  IsTree-settle t = record {
    linked = λ j m h. elim (was_label j m h) as (λ _. (m.depth ≡ 0) ⊎ ((n : Label C) × HasLabel labels1 m.parent n × (n.settled ≡ true) × (m.depth ≡ n.depth + 1))) [
      | inl e ↦ subst (λ (m : Label C). (m.depth ≡ 0) ⊎ ((n : Label C) × HasLabel labels1 m.parent n × (n.settled ≡ true) × (m.depth ≡ n.depth + 1))) (sym e.1)
          (elim (t.linked k l z.was) as (λ _. (l.depth ≡ 0) ⊎ ((n : Label C) × HasLabel labels1 l.parent n × (n.settled ≡ true) × (l.depth ≡ n.depth + 1))) [ inl r ↦ inl r | inr r ↦ inr (linked_1 l r) ])
      | inr e ↦ elim (t.linked j m e.1) as (λ _. (m.depth ≡ 0) ⊎ ((n : Label C) × HasLabel labels1 m.parent n × (n.settled ≡ true) × (m.depth ≡ n.depth + 1))) [ inl r ↦ inl r | inr r ↦ inr (linked_1 m r) ]
    ];
  }

  module _ (n : ℕ) (labels2 : Labels C) (wide : Widened n labels1 labels2) (worth : C → ℤ) (row : List (ℕ × C)) (labels3 : Labels C) (rel : Relaxed measure worth k l row labels2 labels3) where
    -- what is settled after the node of number k was settled is so after its steps
    pub settled_stays_3 : (j : ℕ) (m : Label C) → HasLabel labels1 j m → m.settled ≡ true → HasLabel labels3 j m
    settled_stays_3 j m h t = elim (rel.others j m (wide.stays j m h)) as (λ _. HasLabel labels3 j m) [ inl i ↦ i | inr i ↦ absurd (true≢false (sym t ∙ i.0)) ]

    pub IsTree-turn : IsTree labels1 → IsTree labels3
    IsTree-turn t = record {
      linked = λ j m h. elim (rel.from j m h) as (λ _. (m.depth ≡ 0) ⊎ ((n : Label C) × HasLabel labels3 m.parent n × (n.settled ≡ true) × (m.depth ≡ n.depth + 1))) [
        | inl i ↦ elim (t.linked j m (wide.from j m i)) as (λ _. (m.depth ≡ 0) ⊎ ((n : Label C) × HasLabel labels3 m.parent n × (n.settled ≡ true) × (m.depth ≡ n.depth + 1))) [
          | inl r ↦ inl r
          | inr r ↦ inr (r.0, settled_stays_3 m.parent r.0 r.1 r.2, r.2, r.3)
        ]
        | inr i ↦ let from = i.2 in inr (record l { settled = true }, subst (λ (n : ℕ). HasLabel labels3 n (record l { settled = true })) (sym from.before) (settled_stays_3 k (record l { settled = true }) z.now refl), refl, from.deeper)
      ];
    }
