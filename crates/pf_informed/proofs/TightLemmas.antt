-- Rows of numbers before each number, as numbers are put in, in order.
use Rattle.std.proofs.Common.{◌≡◌, ◌≢◌, ℕ, ◌+◌, ◌<◌, ◌≤◌, refl, sym, ◌∙◌, ap, subst, arith, Bool, true, false, true≢false, List, [], ◌∷◌, ◌++◌, length, inl, inr, not, nat_eq, eq-eqb, ℤ}
use Rattle.std.specs.Prelude.{◌⊎◌, ◌↔◌, ◌≤ℤ◌, ◌<ℤ◌, ◌+ℤ◌, MatchBool, Result, Ok, Err, OnOk, Contains, slice_set}
use Rattle.std.specs.Ordering.{int_cmp, is_lt}
use Rattle.std.proofs.lemmas.Int.{ints}
use Rattle.std.proofs.lemmas.List.{length-set}
use borrow.Author.Tests.{eqb-true}
use Rattle.pf_base.specs.Walks.{HasNode, NoRepeats}
use Rattle.pf_core.specs.declared.labels.Label.{Label}
use Rattle.pf_core.specs.Labels.{Labels, HasLabel}
use Rattle.pf_core.specs.Numbered.{ListsSteps, Grows}
use Rattle.pf_base.proofs.ListLemmas.{nat_dec, lt_means, get_set}
use Rattle.pf_core.proofs.LabelLemmas.{HasLabel-inside, label_is}
use Rattle.pf_core.proofs.PathLemmas.{HasNode-append_cases, NoRepeats-append}
use Rattle.pf_informed.specs.Internal.Chains.{BeginsWith, IsLinked, before_in, list_or_none}
use Rattle.pf_informed.specs.Internal.Tight.{AllBelow, IsUpTo, AreRows, IsTightStep, IsTightEdge, IsTight}

nat_symm : (x y : ℕ) → nat_eq x y ≡ true → nat_eq y x ≡ true
nat_symm x y h = eq-eqb y x (sym (eqb-true x y h))

in_more : (xs : List ℕ) (x k : ℕ) → HasNode nat_eq xs k → HasNode nat_eq (xs ++ x ∷ []) k
in_more [] x k h = absurd h
in_more (y ∷ xs) x k (inl e) = inl e
in_more (y ∷ xs) x k (inr h) = inr (in_more xs x k h)

in_last : (xs : List ℕ) (x : ℕ) → HasNode nat_eq (xs ++ x ∷ []) x
in_last [] x = inl (eq-eqb x x refl)
in_last (y ∷ xs) x = inr (in_last xs x)

pub in_snoc : (xs : List ℕ) (x k : ℕ) → HasNode nat_eq (xs ++ x ∷ []) k ↔ (HasNode nat_eq xs k ⊎ (k ≡ x))
in_snoc xs x k = (
  (λ h. elim (HasNode-append_cases nat_eq xs x k h) as (λ _. HasNode nat_eq xs k ⊎ (k ≡ x)) [ inl i ↦ inl i | inr e ↦ inr (sym (eqb-true x k e)) ]),
  (λ h. elim h as (λ _. HasNode nat_eq (xs ++ x ∷ []) k) [ inl i ↦ in_more xs x k i | inr e ↦ subst (λ (n : ℕ). HasNode nat_eq (xs ++ x ∷ []) n) (sym e) (in_last xs x) ]),
)

pub below_once : (xs : List ℕ) (n : ℕ) → NoRepeats nat_eq xs → AllBelow n xs → NoRepeats nat_eq (xs ++ n ∷ [])
below_once xs n once low = NoRepeats-append nat_eq nat_symm xs n once (λ h. omega (arith, low n h))

-- ---- a number is put first in a row
in_cons : (xs : List ℕ) (x k : ℕ) → HasNode nat_eq (x ∷ xs) k ↔ (HasNode nat_eq xs k ⊎ (k ≡ x))
in_cons xs x k = (
  (λ h. elim h as (λ _. HasNode nat_eq xs k ⊎ (k ≡ x)) [ inl e ↦ inr (sym (eqb-true x k e)) | inr i ↦ inl i ]),
  (λ h. elim h as (λ _. HasNode nat_eq (x ∷ xs) k) [ inl i ↦ inr i | inr e ↦ inl (eq-eqb x k (sym e)) ]),
)

up_to_put : (n : ℕ) (xs : List ℕ) → IsUpTo n xs → ¬ (BeginsWith n xs) → IsUpTo n (n ∷ xs)
up_to_put n xs u not = elim u.low as (λ _. IsUpTo n (n ∷ xs)) [
  | inl low ↦ record { once = ((λ h. let l = low n h in absurd (omega (arith, l))), u.once); low = inr (xs, refl, low) }
  | inr f ↦ absurd (not (f.0, f.1))
]

up_to_next : (n : ℕ) (xs : List ℕ) → IsUpTo n xs → IsUpTo (n + 1) xs
up_to_next n xs u = record {
  once = u.once;
  low = inl (λ k h. elim u.low as (λ _. k < n + 1) [
    | inl low ↦ omega (arith, low k h)
    | inr f ↦ elim ((in_cons f.0 n k).0 (subst (λ ys. HasNode nat_eq ys k) f.1 h)) as (λ _. k < n + 1) [ inl i ↦ omega (arith, f.2 k i) | inr e ↦ omega (arith, e) ]
  ]);
}

pub rows_next : {n count : ℕ} {rows : List (List ℕ)} → AreRows n count rows → AreRows (n + 1) count rows
rows_next r = record { wide = r.wide; up_to = λ j. up_to_next _ _ (r.up_to j) }

module _ (rows rows' : List (List ℕ)) (next number : ℕ) (inside : next < length rows) (l : IsLinked next number rows rows') where
  row_set : rows' ≡ slice_set rows next (number ∷ before_in rows next) → (j : ℕ) → ((j ≡ next) × (before_in rows' j ≡ number ∷ before_in rows next)) ⊎ ((j ≢ next) × (before_in rows' j ≡ before_in rows j))
  row_set is j = elim (get_set rows next j (number ∷ before_in rows next) inside) as (λ _. ((j ≡ next) × (before_in rows' j ≡ number ∷ before_in rows next)) ⊎ ((j ≢ next) × (before_in rows' j ≡ before_in rows j))) [
    | inl r ↦ inl (r.0, ap (λ (rs : List (List ℕ)). before_in rs j) is ∙ ap list_or_none r.1)
    | inr r ↦ inr (r.0, ap (λ (rs : List (List ℕ)). before_in rs j) is ∙ ap list_or_none r.1)
  ]

  pub linked_rows : {count : ℕ} → AreRows number count rows → AreRows number count rows'
  linked_rows r = elim l as (λ _. AreRows number _ rows') [
    | inl s ↦ subst (AreRows number _) (sym s.0) r
    | inr s ↦ record {
      wide = ap length s.0 ∙ length-set rows next (number ∷ before_in rows next) ∙ r.wide;
      up_to = λ j. elim (row_set s.0 j) as (λ _. IsUpTo number (before_in rows' j)) [
        | inl q ↦ subst (IsUpTo number) (sym q.1) (up_to_put number (before_in rows next) (r.up_to next) s.1)
        | inr q ↦ subst (IsUpTo number) (sym q.1) (r.up_to j)
      ];
    }
  ]

  module _ (T : ℕ → Type 0) (tight : T next) where
    pub linked_in : (j k : ℕ) → HasNode nat_eq (before_in rows' j) k ↔ (HasNode nat_eq (before_in rows j) k ⊎ ((k ≡ number) × (j ≡ next) × T j))
    linked_in j k = (there, back)
      where
        there : HasNode nat_eq (before_in rows' j) k → HasNode nat_eq (before_in rows j) k ⊎ ((k ≡ number) × (j ≡ next) × T j)
        there h = elim l as (λ _. HasNode nat_eq (before_in rows j) k ⊎ ((k ≡ number) × (j ≡ next) × T j)) [
          | inl s ↦ inl (subst (λ (rs : List (List ℕ)). HasNode nat_eq (before_in rs j) k) s.0 h)
          | inr s ↦ elim (row_set s.0 j) as (λ _. HasNode nat_eq (before_in rows j) k ⊎ ((k ≡ number) × (j ≡ next) × T j)) [
            | inl q ↦ elim ((in_cons (before_in rows next) number k).0 (subst (λ ys. HasNode nat_eq ys k) q.1 h)) as (λ _. HasNode nat_eq (before_in rows j) k ⊎ ((k ≡ number) × (j ≡ next) × T j)) [
              | inl i ↦ inl (subst (λ (n : ℕ). HasNode nat_eq (before_in rows n) k) (sym q.0) i)
              | inr e ↦ inr (e, q.0, subst T (sym q.0) tight)
            ]
            | inr q ↦ inl (subst (λ ys. HasNode nat_eq ys k) q.1 h)
          ]
        ]

        here : (k ≡ number) × (j ≡ next) × T j → HasNode nat_eq (before_in rows' j) k
        here e = elim l as (λ _. HasNode nat_eq (before_in rows' j) k) [
          | inl s ↦
              let first : before_in rows' j ≡ number ∷ s.1.0 = ap (λ (rs : List (List ℕ)). before_in rs j) s.0 ∙ ap (before_in rows) e.1 ∙ s.1.1 in
              subst (λ ys. HasNode nat_eq ys k) (sym first) (inl (eq-eqb number k (sym e.0)))
          | inr s ↦ elim (row_set s.0 j) as (λ _. HasNode nat_eq (before_in rows' j) k) [
            | inl q ↦ subst (λ ys. HasNode nat_eq ys k) (sym q.1) (inl (eq-eqb number k (sym e.0)))
            | inr q ↦ absurd (q.0 e.1)
          ]
        ]

        kept : HasNode nat_eq (before_in rows j) k → HasNode nat_eq (before_in rows' j) k
        kept h = elim l as (λ _. HasNode nat_eq (before_in rows' j) k) [
          | inl s ↦ subst (λ (rs : List (List ℕ)). HasNode nat_eq (before_in rs j) k) (sym s.0) h
          | inr s ↦ elim (row_set s.0 j) as (λ _. HasNode nat_eq (before_in rows' j) k) [
            | inl q ↦ subst (λ ys. HasNode nat_eq ys k) (sym q.1) (inr (subst (λ (n : ℕ). HasNode nat_eq (before_in rows n) k) q.0 h))
            | inr q ↦ subst (λ ys. HasNode nat_eq ys k) (sym q.1) h
          ]
        ]

        back : HasNode nat_eq (before_in rows j) k ⊎ ((k ≡ number) × (j ≡ next) × T j) → HasNode nat_eq (before_in rows' j) k
        back h = elim h as (λ _. HasNode nat_eq (before_in rows' j) k) [ inl i ↦ kept i | inr e ↦ here e ]

-- ---- comparisons
pub less_of : (x y : ℤ) (r : Bool) → r ≡ is_lt (int_cmp x y) → r ≡ true → x <ℤ y
less_of x y r e t = by r (lt_means x y r e) t
  where
    by : (r : Bool) → MatchBool r (x <ℤ y) (y ≤ℤ x) → r ≡ true → x <ℤ y
    by true m t = m
    by false m t = absurd (true≢false (sym t))

pub not_less_of : (x y : ℤ) (r : Bool) → r ≡ is_lt (int_cmp x y) → r ≡ false → y ≤ℤ x
not_less_of x y r e t = by r (lt_means x y r e) t
  where
    by : (r : Bool) → MatchBool r (x <ℤ y) (y ≤ℤ x) → r ≡ false → y ≤ℤ x
    by true m t = absurd (true≢false t)
    by false m t = m

pub tight_at : {C : Type 0} (value : C → ℤ) (labels : Labels C) (next : ℕ) (label : Label C) (s : ℤ) (price sum : C) → HasLabel labels next label → value sum ≡ s +ℤ value price → (cost : ℤ) → cost ≡ value label.cost → value sum ≤ℤ cost
    → (r : Bool) → MatchBool r (value sum <ℤ cost) (cost ≤ℤ value sum) → MatchBool (not r) (IsTightStep value labels next s price) (¬ (IsTightStep value labels next s price))
tight_at value labels next label s price sum at is cost same low true m = λ h. let e = ap (λ (l : Label _). value l.cost) (label_is labels next label h.0 at h.1) in omega (arith, ints, m, e, h.2, is, same)
tight_at value labels next label s price sum at is cost same low false m = (label, at, omega (arith, ints, m, low, is, same))

-- ---- one number more
module _ {X C : Type 0} (value : C → ℤ) (labels : Labels C) (step : X → ℤ → X → Type 0) (passes : X → Bool) (t : ℤ) where
  pub tight_start : (stands : ℕ → X → Type 0) (goals : List ℕ) → goals ≡ [] → (before : ℕ → List ℕ) → ((j : ℕ) → before j ≡ []) → IsTight value labels step passes stands t 0 goals before
  tight_start stands goals is before none = record {
    goal = λ k h. absurd (subst (λ ys. HasNode nat_eq ys k) is h);
    every_goal = λ k l x low. absurd (omega (arith, low));
    goals_once = subst (NoRepeats nat_eq) (sym is) tt;
    goals_below = λ k h. absurd (subst (λ ys. HasNode nat_eq ys k) is h);
    tight = λ j k h. absurd (subst (λ ys. HasNode nat_eq ys k) (none j) h);
    every = λ k j l m x y z low. absurd (omega (arith, low));
    once = λ j. subst (NoRepeats nat_eq) (sym (none j)) tt;
    below = λ j k h. absurd (subst (λ ys. HasNode nat_eq ys k) (none j) h);
  }

  module _ (found found' : ℕ) (stands stands' : ℕ → X → Type 0) (grow : Grows found found' stands stands') (wide : length labels ≤ found) where
    was : (k : ℕ) (l : Label C) (x : X) → HasLabel labels k l → stands' k x → stands k x
    was k l x at s = grow.back k x (omega (arith, HasLabel-inside labels k l at, wide)) s

    pub tight_grows : (n : ℕ) (goals : List ℕ) (before : ℕ → List ℕ) → IsTight value labels step passes stands t n goals before → IsTight value labels step passes stands' t n goals before
    tight_grows n goals before h = record {
      goal = λ k i. let r = h.goal k i in (r.0, r.1, r.2, λ x s. r.3 x (was k r.0 x r.1 s));
      every_goal = λ k l x low at cheap s. h.every_goal k l x low at cheap (was k l x at s);
      goals_once = h.goals_once;
      goals_below = h.goals_below;
      tight = λ j k i.
          let e = h.tight j k i in
          record {
            label = e.label;
            at = e.at;
            next = e.next;
            there = e.there;
            along = λ x s. let r = e.along x (was k e.label x e.at s) in (r.0, (r.1.0, r.1.1, r.1.2, grow.stays j r.1.1 r.1.3, r.1.4));
          };
      every = λ k j l m x y z low at cheap s fails edge there next is. h.every k j l m x y z low at cheap (was k l x at s) fails edge (was j m y next there) next is;
      once = h.once;
      below = h.below;
    }

  module _ (stands : ℕ → X → Type 0) (n : ℕ) (goals : List ℕ) (before : ℕ → List ℕ) (h : IsTight value labels step passes stands t n goals before) where
    one_more : (k : ℕ) → k < n + 1 → (k < n) ⊎ (k ≡ n)
    one_more k l = elim (nat_dec k n) as (λ _. (k < n) ⊎ (k ≡ n)) [ inl e ↦ inr e | inr e ↦ inl (omega (arith, l, e)) ]

    pub tight_skipped : ((l : Label C) → HasLabel labels n l → t <ℤ value l.cost) → IsTight value labels step passes stands t (n + 1) goals before
    tight_skipped dear = record {
      goal = h.goal;
      every_goal = λ k l x low at cheap s good. elim (one_more k low) as (λ _. HasNode nat_eq goals k) [
        | inl i ↦ h.every_goal k l x i at cheap s good
        | inr e ↦ absurd (omega (arith, ints, cheap, dear l (subst (λ (i : ℕ). HasLabel labels i l) e at)))
      ];
      goals_once = h.goals_once;
      goals_below = λ k i. omega (arith, h.goals_below k i);
      tight = h.tight;
      every = λ k j l m x y z low at cheap s fails edge there next is. elim (one_more k low) as (λ _. HasNode nat_eq (before j) k) [
        | inl i ↦ h.every k j l m x y z i at cheap s fails edge there next is
        | inr e ↦ absurd (omega (arith, ints, cheap, dear l (subst (λ (i : ℕ). HasLabel labels i l) e at)))
      ];
      once = h.once;
      below = λ j k i. omega (arith, h.below j k i);
    }

    module _ (l : Label C) (at : HasLabel labels n l) (cheap : value l.cost ≤ℤ t) where
      pub tight_goal : ((x : X) → stands n x → passes x ≡ true) → IsTight value labels step passes stands t (n + 1) (goals ++ n ∷ []) before
      tight_goal good = record {
        goal = λ k i. elim ((in_snoc goals n k).0 i) as (λ _. (m : Label C) × HasLabel labels k m × (value m.cost ≤ℤ t) × ((x : X) → stands k x → passes x ≡ true)) [
          | inl j ↦ h.goal k j
          | inr e ↦ subst (λ (i : ℕ). (m : Label C) × HasLabel labels i m × (value m.cost ≤ℤ t) × ((x : X) → stands i x → passes x ≡ true)) (sym e) (l, at, cheap, good)
        ];
        every_goal = λ k m x low there low_cost s pass. (in_snoc goals n k).1 (elim (one_more k low) as (λ _. HasNode nat_eq goals k ⊎ (k ≡ n)) [ inl i ↦ inl (h.every_goal k m x i there low_cost s pass) | inr e ↦ inr e ]);
        goals_once = below_once goals n h.goals_once h.goals_below;
        goals_below = λ k i. elim ((in_snoc goals n k).0 i) as (λ _. k < n + 1) [ inl j ↦ omega (arith, h.goals_below k j) | inr e ↦ omega (arith, e) ];
        tight = h.tight;
        every = λ k j a m x y z low there low_cost s fails edge ends next is. elim (one_more k low) as (λ _. HasNode nat_eq (before j) k) [
          | inl i ↦ h.every k j a m x y z i there low_cost s fails edge ends next is
          | inr e ↦ absurd (true≢false (sym (good x (subst (λ (i : ℕ). stands i x) e s)) ∙ fails))
        ];
        once = h.once;
        below = λ j k i. omega (arith, h.below j k i);
      }

      module _ (fail : (x : X) → stands n x → passes x ≡ false) (row : List (ℕ × C)) (lists : (x : X) → stands n x → ListsSteps value step stands x row) (someone : (x : X) × stands n x) (before' : ℕ → List ℕ)
          (linked : (j k : ℕ) → HasNode nat_eq (before' j) k ↔ (HasNode nat_eq (before j) k ⊎ ((k ≡ n) × ((c : C) × Contains row (j, c) × IsTightStep value labels j (value l.cost) c)))) (once' : (j : ℕ) → NoRepeats nat_eq (before' j)) where
        new_edge : (j : ℕ) (c : C) → Contains row (j, c) → IsTightStep value labels j (value l.cost) c → IsTightEdge value labels step passes stands t n j
        new_edge j c i to = record {
          label = l;
          at = at;
          next = to.0;
          there = to.1;
          along = λ x s. let q = (lists x s).sound j c i in (fail x s, (value c, q.0, q.1, q.2, to.2));
        }

        pub tight_row : IsTight value labels step passes stands t (n + 1) goals before'
        tight_row = record {
          goal = h.goal;
          every_goal = λ k m x low there low_cost s pass. elim (one_more k low) as (λ _. HasNode nat_eq goals k) [
            | inl i ↦ h.every_goal k m x i there low_cost s pass
            | inr e ↦ absurd (true≢false (sym pass ∙ fail x (subst (λ (i : ℕ). stands i x) e s)))
          ];
          goals_once = h.goals_once;
          goals_below = λ k i. omega (arith, h.goals_below k i);
          tight = λ j k i. elim ((linked j k).0 i) as (λ _. IsTightEdge value labels step passes stands t k j) [
            | inl o ↦ h.tight j k o
            | inr e ↦ subst (λ (i : ℕ). IsTightEdge value labels step passes stands t i j) (sym e.0) (new_edge j e.1.0 e.1.1 e.1.2)
          ];
          every = λ k j a m x y z low there low_cost s fails edge ends next is. (linked j k).1 (elim (one_more k low) as (λ _. HasNode nat_eq (before j) k ⊎ ((k ≡ n) × ((c : C) × Contains row (j, c) × IsTightStep value labels j (value l.cost) c))) [
            | inl i ↦ inl (h.every k j a m x y z i there low_cost s fails edge ends next is)
            | inr e ↦
                let c = (lists x (subst (λ (i : ℕ). stands i x) e s)).complete z y j edge ends in
                let same = ap (λ (b : Label C). value b.cost) (label_is labels n l a at (subst (λ (i : ℕ). HasLabel labels i a) e there)) in
                inr (e, (c.0, c.1, (m, next, omega (arith, ints, is, c.2, same))))
          ]);
          once = once';
          below = λ j k i. elim ((linked j k).0 i) as (λ _. k < n + 1) [ inl o ↦ omega (arith, h.below j k o) | inr e ↦ omega (arith, e.0) ];
        }

-- ---- the steps of a row, one by one
module _ {C : Type 0} (before : ℕ → List ℕ) where
  pub linked_start : (number : ℕ) (T : ℕ → C → Type 0) (j k : ℕ) → HasNode nat_eq (before j) k ↔ (HasNode nat_eq (before j) k ⊎ ((k ≡ number) × ((c : C) × Contains {X = ℕ × C} [] (j, c) × T j c)))
  linked_start number T j k = ((λ h. inl h), (λ h. elim h as (λ _. HasNode nat_eq (before j) k) [ inl i ↦ i | inr e ↦ absurd (omega (arith, e.1.1.1)) ]))

  pub linked_more : (mid after : ℕ → List ℕ) (number : ℕ) (T : ℕ → C → Type 0) (row row' : List (ℕ × C)) (item : ℕ × C) → ((x : ℕ × C) → Contains row x → Contains row' x) → Contains row' item → ((x : ℕ × C) → Contains row' x → Contains row x ⊎ (item ≡ x))
      → ((j k : ℕ) → HasNode nat_eq (mid j) k ↔ (HasNode nat_eq (before j) k ⊎ ((k ≡ number) × ((c : C) × Contains row (j, c) × T j c))))
      → ((j k : ℕ) → HasNode nat_eq (after j) k ↔ (HasNode nat_eq (mid j) k ⊎ ((k ≡ number) × (j ≡ item.0) × T j item.1)))
      → (j k : ℕ) → HasNode nat_eq (after j) k ↔ (HasNode nat_eq (before j) k ⊎ ((k ≡ number) × ((c : C) × Contains row' (j, c) × T j c)))
  linked_more mid after number T row row' item more here only a b j k = (
    (λ h. elim ((b j k).0 h) as (λ _. HasNode nat_eq (before j) k ⊎ ((k ≡ number) × ((c : C) × Contains row' (j, c) × T j c))) [
      | inl i ↦ elim ((a j k).0 i) as (λ _. HasNode nat_eq (before j) k ⊎ ((k ≡ number) × ((c : C) × Contains row' (j, c) × T j c))) [ inl o ↦ inl o | inr e ↦ inr (e.0, (e.1.0, more (j, e.1.0) e.1.1, e.1.2)) ]
      | inr e ↦ inr (e.0, (item.1, subst (λ (n : ℕ). Contains {X = ℕ × C} row' (n, item.1)) (sym e.1) here, e.2))
    ]),
    (λ h. elim h as (λ _. HasNode nat_eq (after j) k) [
      | inl i ↦ (b j k).1 (inl ((a j k).1 (inl i)))
      | inr e ↦ elim (only (j, e.1.0) e.1.1) as (λ _. HasNode nat_eq (after j) k) [
        | inl o ↦ (b j k).1 (inl ((a j k).1 (inr (e.0, (e.1.0, o, e.1.2)))))
        | inr s ↦ (b j k).1 (inr (e.0, ap (λ (x : ℕ × C). x.0) (sym s), subst (T j) (ap (λ (x : ℕ × C). x.1) (sym s)) e.1.2))
      ]
    ]),
  )

pub both_ok : {A E : Type 0} (P Q : Type 0) (r : Result A E) → OnOk r P → OnOk r Q → OnOk r (P × Q)
both_ok P Q (Ok x) p q = (p, q)
both_ok P Q (Err e) p q = tt
