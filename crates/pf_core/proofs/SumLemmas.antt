-- Lemmas on rows that are sorted by ends.
use Rattle.std.proofs.Common.{ℕ, zero, suc, ◌+◌, ◌-◌, ◌<◌, ◌≤◌, ◌≡◌, ◌≢◌, refl, sym, ◌∙◌, ap, subst, arith, Bool, true, false, true≢false, ◌||◌, List, [], ◌∷◌, length, get_or, take, take_all, inl, inr, ℤ, Option, Some, None, nat_eq, eq-eqb}
use Rattle.std.specs.Prelude.{slice_get, Contains, MatchBool, ◌+ℤ◌, ◌⊎◌}
use Rattle.std.specs.List.Sorted.{IsNonDecreasingBy}
use Rattle.std.proofs.lemmas.Option.{slice_get_within, get_or_from_slice_get}
use borrow.Author.Tests.{eqb-true}
use Rattle.pf_core.specs.declared.labels.Label.{Label}
use Rattle.pf_core.specs.declared.sums.End.{End}
use Rattle.pf_core.specs.Labels.{Labels, HasLabel, IsReached}
use Rattle.pf_core.specs.Sums.{joined_by, joined_end, Reached, IsMissed, IsLooked}
use Rattle.pf_base.proofs.ListLemmas.{bool_dec, or_left, or_right, or_cases, at_place, Contains-cases, Contains-take_more}

less_or_more : (i j : ℕ) → (i < j) ⊎ (j ≤ i)
less_or_more i zero = inr (omega arith)
less_or_more zero (suc j) = inl (omega arith)
less_or_more (suc i) (suc j) = elim (less_or_more i j) as (λ _. (suc i < suc j) ⊎ (suc j ≤ suc i)) [ inl h ↦ inl (omega (arith, h)) | inr h ↦ inr (omega (arith, h)) ]

in_take : {A : Type 0} (xs : List A) (n k : ℕ) (x : A) → k < n → k < length xs → get_or xs k x ≡ x → Contains (take n xs) x
in_take [] n k x l h e = absurd (omega (arith, h))
in_take (y ∷ ys) zero k x l h e = absurd (omega (arith, l))
in_take (y ∷ ys) (suc n) zero x l h e = (0, omega arith, e)
in_take (y ∷ ys) (suc n) (suc k) x l h e = let r = in_take ys n k x (omega (arith, l)) (omega (arith, h)) e in (suc r.0, omega (arith, r.1), r.2)

-- an element of the whole is one of the first, or stands at a place behind them
place_of : {A : Type 0} (xs : List A) (n : ℕ) (x : A) → Contains xs x → Contains (take n xs) x ⊎ ((k : ℕ) × (n ≤ k) × (k < length xs) × (get_or xs k x ≡ x))
place_of xs n x h = elim (less_or_more h.0 n) as (λ _. Contains (take n xs) x ⊎ ((k : ℕ) × (n ≤ k) × (k < length xs) × (get_or xs k x ≡ x))) [
  | inl l ↦ inl (in_take xs n h.0 x l h.1 h.2)
  | inr l ↦ inr (h.0, l, h.1, h.2)
]

of_take : {A : Type 0} (xs : List A) (n : ℕ) (x : A) → Contains (take n xs) x → (k : ℕ) × (k < n) × (slice_get xs k ≡ Some x)
of_take [] zero x h = absurd (omega (arith, h.1))
of_take [] (suc n) x h = absurd (omega (arith, h.1))
of_take (y ∷ ys) zero x h = absurd (omega (arith, h.1))
of_take (y ∷ ys) (suc n) x h = elim (Contains-cases (take n ys) y x h) as (λ _. (k : ℕ) × (k < suc n) × (slice_get (y ∷ ys) k ≡ Some x)) [
  | inl e ↦ (0, omega arith, ap Some e)
  | inr r ↦ let p = of_take ys n x r in (suc p.0, omega (arith, p.1), p.2)
]

some_none : {A : Type 0} {x : A} → ¬ (Some x ≡ None)
some_none q = cc

module _ {C : Type 0} (value : C → ℤ) (fits : ℤ → Type 0) (labels : Labels C) (row : List (ℕ × C)) (t : ℤ) (sorted : IsNonDecreasingBy (λ (x : ℕ × C). x.0) row) where
  rises : (i j : ℕ) (x y : ℕ × C) → i ≤ j → slice_get row i ≡ Some x → slice_get row j ≡ Some y → x.0 ≤ y.0
  rises i j x y le a b =
      let h = sorted i j x le (slice_get_within row j y b) in
      let p : get_or row i x ≡ x = get_or_from_slice_get row i x x a in
      let q : get_or row j x ≡ y = get_or_from_slice_get row j y x b in
      omega (arith, h, ap (λ (z : ℕ × C). z.0) p, ap (λ (z : ℕ × C). z.0) q)

  module _ (i : ℕ) (item : ℕ × C) (is : item ≡ get_or row i item) (inside : i < length row) (last : Option End) (k : IsLooked value fits labels row t i last) (b : Bool)
      (evidence : MatchBool b (((m : Label C) × HasLabel labels item.0 m × fits (value m.cost)) ⊎ fits (t +ℤ value item.1)) (((m : Label C) → ¬ (HasLabel labels item.0 m)) × (¬ (fits (t +ℤ value item.1))))) where
    abbrev fresh_end : End
    fresh_end = record { number = item.0; is_reached = b }

    there : slice_get row i ≡ Some item
    there = at_place row i item item inside (sym is)

    hit_here : b ≡ true → Reached value fits labels row t item.0
    hit_here e = elim (subst (λ (z : Bool). MatchBool z (((m : Label C) × HasLabel labels item.0 m × fits (value m.cost)) ⊎ fits (t +ℤ value item.1)) (((m : Label C) → ¬ (HasLabel labels item.0 m)) × (¬ (fits (t +ℤ value item.1))))) e evidence) as (λ _. Reached value fits labels row t item.0) [
      | inl m ↦ inl m
      | inr f ↦ inr (item.1, (i, inside, sym is), f)
    ]

    missed_here : b ≡ false → ((m : Label C) → ¬ (HasLabel labels item.0 m)) × (¬ (fits (t +ℤ value item.1)))
    missed_here e = subst (λ (z : Bool). MatchBool z (((m : Label C) × HasLabel labels item.0 m × fits (value m.cost)) ⊎ fits (t +ℤ value item.1)) (((m : Label C) → ¬ (HasLabel labels item.0 m)) × (¬ (fits (t +ℤ value item.1))))) e evidence

    at_here : (r : Bool) (e : End) → Some (record { number = item.0; is_reached = r }) ≡ Some e → (0 < i + 1) × ((c : C) × (slice_get row (i + 1 - 1) ≡ Some (e.number, c)))
    at_here r e q =
        let f : record { number = item.0; is_reached = r } ≡ e = cc in
        let n : i + 1 - 1 ≡ i = omega arith in
        (omega arith, (item.1, subst (λ (j : ℕ). slice_get row j ≡ Some (e.number, item.1)) (sym n) (there ∙ ap (λ (j : End). Some (j.number, item.1)) f)))

    -- a new end: the steps before are reached, and lead elsewhere
    fresh : ((d : C) → ¬ (Contains (take i row) (item.0, d))) → ((j : ℕ) (c : C) → Contains (take i row) (j, c) → Reached value fits labels row t j) → IsLooked value fits labels row t (i + 1) (Some (record { number = item.0; is_reached = b }))
    fresh none before = record {
      reached = λ j c h. elim (Contains-take_more row i item (j, c) h) as (λ _. Reached value fits labels row t j ⊎ (Some fresh_end ≡ Some (record { number = j; is_reached = false }))) [
        | inl p ↦ inl (before j c p)
        | inr e ↦
            let n : item.0 ≡ j = ap (λ (x : ℕ × C). x.0) (is ∙ e) in
            elim (bool_dec b) as (λ _. Reached value fits labels row t j ⊎ (Some fresh_end ≡ Some (record { number = j; is_reached = false }))) [
              | inl y ↦ inl (subst (λ (z : ℕ). Reached value fits labels row t z) n (hit_here y))
              | inr y ↦ inr (ap (λ (z : ℕ). Some (record { number = z; is_reached = b })) n ∙ ap (λ (z : Bool). Some (record { number = j; is_reached = z })) y)
            ]
      ];
      hit = λ e q y. let f : fresh_end ≡ e = cc in subst (λ (z : End). Reached value fits labels row t z.number) f (hit_here (ap (λ (z : End). z.is_reached) f ∙ y));
      missed = λ e q y.
          let f : fresh_end ≡ e = cc in
          let m = missed_here (ap (λ (z : End). z.is_reached) f ∙ y) in
          subst (λ (z : End). IsMissed value fits labels row t (take (i + 1) row) z.number) f (
            m.0,
            λ d h. elim (Contains-take_more row i item (item.0, d) h) as (λ _. ¬ (fits (t +ℤ value d))) [
              | inl p ↦ absurd (none d p)
              | inr e ↦ subst (λ (x : C). ¬ (fits (t +ℤ value x))) (ap (λ (x : ℕ × C). x.1) (is ∙ e)) m.1
            ],
          );
      at = at_here b;
      nothing = λ q. absurd (some_none q);
    }

    -- the same end once more
    module _ (e : End) (l : last ≡ Some e) (n : e.number ≡ item.0) where
      abbrev same_end : End
      same_end = record { number = item.0; is_reached = b || e.is_reached }

      hit_again : b || e.is_reached ≡ true → Reached value fits labels row t item.0
      hit_again y = elim (or_cases b e.is_reached y) as (λ _. Reached value fits labels row t item.0) [ inl x ↦ hit_here x | inr x ↦ subst (Reached value fits labels row t) n (k.hit e l x) ]

      at_end : (j : ℕ) → item.0 ≡ j → Reached value fits labels row t j ⊎ ◌≡◌ {A = Option End} (Some (record { number = item.0; is_reached = b || e.is_reached })) (Some (record { number = j; is_reached = false }))
      at_end j q = elim (bool_dec (b || e.is_reached)) as (λ _. Reached value fits labels row t j ⊎ (Some same_end ≡ Some (record { number = j; is_reached = false }))) [
        | inl y ↦ inl (subst (Reached value fits labels row t) q (hit_again y))
        | inr y ↦ inr (ap (λ (z : ℕ). Some (record { number = z; is_reached = b || e.is_reached })) q ∙ ap (λ (z : Bool). Some (record { number = j; is_reached = z })) y)
      ]

      again : IsLooked value fits labels row t (i + 1) (Some (record { number = item.0; is_reached = b || e.is_reached }))
      again = record {
        reached = λ j c h. elim (Contains-take_more row i item (j, c) h) as (λ _. Reached value fits labels row t j ⊎ (Some same_end ≡ Some (record { number = j; is_reached = false }))) [
          | inl p ↦ elim (k.reached j c p) as (λ _. Reached value fits labels row t j ⊎ (Some same_end ≡ Some (record { number = j; is_reached = false }))) [
            | inl r ↦ inl r
            | inr q ↦ let f : Some e ≡ Some (record { number = j; is_reached = false }) = sym l ∙ q in let g : e ≡ record { number = j; is_reached = false } = cc in at_end j (sym n ∙ ap (λ (z : End). z.number) g)
          ]
          | inr q ↦ at_end j (ap (λ (x : ℕ × C). x.0) (is ∙ q))
        ];
        hit = λ o q y. let f : same_end ≡ o = cc in subst (λ (z : End). Reached value fits labels row t z.number) f (hit_again (ap (λ (z : End). z.is_reached) f ∙ y));
        missed = λ o q y.
            let f : same_end ≡ o = cc in
            let no = ap (λ (z : End). z.is_reached) f ∙ y in
            let m = k.missed e l (or_right b e.is_reached no) in
            let here = missed_here (or_left b e.is_reached no) in
            subst (λ (z : End). IsMissed value fits labels row t (take (i + 1) row) z.number) f (
              here.0,
              λ d h. elim (Contains-take_more row i item (item.0, d) h) as (λ _. ¬ (fits (t +ℤ value d))) [
                | inl p ↦ m.1 d (subst (λ (z : ℕ). Contains (take i row) (z, d)) (sym n) p)
                | inr g ↦ subst (λ (x : C). ¬ (fits (t +ℤ value x))) (ap (λ (x : ℕ × C). x.1) (is ∙ g)) here.1
              ],
            );
        at = at_here (b || e.is_reached);
        nothing = λ q. absurd (some_none q);
      }

    -- the steps before lead to no end behind the last one
    none_before : (e : End) → last ≡ Some e → e.number ≢ item.0 → (d : C) → ¬ (Contains (take i row) (item.0, d))
    none_before e l ne d h =
        let p = of_take row i (item.0, d) h in
        let a = k.at e l in
        ne (omega (arith, rises p.0 (i - 1) (item.0, d) (e.number, a.1.0) (omega (arith, p.1)) p.2 a.1.1, rises (i - 1) i (e.number, a.1.0) item (omega arith) a.1.1 there))

    all_reached : (e : End) → last ≡ Some e → e.is_reached ≡ true → (j : ℕ) (c : C) → Contains (take i row) (j, c) → Reached value fits labels row t j
    all_reached e l y j c h = elim (k.reached j c h) as (λ _. Reached value fits labels row t j) [
      | inl r ↦ r
      | inr q ↦ let f : Some e ≡ Some (record { number = j; is_reached = false }) = sym l ∙ q in let g : e ≡ record { number = j; is_reached = false } = cc in absurd (true≢false (sym y ∙ ap (λ (z : End). z.is_reached) g))
    ]

    pub looked_more : (next : End) → joined_end last item.0 b ≡ Some next → IsLooked value fits labels row t (i + 1) (Some next)
    looked_more next h = by last refl
      where
        by_end : (e : End) → last ≡ Some e → (q r : Bool) → nat_eq e.number item.0 ≡ q → e.is_reached ≡ r → joined_by q r item.0 b ≡ Some next → IsLooked value fits labels row t (i + 1) (Some next)
        by_end e l true r x y g = subst (IsLooked value fits labels row t (i + 1)) g (subst (λ (z : Bool). IsLooked value fits labels row t (i + 1) (Some (record { number = item.0; is_reached = b || z }))) y (again e l (eqb-true e.number item.0 x)))
        by_end e l false true x y g = subst (IsLooked value fits labels row t (i + 1)) g (fresh (none_before e l (λ z. true≢false (sym (eq-eqb e.number item.0 z) ∙ x))) (all_reached e l y))
        by_end e l false false x y g = absurd (some_none (sym g))

        by : (o : Option End) → last ≡ o → IsLooked value fits labels row t (i + 1) (Some next)
        by None l =
            let z : i ≡ 0 = k.nothing l in
            let none : (j : ℕ) (c : C) → ¬ (Contains (take i row) (j, c)) = λ j c p. let r = of_take row i (j, c) p in omega (arith, r.1, z) in
            let g : Some fresh_end ≡ Some next = subst (λ (o : Option End). joined_end o item.0 b ≡ Some next) l h in
            subst (IsLooked value fits labels row t (i + 1)) g (fresh (λ d p. none item.0 d p) (λ j c p. absurd (none j c p)))
        by (Some e) l = by_end e l (nat_eq e.number item.0) e.is_reached refl refl (subst (λ (o : Option End). joined_end o item.0 b ≡ Some next) l h)

    pub left_open : joined_end last item.0 b ≡ None → (j : ℕ) × (c : C) × Contains row (j, c) × ((m : Label C) → ¬ (HasLabel labels j m)) × ((d : C) → Contains row (j, d) → ¬ (fits (t +ℤ value d)))
    left_open h = by last refl
      where
        Missing : Type 0
        Missing = (j : ℕ) × (c : C) × Contains row (j, c) × ((m : Label C) → ¬ (HasLabel labels j m)) × ((d : C) → Contains row (j, d) → ¬ (fits (t +ℤ value d)))

        by_end : (e : End) → last ≡ Some e → (q r : Bool) → nat_eq e.number item.0 ≡ q → e.is_reached ≡ r → joined_by q r item.0 b ≡ None → Missing
        by_end e l true r x y g = absurd (some_none g)
        by_end e l false true x y g = absurd (some_none g)
        by_end e l false false x y g =
            let m = k.missed e l y in
            let a = k.at e l in (
              e.number,
              a.1.0,
              (i - 1, slice_get_within row (i - 1) (e.number, a.1.0) a.1.1, get_or_from_slice_get row (i - 1) (e.number, a.1.0) (e.number, a.1.0) a.1.1),
              m.0,
              λ d p. elim (place_of row i (e.number, d) p) as (λ _. ¬ (fits (t +ℤ value d))) [
                | inl f ↦ m.1 d f
                | inr f ↦ absurd (true≢false (sym (eq-eqb e.number item.0 (omega (arith, rises (i - 1) i (e.number, a.1.0) item (omega arith) a.1.1 there, rises i f.0 item (e.number, d) f.1 there (at_place row f.0 (e.number, d) (e.number, d) f.2 f.3)))) ∙ x))
              ],
            )

        by : (o : Option End) → last ≡ o → Missing
        by None l = let g : Some fresh_end ≡ None = subst (λ (o : Option End). joined_end o item.0 b ≡ None) l h in absurd (some_none g)
        by (Some e) l = by_end e l (nat_eq e.number item.0) e.is_reached refl refl (subst (λ (o : Option End). joined_end o item.0 b ≡ None) l h)

  -- all steps were looked at
  module _ (i : ℕ) (last : Option End) (k : IsLooked value fits labels row t i last) (all : length row ≤ i) where
    whole : take i row ≡ row
    whole = take_all i row all

    pub looked_all : (e : End) → last ≡ Some e → MatchBool e.is_reached ((j : ℕ) (c : C) → Contains row (j, c) → IsReached value fits labels row t j)
        ((j : ℕ) × (c : C) × Contains row (j, c) × ((m : Label C) → ¬ (HasLabel labels j m)) × ((d : C) → Contains row (j, d) → ¬ (fits (t +ℤ value d))))
    looked_all e l = by e.is_reached refl
      where
        by : (r : Bool) → e.is_reached ≡ r → MatchBool r ((j : ℕ) (c : C) → Contains row (j, c) → IsReached value fits labels row t j)
            ((j : ℕ) × (c : C) × Contains row (j, c) × ((m : Label C) → ¬ (HasLabel labels j m)) × ((d : C) → Contains row (j, d) → ¬ (fits (t +ℤ value d))))
        by true y = λ j c h. elim (k.reached j c (subst (λ xs. Contains xs (j, c)) (sym whole) h)) as (λ _. IsReached value fits labels row t j) [
          | inl r ↦ r
          | inr q ↦ let f : Some e ≡ Some (record { number = j; is_reached = false }) = sym l ∙ q in let g : e ≡ record { number = j; is_reached = false } = cc in absurd (true≢false (sym y ∙ ap (λ (z : End). z.is_reached) g))
        ]
        by false y =
            let m = k.missed e l y in
            let a = k.at e l in (
              e.number,
              a.1.0,
              (i - 1, slice_get_within row (i - 1) (e.number, a.1.0) a.1.1, get_or_from_slice_get row (i - 1) (e.number, a.1.0) (e.number, a.1.0) a.1.1),
              m.0,
              λ d h. m.1 d (subst (λ xs. Contains xs (e.number, d)) (sym whole) h),
            )
