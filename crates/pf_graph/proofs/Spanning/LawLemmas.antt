-- A forest that is least under every bound weighs least, by the exchange of edges and a count under each bound.
use Rattle.std.proofs.Common.{ℕ, zero, suc, ◌+◌, ◌≤◌, ◌≡◌, ◌≢◌, refl, sym, ◌∙◌, ap, subst, arith, List, [], ◌∷◌, ◌++◌, length, inl, inr, ◌⊎◌, Bool, true, false, true≢false, not, cond, if◌then◌else◌, ℤ, pos, Ordering}
use Rattle.std.specs.Prelude.{Contains, map, filter, ◌≤ℤ◌, ◌<ℤ◌, ◌+ℤ◌}
use Rattle.std.specs.declared.cmp.Ordering.TheVariants.{Less, Equal, Greater}
use Rattle.std.specs.Ordering.{is_gt, int_cmp, MatchOrdering}
use Rattle.std.specs.Cmp.{IsEquivalence}
use Rattle.std.proofs.lemmas.Int.{ints}
use Rattle.std.proofs.lemmas.Cmp.{int_ranked}
use Rattle.std.proofs.lemmas.List.{append-nil}
use Rattle.std.proofs.lemmas.Bool.{cases_Bool}
use Rattle.pf_union_find.specs.Joined.{same, linked, back, chain}
use Rattle.pf_graph.specs.Spanning.{Links, LinksUnder, JoinedBy, JoinedUnder, IsForest, IsLeastUnderEveryBound, AreChosenFrom, JoinTheSame, weight_sum}
use Rattle.pf_union_find.proofs.ListLemmas.{contains_here, contains_later, contains_cons, contains_middle, contains_around}
use Rattle.pf_union_find.proofs.JoinedLemmas.{Joined-by, Joined-more, Joined-split}
use Rattle.pf_graph.proofs.Spanning.ForestLemmas.{link_of, JoinedBy-more}
use Rattle.pf_graph.proofs.Spanning.OrderLemmas.{gt_false, not_gt}

-- ---- lists

length_middle : {A : Type 0} (xs : List A) (x : A) (ys : List A) → length (xs ++ x ∷ ys) ≡ suc (length (xs ++ ys))
length_middle [] x ys = refl
length_middle (z ∷ zs) x ys = ap suc (length_middle zs x ys)

filter_in : {A : Type 0} (p : A → Bool) (xs : List A) (y : A) → Contains (filter p xs) y → Contains xs y × (p y ≡ true)
filter_in p [] y h = absurd (omega (arith, h.1))
filter_in p (x ∷ xs) y h = by (p x) refl h (filter_in p xs y)
  where
    by : (b : Bool) → p x ≡ b → Contains (cond b (x ∷ filter p xs) (filter p xs)) y → (Contains (filter p xs) y → Contains xs y × (p y ≡ true)) → Contains (x ∷ xs) y × (p y ≡ true)
    by true e c rest = elim (contains_cons x y (filter p xs) c) [
      | inl s ↦ (subst (λ z. Contains (x ∷ xs) z) s (contains_here x xs), subst (λ z. p z ≡ true) s e)
      | inr k ↦ let r = rest k in (contains_later x y xs r.0, r.1)
    ]
    by false e c rest = let r = rest c in (contains_later x y xs r.0, r.1)

in_filter : {A : Type 0} (p : A → Bool) (xs : List A) (y : A) → Contains xs y → p y ≡ true → Contains (filter p xs) y
in_filter p [] y h e = absurd (omega (arith, h.1))
in_filter p (x ∷ xs) y h e = by (p x) refl (contains_cons x y xs h) (λ k. in_filter p xs y k e)
  where
    by : (b : Bool) → p x ≡ b → (x ≡ y) ⊎ Contains xs y → (Contains xs y → Contains (filter p xs) y) → Contains (cond b (x ∷ filter p xs) (filter p xs)) y
    by true f (inl s) rest = subst (λ z. Contains (x ∷ filter p xs) z) s (contains_here x (filter p xs))
    by true f (inr k) rest = contains_later x y (filter p xs) (rest k)
    by false f (inl s) rest = absurd (true≢false (sym e ∙ ap p (sym s) ∙ f))
    by false f (inr k) rest = rest k

-- ---- the exchange of edges

module _ {N C : Type 0} {eq : N → N → Bool} (laws : IsEquivalence eq) where
  Links-cons : (e : N × N × C) (es : List (N × N × C)) (x y : N) → Links (e ∷ es) x y → Links es x y ⊎ ((x ≡ e.0) × (y ≡ e.1))
  Links-cons e es x y l = elim (contains_cons e l.0 es l.1) [
    | inl s ↦ inr (sym l.2 ∙ ap (λ (d : N × N × C). d.0) (sym s), sym l.3 ∙ ap (λ (d : N × N × C). d.1) (sym s))
    | inr c ↦ inl (l.0, c, l.2, l.3)
  ]

  joined_nothing : {x y : N} → JoinedBy {C = C} eq [] x y → eq x y ≡ true
  joined_nothing (same e) = e
  joined_nothing (linked l) = absurd (omega (arith, l.1.1))
  joined_nothing (back {x = x} {y = y} j) = laws.symm x y ∙ joined_nothing j
  joined_nothing (chain {x = x} {y = y} {z = z} j k) = laws.congr x y z (joined_nothing j) ∙ joined_nothing k

  -- whether edges join two nodes
  joined_dec : (es : List (N × N × C)) (x y : N) → JoinedBy eq es x y ⊎ ¬ (JoinedBy eq es x y)
  joined_dec [] x y = elim (cases_Bool (eq x y)) [
    | inl e ↦ inl (same e)
    | inr e ↦ inr (λ j. true≢false (sym (joined_nothing j) ∙ e))
  ]
  joined_dec (e ∷ es) x y =
      let more : (a b : N) → JoinedBy eq es a b → JoinedBy eq (e ∷ es) a b = λ a b j. JoinedBy-more es (e ∷ es) (λ d c. contains_later e d es c) j in
      let here : JoinedBy eq (e ∷ es) e.0 e.1 = linked (link_of (e ∷ es) e (contains_here e es)) in
      elim (joined_dec es x y) [
        | inl j ↦ inl (more x y j)
        | inr n ↦ elim (joined_dec es x e.0) [
          | inl a ↦ elim (joined_dec es y e.1) [
            | inl b ↦ inl (chain (more x e.0 a) (chain here (back (more y e.1 b))))
            | inr b ↦ elim (joined_dec es x e.1) [
              | inl c ↦ elim (joined_dec es y e.0) [
                | inl d ↦ inl (chain (more x e.1 c) (chain (back here) (back (more y e.0 d))))
                | inr d ↦ inr (λ j. elim (Joined-split laws e.0 e.1 (Links-cons e es) j) [ inl k ↦ n k | inr (inl k) ↦ b k.1 | inr (inr k) ↦ d k.1 ])
              ]
              | inr c ↦ inr (λ j. elim (Joined-split laws e.0 e.1 (Links-cons e es) j) [ inl k ↦ n k | inr (inl k) ↦ b k.1 | inr (inr k) ↦ c k.0 ])
            ]
          ]
          | inr a ↦ elim (joined_dec es x e.1) [
            | inl c ↦ elim (joined_dec es y e.0) [
              | inl d ↦ inl (chain (more x e.1 c) (chain (back here) (back (more y e.0 d))))
              | inr d ↦ inr (λ j. elim (Joined-split laws e.0 e.1 (Links-cons e es) j) [ inl k ↦ n k | inr (inl k) ↦ a k.0 | inr (inr k) ↦ d k.1 ])
            ]
            | inr c ↦ inr (λ j. elim (Joined-split laws e.0 e.1 (Links-cons e es) j) [ inl k ↦ n k | inr (inl k) ↦ a k.0 | inr (inr k) ↦ c k.0 ])
          ]
        ]
      ]

  -- an edge is not joined by those after it
  abbrev Acyclic : List (N × N × C) → Type 0
  Acyclic [] = Unit {0}
  Acyclic (e ∷ es) = ¬ (JoinedBy eq es e.0 e.1) × Acyclic es

  acyclic_forest : (es : List (N × N × C)) → IsForest eq es → Acyclic es
  acyclic_forest [] f = tt
  acyclic_forest (e ∷ es) f = (f.apart [] es e refl, acyclic_forest es (record { apart = λ before after d h j. f.apart (e ∷ before) after d (ap (λ xs. e ∷ xs) h) (JoinedBy-more (before ++ after) (e ∷ (before ++ after)) (λ g c. contains_later e g (before ++ after) c) j) }))

  acyclic_filter : (p : (N × N × C) → Bool) (es : List (N × N × C)) → Acyclic es → Acyclic (filter p es)
  acyclic_filter p [] a = tt
  acyclic_filter p (e ∷ es) a = by (p e) (acyclic_filter p es a.1)
    where
      by : (b : Bool) → Acyclic (filter p es) → Acyclic (cond b (e ∷ filter p es) (filter p es))
      by true rest = ((λ j. a.0 (JoinedBy-more (filter p es) es (λ g c. (filter_in p es g c).0) j)), rest)
      by false rest = rest

  -- an edge that the base does not join takes the place of another
  exchange : (K base : List (N × N × C)) (f : N × N × C) → JoinedBy eq (K ++ base) f.0 f.1 → ¬ (JoinedBy eq base f.0 f.1)
      → (rest : List (N × N × C)) × (length K ≡ suc (length rest)) × ((x y : N) → JoinedBy eq (K ++ base) x y → JoinedBy eq (rest ++ f ∷ base) x y)
  exchange [] base f j n = absurd (n j)
  exchange (k ∷ K) base f j n = elim (joined_dec (K ++ base) f.0 f.1) [
    | inl i ↦
        let r = exchange K base f i n in (
          k ∷ r.0,
          ap suc r.1,
          λ x y q. Joined-by (λ (a b : N) (l : Links (k ∷ (K ++ base)) a b). elim (contains_cons k l.0 (K ++ base) l.1) [
            | inl s ↦ linked (l.0, subst (λ g. Contains (k ∷ (r.0 ++ f ∷ base)) g) s (contains_here k (r.0 ++ f ∷ base)), l.2, l.3)
            | inr c ↦ JoinedBy-more (r.0 ++ f ∷ base) (k ∷ (r.0 ++ f ∷ base)) (λ g d. contains_later k g (r.0 ++ f ∷ base) d) (r.2 a b (linked (l.0, c, l.2, l.3)))
          ]) q,
        )
    | inr apart ↦
        let into : (a b : N) → JoinedBy eq (K ++ base) a b → JoinedBy eq (K ++ f ∷ base) a b = λ a b i. JoinedBy-more (K ++ base) (K ++ f ∷ base) (λ g c. contains_around K f base g c) i in
        let here : JoinedBy eq (K ++ f ∷ base) f.0 f.1 = linked (link_of (K ++ f ∷ base) f (contains_middle K f base)) in
        let over : JoinedBy eq (K ++ f ∷ base) k.0 k.1 = elim (Joined-split laws k.0 k.1 (Links-cons k (K ++ base)) j) [
          | inl i ↦ absurd (apart i)
          | inr (inl i) ↦ chain (back (into f.0 k.0 i.0)) (chain here (into f.1 k.1 i.1))
          | inr (inr i) ↦ chain (back (into f.1 k.0 i.1)) (chain (back here) (into f.0 k.1 i.0))
        ] in (
          K,
          refl,
          λ x y q. Joined-by (λ (a b : N) (l : Links (k ∷ (K ++ base)) a b). elim (contains_cons k l.0 (K ++ base) l.1) [
            | inl s ↦ subst (λ v. JoinedBy eq (K ++ f ∷ base) a v) (ap (λ (d : N × N × C). d.1) s ∙ l.3) (subst (λ u. JoinedBy eq (K ++ f ∷ base) u k.1) (ap (λ (d : N × N × C). d.0) s ∙ l.2) over)
            | inr c ↦ into a b (linked (l.0, c, l.2, l.3))
          ]) q,
        )
  ]

  exchange_all : (F K : List (N × N × C)) → Acyclic F → ((f : N × N × C) → Contains F f → JoinedBy eq K f.0 f.1)
      → (rest : List (N × N × C)) × (length K ≡ length F + length rest) × ((x y : N) → JoinedBy eq K x y → JoinedBy eq (rest ++ F) x y)
  exchange_all [] K a s = (K, omega arith, λ x y j. subst (λ es. JoinedBy eq es x y) (sym (append-nil K)) j)
  exchange_all (f ∷ F) K a s =
      let r = exchange_all F K a.1 (λ g c. s g (contains_later f g F c)) in
      let x = exchange r.0 F f (r.2 f.0 f.1 (s f (contains_here f F))) a.0 in
      (x.0, omega (arith, r.1, x.1), λ u v j. x.2 u v (r.2 u v j))

  -- a forest has no more edges than what joins its edges' ends
  pub no_longer : (F K : List (N × N × C)) → Acyclic F → ((f : N × N × C) → Contains F f → JoinedBy eq K f.0 f.1) → length F ≤ length K
  no_longer F K a s = let r = exchange_all F K a s in omega (arith, r.1)

-- ---- sums of whole numbers

abbrev le : ℤ → ℤ → Bool
le x w = not (is_gt (int_cmp x w))

le_true : (x w : ℤ) → x ≤ℤ w → le x w ≡ true
le_true x w h = by (int_cmp x w) (int_ranked x w (int_cmp x w) refl)
  where
    by : (o : Ordering) → MatchOrdering o (x <ℤ w) (x ≡ w) (w <ℤ x) → not (is_gt o) ≡ true
    by Less m = refl
    by Equal m = refl
    by Greater m = absurd (omega (arith, ints, h, m))

le_holds : (x w : ℤ) → le x w ≡ true → x ≤ℤ w
le_holds x w h = by (int_cmp x w) (int_ranked x w (int_cmp x w) refl) h
  where
    by : (o : Ordering) → MatchOrdering o (x <ℤ w) (x ≡ w) (w <ℤ x) → not (is_gt o) ≡ true → x ≤ℤ w
    by Less m e = omega (arith, ints, m)
    by Equal m e = omega (arith, ints, m)
    by Greater m e = absurd (true≢false (sym e))

total : List ℤ → ℤ
total [] = pos 0
total (x ∷ xs) = x +ℤ total xs

-- how many are at most w
abbrev one_if : Bool → ℕ
one_if b = if b then 1 else 0

abbrev low : ℤ → List ℤ → ℕ
low w [] = 0
low w (x ∷ xs) = one_if (le x w) + low w xs

one_if_most : (b : Bool) → one_if b ≤ 1
one_if_most true = omega arith
one_if_most false = omega arith

low_most : (w : ℤ) (xs : List ℤ) → low w xs ≤ length xs
low_most w [] = omega arith
low_most w (x ∷ xs) = omega (arith, low_most w xs, one_if_most (le x w))

low_all : (w : ℤ) (xs : List ℤ) → ((x : ℤ) → Contains xs x → x ≤ℤ w) → low w xs ≡ length xs
low_all w [] h = refl
low_all w (x ∷ xs) h = omega (arith, low_all w xs (λ y c. h y (contains_later x y xs c)), ap one_if (le_true x w (h x (contains_here x xs))))

low_full : (w : ℤ) (xs : List ℤ) → low w xs ≡ length xs → (x : ℤ) → Contains xs x → x ≤ℤ w
low_full w [] e x c = absurd (omega (arith, c.1))
low_full w (y ∷ ys) e x c =
    let most = low_most w ys in
    let one = one_if_most (le y w) in
    elim (contains_cons y x ys c) [
      | inl s ↦ elim (cases_Bool (le y w)) [
        | inl t ↦ subst (λ (z : ℤ). z ≤ℤ w) s (le_holds y w t)
        | inr t ↦ let z = ap one_if t in absurd (omega (arith, e, most, z))
      ]
      | inr d ↦ low_full w ys (omega (arith, e, most, one)) x d
    ]

low_middle : (w : ℤ) (xs : List ℤ) (m : ℤ) (ys : List ℤ) → low w (xs ++ m ∷ ys) ≡ one_if (le m w) + low w (xs ++ ys)
low_middle w [] m ys = refl
low_middle w (x ∷ xs) m ys = omega (arith, low_middle w xs m ys)

total_middle : (xs : List ℤ) (m : ℤ) (ys : List ℤ) → total (xs ++ m ∷ ys) ≡ m +ℤ total (xs ++ ys)
unfolding total
total_middle [] m ys = refl
total_middle (x ∷ xs) m ys = let ih = total_middle xs m ys in omega (arith, ints, ih)

int_dec : (a b : ℤ) → (a ≤ℤ b) ⊎ (b <ℤ a)
int_dec a b = by (int_cmp a b) (int_ranked a b (int_cmp a b) refl)
  where
    by : (o : Ordering) → MatchOrdering o (a <ℤ b) (a ≡ b) (b <ℤ a) → (a ≤ℤ b) ⊎ (b <ℤ a)
    by Less m = inl (omega (arith, ints, m))
    by Equal m = inl (omega (arith, ints, m))
    by Greater m = inr m

-- the greatest
most_of : (x : ℤ) (xs : List ℤ) → (m : ℤ) × (before : List ℤ) × (after : List ℤ) × (x ∷ xs ≡ before ++ m ∷ after) × ((y : ℤ) → Contains (x ∷ xs) y → y ≤ℤ m)
most_of x [] = (x, [], [], refl, λ y c. elim (contains_cons x y [] c) [ inl s ↦ omega (arith, ints, s) | inr d ↦ absurd (omega (arith, d.1)) ])
most_of x (z ∷ zs) =
    let r = most_of z zs in
    elim (int_dec x r.0) [
      | inl h ↦ (r.0, x ∷ r.1, r.2, ap (λ us. x ∷ us) r.3, λ y c. elim (contains_cons x y (z ∷ zs) c) [ inl s ↦ subst (λ (u : ℤ). u ≤ℤ r.0) s h | inr d ↦ r.4 y d ])
      | inr h ↦ (x, [], z ∷ zs, refl, λ y c. elim (contains_cons x y (z ∷ zs) c) [ inl s ↦ omega (arith, ints, s) | inr d ↦ let b = r.4 y d in omega (arith, ints, b, h) ])
    ]

-- as many numbers, and at each of them no fewer up to it: the sum is no greater
dominated : (n : ℕ) (A B : List ℤ) → length A ≡ n → length B ≡ n → ((b : ℤ) → Contains B b → low b B ≤ low b A) → total A ≤ℤ total B
unfolding total
dominated zero [] [] a b h = omega (arith, ints)
dominated zero [] (y ∷ ys) a b h = absurd (omega (arith, b))
dominated zero (x ∷ xs) B a b h = absurd (omega (arith, a))
dominated (suc n) [] B a b h = absurd (omega (arith, a))
dominated (suc n) (x ∷ xs) [] a b h = absurd (omega (arith, b))
dominated (suc n) (x ∷ xs) (y ∷ ys) a b h =
    let p = most_of x xs in
    let q = most_of y ys in
    let A' = p.1 ++ p.2 in
    let B' = q.1 ++ q.2 in
    let len_A : suc (length A') ≡ suc n = sym (length_middle p.1 p.0 p.2) ∙ ap length (sym p.3) ∙ a in
    let len_B : suc (length B') ≡ suc n = sym (length_middle q.1 q.0 q.2) ∙ ap length (sym q.3) ∙ b in
    let top : Contains (y ∷ ys) q.0 = subst (λ us. Contains us q.0) (sym q.3) (contains_middle q.1 q.0 q.2) in
    let at_top = h q.0 top in
    let full_B = low_all q.0 (y ∷ ys) q.4 in
    let most_A = low_most q.0 (x ∷ xs) in
    let full_A : low q.0 (x ∷ xs) ≡ length (x ∷ xs) = omega (arith, at_top, full_B, most_A, a, b) in
    let below : p.0 ≤ℤ q.0 = low_full q.0 (x ∷ xs) full_A p.0 (subst (λ us. Contains us p.0) (sym p.3) (contains_middle p.1 p.0 p.2)) in
    let rest = dominated n A' B' (omega (arith, len_A)) (omega (arith, len_B)) (λ w c.
    let old = h w (subst (λ us. Contains us w) (sym q.3) (contains_around q.1 q.0 q.2 w c)) in
    let split_B = ap (low w) q.3 ∙ low_middle w q.1 q.0 q.2 in
    let split_A = ap (low w) p.3 ∙ low_middle w p.1 p.0 p.2 in
    elim (cases_Bool (le p.0 w)) as (λ _. low w B' ≤ low w A') [
      | inl t ↦
          let all : low w A' ≡ length A' = low_all w A' (λ u d. let one = p.4 u (subst (λ us. Contains us u) (sym p.3) (contains_around p.1 p.0 p.2 u d)) in let two = le_holds p.0 w t in omega (arith, ints, one, two)) in
          let few = low_most w B' in
          omega (arith, all, few, len_A, len_B)
      | inr t ↦ let z = ap one_if t in omega (arith, old, split_A, split_B, z)
    ]) in
    let sum_A = ap total p.3 ∙ total_middle p.1 p.0 p.2 in
    let sum_B = ap total q.3 ∙ total_middle q.1 q.0 q.2 in
    omega (arith, ints, below, rest, sum_A, sum_B)

-- ---- the law

module _ {N C : Type 0} {eq : N → N → Bool} (laws : IsEquivalence eq) {cmp : C → C → Ordering} (value : C → ℤ) (agree : (x y : C) → cmp x y ≡ int_cmp (value x) (value y)) where
  abbrev values : List (N × N × C) → List ℤ
  values es = map (λ (e : N × N × C). value e.2) es

  abbrev light : C → List (N × N × C) → List (N × N × C)
  light w es = filter (λ (e : N × N × C). not (is_gt (cmp e.2 w))) es

  sum_is : (es : List (N × N × C)) → weight_sum value es ≡ total (values es)
  unfolding total
  sum_is [] = refl
  sum_is (e ∷ es) = ap (λ z. value e.2 +ℤ z) (sum_is es)

  values_length : (es : List (N × N × C)) → length (values es) ≡ length es
  values_length [] = refl
  values_length (e ∷ es) = ap suc (values_length es)

  light_length : (w : C) (es : List (N × N × C)) → length (light w es) ≡ low (value w) (values es)
  light_length w [] = refl
  light_length w (e ∷ es) = by (not (is_gt (cmp e.2 w))) (ap (λ o. not (is_gt o)) (agree e.2 w)) (light_length w es)
    where
      by : (b : Bool) → b ≡ le (value e.2) (value w) → length (light w es) ≡ low (value w) (values es) → length (cond b (e ∷ light w es) (light w es)) ≡ one_if (le (value e.2) (value w)) + low (value w) (values es)
      by true s ih = let z = ap one_if (sym s) in omega (arith, ih, z)
      by false s ih = let z = ap one_if (sym s) in omega (arith, ih, z)

  within : (o : Ordering) → o ≢ Greater → not (is_gt o) ≡ true
  within o n = ap not (gt_false o n)

  not_true : (b : Bool) → not b ≡ true → b ≡ false
  not_true true e = absurd (true≢false (sym e))
  not_true false e = refl

  value_in : (es : List (N × N × C)) (z : ℤ) → Contains (values es) z → (e : N × N × C) × Contains es e × (value e.2 ≡ z)
  value_in [] z c = absurd (omega (arith, c.1))
  value_in (e ∷ es) z c = elim (contains_cons (value e.2) z (values es) c) [
    | inl s ↦ (e, contains_here e es, s)
    | inr d ↦ let r = value_in es z d in (r.0, contains_later e r.0 es r.1, r.2)
  ]

  -- a forest whose edges within each bound join the ends of another forest's edges within it
  pub least_by : (chosen other : List (N × N × C)) → IsForest eq chosen → IsForest eq other → ((w : C) (f : N × N × C) → Contains other f → cmp f.2 w ≢ Greater → JoinedUnder eq cmp w chosen f.0 f.1) → JoinTheSame eq chosen other
      → weight_sum value chosen ≤ℤ weight_sum value other
  least_by chosen other forest forest' joins alike =
      let under : (w : C) (f : N × N × C) → Contains (light w other) f → JoinedBy eq (light w chosen) f.0 f.1 = λ w f c.
      let p = filter_in (λ (e : N × N × C). not (is_gt (cmp e.2 w))) other f c in
      let low_f : cmp f.2 w ≢ Greater = not_gt (cmp f.2 w) (not_true (is_gt (cmp f.2 w)) p.1) in
      Joined-more (λ (a b : N) (l : LinksUnder cmp w chosen a b). (l.0, in_filter (λ (e : N × N × C). not (is_gt (cmp e.2 w))) chosen l.0 l.1 (within (cmp l.0.2 w) l.2), l.3, l.4))
      (joins w f p.0 low_f) in
      let counts : (w : C) → length (light w other) ≤ length (light w chosen) = λ w. no_longer laws (light w other) (light w chosen) (acyclic_filter laws (λ (e : N × N × C). not (is_gt (cmp e.2 w))) other (acyclic_forest laws other forest')) (under w) in
      let as_long : length chosen ≤ length other = no_longer laws chosen other (acyclic_forest laws chosen forest) (λ f c. (alike.same_nodes f.0 f.1).0 (linked (link_of chosen f c))) in
      let as_short : length other ≤ length chosen = no_longer laws other chosen (acyclic_forest laws other forest') (λ f c. (alike.same_nodes f.0 f.1).1 (linked (link_of other f c))) in
      let len_chosen : length (values chosen) ≡ length chosen = values_length chosen in
      let len_other : length (values other) ≡ length other = values_length other in
      let d = dominated (length (values chosen)) (values chosen) (values other) refl (omega (arith, len_chosen, len_other, as_long, as_short)) (λ b c.
      let e = value_in other b c in
      let n = counts e.0.2 in
      let l = light_length e.0.2 other in
      let k = light_length e.0.2 chosen in
      subst (λ (z : ℤ). low z (values other) ≤ low z (values chosen)) e.2 (omega (arith, n, l, k))) in
      subst (λ (z : ℤ). z ≤ℤ weight_sum value other) (sym (sum_is chosen)) (subst (λ (z : ℤ). total (values chosen) ≤ℤ z) (sym (sum_is other)) d)

  pub least_total : (edges chosen other : List (N × N × C)) → IsForest eq chosen → IsLeastUnderEveryBound eq cmp edges chosen → IsForest eq other → AreChosenFrom (λ (w u : C). u ≡ w) edges other → JoinTheSame eq chosen other
      → weight_sum value chosen ≤ℤ weight_sum value other
  least_total edges chosen other forest least forest' given alike = least_by chosen other forest forest' (λ w f c low.
      let r = given.as_written f c in
      least.joins w f.0 f.1 (linked (r.0, r.1, subst (λ (u : C). cmp u w ≢ Greater) r.4 low, r.2, r.3))) alike
