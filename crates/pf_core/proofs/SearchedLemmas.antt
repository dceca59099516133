-- The order in which numbers are settled, and what a search by rising cost keeps and has found where it ends.
use Rattle.std.proofs.Common.{◌≡◌, ℕ, Bool, true, false, true≢false, Some, None, List, [], ◌∷◌, ◌++◌, ◌∙◌, refl, sym, ap, subst, arith, inl, inr, ℤ, pos, length, eq-eqb}
use Rattle.std.specs.Prelude.{Contains, ◌≤ℤ◌, ◌⊎◌, Option, MatchOption}
use Rattle.std.proofs.lemmas.Int.{ints}
use Rattle.pf_core.specs.declared.labels.Label.{Label}
use Rattle.pf_core.specs.Labels.{Labels, HasLabel, by_cost, AllSettled}
use Rattle.pf_core.specs.Numbered.{Grows}
use Rattle.pf_core.specs.Search.{SettledAt, IsLeast, IsSearch, Turned}
use Rattle.pf_base.proofs.ListLemmas.{Contains-head, Contains-tail, Contains-cases, Contains-append_one}
use Rattle.pf_core.specs.Searched.{Rises, BeginsWith, IsOrder, AreNoGoals, HasSearched}
use Rattle.pf_core.proofs.LabelLemmas.{HasLabel-inside}
use Rattle.pf_core.proofs.ReadLemmas.{still_search, was_at}
use Rattle.pf_core.proofs.SearchLemmas.{search_grows, only_root, start_alone, none_settled, failed_turned}

-- none was settled and only the start has a label, or the start was settled first
abbrev pub IsFirst : {C : Type 0} → ℕ → Labels C → List (ℕ × ℤ) → Type 0
IsFirst {C} start labels [] = (k : ℕ) (l : Label C) → HasLabel labels k l → k ≡ start
IsFirst {C} start labels (e ∷ es) = e.0 ≡ start

Contains-end : {A : Type 0} (xs : List A) (x : A) → Contains (xs ++ x ∷ []) x
Contains-end [] x = Contains-head [] x
Contains-end (y ∷ ys) x = Contains-tail (ys ++ x ∷ []) y x (Contains-end ys x)

Contains-none : {A : Type 0} (y : A) → ¬ (Contains [] y)
Contains-none y h = omega (arith, h.1)

pub Contains-more : {A : Type 0} (xs : List A) (x y : A) → Contains xs y → Contains (xs ++ x ∷ []) y
Contains-more [] x y h = absurd (Contains-none y h)
Contains-more (z ∷ zs) x y h = elim (Contains-cases zs z y h) as (λ _. Contains (z ∷ zs ++ x ∷ []) y) [
  | inl e ↦ subst (λ w. Contains (z ∷ zs ++ x ∷ []) w) e (Contains-head (zs ++ x ∷ []) z)
  | inr i ↦ Contains-tail (zs ++ x ∷ []) z y (Contains-more zs x y i)
]

-- one more that costs no less than all before
pub Rises-more : (order : List (ℕ × ℤ)) (e : ℕ × ℤ) → Rises order → ((f : ℕ × ℤ) → Contains order f → f.1 ≤ℤ e.1) → Rises (order ++ e ∷ [])
Rises-more [] e r low = ((λ f h. absurd (Contains-none f h)), tt)
Rises-more (x ∷ xs) e r low = (
  (λ f h. elim (Contains-append_one xs e f h) as (λ _. x.1 ≤ℤ f.1) [
    | inl i ↦ r.0 f i
    | inr q ↦ subst (λ (g : ℕ × ℤ). x.1 ≤ℤ g.1) q (low x (Contains-head xs x))
  ]),
  Rises-more xs e r.1 (λ f h. low f (Contains-tail xs x f h)),
)

module _ {C : Type 0} (value : C → ℤ) (start : ℕ) where
  -- no label is settled
  order_start : (labels : Labels C) (first : Label C) → first.settled ≡ false → ((k : ℕ) (l : Label C) → HasLabel labels k l → (k ≡ start) × (l ≡ first)) → IsOrder value labels []
  order_start labels first opened only = record {
    all = λ k d s. absurd (true≢false (sym s.2 ∙ ap (λ (m : Label C). m.settled) (only k s.0 s.1).1 ∙ opened));
    only = λ k d h. absurd (Contains-none (k, d) h);
    rising = tt;
  }

  module _ {X : Type 0} (step : X → ℤ → X → Type 0) (root : ℕ → Bool) (stands : ℕ → X → Type 0) (labels : Labels C) (i : IsSearch (by_cost value) step root stands labels) (order : List (ℕ × ℤ)) (o : IsOrder value labels order) where
    -- no settled number costs more than the least open one
    pub settled_low : (k : ℕ) (l : Label C) → IsLeast (by_cost value) labels k l → (f : ℕ × ℤ) → Contains order f → f.1 ≤ℤ value l.cost
    settled_low k l z f h = let s = o.only f.0 f.1 h in omega (arith, ints, s.3, i.low f.0 k s.0 l s.1 s.2 z.at z.opened)

    -- one number more was settled
    order_more : (k : ℕ) (l : Label C) → IsLeast (by_cost value) labels k l → (labels' : Labels C) → Turned k l labels labels' → IsOrder value labels' (order ++ (k, value l.cost) ∷ [])
    order_more k l z labels' t = record {
      all = λ j d s. elim (t.from j s.0 s.1 s.2) as (λ _. Contains (order ++ (k, value l.cost) ∷ []) (j, d)) [
        | inl q ↦
            let e : value l.cost ≡ d = sym (ap (λ (m : Label C). value m.cost) q.1) ∙ s.3 in
            subst (λ (n : ℕ). Contains (order ++ (k, value l.cost) ∷ []) (n, d)) (sym q.0) (subst (λ (c : ℤ). Contains (order ++ (k, value l.cost) ∷ []) (k, c)) e (Contains-end order (k, value l.cost)))
        | inr h ↦ Contains-more order (k, value l.cost) (j, d) (o.all j d (s.0, h, s.2, s.3))
      ];
      only = λ j d h. elim (Contains-append_one order (k, value l.cost) (j, d) h) as (λ _. SettledAt (by_cost value) labels' j d) [
        | inl c ↦ let s = o.only j d c in (s.0, t.kept j s.0 s.1 s.2, s.2, s.3)
        | inr q ↦ subst (λ (e : ℕ × ℤ). SettledAt (by_cost value) labels' e.0 e.1) q (record l { settled = true }, t.done, refl, refl)
      ];
      rising = Rises-more order (k, value l.cost) o.rising (settled_low k l z);
    }

    first_more : (k : ℕ) (l : Label C) → IsLeast (by_cost value) labels k l → (xs : List (ℕ × ℤ)) → IsFirst start labels xs → BeginsWith start xs (Some k)
    first_more k l z [] f = ap Some (f k l z.at)
    first_more k l z (e ∷ es) f = f

    first_turned : (k : ℕ) (l : Label C) → IsLeast (by_cost value) labels k l → (labels' : Labels C) → (xs : List (ℕ × ℤ)) → IsFirst start labels xs → IsFirst start labels' (xs ++ (k, value l.cost) ∷ [])
    first_turned k l z labels' [] f = f k l z.at
    first_turned k l z labels' (e ∷ es) f = f

    first_all : root start ≡ true → AllSettled labels → (xs : List (ℕ × ℤ)) → IsOrder value labels xs → IsFirst start labels xs → BeginsWith start xs None
    first_all is all [] o' f = let b = i.start start is in absurd (Contains-none (start, value b.0.cost) (o'.all start (value b.0.cost) (b.0, b.1, all start b.0 b.1, refl)))
    first_all is all (e ∷ es) o' f = f

module _ {X C : Type 0} (value : C → ℤ) (step : X → ℤ → X → Type 0) (passes : X → Bool) (start : ℕ) where
  -- a search from a number goes on: it settled no goal
  pub record IsSearching (stands : ℕ → X → Type 0) (labels : Labels C) : Type 0 where
    pub search : IsSearch (by_cost value) step (only_root start) stands labels
    pub order : List (ℕ × ℤ)
    pub settled : IsOrder value labels order
    pub first : IsFirst start labels order
    pub passed : AreNoGoals passes stands labels

  pub searching_begun : (stands : ℕ → X → Type 0) → (s : X) × stands start s → (labels : Labels C) (first : Label C) → HasLabel labels start first → ((k : ℕ) (l : Label C) → HasLabel labels k l → (k ≡ start) × (l ≡ first)) → first.settled ≡ false → first.depth ≡ 0 → value first.cost ≡ pos 0 → IsSearching stands labels
  searching_begun stands here labels first there only opened flat nothing = record {
    search = start_alone start value step stands here labels first there only opened flat nothing;
    order = [];
    settled = order_start value start labels first opened only;
    first = λ k l h. (only k l h).0;
    passed = λ k l x at s _. absurd (none_settled start value step stands here labels first there only opened k l at s);
  }

  -- Where nodes were found by the test of the number that is least, as it is where the labels are told again.
  module _ (a b : ℕ) (p q : ℕ → X → Type 0) (grows : Grows a b p q) (labels now : Labels C) (same : now ≡ labels) (wide : length labels ≡ a) (s : IsSearching p labels) where
    pub search_tested : IsSearch (by_cost value) step (only_root start) q now
    search_tested = still_search labels now same (by_cost value) step (only_root start) q (search_grows (by_cost value) step (only_root start) a b p q grows labels (omega (arith, wide)) s.search)

    -- it ends at a goal that is the least open number
    pub searched_to : (k : ℕ) (l : Label C) → IsLeast (by_cost value) labels k l → ((x : X) → p k x → passes x ≡ true) → HasSearched value step passes q now start (Some k)
    searched_to k l z good = record {
      search = search_tested;
      order = s.order;
      settled = subst (λ (ls : Labels C). IsOrder value ls s.order) (sym same) s.settled;
      first = first_more value start step (only_root start) p labels s.search s.order s.settled k l z s.order s.first;
      passed = λ j m x at t here. let was = was_at labels now same j m at in s.passed j m x was t (grows.back j x (omega (arith, HasLabel-inside labels j m was, wide)) here);
      found = λ x here. good x (grows.back k x (omega (arith, HasLabel-inside labels k l z.at, wide)) here);
    }

  -- it ends with all settled
  pub searched_all : (stands : ℕ → X → Type 0) (labels now : Labels C) → now ≡ labels → AllSettled labels → IsSearching stands labels → HasSearched value step passes stands now start None
  searched_all stands labels now same all s = record {
    search = still_search labels now same (by_cost value) step (only_root start) stands s.search;
    order = s.order;
    settled = subst (λ (ls : Labels C). IsOrder value ls s.order) (sym same) s.settled;
    first = first_all value start step (only_root start) stands labels s.search s.order s.settled (eq-eqb start start refl) all s.order s.settled s.first;
    passed = λ j m x at t here. s.passed j m x (was_at labels now same j m at) t here;
    found = tt;
  }

  -- it goes on by a turn of a number that is no goal
  pub searching_turned : (a b : ℕ) (p q : ℕ → X → Type 0) → Grows a b p q → (labels after : Labels C) → length labels ≡ a → IsSearching p labels → (k : ℕ) (l : Label C) → IsLeast (by_cost value) labels k l → Turned k l labels after → ((x : X) → p k x → passes x ≡ false) → IsSearch (by_cost value) step (only_root start) q after → IsSearching q after
  searching_turned a b p q grows labels after wide s k l z t bad search = record {
    search = search;
    order = s.order ++ (k, value l.cost) ∷ [];
    settled = order_more value start step (only_root start) p labels s.search s.order s.settled k l z after t;
    first = first_turned value start step (only_root start) p labels s.search s.order s.settled k l z after s.order s.first;
    passed = failed_turned passes a b p q grows labels after (omega (arith, wide)) k (omega (arith, HasLabel-inside labels k l z.at, wide)) (λ j m at u. elim (t.from j m at u) as (λ _. (j ≡ k) ⊎ HasLabel labels j m) [ inl o ↦ inl o.0 | inr o ↦ inr o ]) bad s.passed;
  }

-- the goal at which a search ended is the least open number
pub is_least : {C : Type 0} (value : C → ℤ) (labels : Labels C) (goal : Option ℕ) (k : ℕ) → goal ≡ Some k → MatchOption goal (AllSettled labels) (λ j. (l : Label C) × IsLeast (by_cost value) labels j l) → (l : Label C) × IsLeast (by_cost value) labels k l
is_least {C} value labels goal k is h = subst (λ (o : Option ℕ). MatchOption o (AllSettled labels) (λ j. (l : Label C) × IsLeast (by_cost value) labels j l)) is h
