-- How the plans change when a class is split and when one is chosen.
use Rattle.std.proofs.Common.{◌≡◌, ℕ, zero, suc, ◌+◌, ◌∙◌, refl, sym, ap, subst, arith, inl, inr, Bool, true, false, true≢false, not, ◌&&◌, List, [], ◌∷◌, ◌++◌, length, take, map, ℤ, nat_eq, Option, Some, None}
use Rattle.std.specs.Prelude.{◌⊎◌, ◌≤ℤ◌, Contains, IsPermutation, slice_get, IfSome, IfNone, MatchOption}
use Rattle.std.specs.declared.cmp.Ordering.{Ordering}
use Rattle.std.specs.Ordering.{is_lt}
use Rattle.std.specs.BinaryHeap.{IsHeap, IsUpperBound}
use Rattle.std.proofs.lemmas.Int.{ints}
use Rattle.std.proofs.lemmas.List.{append-nil}
use Rattle.std.proofs.lemmas.List.Sums.{sum_by-append}
use Rattle.std.proofs.lemmas.List.Sorted.{sum_by-IsPermutation, IsPermutation-map, Contains-permutation, IsPermutation-sym}
use Rattle.std.proofs.lemmas.List.Elements.{Contains-append_cases, Contains-append_left, Contains-append_right}
use Rattle.pf_base.specs.Walks.{end_of}
use Rattle.pf_core.specs.Steps.{GoesAlong, NumberedOverflows}
use Rattle.pf_base.proofs.ListLemmas.{Contains-head, Contains-tail, Contains-cases}
use Rattle.pf_yen.specs.declared.candidate.Candidate.{Candidate}
use Rattle.pf_yen.specs.Internal.Adjacency.{AdjacencyLists, AdjacencyStep, is_goal}
use Rattle.pf_yen.specs.Internal.WholeGraphs.{IsWhole}
use Rattle.pf_yen.specs.Internal.Filtered.{FilteredLists, FilteredStep, StandsForItself, waits, allows, allows_by}
use Rattle.pf_yen.specs.Internal.Classes.{is_in, Plan, in_class, is_member, IsCheapestOfClass, IsPartition, plan_of}
use Rattle.pf_yen.specs.Internal.Splits.{IsCheapestAlong, HasNoneAlong, IsSplit}
use Rattle.pf_yen.specs.Internal.Candidates.{waiting_plans, chosen_plan, as_list, last_given, NoneBelow, IsFirst}
use Rattle.pf_yen.specs.Internal.PlanChanges.{first_cmp, GoesOn}
use Rattle.pf_yen.proofs.FilteredLemmas.{in_none}
use Rattle.pf_yen.proofs.ClassLemmas.{both_true, any_goes_on, split_partition, first_partition, no_partition}
use Rattle.pf_yen.proofs.FilteredWalks.{is_known, is_left, goes_listed, open_walk}
use Rattle.pf_yen.proofs.SplitLemmas.{nothing}

module _ {C : Type 0} (value : C → ℤ) (k : AdjacencyLists C) where
  -- the same plans, in whatever order
  pub same_plans : (plans plans' : List (Plan C)) → IsPermutation plans plans' → GoesOn value k plans plans' []
  same_plans plans plans' m = record {
    partition = λ before h. subst (λ (b : List (List ℕ)). IsPartition value k plans' b) (sym (append-nil before)) (record {
      cheapest = λ c q. h.cheapest c (back c q);
      once = λ p u clean. let a = h.once p u clean in let e = sum_by-IsPermutation (in_class p) plans plans' m in omega (arith, a, e);
      barred = λ c y q i. h.barred c y (back c q) i;
    });
    dearer = λ t low c q. low c (back c q);
  }
    where
      back : (c : Plan C) → Contains plans' c → Contains plans c
      back c q = Contains-permutation plans' plans c (IsPermutation-sym plans plans' m) q

  pub no_change : (plans : List (Plan C)) → GoesOn value k plans plans []
  no_change plans = record { partition = λ before h. subst (λ (b : List (List ℕ)). IsPartition value k plans b) (sym (append-nil before)) h; dearer = λ t low. low }

  -- the plans into which the class of one was split come to the others
  pub split_goes_on : IsWhole value k → (c : Plan C) (waiting made more waiting' : List (Plan C)) → IsSplit value k c made → IsPermutation made more → IsPermutation (waiting ++ more) waiting' → GoesOn value k (c ∷ waiting) waiting' (c.path ∷ [])
  split_goes_on whole c waiting made more waiting' s m n = record {
    partition = λ before h.
        let q = split_partition value k whole c waiting made before h s in
        record {
          cheapest = λ d i. elim (from d i) as (λ _. IsCheapestOfClass value k d) [ inl j ↦ h.cheapest d (Contains-tail waiting c d j) | inr j ↦ s.cheapest d j ];
          once = λ p u clean.
              let a = q.once p u clean in
              let e = sum_by-append (in_class p) made waiting in
              let f = sum_by-IsPermutation (in_class p) (waiting ++ more) waiting' n in
              let i = sum_by-append (in_class p) waiting more in
              let j = sum_by-IsPermutation (in_class p) made more m in
              omega (arith, a, e, f, i, j);
          barred = λ d y i b. q.barred d y (elim (from d i) as (λ _. Contains (made ++ waiting) d) [ inl j ↦ Contains-append_right made waiting d j | inr j ↦ Contains-append_left made waiting d j ]) b;
        };
    dearer = λ t low d i. elim (from d i) as (λ _. t ≤ℤ value d.cost) [
      | inl j ↦ low d (Contains-tail waiting c d j)
      | inr j ↦ let a = low c (Contains-head waiting c) in let b = s.dearer d j in omega (arith, ints, a, b)
    ];
  }
    where
      from : (d : Plan C) → Contains waiting' d → Contains waiting d ⊎ Contains made d
      from d i = elim (Contains-append_cases waiting more d (Contains-permutation waiting' (waiting ++ more) d (IsPermutation-sym (waiting ++ more) waiting' n) i)) as (λ _. Contains waiting d ⊎ Contains made d) [
        | inl j ↦ inl j
        | inr j ↦ inr (Contains-permutation more made d (IsPermutation-sym made more m) j)
      ]

  -- one change after the other
  pub goes_on_both : (a b c : List (Plan C)) (more : List (List ℕ)) → GoesOn value k a b more → GoesOn value k b c [] → GoesOn value k a c more
  goes_on_both a b c more f g = record {
    partition = λ before h. subst (λ (v : List (List ℕ)). IsPartition value k c v) (append-nil (before ++ more)) (g.partition (before ++ more) (f.partition before h));
    dearer = λ t low. g.dearer t (f.dearer t low);
  }

module _ {C A : Type 0} (value : C → ℤ) (cmp : C → C → Ordering) (low : (a b : C) → is_lt (cmp a b) ≡ false → value b ≤ℤ value a) where
  all_low : (x : Candidate C A) (items : List (Candidate C A)) → IsUpperBound (first_cmp cmp) x items → NoneBelow value (value x.cost) (map plan_of items)
  all_low x [] h d q = absurd (in_none d q)
  all_low x (y ∷ ys) h d q = elim (Contains-cases (map plan_of ys) (plan_of y) d q) as (λ _. value x.cost ≤ℤ value d.cost) [
    | inl e ↦ subst (λ (p : Plan C). value x.cost ≤ℤ value p.cost) e (low y.cost x.cost h.0)
    | inr r ↦ all_low x ys h.1 d r
  ]

  -- what a heap gives first costs least
  pub popped_first : (r : Option (Candidate C A)) (items items' : List (Candidate C A)) → IsHeap (first_cmp cmp) items → IfSome r (λ x. IsHeap (first_cmp cmp) items → IsUpperBound (first_cmp cmp) x items') → IsFirst value false (chosen_plan r) (map plan_of items')
  popped_first None items items' o h = tt
  popped_first (Some x) items items' o h = all_low x items' (h o)

-- a heap gives one of its plans
pub popped : {C A : Type 0} (value : C → ℤ) (k : AdjacencyLists C) (r : Option (Candidate C A)) (items items' : List (Candidate C A)) (L : Type 0) → IfSome r (λ x. IsPermutation items (x ∷ items')) → IfNone r ((items' ≡ items) × L)
    → GoesOn value k (map plan_of items) (as_list (chosen_plan r) ++ map plan_of items') []
popped value k None items items' L h e = subst (λ (v : List (Candidate _ _)). GoesOn value k (map plan_of items) (map plan_of v) []) (sym e.0) (no_change value k (map plan_of items))
popped value k (Some x) items items' L h e = same_plans value k (map plan_of items) (plan_of x ∷ map plan_of items') (IsPermutation-map plan_of items (x ∷ items') h)

-- the first plan
pub begun_partition : {C A : Type 0} (value : C → ℤ) (k : AdjacencyLists C) → IsWhole value k → (o : Option (Candidate C A)) → MatchOption o (HasNoneAlong value k [] []) (λ c. IsCheapestAlong value k [] [] c.path.items c.cost) → IfSome o (λ c. (c.spur ≡ 0) × (c.banned.items ≡ []))
    → IsPartition value k (as_list (chosen_plan o)) []
begun_partition value k whole None h parts = no_partition value k whole (λ p u c. true≢false (sym (subst (λ (v : List ℕ). is_member (0 ∷ []) [] v ≡ true) (sym c.is) (any_goes_on c.rest)) ∙ h p u c))
begun_partition value k whole (Some c) h parts = first_partition value k whole (plan_of c) cheapest parts.0 parts.1
  where
    begins : take (c.spur + 1) c.path.items ≡ 0 ∷ []
    begins = subst (λ (n : ℕ). take (n + 1) c.path.items ≡ 0 ∷ []) (sym parts.0) (let a = h.clean in subst (λ (v : List ℕ). take 1 v ≡ 0 ∷ []) (sym a.is) refl)

    test_is : (p : List ℕ) → is_member (take (c.spur + 1) c.path.items) c.banned.items p ≡ is_member (0 ∷ []) [] p
    test_is p = ap (λ (v : List ℕ). is_member v c.banned.items p) begins ∙ ap (λ (v : List ℕ). is_member (0 ∷ []) v p) parts.1

    cheapest : IsCheapestOfClass value k (plan_of c)
    cheapest = record {
      clean = h.clean;
      member = test_is c.path.items ∙ h.member;
      least = λ p u a m. h.least p u a (sym (test_is p) ∙ m);
      inside = let a = h.clean in let e = ap length a.is in let f : length (0 ∷ a.rest) ≡ suc (length a.rest) = refl in omega (arith, e, f, parts.0);
    }

-- where nothing is left out, a sum that does not fit is one of the whole graph
module _ {C : Type 0} (value : C → ℤ) (g : FilteredLists C) (n : ℕ) (bare : g.onward ≡ nothing n) (free : g.banned ≡ []) where
  all_allowed : (a b : ℕ) → allows g a b ≡ true
  all_allowed a b = at (slice_get g.onward a) (λ y e. none_there n a y (subst (λ (v : List (Option ℕ)). slice_get v a ≡ Some (Some y)) bare e))
    where
      none_there : (n x y : ℕ) → ¬ (slice_get (nothing n) x ≡ Some (Some y))
      none_there zero zero y e = cc
      none_there zero (suc x) y e = cc
      none_there (suc n) zero y e = cc
      none_there (suc n) (suc x) y e = none_there n x y e

      and_none : (e : Bool) → not (e && is_in [] b) ≡ true
      and_none true = refl
      and_none false = refl

      waits_there : (o : Option (Option ℕ)) → ((y : ℕ) → ¬ (o ≡ Some (Some y))) → waits o ≡ true
      waits_there None f = refl
      waits_there (Some None) f = refl
      waits_there (Some (Some y)) f = absurd (f y refl)

      open_here : waits (slice_get g.onward b) && not (nat_eq a g.spur && is_in g.banned b) ≡ true
      open_here = both_true (waits (slice_get g.onward b)) (not (nat_eq a g.spur && is_in g.banned b))
          (waits_there (slice_get g.onward b) (λ y e. none_there n b y (subst (λ (v : List (Option ℕ)). slice_get v b ≡ Some (Some y)) bare e)))
          (subst (λ (v : List ℕ). not (nat_eq a g.spur && is_in v b) ≡ true) (sym free) (and_none (nat_eq a g.spur)))

      at : (o : Option (Option ℕ)) → ((y : ℕ) → ¬ (o ≡ Some (Some y))) → allows_by o (waits (slice_get g.onward b) && not (nat_eq a g.spur && is_in g.banned b)) b ≡ true
      at None f = open_here
      at (Some None) f = open_here
      at (Some (Some y)) f = absurd (f y refl)

  filtered_all : (w : List ℕ) (a : ℕ) (u : ℤ) → GoesAlong (AdjacencyStep value g.adjacency) a w u → GoesAlong (FilteredStep value g) a w u
  filtered_all w a u h = open_walk value g w a u (λ x y m n. all_allowed x y) h

  pub all_overflows : (fits : ℤ → Type 0) (m : ℕ) → NumberedOverflows (FilteredStep value g) (is_goal g.adjacency) (StandsForItself m 0) (StandsForItself m) fits → NumberedOverflows (AdjacencyStep value g.adjacency) (is_goal g.adjacency) (StandsForItself m 0) (StandsForItself m) fits
  all_overflows fits m d = let p = d.path in record {
    first = d.first;
    is_start = d.is_start;
    numbers = d.numbers;
    nodes = d.nodes;
    cost = d.cost;
    path = record { numbered = p.numbered; goes = goes_listed value g d.nodes d.first d.cost p.goes; distinct = p.distinct };
    number = d.number;
    here = d.here;
    cheapest = λ s h w u t at. d.cheapest s h w u (filtered_all w s u t) at;
    next = d.next;
    price = d.price;
    edge = is_known value g (end_of d.first d.nodes) d.price d.next d.edge;
    all_past = λ z s. d.all_past z (is_left value g (end_of d.first d.nodes) z d.next s (all_allowed (end_of d.first d.nodes) d.next));
    none_cheaper = λ s h w u t e. d.none_cheaper s h w u (filtered_all w s u t) e;
  }

-- where the chosen candidate was given, the paths that were given last are not none
pub given_due : {C A : Type 0} (b : Bool) (chosen : Option (Candidate C A)) (c : Candidate C A) → b ≡ true → chosen ≡ Some c → ¬ (last_given b (chosen_plan chosen) ≡ [])
given_due b chosen c given is none =
    let some : last_given true (chosen_plan (Some c)) ≡ [] = rw (given, is) at none in
    cc

-- candidates that stay are plans that stay
pub still_plans : {C A : Type 0} (chosen chosen' : Option (Candidate C A)) (waiting waiting' : List (Candidate C A)) → chosen' ≡ chosen → waiting' ≡ waiting → (chosen_plan chosen' ≡ chosen_plan chosen) × (waiting_plans waiting' ≡ waiting_plans waiting)
still_plans chosen chosen' waiting waiting' e f = (ap (λ (o : Option (Candidate _ _)). chosen_plan o) e, ap (λ (items : List (Candidate _ _)). waiting_plans items) f)

-- the first plan is all that is left where none waits
pub all_begun : {C A : Type 0} (value : C → ℤ) (k : AdjacencyLists C) (chosen : Option (Candidate C A)) (waiting : List (Candidate C A)) → waiting ≡ [] → IsPartition value k (as_list (chosen_plan chosen)) []
    → IsPartition value k (as_list (chosen_plan chosen) ++ waiting_plans waiting) [] × (waiting_plans waiting ≡ [])
all_begun value k chosen waiting e h =
    let none : waiting_plans waiting ≡ [] = ap (λ (items : List (Candidate _ _)). waiting_plans items) e in
    (subst (λ (plans : List (Plan _)). IsPartition value k plans []) (sym (ap (λ (plans : List (Plan _)). as_list (chosen_plan chosen) ++ plans) none ∙ append-nil (as_list (chosen_plan chosen)))) h, none)
