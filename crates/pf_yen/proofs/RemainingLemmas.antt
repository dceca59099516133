-- What remains from each number: that no walk to a goal costs less.
use Rattle.std.proofs.Common.{◌≡◌, ℕ, ◌<◌, ◌≤◌, ◌+◌, ◌∙◌, refl, sym, ap, subst, arith, inl, inr, true, false, true≢false, List, [], ◌∷◌, length, take, get_or, ℤ, pos, Option, Some, None}
use Rattle.std.specs.Prelude.{◌≤ℤ◌, ◌+ℤ◌, Contains, slice_get, IfSome, MatchOption}
use Rattle.std.proofs.lemmas.Int.{ints}
use Rattle.std.proofs.lemmas.Option.{slice_get_within}
use Rattle.pf_base.specs.Walks.{end_of}
use Rattle.pf_core.specs.Steps.{GoesAlong}
use Rattle.pf_base.proofs.ListLemmas.{bool_dec, nat_dec, get_within, at_place, Contains-take_more}
use Rattle.pf_yen.specs.Internal.Adjacency.{AdjacencyLists, is_goal, row_of, AdjacencyStep}
use Rattle.pf_yen.specs.Internal.WholeGraphs.{IsWhole}
use Rattle.pf_yen.specs.Internal.Remaining.{IsLeastFrom, AreRemaining}
use Rattle.pf_yen.proofs.FilteredLemmas.{in_none}

pub one_cost : {C : Type 0} (o : Option (Option C)) (x y : C) → o ≡ Some (Some x) → o ≡ Some (Some y) → x ≡ y
one_cost o x y a b = let e : Some (Some x) ≡ Some (Some y) = sym a ∙ b in cc

-- what costs say of a number
pub none_beyond : {C : Type 0} (costs : List (Option C)) (n : ℕ) → length costs ≤ n → (y : C) → ¬ (slice_get costs n ≡ Some (Some y))
none_beyond costs n h y e = absurd (omega (arith, h, slice_get_within costs n (Some y) e))

pub cost_there : {C : Type 0} (costs : List (Option C)) (n : ℕ) (r : Option C) → n < length costs → r ≡ get_or costs n r → MatchOption r ((y : C) → ¬ (slice_get costs n ≡ Some (Some y))) (λ y. slice_get costs n ≡ Some (Some y))
cost_there costs n r inside is = by r (at_place costs n r r inside (sym is))
  where
    by : (o : Option _) → slice_get costs n ≡ Some o → MatchOption o ((y : _) → ¬ (slice_get costs n ≡ Some (Some y))) (λ y. slice_get costs n ≡ Some (Some y))
    by None e = λ y f. none_is_some (sym e ∙ f)
      where
        none_is_some : {X : Type 0} {x : X} → Some None ≡ Some (Some x) → ⊥
        none_is_some h = cc
    by (Some x) e = e

module _ {C : Type 0} (value : C → ℤ) (fits : ℤ → Type 0) (costs : List (Option C)) where
  -- the least over some steps of a step and what remains behind it
  abbrev pub IsLeastOver : List (ℕ × C) → Option C → Type 0
  IsLeastOver steps least = (b : ℕ) (c y : C) → Contains steps (b, c) → slice_get costs b ≡ Some (Some y) → (x : C) × (least ≡ Some x) × (value x ≤ℤ (value c +ℤ value y)) × fits (value c +ℤ value y)

  module _ (row : List (ℕ × C)) (i : ℕ) (item : ℕ × C) (is : item ≡ get_or row i item) (least : Option C) (over : IsLeastOver (take i row) least) where
    pub over_more : (rest sum less : C) → slice_get costs item.0 ≡ Some (Some rest) → value sum ≡ value item.1 +ℤ value rest → fits (value item.1 +ℤ value rest) → value less ≤ℤ value sum → IfSome least (λ x. value less ≤ℤ value x) → IsLeastOver (take (i + 1) row) (Some less)
    over_more rest sum less known adds fit low lower b c y h k = elim (Contains-take_more row i item (b, c) h) as (λ _. (x : C) × (Some less ≡ Some x) × (value x ≤ℤ (value c +ℤ value y)) × fits (value c +ℤ value y)) [
      | inl old ↦
          let z = over b c y old k in
          let l : value less ≤ℤ value z.0 = subst (λ (o : Option C). IfSome o (λ x. value less ≤ℤ value x)) z.1 lower in
          (less, refl, omega (arith, ints, l, z.2), z.3)
      | inr e ↦
          let f : item ≡ (b, c) = is ∙ e in
          let known' : slice_get costs b ≡ Some (Some rest) = subst (λ (p : ℕ × C). slice_get costs p.0 ≡ Some (Some rest)) f known in
          let same : rest ≡ y = one_cost (slice_get costs b) rest y known' k in
          let adds' : value sum ≡ value c +ℤ value y = subst (λ (z : C). value sum ≡ value c +ℤ value z) same (subst (λ (p : ℕ × C). value sum ≡ value p.1 +ℤ value rest) f adds) in
          let fit' : fits (value c +ℤ value y) = subst (λ (z : C). fits (value c +ℤ value z)) same (subst (λ (p : ℕ × C). fits (value p.1 +ℤ value rest)) f fit) in
          (less, refl, omega (arith, ints, low, adds'), fit')
    ]

    pub over_same : ((y : C) → ¬ (slice_get costs item.0 ≡ Some (Some y))) → IsLeastOver (take (i + 1) row) least
    over_same none b c y h k = elim (Contains-take_more row i item (b, c) h) as (λ _. (x : C) × (least ≡ Some x) × (value x ≤ℤ (value c +ℤ value y)) × fits (value c +ℤ value y)) [
      | inl old ↦ over b c y old k
      | inr e ↦ let f : item ≡ (b, c) = is ∙ e in absurd (none y (subst (λ (p : ℕ × C). slice_get costs p.0 ≡ Some (Some y)) (sym f) k))
    ]

module _ {C : Type 0} (value : C → ℤ) (fits : ℤ → Type 0) (k : AdjacencyLists C) where
  pub within_least : (costs : List (Option C)) (a : ℕ) (here least : Option C) → ((y : C) → least ≡ Some y → (x : C) × (here ≡ Some x) × (value x ≤ℤ value y)) → IsLeastFrom value fits k costs a least → IsLeastFrom value fits k costs a here
  within_least costs a here least w l = record {
    goal = λ is. let z = l.goal is in let x = w z.0 z.1 in (x.0, x.1, omega (arith, ints, x.2, z.2));
    onward = λ is b c y h i. let z = l.onward is b c y h i in let x = w z.0 z.1 in (x.0, x.1, omega (arith, ints, x.2, z.2), z.3);
  }

  module _ (whole : IsWhole value k) (costs : List (Option C)) (r : AreRemaining value fits k costs) where
    -- no walk to a goal costs less than what remains
    pub remains : (w : List ℕ) (a : ℕ) (u : ℤ) → a < length k.rows → GoesAlong (AdjacencyStep value k) a w u → is_goal k (end_of a w) ≡ true → (x : C) × (slice_get costs a ≡ Some (Some x)) × (value x ≤ℤ u)
    remains [] a u inside h e =
        let m = get_within costs a (omega (arith, inside, r.wide)) in
        let l = r.least a m.0 m.1 in
        let z = l.goal e in
        (z.0, m.1 ∙ ap Some z.1, omega (arith, ints, z.2, h))
    remains (b ∷ w) a u inside h e =
        let s = h.2 in
        let y = remains w b h.1 (whole.inside a b s.0 s.1) h.3 e in
        let m = get_within costs a (omega (arith, inside, r.wide)) in
        let l = r.least a m.0 m.1 in
        elim (bool_dec (is_goal k a)) as (λ _. (x : C) × (slice_get costs a ≡ Some (Some x)) × (value x ≤ℤ u)) [
          | inl t ↦ absurd (no_step (row_of k a) (whole.stops a t) (b, s.0) s.1)
          | inr f ↦ let z = l.onward f b s.0 y.0 s.1 y.1 in (z.0, m.1 ∙ ap Some z.1, omega (arith, ints, z.2, y.2, s.2, h.4))
        ]
      where
        no_step : (es : List (ℕ × C)) → es ≡ [] → (e : ℕ × C) → Contains es e → ⊥
        no_step [] h e c = in_none e c
        no_step (x ∷ es) h e c = cc

  pub least_of_goal : (costs : List (Option C)) (a : ℕ) (zero : C) → value zero ≡ pos 0 → is_goal k a ≡ true → IsLeastFrom value fits k costs a (Some zero)
  least_of_goal costs a zero z t = record {
    goal = λ _. (zero, refl, omega (arith, ints, z));
    onward = λ f. absurd (true≢false (sym t ∙ f));
  }

  pub least_of_steps : (costs : List (Option C)) (a : ℕ) (o : Option (Option C)) (row : List (ℕ × C)) → row ≡ row_of k a → IfSome o (λ least. IsLeastOver value fits costs row least) → is_goal k a ≡ false → IfSome o (λ least. IsLeastFrom value fits k costs a least)
  least_of_steps costs a None row is h f = tt
  least_of_steps costs a (Some least) row is h f = record {
    goal = λ t. absurd (true≢false (sym t ∙ f));
    onward = λ _ b c y i. h b c y (subst (λ (v : List (ℕ × C)). Contains v (b, c)) (sym is) i);
  }

  pub settled_more : (costs : List (Option C)) (n : ℕ) (at least : Option C) → at ≡ get_or costs n at → n < length costs → ((y : C) → least ≡ Some y → (x : C) × (at ≡ Some x) × (value x ≤ℤ value y)) → IsLeastFrom value fits k costs n least
      → ((a : ℕ) (here : Option C) → a < n → slice_get costs a ≡ Some here → IsLeastFrom value fits k costs a here) → (a : ℕ) (here : Option C) → a < n + 1 → slice_get costs a ≡ Some here → IsLeastFrom value fits k costs a here
  settled_more costs n at least is inside within l all a here h e = elim (nat_dec a n) as (λ _. IsLeastFrom value fits k costs a here) [
    | inl s ↦
        let there : slice_get costs a ≡ Some at = subst (λ (i : ℕ). slice_get costs i ≡ Some at) (sym s) (at_place costs n at at inside (sym is)) in
        let same : Some at ≡ Some here = sym there ∙ e in
        let o : at ≡ here = cc in
        subst (λ (i : ℕ). IsLeastFrom value fits k costs i here) (sym s) (subst (λ (x : Option C). IsLeastFrom value fits k costs n x) o (within_least costs n at least within l))
    | inr d ↦ all a here (omega (arith, h, d)) e
  ]
