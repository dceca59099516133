-- How a graph is narrowed along a path, and how a class is split along it.
use Rattle.std.proofs.Common.{◌≡◌, ℕ, zero, suc, ◌<◌, ◌≤◌, ◌+◌, ◌∙◌, refl, sym, ap, subst, arith, inl, inr, Bool, true, false, true≢false, ◌||◌, List, [], ◌∷◌, ◌++◌, length, take, drop, get_or, take_all, add-one, ℤ, pos, nat_eq, eq-eqb, Option, Some, None}
use Rattle.std.specs.Prelude.{◌≤ℤ◌, ◌+ℤ◌, slice_get, slice_set, replicate, sum_by}
use borrow.Author.Tests.{eqb-true}
use Rattle.std.proofs.lemmas.Int.{ints}
use Rattle.std.proofs.lemmas.List.{take_more}
use Rattle.std.proofs.lemmas.List.Folds.{list_any-append}
use Rattle.std.proofs.lemmas.Option.{slice_get_within, slice_get-get_or}
use Rattle.std.proofs.lemmas.List.Sums.{sum_by-append, sum_by-cons}
use Rattle.pf_base.specs.Walks.{HasNode, NoRepeats, end_of}
use Rattle.pf_core.specs.Steps.{GoesAlong, IsNonNegative, NumberedOverflows}
use Rattle.pf_base.proofs.ListLemmas.{bool_dec, or_cases, Contains-append_one, get_set}
use Rattle.pf_core.proofs.FrontierLemmas.{walk_positive}
use Rattle.pf_yen.specs.Internal.Adjacency.{AdjacencyLists, is_goal, AdjacencyStep}
use Rattle.pf_yen.specs.Internal.WholeGraphs.{IsWhole}
use Rattle.pf_yen.specs.Internal.Filtered.{FilteredLists, FilteredStep, StandsForItself}
use Rattle.pf_yen.specs.Internal.Classes.{is_in, is_member, goes_on_to, one_if, Plan, in_class, is_path, IsCleanNumbers, IsCheapestOfClass}
use Rattle.pf_yen.specs.Internal.Splits.{IsBarredBehind, IsSplit, LeadsOn, IsFilteredTo, IsCheapestAlong, HasNoneAlong, IsSplitUpTo, IsPastAlong, ClassOverflows}
use Rattle.pf_yen.specs.Internal.NamedWays.{IsSpent, IsPrefix}
use Rattle.pf_yen.proofs.FilteredLemmas.{in_none}
use Rattle.pf_yen.proofs.ClassLemmas.{same_is_true, any_goes_on, split_member, goes_on, member_of, prefix_is, one_if_one, at_most_one, stuck, behind, same_path}
use Rattle.pf_yen.proofs.FilteredWalks.{not_true, numbers_are, not_twice, is_known, is_left, is_allowed, goes_listed, goes_again, class_walk, on_or_within}

-- a list, cut at a place
pub cut_at : (xs : List ℕ) (i d : ℕ) → i < length xs → (r : List ℕ) × (xs ≡ take i xs ++ get_or xs i d ∷ r)
cut_at [] i d h = absurd (omega (arith, h))
cut_at (x ∷ xs) zero d h = (xs, refl)
cut_at (x ∷ xs) (suc i) d h = let k = cut_at xs i d (omega (arith, h)) in (k.0, ap (λ (v : List ℕ). x ∷ v) k.1)

length-take_below : (xs : List ℕ) (i : ℕ) → i ≤ length xs → length (take i xs) ≡ i
length-take_below xs zero h = refl
length-take_below [] (suc i) h = absurd (omega (arith, h))
length-take_below (x ∷ xs) (suc i) h = ap suc (length-take_below xs i (omega (arith, h)))

pub HasNode-before : (q : List ℕ) (n x : ℕ) → HasNode nat_eq q x → HasNode nat_eq (q ++ n ∷ []) x
HasNode-before [] n x h = absurd h
HasNode-before (y ∷ q) n x (inl h) = inl h
HasNode-before (y ∷ q) n x (inr h) = inr (HasNode-before q n x h)

pub NoRepeats-before : (q r : List ℕ) → NoRepeats nat_eq (q ++ r) → NoRepeats nat_eq q
NoRepeats-before [] r h = tt
NoRepeats-before (x ∷ q) r h = ((λ k. h.0 (wider q r x k)), NoRepeats-before q r h.1)
  where
    wider : (q r : List ℕ) (x : ℕ) → HasNode nat_eq q x → HasNode nat_eq (q ++ r) x
    wider [] r x k = absurd k
    wider (y ∷ q) r x (inl k) = inl k
    wider (y ∷ q) r x (inr k) = inr (wider q r x k)

-- the place behind the last one
pub last_place : (i n : ℕ) → i ≤ n → n ≤ i → i ≡ n
last_place i n h k = omega (arith, h, k)

-- nothing onward
abbrev pub nothing : ℕ → List (Option ℕ)
nothing n = replicate n None

module _ {C : Type 0} (k : AdjacencyLists C) where
  pub ends_at_spur : (onward : List (Option ℕ)) (spur : ℕ) (q : List ℕ) (a : ℕ) → LeadsOn k onward spur a q → end_of a q ≡ spur
  ends_at_spur onward spur [] a l = l.0
  ends_at_spur onward spur (b ∷ q) a l = ends_at_spur onward spur q b l.2

  pub spur_in : (onward : List (Option ℕ)) (spur : ℕ) (q : List ℕ) (a : ℕ) → LeadsOn k onward spur a q → HasNode nat_eq (a ∷ q) spur
  spur_in onward spur [] a l = inl (eq-eqb a spur l.0)
  spur_in onward spur (b ∷ q) a l = inr (spur_in onward spur q b l.2)

  pub spur_waits : (onward : List (Option ℕ)) (spur : ℕ) (q : List ℕ) (a : ℕ) → LeadsOn k onward spur a q → slice_get onward spur ≡ Some None
  spur_waits onward spur [] a l = subst (λ (n : ℕ). slice_get onward n ≡ Some None) l.0 l.1
  spur_waits onward spur (b ∷ q) a l = spur_waits onward spur q b l.2

  -- the spur is one of the numbers
  pub spur_inside : (onward : List (Option ℕ)) (spur : ℕ) (q : List ℕ) → IsFilteredTo k onward spur q → spur < length onward
  spur_inside onward spur q n = slice_get_within onward spur None (spur_waits onward spur q 0 n.leads)

  leads_on : (onward : List (Option ℕ)) (spur n : ℕ) (q : List ℕ) (a : ℕ) → spur < length onward → LeadsOn k onward spur a q → NoRepeats nat_eq (a ∷ q) → ¬ (HasNode nat_eq (a ∷ q) n) → is_goal k (end_of a q) ≡ false → slice_get onward n ≡ Some None
      → LeadsOn k (slice_set onward spur (Some n)) n a (q ++ n ∷ [])
  leads_on onward spur n [] a inside l d out live waits = (
    elim (get_set onward spur a (Some n) inside) as (λ _. slice_get (slice_set onward spur (Some n)) a ≡ Some (Some n)) [ inl h ↦ h.1 | inr h ↦ absurd (h.0 l.0) ],
    live,
    (refl, elim (get_set onward spur n (Some n) inside) as (λ _. slice_get (slice_set onward spur (Some n)) n ≡ Some None) [ inl h ↦ absurd (out (inl (eq-eqb a n (l.0 ∙ sym h.0)))) | inr h ↦ h.1 ∙ waits ]),
  )
  leads_on onward spur n (b ∷ q) a inside l d out live waits = (
    elim (get_set onward spur a (Some n) inside) as (λ _. slice_get (slice_set onward spur (Some n)) a ≡ Some (Some b)) [
      | inl h ↦ absurd (d.0 (subst (λ (z : ℕ). HasNode nat_eq (b ∷ q) z) (sym h.0) (spur_in onward spur q b l.2)))
      | inr h ↦ h.1 ∙ l.0
    ],
    l.1,
    leads_on onward spur n q b inside l.2 d.1 (λ h. out (inr h)) live waits,
  )

  -- the whole graph
  pub filtered_first : (n : ℕ) → 0 < n → IsFilteredTo k (nothing n) 0 []
  filtered_first n some = record { leads = (refl, none_at n 0 some); free = λ x y out e. none_there n x y e }
    where
      none_at : (n x : ℕ) → x < n → slice_get (nothing n) x ≡ Some None
      none_at zero x h = absurd (omega (arith, h))
      none_at (suc n) zero h = refl
      none_at (suc n) (suc x) h = none_at n x (omega (arith, h))

      none_there : (n x y : ℕ) → ¬ (slice_get (nothing n) x ≡ Some (Some y))
      none_there zero zero y e = cc
      none_there zero (suc x) y e = cc
      none_there (suc n) zero y e = cc
      none_there (suc n) (suc x) y e = none_there n x y e

  pub free_waits : (onward : List (Option ℕ)) (n : ℕ) → n < length onward → ((y : ℕ) → ¬ (slice_get onward n ≡ Some (Some y))) → slice_get onward n ≡ Some None
  free_waits onward n inside none = at (get_or onward n None) (slice_get-get_or onward n None inside)
    where
      at : (o : Option ℕ) → slice_get onward n ≡ Some o → slice_get onward n ≡ Some None
      at None e = e
      at (Some y) e = absurd (none y e)

-- a sum that does not fit, met where some steps are left out
past_along : {C : Type 0} (value : C → ℤ) (fits : ℤ → Type 0) (g : FilteredLists C) (n : ℕ) → NumberedOverflows (FilteredStep value g) (is_goal g.adjacency) (StandsForItself n 0) (StandsForItself n) fits
    → (p : IsPastAlong value g.adjacency fits) × (GoesAlong (FilteredStep value g) 0 p.rest p.cost × FilteredStep value g (end_of 0 p.rest) p.price p.next × ((v : List ℕ) (u : ℤ) → GoesAlong (FilteredStep value g) 0 v u → is_goal g.adjacency (end_of 0 v) ≡ true → p.cost ≤ℤ u))
past_along value fits g n d =
    let p = d.path in
    let z : 0 ≡ d.first = d.is_start.0 in
    let goes : GoesAlong (FilteredStep value g) 0 d.nodes d.cost = subst (λ (a : ℕ). GoesAlong (FilteredStep value g) a d.nodes d.cost) (sym z) p.goes in
    let edge : FilteredStep value g (end_of 0 d.nodes) d.price d.next = subst (λ (a : ℕ). FilteredStep value g (end_of a d.nodes) d.price d.next) (sym z) d.edge in (
      record {
        rest = d.nodes;
        cost = d.cost;
        goes = goes_listed value g d.nodes 0 d.cost goes;
        distinct = subst (λ (a : ℕ). NoRepeats nat_eq (a ∷ d.nodes)) (sym z) (subst (λ (v : List ℕ). NoRepeats nat_eq v) (numbers_are n d.numbers (d.first ∷ d.nodes) p.numbered) p.distinct);
        cheapest = λ u w. d.cheapest 0 (refl, d.is_start.1) d.nodes u (goes_again value g d.nodes 0 d.cost u goes w) (subst (λ (a : ℕ). StandsForItself n d.number (end_of a d.nodes)) (sym z) d.here);
        next = d.next;
        price = d.price;
        edge = is_known value g (end_of 0 d.nodes) d.price d.next edge;
        all_past = λ y s. d.all_past y (subst (λ (a : ℕ). FilteredStep value g (end_of a d.nodes) y d.next) z (is_left value g (end_of 0 d.nodes) y d.next s (is_allowed value g (end_of 0 d.nodes) d.price d.next edge)));
      },
      (goes, edge, λ v u w t. d.none_cheaper 0 (refl, d.is_start.1) v u w t),
    )

-- a walk, cut at a place
pub cut_goes : {X : Type 0} (step : X → ℤ → X → Type 0) (v w : List X) (a : X) (u : ℤ) → GoesAlong step a (v ++ w) u → (s : ℤ) × (t : ℤ) × GoesAlong step a v s × GoesAlong step (end_of a v) w t × (u ≡ s +ℤ t)
cut_goes step [] w a u g = (pos 0, u, refl, g, omega (arith, ints))
cut_goes step (b ∷ v) w a u g = let k = cut_goes step v w b g.1 g.3 in (g.0 +ℤ k.0, k.1, (g.0, k.0, g.2, k.2, refl), k.3, omega (arith, ints, g.4, k.4))

module _ {C : Type 0} (value : C → ℤ) (k : AdjacencyLists C) (whole : IsWhole value k) where
  from_zero : IsNonNegative (AdjacencyStep value k)
  from_zero = record { non_negative = λ a z b s. subst (λ (y : ℤ). pos 0 ≤ℤ y) s.2 (whole.from_zero a b s.0 s.1) }

  -- a sum along a path that costs no more than fits does so too
  module _ (fits : ℤ → Type 0) (between : (x y z : ℤ) → fits x → fits z → x ≤ℤ y → y ≤ℤ z → fits y) (none : fits (pos 0)) where
    not_on_path : (d : IsPastAlong value k fits) (p : List ℕ) (u : ℤ) → IsCleanNumbers value k p u → fits u → (r : List ℕ) → ¬ (p ≡ ((0 ∷ d.rest) ++ d.next ∷ []) ++ r)
    not_on_path d p u c f r e =
        let all : 0 ∷ c.rest ≡ 0 ∷ ((d.rest ++ d.next ∷ []) ++ r) = sym c.is ∙ e in
        let rest : c.rest ≡ d.rest ++ d.next ∷ r = tails all ∙ assoc d.rest d.next r in
        let g = cut_goes (AdjacencyStep value k) d.rest (d.next ∷ r) 0 u (subst (λ (v : List ℕ). GoesAlong (AdjacencyStep value k) 0 v u) rest c.goes) in
        let h = g.3 in
        let here = walk_positive (AdjacencyStep value k) from_zero d.rest 0 d.cost d.goes in
        let step = from_zero.non_negative (end_of 0 d.rest) h.0 d.next h.2 in
        let on = walk_positive (AdjacencyStep value k) from_zero r d.next h.1 h.3 in
        let low = d.cheapest g.0 g.2 in
        d.all_past h.0 h.2 (between (pos 0) (d.cost +ℤ h.0) u none f (omega (arith, ints, here, step)) (omega (arith, ints, low, on, g.4, h.4)))
      where
        tails : {v w : List ℕ} → 0 ∷ v ≡ 0 ∷ w → v ≡ w
        tails e = cc

        assoc : (v : List ℕ) (x : ℕ) (r : List ℕ) → (v ++ x ∷ []) ++ r ≡ v ++ x ∷ r
        assoc [] x r = refl
        assoc (y ∷ v) x r = ap (λ (w : List ℕ). y ∷ w) (assoc v x r)

  -- where a clean path goes on
  pub record GoesOnAt (rest : List ℕ) (i n : ℕ) : Type 0 where
    pub more : take (i + 1) rest ≡ take i rest ++ n ∷ []
    pub new : ¬ (HasNode nat_eq (0 ∷ take i rest) n)
    pub before : NoRepeats nat_eq (0 ∷ take i rest)
    pub live : is_goal k (end_of 0 (take i rest)) ≡ false
    pub inside : n < length k.rows

  pub goes_on_at : (rest : List ℕ) (u : ℤ) (i d : ℕ) → GoesAlong (AdjacencyStep value k) 0 rest u → NoRepeats nat_eq (0 ∷ rest) → i < length rest → GoesOnAt rest i (get_or rest i d)
  goes_on_at rest u i d goes distinct h =
      let n = get_or rest i d in
      let c = cut_at rest i d h in
      let q = take i rest in
      let w = subst (λ (v : List ℕ). NoRepeats nat_eq (0 ∷ v)) c.1 distinct in
      let g = subst (λ (v : List ℕ). GoesAlong (AdjacencyStep value k) 0 v u) c.1 goes in
      let b = behind value k whole q (n ∷ c.0) 0 u g in
      let s = b.1 in
      let t = s.2 in
      record {
        more = take_more rest i d h;
        new = not_twice (0 ∷ q) (n ∷ c.0) n w (inl (same_is_true n));
        before = NoRepeats-before (0 ∷ q) (n ∷ c.0) w;
        live = elim (bool_dec (is_goal k (end_of 0 q))) as (λ _. is_goal k (end_of 0 q) ≡ false) [
          | inl e ↦ absurd (not_empty n c.0 (stuck value k whole (end_of 0 q) (n ∷ c.0) b.0 e s))
          | inr f ↦ f
        ];
        inside = whole.inside (end_of 0 q) n t.0 t.1;
      }
    where
      not_empty : (n : ℕ) (r : List ℕ) → ¬ (n ∷ r ≡ [])
      not_empty n r e = cc

  -- the number behind a place of a clean path
  pub behind_start : (rest : List ℕ) (i d : ℕ) → get_or (0 ∷ rest) (i + 1) d ≡ get_or rest i d
  behind_start rest i d = subst (λ (m : ℕ). get_or (0 ∷ rest) m d ≡ get_or rest i d) (sym (add-one i)) refl

  -- the graph is narrowed on by the next number of a clean path
  pub filtered_on : (path : List ℕ) (u : ℤ) (i d : ℕ) (onward : List (Option ℕ)) (spur : ℕ) → IsCleanNumbers value k path u → i + 1 < length path → length onward ≡ length k.rows → IsFilteredTo k onward spur (take i (drop 1 path))
      → IsFilteredTo k (slice_set onward spur (Some (get_or path (i + 1) d))) (get_or path (i + 1) d) (take (i + 1) (drop 1 path))
  filtered_on path u i d onward spur c h wide n = subst (λ (v : List ℕ). IsFilteredTo k (slice_set onward spur (Some (get_or v (i + 1) d))) (get_or v (i + 1) d) (take (i + 1) (drop 1 v))) (sym c.is)
      (subst (λ (m : ℕ). IsFilteredTo k (slice_set onward spur (Some m)) m (take (i + 1) c.rest)) (sym (behind_start c.rest i d)) on)
    where
      long : i < length c.rest
      long = let e = ap length c.is in let f : length (0 ∷ c.rest) ≡ suc (length c.rest) = refl in omega (arith, e, f, h)

      at : GoesOnAt c.rest i (get_or c.rest i d)
      at = goes_on_at c.rest u i d c.goes c.distinct long

      old : IsFilteredTo k onward spur (take i c.rest)
      old = subst (λ (v : List ℕ). IsFilteredTo k onward spur (take i (drop 1 v))) c.is n

      waits : slice_get onward (get_or c.rest i d) ≡ Some None
      waits = let a = at in let o = old in free_waits k onward (get_or c.rest i d) (omega (arith, a.inside, wide)) (λ y. o.free (get_or c.rest i d) y a.new)

      within : spur < length onward
      within = spur_inside k onward spur (take i c.rest) old

      on : IsFilteredTo k (slice_set onward spur (Some (get_or c.rest i d))) (get_or c.rest i d) (take (i + 1) c.rest)
      on = let a = at in let o = old in let m = get_or c.rest i d in subst (λ (v : List ℕ). IsFilteredTo k (slice_set onward spur (Some m)) m v) (sym a.more) (record {
        leads = leads_on k onward spur m (take i c.rest) 0 within o.leads a.before a.new a.live waits;
        free = λ x y out e. elim (get_set onward spur x (Some m) within) as (λ _. ⊥) [
          | inl t ↦ out (HasNode-before (0 ∷ take i c.rest) m x (subst (λ (z : ℕ). HasNode nat_eq (0 ∷ take i c.rest) z) (sym t.0) (spur_in k onward spur (take i c.rest) 0 o.leads)))
          | inr t ↦ o.free x y (λ hx. out (HasNode-before (0 ∷ take i c.rest) m x hx)) (sym t.1 ∙ e)
        ];
      })

  -- the numbers of a clean path up to a place, and the next one
  further_along : (path : List ℕ) (u : ℤ) (i d : ℕ) → IsCleanNumbers value k path u → i + 1 < length path → take (i + 1) (drop 1 path) ≡ take i (drop 1 path) ++ get_or path (i + 1) d ∷ []
  further_along path u i d c h = subst (λ (v : List ℕ). take (i + 1) (drop 1 v) ≡ take i (drop 1 v) ++ get_or v (i + 1) d ∷ []) (sym c.is)
      (let long : i < length c.rest = (let e = ap length c.is in let f : length (0 ∷ c.rest) ≡ suc (length c.rest) = refl in omega (arith, e, f, h)) in
      subst (λ (m : ℕ). take (i + 1) c.rest ≡ take i c.rest ++ m ∷ []) (sym (behind_start c.rest i d)) (let g = goes_on_at c.rest u i d c.goes c.distinct long in g.more))

  -- what was spent, once the next number of a clean path is gone on to
  pub spent_on : (path : List ℕ) (u : ℤ) (i d : ℕ) (onward : List (Option ℕ)) (spur : ℕ) → IsCleanNumbers value k path u → i + 1 < length path → IsFilteredTo k onward spur (take i (drop 1 path)) → (before after : Option C)
      → ((q : List ℕ) → IsSpent value k q before → end_of 0 q ≡ spur → IsSpent value k (q ++ get_or path (i + 1) d ∷ []) after) → IsSpent value k (take i (drop 1 path)) before → IsSpent value k (take (i + 1) (drop 1 path)) after
  spent_on path u i d onward spur c h f before after on p = subst (λ (v : List ℕ). IsSpent value k v after) (sym (further_along path u i d c h)) (on (take i (drop 1 path)) p (ends_at_spur k onward spur (take i (drop 1 path)) 0 f.leads))

  -- the prefix of a clean path that goes on
  pub prefix_of : (path : List ℕ) (u : ℤ) (i : ℕ) (onward : List (Option ℕ)) (spur : ℕ) (spent : Option C) → IsCleanNumbers value k path u → i + 1 < length path → IsFilteredTo k onward spur (take i (drop 1 path)) → IsSpent value k (take i (drop 1 path)) spent
      → IsPrefix value k onward spur (take i (drop 1 path)) spent
  prefix_of path u i onward spur spent c h f p =
      let long : i < length c.rest = (let e = ap length c.is in let s : length (0 ∷ c.rest) ≡ suc (length c.rest) = refl in omega (arith, e, s, h)) in
      let g = goes_on_at c.rest u i 0 c.goes c.distinct long in
      let same : take i (drop 1 path) ≡ take i c.rest = ap (λ (v : List ℕ). take i (drop 1 v)) c.is in
      record {
        filtered = f;
        distinct = subst (λ (v : List ℕ). NoRepeats nat_eq (0 ∷ v)) (sym same) g.before;
        live = subst (λ (n : ℕ). is_goal k n ≡ false) (ends_at_spur k onward spur (take i (drop 1 path)) 0 f.leads) (subst (λ (v : List ℕ). is_goal k (end_of 0 v) ≡ false) (sym same) g.live);
        costs = p;
      }

  pub begins_with : (path : List ℕ) (u : ℤ) (i : ℕ) → IsCleanNumbers value k path u → take (i + 1) path ≡ 0 ∷ take i (drop 1 path)
  begins_with path u i c = subst (λ (v : List ℕ). take (i + 1) v ≡ 0 ∷ take i (drop 1 v)) (sym c.is) (subst (λ (m : ℕ). take m (0 ∷ c.rest) ≡ 0 ∷ take i c.rest) (sym (add-one i)) refl)

  -- ---- the split of a class
  module _ (c : Plan C) (h : IsCheapestOfClass value k c) where
    abbrev rest : List ℕ
    rest = let a = h.clean in a.rest

    path_is : c.path ≡ 0 ∷ rest
    path_is = let a = h.clean in a.is

    abbrev along : ℕ → List ℕ
    along i = take i (drop 1 c.path)

    prefix_at : (i : ℕ) → take (i + 1) c.path ≡ 0 ∷ along i
    prefix_at i = subst (λ (v : List ℕ). take (i + 1) v ≡ 0 ∷ take i (drop 1 v)) (sym path_is) (subst (λ (m : ℕ). take m (0 ∷ rest) ≡ 0 ∷ take i rest) (sym (add-one i)) refl)

    -- nothing was split yet
    pub split_first : IsSplitUpTo value k c c.spur c.banned []
    split_first = record {
      cheapest = λ d m. absurd (in_none d m);
      dearer = λ d m. absurd (in_none d m);
      member = subst (λ (v : List ℕ). is_member v c.banned c.path ≡ true) (prefix_at c.spur) h.member;
      parts = λ p u clean.
          let e : in_class p c ≡ one_if (is_member (0 ∷ along c.spur) c.banned p) = ap (λ (v : List ℕ). one_if (is_member v c.banned p)) (prefix_at c.spur) in
          omega (arith, e);
      barred = λ x y m. absurd (in_none x m);
      still = λ y m. (sym (prefix_at c.spur), m);
    }

    module _ (i d : ℕ) (banned : List ℕ) (plans : List (Plan C)) (s : IsSplitUpTo value k c i banned plans) (inside : i + 1 < length c.path) where
      abbrev next : ℕ
      next = get_or c.path (i + 1) d

      further : along (i + 1) ≡ along i ++ next ∷ []
      further = subst (λ (v : List ℕ). take (i + 1) (drop 1 v) ≡ take i (drop 1 v) ++ get_or v (i + 1) d ∷ []) (sym path_is)
          (let a = h.clean in let long : i < length rest = (let e = ap length path_is in let f : length (0 ∷ rest) ≡ suc (length rest) = refl in omega (arith, e, f, inside)) in
          subst (λ (m : ℕ). take (i + 1) rest ≡ take i rest ++ m ∷ []) (sym (behind_start rest i d)) (let g = goes_on_at rest (value c.cost) i d a.goes a.distinct long in g.more))

      append_same : (xs ys zs : List ℕ) → xs ++ ys ≡ xs ++ zs → ys ≡ zs
      append_same [] ys zs e = e
      append_same (x ∷ xs) ys zs e = append_same xs ys zs (tails x (xs ++ ys) (xs ++ zs) e)
        where
          tails : (x : ℕ) (v w : List ℕ) → x ∷ v ≡ x ∷ w → v ≡ w
          tails x v w e = cc

      -- the path itself goes on to the next number, which is not banned
      not_banned : is_in banned next ≡ false
      not_banned =
          let long : i < length rest = (let e = ap length path_is in let f : length (0 ∷ rest) ≡ suc (length rest) = refl in omega (arith, e, f, inside)) in
          let r = cut_at rest i d long in
          let n = get_or rest i d in
          let same : next ≡ n = subst (λ (v : List ℕ). get_or v (i + 1) d ≡ n) (sym path_is) (behind_start rest i d) in
          let whole_path : c.path ≡ (0 ∷ along i) ++ n ∷ r.0 = path_is ∙ ap (λ (v : List ℕ). 0 ∷ v) (r.1 ∙ ap (λ (v : List ℕ). take i (drop 1 v) ++ n ∷ r.0) (sym path_is)) in
          let g = goes_on (0 ∷ along i) banned c.path s.member in
          let e : (0 ∷ along i) ++ g.0 ≡ (0 ∷ along i) ++ n ∷ r.0 = sym g.1 ∙ whole_path in
          let f : g.0 ≡ n ∷ r.0 = append_same (0 ∷ along i) g.0 (n ∷ r.0) e in
          let m : is_member [] banned (n ∷ r.0) ≡ true = subst (λ (v : List ℕ). is_member [] banned v ≡ true) f g.2 in
          subst (λ (z : ℕ). is_in banned z ≡ false) (sym same) (not_true (is_in banned n) m)

      -- the class along the path goes to the one with the next number banned, and the one further along
      two_parts : (p : List ℕ) → one_if (is_member (0 ∷ along i) banned p) ≡ one_if (is_member (0 ∷ along i) (banned ++ next ∷ []) p) + one_if (is_member (0 ∷ along (i + 1)) [] p)
      two_parts p = subst (λ (v : List ℕ). one_if (is_member (0 ∷ along i) banned p) ≡ one_if (is_member (0 ∷ along i) (banned ++ next ∷ []) p) + one_if (is_member (0 ∷ v) [] p)) (sym further) (split_member (0 ∷ along i) banned p next not_banned)

      still_member : is_member (0 ∷ along (i + 1)) [] c.path ≡ true
      still_member =
          let long : i < length rest = (let e = ap length path_is in let f : length (0 ∷ rest) ≡ suc (length rest) = refl in omega (arith, e, f, inside)) in
          let r = cut_at rest i d long in
          let n = get_or rest i d in
          let same : next ≡ n = subst (λ (v : List ℕ). get_or v (i + 1) d ≡ n) (sym path_is) (behind_start rest i d) in
          let path_at : c.path ≡ 0 ∷ (along i ++ n ∷ r.0) = path_is ∙ ap (λ (v : List ℕ). 0 ∷ v) (r.1 ∙ ap (λ (v : List ℕ). take i (drop 1 v) ++ n ∷ r.0) (sym path_is)) in
          let more : 0 ∷ (along i ++ n ∷ r.0) ≡ 0 ∷ (along (i + 1) ++ r.0) = ap (λ (v : List ℕ). 0 ∷ v) (assoc (along i) n r.0 ∙ ap (λ (v : List ℕ). v ++ r.0) (ap (λ (z : ℕ). along i ++ z ∷ []) (sym same) ∙ sym further)) in
          subst (λ (v : List ℕ). is_member (0 ∷ along (i + 1)) [] v ≡ true) (sym (path_at ∙ more)) (member_of (0 ∷ along (i + 1)) [] r.0 (any_goes_on r.0))
        where
          assoc : (v : List ℕ) (x : ℕ) (r : List ℕ) → v ++ x ∷ r ≡ (v ++ x ∷ []) ++ r
          assoc [] x r = refl
          assoc (y ∷ v) x r = ap (λ (w : List ℕ). y ∷ w) (assoc v x r)

      goes_next : goes_on_to (0 ∷ along i) next c.path ≡ true
      goes_next = subst (λ (v : List ℕ). is_member (0 ∷ v) [] c.path ≡ true) further still_member

      -- what is banned from here on is the next number of the path, or was banned
      barred_here : (y : ℕ) → is_in (banned ++ next ∷ []) y ≡ true → IsBarredBehind c (0 ∷ along i) y
      barred_here y m = elim (or_cases (is_in banned y) (nat_eq next y || false) (sym (list_any-append (λ x. nat_eq x y) banned (next ∷ [])) ∙ m)) as (λ _. IsBarredBehind c (0 ∷ along i) y) [
        | inl t ↦ inr (s.still y t)
        | inr t ↦ elim (or_cases (nat_eq next y) false t) as (λ _. IsBarredBehind c (0 ∷ along i) y) [
          | inl e ↦ inl (subst (λ (x : ℕ). goes_on_to (0 ∷ along i) x c.path ≡ true) (eqb-true next y e) goes_next)
          | inr f ↦ absurd (true≢false (sym f))
        ]
      ]

      -- a clean path that leaves the way here is in the class that is split, and is not its path
      leaves_inside : (p : List ℕ) (u : ℤ) → IsCleanNumbers value k p u → is_member (0 ∷ along i) (banned ++ next ∷ []) p ≡ true → (in_class p c ≡ 1) × (is_path p c.path ≡ 0)
      leaves_inside p u clean m =
          let a = s.parts p u clean in
          let b = two_parts p in
          let one = one_if_one (is_member (0 ∷ along i) (banned ++ next ∷ []) p) m in
          let most = at_most_one (is_member (take (c.spur + 1) c.path) c.banned p) in
          let once = at_most_one (is_member (0 ∷ along i) banned p) in (
            omega (arith, a, b, one, most),
            elim (bool_dec (is_member c.path [] p)) as (λ _. is_path p c.path ≡ 0) [
              | inl t ↦
                  let e = same_path value k whole p c.path u (value c.cost) clean h.clean t in
                  let on = one_if_one (is_member (0 ∷ along (i + 1)) [] p) (subst (λ (v : List ℕ). is_member (0 ∷ along (i + 1)) [] v ≡ true) (sym e) still_member) in
                  absurd (omega (arith, b, one, once, on))
              | inr f ↦ ap one_if f
            ],
          )

      -- a sum that does not fit, where the way is left here
      pub past_here : (fits : ℤ → Type 0) → ((x y z : ℤ) → fits x → fits z → x ≤ℤ y → y ≤ℤ z → fits y) → fits (pos 0) → fits (value c.cost) → (onward : List (Option ℕ)) (spur : ℕ) → IsFilteredTo k onward spur (along i) → (n : ℕ) → 0 < n
          → NumberedOverflows (FilteredStep value (record { adjacency = k; onward = onward; spur = spur; banned = banned ++ next ∷ [] })) (is_goal k) (StandsForItself n 0) (StandsForItself n) fits → ClassOverflows value k fits c
      past_here fits between none itself onward spur filtered_lists n some d =
          let g : FilteredLists C = record { adjacency = k; onward = onward; spur = spur; banned = banned ++ next ∷ [] } in
          let p = past_along value fits g n d in
          let at = elim (on_or_within value g (along i) p.0.rest 0 p.0.cost p.0.price p.0.next filtered_lists.leads p.1.0 p.1.1) as (λ _. (is_member (0 ∷ along i) [] (0 ∷ p.0.rest) ≡ true) × (is_member (0 ∷ along i) (banned ++ next ∷ []) ((0 ∷ p.0.rest) ++ p.0.next ∷ []) ≡ true)) [
            | inl o ↦ o
            | inr w ↦
                let r = goes_on ((0 ∷ p.0.rest) ++ p.0.next ∷ []) [] (0 ∷ along i) w in
                let q = goes_on (0 ∷ along i) banned c.path s.member in
                absurd (not_on_path fits between none p.0 c.path (value c.cost) h.clean itself (r.0 ++ q.0) (q.1 ∙ ap (λ (v : List ℕ). v ++ q.0) r.1 ∙ append_assoc ((0 ∷ p.0.rest) ++ p.0.next ∷ []) r.0 q.0))
          ] in
          record {
            prefix = 0 ∷ along i;
            banned = banned ++ next ∷ [];
            some = omega arith;
            onward = next;
            along = goes_next;
            past = p.0;
            begins = at.0;
            leaves = at.1;
            none_cheaper = λ v u clean m. p.1.2 clean.rest u (class_walk value g (along i) filtered_lists v u clean m) clean.ends;
            inside = leaves_inside;
            barred = barred_here;
          }
        where
          append_assoc : (v w r : List ℕ) → (v ++ w) ++ r ≡ v ++ (w ++ r)
          append_assoc [] w r = refl
          append_assoc (x ∷ v) w r = ap (λ (l : List ℕ). x ∷ l) (append_assoc v w r)

      -- no path leaves the way here
      pub split_none : HasNoneAlong value k (along i) (banned ++ next ∷ []) → IsSplitUpTo value k c (i + 1) [] plans
      split_none none = record {
        cheapest = s.cheapest;
        dearer = s.dearer;
        member = still_member;
        parts = λ p u clean.
            let a = s.parts p u clean in
            let b = two_parts p in
            let z : one_if (is_member (0 ∷ along i) (banned ++ next ∷ []) p) ≡ 0 = ap one_if (none p u clean) in
            omega (arith, a, b, z);
        barred = s.barred;
        still = λ y m. absurd (true≢false (sym m));
      }

      -- a cheapest path that leaves the way here
      pub split_some : (e : Plan C) → IsCheapestAlong value k (along i) (banned ++ next ∷ []) e.path e.cost → e.spur ≡ i → e.banned ≡ banned ++ next ∷ [] → IsSplitUpTo value k c (i + 1) [] (plans ++ e ∷ [])
      split_some e b at bans = record {
        cheapest = λ x m. elim (Contains-append_one plans e x m) as (λ _. IsCheapestOfClass value k x) [ inl q ↦ s.cheapest x q | inr q ↦ subst (λ (y : Plan C). IsCheapestOfClass value k y) q is_cheapest ];
        dearer = λ x m. elim (Contains-append_one plans e x m) as (λ _. value c.cost ≤ℤ value x.cost) [ inl q ↦ s.dearer x q | inr q ↦ subst (λ (y : Plan C). value c.cost ≤ℤ value y.cost) q is_dearer ];
        member = still_member;
        parts = λ p u clean.
            let a = s.parts p u clean in
            let t = two_parts p in
            let z : in_class p e ≡ one_if (is_member (0 ∷ along i) (banned ++ next ∷ []) p) = class_is p in
            let x = sum_by-append (in_class p) plans (e ∷ []) in
            let y = sum_by-cons (in_class p) e [] in
            let w : sum_by (in_class {C = C} p) [] ≡ 0 = refl in
            omega (arith, a, t, z, x, y, w);
        barred = λ x y m. elim (Contains-append_one plans e x m) as (λ _. is_in x.banned y ≡ true → IsBarredBehind c (take (x.spur + 1) x.path) y) [
          | inl q ↦ s.barred x y q
          | inr q ↦ subst (λ (z : Plan C). is_in z.banned y ≡ true → IsBarredBehind c (take (z.spur + 1) z.path) y) q
              (λ t. subst (λ (v : List ℕ). IsBarredBehind c v y) (sym begins) (barred_here y (subst (λ (v : List ℕ). is_in v y ≡ true) bans t)))
        ];
        still = λ y m. absurd (true≢false (sym m));
      }
        where
          -- its path begins as this one does
          begins : take (e.spur + 1) e.path ≡ 0 ∷ along i
          begins = prefix_is (0 ∷ along i) (banned ++ next ∷ []) e.path (e.spur + 1) (let l = length_along in let f : length (0 ∷ along i) ≡ suc (length (along i)) = refl in omega (arith, at, l, f)) b.member
            where
              length_along : length (along i) ≡ i
              length_along = subst (λ (v : List ℕ). length (take i (drop 1 v)) ≡ i) (sym path_is) (length-take_below rest i (let e = ap length path_is in let f : length (0 ∷ rest) ≡ suc (length rest) = refl in omega (arith, e, f, inside)))

          class_is : (p : List ℕ) → in_class p e ≡ one_if (is_member (0 ∷ along i) (banned ++ next ∷ []) p)
          class_is p = ap (λ (v : List ℕ). one_if (is_member v e.banned p)) begins ∙ ap (λ (v : List ℕ). one_if (is_member (0 ∷ along i) v p)) bans

          test_is : (p : List ℕ) → is_member (take (e.spur + 1) e.path) e.banned p ≡ is_member (0 ∷ along i) (banned ++ next ∷ []) p
          test_is p = ap (λ (v : List ℕ). is_member v e.banned p) begins ∙ ap (λ (v : List ℕ). is_member (0 ∷ along i) v p) bans

          is_cheapest : IsCheapestOfClass value k e
          is_cheapest = record {
            clean = b.clean;
            member = test_is e.path ∙ b.member;
            least = λ p u clean m. b.least p u clean (sym (test_is p) ∙ m);
            inside = short (e.spur) e.path (let l = ap length begins in let f : length (0 ∷ along i) ≡ suc (length (along i)) = refl in omega (arith, l, f, length_of (along i), at, along_short));
          }
            where
              along_short : length (along i) ≡ i
              along_short = subst (λ (v : List ℕ). length (take i (drop 1 v)) ≡ i) (sym path_is) (length-take_below rest i (let e = ap length path_is in let f : length (0 ∷ rest) ≡ suc (length rest) = refl in omega (arith, e, f, inside)))

              length_of : (v : List ℕ) → 0 ≤ length v
              length_of v = omega arith

              short : (n : ℕ) (v : List ℕ) → length (take (n + 1) v) ≡ n + 1 → n < length v
              short n v e = omega (arith, e, length-take-le_all (n + 1) v)
                where
                  length-take-le_all : (n : ℕ) (v : List ℕ) → length (take n v) ≤ length v
                  length-take-le_all zero v = omega arith
                  length-take-le_all (suc n) [] = omega arith
                  length-take-le_all (suc n) (x ∷ v) = let r = length-take-le_all n v in let a : length (take (suc n) (x ∷ v)) ≡ suc (length (take n v)) = refl in let b : length (x ∷ v) ≡ suc (length v) = refl in omega (arith, r, a, b)

          -- it is in the class that is split
          is_dearer : value c.cost ≤ℤ value e.cost
          is_dearer =
              let a = s.parts e.path (value e.cost) b.clean in
              let t = two_parts e.path in
              let o = one_if_one (is_member (0 ∷ along i) (banned ++ next ∷ []) e.path) b.member in
              h.least e.path (value e.cost) b.clean (positive (is_member (take (c.spur + 1) c.path) c.banned e.path) (omega (arith, a, t, o)))
            where
              positive : (x : Bool) → 0 < one_if x → x ≡ true
              positive true l = refl
              positive false l = absurd (omega (arith, l))

    -- all of the path was gone along
    pub split_last : (i : ℕ) (banned : List ℕ) (plans : List (Plan C)) → IsSplitUpTo value k c i banned plans → length c.path ≤ i + 1 → IsSplit value k c plans
    split_last i banned plans s all = record {
      cheapest = s.cheapest;
      dearer = s.dearer;
      parts = λ p u clean.
          let a = s.parts p u clean in
          let e : one_if (is_member (0 ∷ along i) banned p) ≡ is_path p c.path = ap (λ (v : List ℕ). one_if (is_member v banned p)) whole_path ∙ only p u clean in
          omega (arith, a, e);
      barred = s.barred;
    }
      where
        whole_path : 0 ∷ along i ≡ c.path
        whole_path = sym (prefix_at i) ∙ take_all (i + 1) c.path all

        only : (p : List ℕ) (u : ℤ) → IsCleanNumbers value k p u → one_if (is_member c.path banned p) ≡ is_path p c.path
        only p u clean = elim (bool_dec (is_member c.path banned p)) as (λ _. one_if (is_member c.path banned p) ≡ is_path p c.path) [
          | inl t ↦ let g = goes_on c.path banned p t in one_if_one (is_member c.path banned p) t ∙ sym (one_if_one (is_member c.path [] p) (subst (λ (v : List ℕ). is_member c.path [] v ≡ true) (sym g.1) (member_of c.path [] g.0 (any_goes_on g.0))))
          | inr f ↦ elim (bool_dec (is_member c.path [] p)) as (λ _. one_if (is_member c.path banned p) ≡ is_path p c.path) [
            | inl t ↦ let e = same_path value k whole p c.path u (value c.cost) clean h.clean t in absurd (true≢false (sym (subst (λ (v : List ℕ). is_member c.path banned v ≡ true) (sym e) itself) ∙ f))
            | inr n ↦ ap one_if f ∙ sym (ap one_if n)
          ]
        ]
          where
            append_none : (v : List ℕ) → v ++ [] ≡ v
            append_none [] = refl
            append_none (x ∷ v) = ap (λ (w : List ℕ). x ∷ w) (append_none v)

            itself : is_member c.path banned c.path ≡ true
            itself = subst (λ (v : List ℕ). is_member c.path banned v ≡ true) (append_none c.path) (member_of c.path banned [] refl)

-- a sum that does not fit in the whole graph, where no goal is cheaper than the end of the path, which is a cheapest one
pub past_first : {C : Type 0} (value : C → ℤ) (fits : ℤ → Type 0) (k : AdjacencyLists C) (n : ℕ) → NumberedOverflows (AdjacencyStep value k) (is_goal k) (StandsForItself n 0) (StandsForItself n) fits
    → (p : IsPastAlong value k fits) × (((v : List ℕ) (u : ℤ) → GoesAlong (AdjacencyStep value k) 0 v u → end_of 0 v ≡ end_of 0 p.rest → p.cost ≤ℤ u) × ((v : List ℕ) (u : ℤ) → GoesAlong (AdjacencyStep value k) 0 v u → is_goal k (end_of 0 v) ≡ true → p.cost ≤ℤ u))
past_first value fits k n d =
    let p = d.path in
    let z : 0 ≡ d.first = d.is_start.0 in
    let at : StandsForItself n d.number (end_of 0 d.nodes) = subst (λ (a : ℕ). StandsForItself n d.number (end_of a d.nodes)) (sym z) d.here in (
      record {
        rest = d.nodes;
        cost = d.cost;
        goes = subst (λ (a : ℕ). GoesAlong (AdjacencyStep value k) a d.nodes d.cost) (sym z) p.goes;
        distinct = subst (λ (a : ℕ). NoRepeats nat_eq (a ∷ d.nodes)) (sym z) (subst (λ (v : List ℕ). NoRepeats nat_eq v) (numbers_are n d.numbers (d.first ∷ d.nodes) p.numbered) p.distinct);
        cheapest = λ u w. d.cheapest 0 (refl, d.is_start.1) d.nodes u w at;
        next = d.next;
        price = d.price;
        edge = subst (λ (a : ℕ). AdjacencyStep value k (end_of a d.nodes) d.price d.next) (sym z) d.edge;
        all_past = λ y s. d.all_past y (subst (λ (a : ℕ). AdjacencyStep value k (end_of a d.nodes) y d.next) z s);
      },
      (
        (λ v u g e. d.cheapest 0 (refl, d.is_start.1) v u g (subst (λ (m : ℕ). StandsForItself n d.number m) (sym e) at)),
        (λ v u g t. d.none_cheaper 0 (refl, d.is_start.1) v u g t),
      ),
    )
