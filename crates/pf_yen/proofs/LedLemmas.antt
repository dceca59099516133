-- Walks at reduced costs: each to a goal costs less by what remains from its first number. One from the spur does not come back to the prefix.
use Rattle.std.proofs.Common.{◌≡◌, ℕ, zero, suc, ◌<◌, ◌≤◌, ◌∙◌, refl, sym, ap, subst, arith, inl, inr, true, false, List, [], ◌∷◌, ◌++◌, length, drop, ℤ, pos, nat_eq, Option, Some}
use Rattle.std.specs.Prelude.{◌⊎◌, ◌≤ℤ◌, ◌+ℤ◌, Contains, slice_get, slice_index_or}
use Rattle.std.specs.List.{AllZip}
use borrow.Author.Tests.{eqb-true}
use Rattle.std.proofs.lemmas.Int.{ints}
use Rattle.pf_base.specs.Walks.{HasNode, NoRepeats, end_of}
use Rattle.pf_core.specs.Steps.{GoesAlong, NoGoal, IsBestNumbered}
use Rattle.pf_base.proofs.ListLemmas.{bool_dec, get_within, Contains-head}
use Rattle.pf_yen.specs.Internal.Adjacency.{AdjacencyLists, is_goal, row_of, AdjacencyStep}
use Rattle.pf_yen.specs.Internal.Classes.{is_member, IsCleanNumbers}
use Rattle.pf_yen.specs.Internal.Filtered.{FilteredLists, FilteredStep, StandsForItself}
use Rattle.pf_yen.specs.Internal.Led.{IsWayAt}
use Rattle.pf_yen.specs.Internal.NamedWays.{IsNamed, IsPrefix, IsSpent}
use Rattle.pf_yen.specs.declared.named.Named.{Named}
use Rattle.pf_yen.specs.declared.named.Named.TheVariants.{Way, Nothing, Unknown}
use Rattle.pf_yen.specs.Internal.Reduced.{Leads, with_rows}
use Rattle.pf_yen.specs.Internal.Splits.{LeadsOn, IsFilteredTo, IsCheapestAlong, HasNoneAlong}
use Rattle.pf_yen.specs.Internal.WholeGraphs.{IsWhole}
use Rattle.pf_yen.proofs.FilteredLemmas.{in_none}
use Rattle.pf_yen.proofs.FilteredWalks.{numbers_are, goes_listed, goes_again, spur_of, walk_back, class_walk}
use Rattle.pf_yen.proofs.ClassLemmas.{same_is_true, and_right, goes_on, member_of}
use Rattle.pf_yen.proofs.SplitLemmas.{ends_at_spur, spur_waits, cut_goes}
use Rattle.pf_yen.proofs.RemainingLemmas.{one_cost}

-- a row that has something is one of the rows
index_within : {X : Type 0} (rows : List (List X)) (a : ℕ) (x : X) → Contains (slice_index_or rows a []) x → a < length rows
index_within [] a x h = absurd (in_none x h)
index_within (row ∷ rows) zero x h = omega arith
index_within (row ∷ rows) (suc a) x h = let i = index_within rows a x h in omega (arith, i)

empty_row : {X : Type 0} (es : List X) → ((x : X) → Contains es x → ⊥) → es ≡ []
empty_row [] h = refl
empty_row (x ∷ es) h = absurd (h x (Contains-head es x))

not_empty : {X : Type 0} (es : List X) (x : X) → es ≡ [] → Contains es x → ⊥
not_empty {X} es x e h = in_none x (subst (λ (v : List X). Contains v x) e h)

some_same : {X : Type 0} (x y : X) → Some x ≡ Some y → x ≡ y
some_same x y e = cc

-- ---- walks along one list behind another

ends_behind : (v w : List ℕ) (a : ℕ) → end_of a (v ++ w) ≡ end_of (end_of a v) w
ends_behind [] w a = refl
ends_behind (b ∷ v) w a = ends_behind v w b

in_front : (v w : List ℕ) (x : ℕ) → HasNode nat_eq v x → HasNode nat_eq (v ++ w) x
in_front [] w x h = absurd h
in_front (y ∷ v) w x (inl e) = inl e
in_front (y ∷ v) w x (inr h) = inr (in_front v w x h)

in_either : (v w : List ℕ) (x : ℕ) → HasNode nat_eq (v ++ w) x → HasNode nat_eq v x ⊎ HasNode nat_eq w x
in_either [] w x h = inr h
in_either (y ∷ v) w x (inl e) = inl (inl e)
in_either (y ∷ v) w x (inr h) = elim (in_either v w x h) as (λ _. HasNode nat_eq (y ∷ v) x ⊎ HasNode nat_eq w x) [ inl i ↦ inl (inr i) | inr i ↦ inr i ]

distinct_both : (v w : List ℕ) → NoRepeats nat_eq v → NoRepeats nat_eq w → ((x : ℕ) → HasNode nat_eq w x → ¬ (HasNode nat_eq v x)) → NoRepeats nat_eq (v ++ w)
distinct_both [] w n m off = m
distinct_both (y ∷ v) w n m off = (
  (λ h. elim (in_either v w y h) as (λ _. ⊥) [ inl i ↦ n.0 i | inr i ↦ off y i (inl (same_is_true y)) ]),
  distinct_both v w n.1 m (λ x h i. off x h (inr i)),
)

goes_both : {X : Type 0} (step : X → ℤ → X → Type 0) (v w : List X) (a : X) (s t : ℤ) → GoesAlong step a v s → GoesAlong step (end_of a v) w t → GoesAlong step a (v ++ w) (s +ℤ t)
goes_both {X} step [] w a s t h k = let e : t ≡ s +ℤ t = omega (arith, ints, h) in subst (λ (z : ℤ). GoesAlong step a w z) e k
goes_both step (b ∷ v) w a s t h k = (h.0, h.1 +ℤ t, h.2, goes_both step v w b h.1 t h.3 k, omega (arith, ints, h.4))

-- the walk behind a number that it goes through
walk_behind : (step : ℕ → ℤ → ℕ → Type 0) (w : List ℕ) (a x : ℕ) (u : ℤ) → GoesAlong step a w u → HasNode nat_eq w x → (v : List ℕ) × (t : ℤ) × GoesAlong step x v t × (end_of x v ≡ end_of a w) × ((y : ℕ) → HasNode nat_eq (x ∷ v) y → HasNode nat_eq w y)
walk_behind step [] a x u h i = absurd i
walk_behind step (b ∷ w) a x u h (inl e) = subst (λ (n : ℕ). (v : List ℕ) × (t : ℤ) × GoesAlong step n v t × (end_of n v ≡ end_of b w) × ((y : ℕ) → HasNode nat_eq (n ∷ v) y → HasNode nat_eq (b ∷ w) y)) (eqb-true b x e) (w, h.1, h.3, refl, λ y i. i)
walk_behind step (b ∷ w) a x u h (inr i) = let r = walk_behind step w b x h.1 h.3 i in (r.0, r.1, r.2, r.3, λ y j. inr (r.4 y j))

-- each number of a prefix leads on to the spur
leads_from : {C : Type 0} (k : AdjacencyLists C) (onward : List (Option ℕ)) (spur : ℕ) (q : List ℕ) (a x : ℕ) → LeadsOn k onward spur a q → HasNode nat_eq (a ∷ q) x → (v : List ℕ) × LeadsOn k onward spur x v
leads_from k onward spur q a x l (inl e) = (q, subst (λ (n : ℕ). LeadsOn k onward spur n q) (eqb-true a x e) l)
leads_from k onward spur [] a x l (inr h) = absurd h
leads_from k onward spur (b ∷ q) a x l (inr h) = leads_from k onward spur q b x l.2 h

pub some_numbers : (m : ℕ) (numbers : List ℕ) (x : ℕ) (xs : List ℕ) → AllZip (StandsForItself m) numbers (x ∷ xs) → 1 ≤ length numbers
some_numbers m [] x xs h = absurd h
some_numbers m (k ∷ ks) x xs h = omega arith

module _ {C : Type 0} (value : C → ℤ) (fits : ℤ → Type 0) (k : AdjacencyLists C) (whole : IsWhole value k) (costs : List (Option C)) (rows : List (List (ℕ × C))) (l : Leads value fits k costs rows) where
  here_at : (a : ℕ) → a < length k.rows → (m : Option C) × (slice_get costs a ≡ Some m)
  here_at a h = get_within costs a (omega (arith, h, l.remaining.wide))

  -- the step of the graph that a reduced one stands for
  step_of : (a b : ℕ) (d : C) → Contains (row_of (with_rows k rows) a) (b, d) → (c : C) × (x : C) × (y : C) × Contains (row_of k a) (b, c) × (slice_get costs a ≡ Some (Some x)) × (slice_get costs b ≡ Some (Some y)) × (value d +ℤ value x ≡ value c +ℤ value y)
  step_of a b d h =
      let inside : a < length k.rows = subst (λ (n : ℕ). a < n) l.reduced.wide (index_within rows a (b, d) h) in
      let m = here_at a inside in
      let e = l.reduced.each a m.0 inside m.1 in
      let s = e.sound b d h in
      (s.0, s.1, s.2, s.3, m.1 ∙ ap Some s.4, s.5, s.6)

  -- what remains is no more than a step and what remains behind it
  above : (a b : ℕ) (c x y : C) → Contains (row_of k a) (b, c) → slice_get costs a ≡ Some (Some x) → slice_get costs b ≡ Some (Some y) → value x ≤ℤ (value c +ℤ value y)
  above a b c x y h i j = elim (bool_dec (is_goal k a)) as (λ _. value x ≤ℤ (value c +ℤ value y)) [
    | inl t ↦ absurd (not_empty (row_of k a) (b, c) (whole.stops a t) h)
    | inr f ↦
        let e = l.remaining.least a (Some x) i in
        let z = e.onward f b c y h j in
        subst (λ (v : C). value v ≤ℤ (value c +ℤ value y)) (sym (some_same x z.0 z.1)) z.2
  ]

  pub led_whole : IsWhole value (with_rows k rows)
  led_whole = record {
    inside = λ a b d h. let s = step_of a b d h in subst (λ (n : ℕ). b < n) (sym l.reduced.wide) (whole.inside a b s.0 s.3);
    from_zero = λ a b d h. let s = step_of a b d h in let low = above a b s.0 s.1 s.2 s.3 s.4 s.5 in omega (arith, ints, low, s.6);
    stops = λ a e. empty_row (row_of (with_rows k rows) a) (λ x h. let s = step_of a x.0 x.1 h in not_empty (row_of k a) (x.0, s.0) (whole.stops a e) s.3);
  }

  -- a walk to a goal at reduced costs
  walk_led : (w : List ℕ) (a : ℕ) (u : ℤ) → a < length k.rows → GoesAlong (AdjacencyStep value k) a w u → is_goal k (end_of a w) ≡ true
      → (x : C) × (t : ℤ) × (slice_get costs a ≡ Some (Some x)) × GoesAlong (AdjacencyStep value (with_rows k rows)) a w t × (t +ℤ value x ≡ u)
  walk_led [] a u inside h e = let z = l.reduced.free a inside e in (z.0, pos 0, z.1, refl, omega (arith, ints, z.2, h))
  walk_led (b ∷ w) a u inside h e =
      let s = h.2 in
      let i = walk_led w b h.1 (whole.inside a b s.0 s.1) h.3 e in
      let m = here_at a inside in
      let row = l.reduced.each a m.0 inside m.1 in
      let d = row.whole b s.0 i.0 s.1 i.2 in
      (d.1, value d.0 +ℤ i.1, m.1 ∙ ap Some d.3, (value d.0, i.1, (d.0, d.2, refl), i.3, refl), omega (arith, ints, d.4, i.4, s.2, h.4))

  -- a walk to a goal at full costs
  walk_full : (w : List ℕ) (a : ℕ) (t : ℤ) → a < length k.rows → GoesAlong (AdjacencyStep value (with_rows k rows)) a w t → is_goal k (end_of a w) ≡ true
      → (x : C) × (u : ℤ) × (slice_get costs a ≡ Some (Some x)) × GoesAlong (AdjacencyStep value k) a w u × (t +ℤ value x ≡ u)
  walk_full [] a t inside h e = let z = l.reduced.free a inside e in (z.0, pos 0, z.1, refl, omega (arith, ints, z.2, h))
  walk_full (b ∷ w) a t inside h e =
      let s = h.2 in
      let f = step_of a b s.0 s.1 in
      let i = walk_full w b h.1 (whole.inside a b f.0 f.3) h.3 e in
      let same : value i.0 ≡ value f.2 = ap value (one_cost (slice_get costs b) i.0 f.2 i.2 f.5) in
      (f.1, value f.0 +ℤ i.1, f.4, (value f.0, i.1, (f.0, f.3, refl), i.3, refl), omega (arith, ints, f.6, i.4, same, s.2, h.4))

  module _ (onward : List (Option ℕ)) (spur : ℕ) (banned q : List ℕ) (inside : spur < length k.rows) (spent : Option C) (pre : IsPrefix value k onward spur q spent) where
    leads_there : (v : List ℕ) (a : ℕ) → LeadsOn k onward spur a v → LeadsOn (with_rows k rows) onward spur a v
    leads_there [] a h = h
    leads_there (b ∷ v) a h = (h.0, h.1, leads_there v b h.2)

    abbrev led : FilteredLists C
    led = record { adjacency = with_rows k rows; onward = onward; spur = spur; banned = banned }

    filtered_there : IsFilteredTo (with_rows k rows) onward spur q
    filtered_there = let f = pre.filtered in record { leads = leads_there q 0 f.leads; free = f.free }

    at_spur : end_of 0 q ≡ spur
    at_spur = let f = pre.filtered in ends_at_spur k onward spur q 0 f.leads

    -- what a path of the class has behind the prefix
    record IsBehind (u : ℤ) : Type 0 where
      rest : List ℕ
      before : ℤ
      goes : GoesAlong (AdjacencyStep value k) 0 q before
      here : C
      known : slice_get costs spur ≡ Some (Some here)
      more : ℤ
      walk : GoesAlong (FilteredStep value led) spur rest more
      ends : is_goal k (end_of spur rest) ≡ true
      sum : u ≡ before +ℤ (more +ℤ value here)

    behind : (p : List ℕ) (u : ℤ) → IsCleanNumbers value k p u → is_member (0 ∷ q) banned p ≡ true → IsBehind u
    behind p u c m =
        let g = goes_on (0 ∷ q) banned p m in
        let e = tails (sym c.is ∙ g.1) in
        let cut = cut_goes (AdjacencyStep value k) q g.0 0 u (subst (λ (v : List ℕ). GoesAlong (AdjacencyStep value k) 0 v u) e c.goes) in
        let ends : is_goal k (end_of spur g.0) ≡ true = subst (λ (n : ℕ). is_goal k (end_of n g.0) ≡ true) at_spur (subst (λ (n : ℕ). is_goal k n ≡ true) (ends_behind q g.0 0) (subst (λ (v : List ℕ). is_goal k (end_of 0 v) ≡ true) e c.ends)) in
        let w = walk_led g.0 spur cut.1 inside (subst (λ (n : ℕ). GoesAlong (AdjacencyStep value k) n g.0 cut.1) at_spur cut.3) ends in
        let z = walk_led c.rest 0 u (omega (arith, inside)) c.goes c.ends in
        let f = class_walk value led q filtered_there p z.1 (record { rest = c.rest; is = c.is; goes = z.3; distinct = c.distinct; ends = c.ends }) m in
        let cut' = cut_goes (FilteredStep value led) q g.0 0 z.1 (subst (λ (v : List ℕ). GoesAlong (FilteredStep value led) 0 v z.1) e f) in
        record {
          rest = g.0;
          before = cut.0;
          goes = cut.2;
          here = w.0;
          known = w.2;
          more = w.1;
          walk = goes_again value led g.0 spur cut'.1 w.1 (subst (λ (n : ℕ). GoesAlong (FilteredStep value led) n g.0 cut'.1) at_spur cut'.3) w.3;
          ends = ends;
          sum = omega (arith, ints, cut.4, w.4);
        }
      where
        tails : {v w : List ℕ} → 0 ∷ v ≡ 0 ∷ w → v ≡ w
        tails e = cc

    -- where no walk from the spur is left, the class has no path
    pub none_along : (n : ℕ) → spur < n → NoGoal (FilteredStep value led) (is_goal k) (StandsForItself n spur) → HasNoneAlong value k q banned
    none_along n s none p u c = elim (bool_dec (is_member (0 ∷ q) banned p)) as (λ _. is_member (0 ∷ q) banned p ≡ false) [
      | inl t ↦ let b = behind p u c t in absurd (none spur (refl, s) b.rest b.more b.walk b.ends)
      | inr f ↦ f
    ]

    -- a walk from a number of the prefix to a goal goes through the spur
    through_spur : (v : List ℕ) (a : ℕ) (w : List ℕ) (t : ℤ) → LeadsOn (with_rows k rows) onward spur a v → GoesAlong (FilteredStep value led) a w t → is_goal k (end_of a w) ≡ true → HasNode nat_eq (a ∷ w) spur
    through_spur v a w t h g e =
        let on = goes_on (a ∷ v) banned (a ∷ w) (walk_back value led v w a t h g e) in
        subst (λ (r : List ℕ). HasNode nat_eq r spur) (sym on.1) (in_front (a ∷ v) on.0 spur (spur_of value led v a h))

    module _ (n m : ℕ) (s : spur < n) (numbers : List ℕ) (t : ℤ) (b : IsBestNumbered (FilteredStep value led) (is_goal k) (StandsForItself n spur) (StandsForItself m) numbers t) where
      from_spur : numbers ≡ spur ∷ b.nodes
      from_spur = let p = b.path in numbers_are m numbers (b.first ∷ b.nodes) p.numbered ∙ ap (λ (z : ℕ). z ∷ b.nodes) (sym b.is_start.0)

      goes_from : GoesAlong (FilteredStep value led) spur b.nodes t
      goes_from = let p = b.path in subst (λ (z : ℕ). GoesAlong (FilteredStep value led) z b.nodes t) (sym b.is_start.0) p.goes

      ends_well : is_goal k (end_of spur b.nodes) ≡ true
      ends_well = subst (λ (z : ℕ). is_goal k (end_of z b.nodes) ≡ true) (sym b.is_start.0) b.good

      distinct_from : NoRepeats nat_eq (spur ∷ b.nodes)
      distinct_from = let p = b.path in subst (λ (v : List ℕ). NoRepeats nat_eq v) from_spur p.distinct

      -- the walk does not come back to the prefix
      stays_off : (x : ℕ) → HasNode nat_eq b.nodes x → ¬ (HasNode nat_eq (0 ∷ q) x)
      stays_off x h j =
          let f = filtered_there in
          let v = leads_from (with_rows k rows) onward spur q 0 x f.leads j in
          let w = walk_behind (FilteredStep value led) b.nodes spur x t goes_from h in
          let d = distinct_from in
          d.0 (w.4 spur (through_spur v.0 x w.0 w.1 v.1 w.2 (subst (λ (z : ℕ). is_goal k z ≡ true) (sym w.3) ends_well)))

      member_behind : is_member [] banned b.nodes ≡ true
      member_behind =
          let f = pre.filtered in
          let waits = spur_waits k onward spur q 0 f.leads in
          and_right (nat_eq spur spur) (is_member [] banned b.nodes) (walk_back value led [] b.nodes spur t (refl, waits) goes_from ends_well)

      -- the prefix at the least cost, and a best walk from the spur at reduced costs, make a cheapest path
      pub best_along : (total x y : C) → spent ≡ Some x → slice_get costs spur ≡ Some (Some y) → value total ≡ (value x +ℤ value y) +ℤ t → IsCheapestAlong value k q banned ((0 ∷ q) ++ drop 1 numbers) total
      best_along total x y known at is =
          let c : IsSpent value k q (Some x) = subst (λ (o : Option C). IsSpent value k q o) known pre.costs in
          let w = walk_full b.nodes spur t inside (goes_listed value led b.nodes spur t goes_from) ends_well in
          let here : value w.0 ≡ value y = ap value (one_cost (slice_get costs spur) w.0 y w.2 at) in
          let cost : value x +ℤ w.1 ≡ value total = omega (arith, ints, is, here, w.4) in
          let end : is_goal k (end_of 0 (q ++ b.nodes)) ≡ true = subst (λ (z : ℕ). is_goal k z ≡ true) (sym (ends_behind q b.nodes 0)) (subst (λ (z : ℕ). is_goal k (end_of z b.nodes) ≡ true) (sym at_spur) ends_well) in
          let tail : drop 1 numbers ≡ b.nodes = ap (λ (v : List ℕ). drop 1 v) from_spur in
          let d = distinct_from in
          record {
            clean = record {
              rest = q ++ b.nodes;
              is = ap (λ (v : List ℕ). 0 ∷ (q ++ v)) tail;
              goes = subst (λ (z : ℤ). GoesAlong (AdjacencyStep value k) 0 (q ++ b.nodes) z) cost (goes_both (AdjacencyStep value k) q b.nodes 0 (value x) w.1 c.0 (subst (λ (z : ℕ). GoesAlong (AdjacencyStep value k) z b.nodes w.1) (sym at_spur) w.3));
              distinct = distinct_both (0 ∷ q) b.nodes pre.distinct d.1 stays_off;
              ends = end;
            };
            member = member_of (0 ∷ q) banned (drop 1 numbers) (subst (λ (v : List ℕ). is_member [] banned v ≡ true) (sym tail) member_behind);
            least = λ p u clean h.
                let i = behind p u clean h in
                let low = b.best spur (refl, s) i.rest i.more i.walk i.ends in
                let before = c.1 i.before i.goes in
                let same : value i.here ≡ value y = ap value (one_cost (slice_get costs spur) i.here y i.known at) in
                omega (arith, ints, is, low, before, same, i.sum);
          }

-- what was found, where this path is a cheapest one at what it costs
pub named_at : {C A : Type 0} (value : C → ℤ) (k : AdjacencyLists C) (q banned path : List ℕ) (total : Option C) (named : Named C A) → IsWayAt path total named → ((cost : C) → total ≡ Some cost → IsCheapestAlong value k q banned path cost) → IsNamed value k q banned named
named_at value k q banned path total (Way found at) h f = subst (λ (v : List ℕ). IsCheapestAlong value k q banned v at) (sym h.0) (f at h.1)
named_at value k q banned path total Nothing h f = absurd h
named_at value k q banned path total Unknown h f = tt
