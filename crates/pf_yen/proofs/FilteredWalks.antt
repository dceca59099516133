-- Walks of a narrowed graph: those of a class.
use Rattle.std.proofs.Common.{◌≡◌, ℕ, ◌<◌, ◌∙◌, refl, sym, ap, subst, inl, inr, Bool, true, false, true≢false, not, ◌&&◌, List, [], ◌∷◌, ◌++◌, ℤ, pos, nat_eq, eq-eqb, Option, Some, None}
use Rattle.std.specs.Prelude.{◌⊎◌, ◌≤ℤ◌, slice_get}
use Rattle.std.specs.List.{AllZip}
use borrow.Author.Tests.{eqb-true}
use Rattle.pf_base.specs.Walks.{HasNode, NoRepeats, end_of}
use Rattle.pf_core.specs.Steps.{GoesAlong, IsNonNegative, NoGoal, IsBestNumbered}
use Rattle.pf_base.proofs.ListLemmas.{bool_dec}
use Rattle.pf_yen.specs.Internal.Adjacency.{is_goal, row_of, AdjacencyStep}
use Rattle.pf_yen.specs.Internal.WholeGraphs.{IsWhole}
use Rattle.pf_yen.specs.Internal.Filtered.{FilteredLists, waits, allows, allows_by, FilteredStep, StandsForItself}
use Rattle.pf_yen.specs.Internal.Classes.{is_in, is_member, IsCleanNumbers}
use Rattle.pf_yen.specs.Internal.Splits.{LeadsOn, IsFilteredTo}
use Rattle.pf_yen.proofs.FilteredLemmas.{Contains-filter, filter-Contains}
use Rattle.pf_yen.proofs.ClassLemmas.{both_true, and_right, same_is_true, any_goes_on, goes_on}

pub HasNode-behind : (q r : List ℕ) (x : ℕ) → HasNode nat_eq r x → HasNode nat_eq (q ++ r) x
HasNode-behind [] r x h = h
HasNode-behind (y ∷ q) r x h = inr (HasNode-behind q r x h)

-- what stands behind a prefix is not in it
pub not_twice : (q r : List ℕ) (x : ℕ) → NoRepeats nat_eq (q ++ r) → HasNode nat_eq r x → ¬ (HasNode nat_eq q x)
not_twice [] r x n h k = k
not_twice (y ∷ q) r x n h (inl e) = n.0 (HasNode-behind q r y (subst (λ (z : ℕ). HasNode nat_eq r z) (sym (eqb-true y x e)) h))
not_twice (y ∷ q) r x n h (inr k) = not_twice q r x n.1 h k

pub numbers_are : (n : ℕ) (ks xs : List ℕ) → AllZip (StandsForItself n) ks xs → ks ≡ xs
numbers_are n [] [] h = refl
numbers_are n [] (x ∷ xs) h = absurd h
numbers_are n (k ∷ ks) [] h = absurd h
numbers_are n (k ∷ ks) (x ∷ xs) h = subst (λ (z : ℕ). k ∷ ks ≡ z ∷ xs) h.0.0 (ap (λ (v : List ℕ). k ∷ v) (numbers_are n ks xs h.1))

pub not_true : (b : Bool) → not b ≡ true → b ≡ false
not_true true h = absurd (true≢false (sym h))
not_true false h = refl

module _ {C : Type 0} (value : C → ℤ) (g : FilteredLists C) where
  abbrev Step : ℕ → ℤ → ℕ → Type 0
  Step = FilteredStep value g

  abbrev Adjacency : ℕ → ℤ → ℕ → Type 0
  Adjacency = AdjacencyStep value g.adjacency

  pub is_known : (a : ℕ) (z : ℤ) (b : ℕ) → FilteredStep value g a z b → AdjacencyStep value g.adjacency a z b
  is_known a z b s = (s.0, (Contains-filter (λ (e : ℕ × C). allows g a e.0) (row_of g.adjacency a) (b, s.0) s.1).0, s.2)

  pub is_allowed : (a : ℕ) (z : ℤ) (b : ℕ) → FilteredStep value g a z b → allows g a b ≡ true
  is_allowed a z b s = (Contains-filter (λ (e : ℕ × C). allows g a e.0) (row_of g.adjacency a) (b, s.0) s.1).1

  pub is_left : (a : ℕ) (z : ℤ) (b : ℕ) → AdjacencyStep value g.adjacency a z b → allows g a b ≡ true → FilteredStep value g a z b
  is_left a z b s h = (s.0, filter-Contains (λ (e : ℕ × C). allows g a e.0) (row_of g.adjacency a) (b, s.0) s.1 h, s.2)

  pub goes_listed : (w : List ℕ) (a : ℕ) (u : ℤ) → GoesAlong (FilteredStep value g) a w u → GoesAlong (AdjacencyStep value g.adjacency) a w u
  goes_listed [] a u h = h
  goes_listed (b ∷ w) a u h = (h.0, h.1, is_known a h.0 b h.2, goes_listed w b h.1 h.3, h.4)

  -- along the same numbers, by whichever parallel steps
  pub goes_again : (w : List ℕ) (a : ℕ) (t u : ℤ) → GoesAlong (FilteredStep value g) a w t → GoesAlong (AdjacencyStep value g.adjacency) a w u → GoesAlong (FilteredStep value g) a w u
  goes_again [] a t u h k = k
  goes_again (b ∷ w) a t u h k = (k.0, k.1, is_left a k.0 b k.2 (is_allowed a h.0 b h.2), goes_again w b h.1 k.1 h.3 k.3, k.4)

  -- where nothing is left out, all walks are left
  pub open_walk : (w : List ℕ) (b : ℕ) (u : ℤ) → ((x y : ℕ) → HasNode nat_eq (b ∷ w) x → HasNode nat_eq w y → allows g x y ≡ true) → GoesAlong (AdjacencyStep value g.adjacency) b w u → GoesAlong (FilteredStep value g) b w u
  open_walk [] b u h k = k
  open_walk (x ∷ w) b u h k = (k.0, k.1, is_left b k.0 x k.2 (h b x (inl (same_is_true b)) (inl (same_is_true x))), open_walk w x k.1 (λ y z m n. h y z (inr m) (inr n)) k.3, k.4)

  -- from a number that leads on freely
  free_step : (a b : ℕ) → ((y : ℕ) → ¬ (slice_get g.onward a ≡ Some (Some y))) → waits (slice_get g.onward b) ≡ true → nat_eq a g.spur && is_in g.banned b ≡ false → allows g a b ≡ true
  free_step a b none new h = at (slice_get g.onward a) none
    where
      may : waits (slice_get g.onward b) && not (nat_eq a g.spur && is_in g.banned b) ≡ true
      may = both_true (waits (slice_get g.onward b)) (not (nat_eq a g.spur && is_in g.banned b)) new (ap not h)

      at : (o : Option (Option ℕ)) → ((y : ℕ) → ¬ (o ≡ Some (Some y))) → allows_by o (waits (slice_get g.onward b) && not (nat_eq a g.spur && is_in g.banned b)) b ≡ true
      at None n = may
      at (Some None) n = may
      at (Some (Some y)) n = absurd (n y refl)

  pub spur_of : (q : List ℕ) (a : ℕ) → LeadsOn g.adjacency g.onward g.spur a q → HasNode nat_eq (a ∷ q) g.spur
  spur_of [] a l = inl (eq-eqb a g.spur l.0)
  spur_of (b ∷ q) a l = inr (spur_of q b l.2)

  pub and_false : (a b : Bool) → a ≡ false → a && b ≡ false
  and_false true b h = absurd (true≢false h)
  and_false false b h = refl

  pub and_false_right : (a b : Bool) → b ≡ false → a && b ≡ false
  and_false_right true b h = h
  and_false_right false b h = refl

  -- a walk that begins with the prefix is left
  walk_on : (q r : List ℕ) (a : ℕ) (u : ℤ) → LeadsOn g.adjacency g.onward g.spur a q → is_member [] g.banned r ≡ true → ((y : ℕ) → HasNode nat_eq r y → waits (slice_get g.onward y) ≡ true) → ((x y : ℕ) → HasNode nat_eq r x → HasNode nat_eq r y → allows g x y ≡ true) → GoesAlong (AdjacencyStep value g.adjacency) a (q ++ r) u → GoesAlong (FilteredStep value g) a (q ++ r) u
  walk_on [] [] a u l m new left k = k
  walk_on [] (b ∷ r) a u l m new left k =
      let none : (y : ℕ) → ¬ (slice_get g.onward a ≡ Some (Some y)) = λ y e. some_differs y (sym l.1 ∙ e) in
      (k.0, k.1, is_left a k.0 b k.2 (free_step a b none (new b (inl (same_is_true b))) (and_false_right (nat_eq a g.spur) (is_in g.banned b) (not_true (is_in g.banned b) m))), open_walk r b k.1 (λ x y i j. left x y i (inr j)) k.3, k.4)
    where
      some_differs : (y : ℕ) → ¬ (Some None ≡ Some (Some y))
      some_differs y e = cc
  walk_on (b ∷ q) r a u l m new left k = (k.0, k.1, is_left a k.0 b k.2 (rw l.0 (same_is_true b)), walk_on q r b k.1 l.2 m new left k.3, k.4)

  -- a walk that is left and ends at a goal begins with the prefix
  pub walk_back : (q w : List ℕ) (a : ℕ) (u : ℤ) → LeadsOn g.adjacency g.onward g.spur a q → GoesAlong (FilteredStep value g) a w u → is_goal g.adjacency (end_of a w) ≡ true → is_member (a ∷ q) g.banned (a ∷ w) ≡ true
  walk_back [] [] a u l k e = subst (λ (b : Bool). b && true ≡ true) (sym (same_is_true a)) refl
  walk_back [] (b ∷ w) a u l k e =
      let h = is_allowed a k.0 b k.2 in
      let f : not (nat_eq a g.spur && is_in g.banned b) ≡ true = and_right (waits (slice_get g.onward b)) (not (nat_eq a g.spur && is_in g.banned b)) (rw l.1 at h) in
      let i : not (is_in g.banned b) ≡ true = subst (λ (c : Bool). not (c && is_in g.banned b) ≡ true) (eq-eqb a g.spur l.0) f in
      subst (λ (c : Bool). c && not (is_in g.banned b) ≡ true) (sym (same_is_true a)) i
  walk_back (b' ∷ q) [] a u l k e = absurd (true≢false (sym e ∙ l.1))
  walk_back (b' ∷ q) (b ∷ w) a u l k e =
      let h = is_allowed a k.0 b k.2 in
      let f : nat_eq b b' ≡ true = rw l.0 at h in
      let same = eqb-true b b' f in
      let i = walk_back q w b' k.1 l.2 (subst (λ (z : ℕ). GoesAlong (FilteredStep value g) z w k.1) same k.3) (subst (λ (z : ℕ). is_goal g.adjacency (end_of z w) ≡ true) same e) in
      subst (λ (c : Bool). c && is_member (b' ∷ q) g.banned (b ∷ w) ≡ true) (sym (same_is_true a)) (subst (λ (z : ℕ). is_member (b' ∷ q) g.banned (z ∷ w) ≡ true) (sym same) i)

  -- a step from the spur leads to no banned number
  not_banned : (a : ℕ) (z : ℤ) (n : ℕ) → LeadsOn g.adjacency g.onward g.spur a [] → FilteredStep value g a z n → not (is_in g.banned n) ≡ true
  not_banned a z n l s =
      let h = is_allowed a z n s in
      let f : not (nat_eq a g.spur && is_in g.banned n) ≡ true = and_right (waits (slice_get g.onward n)) (not (nat_eq a g.spur && is_in g.banned n)) (rw l.1 at h) in
      subst (λ (c : Bool). not (c && is_in g.banned n) ≡ true) (eq-eqb a g.spur l.0) f

  -- a walk that is left, and one step more, go on from the prefix to a number that is not banned, or stay within it
  pub on_or_within : (q w : List ℕ) (a : ℕ) (t z : ℤ) (n : ℕ) → LeadsOn g.adjacency g.onward g.spur a q → GoesAlong (FilteredStep value g) a w t → FilteredStep value g (end_of a w) z n
      → ((is_member (a ∷ q) [] (a ∷ w) ≡ true) × (is_member (a ∷ q) g.banned ((a ∷ w) ++ n ∷ []) ≡ true)) ⊎ (is_member ((a ∷ w) ++ n ∷ []) [] (a ∷ q) ≡ true)
  on_or_within [] [] a t z n l k s = inl (both_true (nat_eq a a) true (same_is_true a) refl, both_true (nat_eq a a) (not (is_in g.banned n)) (same_is_true a) (not_banned a z n l s))
  on_or_within [] (b ∷ w) a t z n l k s = inl (both_true (nat_eq a a) true (same_is_true a) refl, both_true (nat_eq a a) (not (is_in g.banned b)) (same_is_true a) (not_banned a k.0 b l k.2))
  on_or_within (b' ∷ q) [] a t z n l k s =
      let h = is_allowed a z n s in
      let f : nat_eq n b' ≡ true = rw l.0 at h in
      inr (both_true (nat_eq a a) (nat_eq n b' && is_member [] [] q) (same_is_true a) (both_true (nat_eq n b') (is_member [] [] q) f (any_goes_on q)))
  on_or_within (b' ∷ q) (b ∷ w) a t z n l k s =
      let h = is_allowed a k.0 b k.2 in
      let f : nat_eq b b' ≡ true = rw l.0 at h in
      let same = eqb-true b b' f in
      let i = on_or_within q w b' k.1 z n l.2 (subst (λ (x : ℕ). GoesAlong (FilteredStep value g) x w k.1) same k.3) (subst (λ (x : ℕ). FilteredStep value g (end_of x w) z n) same s) in
      subst (λ (x : ℕ). ((is_member (a ∷ b' ∷ q) [] (a ∷ x ∷ w) ≡ true) × (is_member (a ∷ b' ∷ q) g.banned ((a ∷ x ∷ w) ++ n ∷ []) ≡ true)) ⊎ (is_member ((a ∷ x ∷ w) ++ n ∷ []) [] (a ∷ b' ∷ q) ≡ true)) (sym same)
      (elim i as (λ _. ((is_member (a ∷ b' ∷ q) [] (a ∷ b' ∷ w) ≡ true) × (is_member (a ∷ b' ∷ q) g.banned ((a ∷ b' ∷ w) ++ n ∷ []) ≡ true)) ⊎ (is_member ((a ∷ b' ∷ w) ++ n ∷ []) [] (a ∷ b' ∷ q) ≡ true)) [
        | inl r ↦ inl (both_true (nat_eq a a) (is_member (b' ∷ q) [] (b' ∷ w)) (same_is_true a) r.0, both_true (nat_eq a a) (is_member (b' ∷ q) g.banned ((b' ∷ w) ++ n ∷ [])) (same_is_true a) r.1)
        | inr r ↦ inr (both_true (nat_eq a a) (is_member ((b' ∷ w) ++ n ∷ []) [] (b' ∷ q)) (same_is_true a) r)
      ])

  module _ (q : List ℕ) (filtered_lists : IsFilteredTo g.adjacency g.onward g.spur q) where
    -- what does not stand in the prefix is not the spur
    off_spur : (x : ℕ) → ¬ (HasNode nat_eq (0 ∷ q) x) → nat_eq x g.spur ≡ false
    off_spur x out = elim (bool_dec (nat_eq x g.spur)) as (λ _. nat_eq x g.spur ≡ false) [
      | inl t ↦ absurd (out (subst (λ (z : ℕ). HasNode nat_eq (0 ∷ q) z) (sym (eqb-true x g.spur t)) (spur_of q 0 filtered_lists.leads)))
      | inr f ↦ f
    ]

    -- and no number has to follow it
    waits_off : (x : ℕ) → ¬ (HasNode nat_eq (0 ∷ q) x) → waits (slice_get g.onward x) ≡ true
    waits_off x out = at (slice_get g.onward x) (λ y. filtered_lists.free x y out)
      where
        at : (o : Option (Option ℕ)) → ((y : ℕ) → ¬ (o ≡ Some (Some y))) → waits o ≡ true
        at None n = refl
        at (Some None) n = refl
        at (Some (Some y)) n = absurd (n y refl)

    free_behind : (r : List ℕ) → NoRepeats nat_eq ((0 ∷ q) ++ r) → (x y : ℕ) → HasNode nat_eq r x → HasNode nat_eq r y → allows g x y ≡ true
    free_behind r n x y h k =
        let out = not_twice (0 ∷ q) r x n h in
        free_step x y (λ z. filtered_lists.free x z out) (waits_off y (not_twice (0 ∷ q) r y n k)) (and_false (nat_eq x g.spur) (is_in g.banned y) (off_spur x out))

    -- a clean path of the class is a walk of the narrowed graph
    pub class_walk : (p : List ℕ) (u : ℤ) (c : IsCleanNumbers value g.adjacency p u) → is_member (0 ∷ q) g.banned p ≡ true → GoesAlong (FilteredStep value g) 0 c.rest u
    class_walk p u c m =
        let k = goes_on (0 ∷ q) g.banned p m in
        let e : 0 ∷ c.rest ≡ 0 ∷ (q ++ k.0) = sym c.is ∙ k.1 in
        let f : c.rest ≡ q ++ k.0 = cc in
        let n = subst (λ (v : List ℕ). NoRepeats nat_eq (0 ∷ v)) f c.distinct in
        subst (λ (v : List ℕ). GoesAlong (FilteredStep value g) 0 v u) (sym f)
        (walk_on q k.0 0 u filtered_lists.leads k.2 (λ y h. waits_off y (not_twice (0 ∷ q) k.0 y n h)) (free_behind k.0 n) (subst (λ (v : List ℕ). GoesAlong (AdjacencyStep value g.adjacency) 0 v u) f c.goes))

    -- where no walk is left, no clean path is in the class
    pub none_left : (n : ℕ) → 0 < n → NoGoal (FilteredStep value g) (is_goal g.adjacency) (StandsForItself n 0) → (p : List ℕ) (u : ℤ) → IsCleanNumbers value g.adjacency p u → is_member (0 ∷ q) g.banned p ≡ false
    none_left n some none p u c = elim (bool_dec (is_member (0 ∷ q) g.banned p)) as (λ _. is_member (0 ∷ q) g.banned p ≡ false) [
      | inl t ↦ absurd (none 0 (refl, some) c.rest u (class_walk p u c t) c.ends)
      | inr f ↦ f
    ]

    module _ (n m : ℕ) (some : 0 < n) (numbers : List ℕ) (t : ℤ) (b : IsBestNumbered (FilteredStep value g) (is_goal g.adjacency) (StandsForItself n 0) (StandsForItself m) numbers t) where
      from_start : numbers ≡ 0 ∷ b.nodes
      from_start = let p = b.path in numbers_are m numbers (b.first ∷ b.nodes) p.numbered ∙ ap (λ (z : ℕ). z ∷ b.nodes) (sym b.is_start.0)

      goes_from : GoesAlong (FilteredStep value g) 0 b.nodes t
      goes_from = let p = b.path in subst (λ (z : ℕ). GoesAlong (FilteredStep value g) z b.nodes t) (sym b.is_start.0) p.goes

      ends_well : is_goal g.adjacency (end_of 0 b.nodes) ≡ true
      ends_well = subst (λ (z : ℕ). is_goal g.adjacency (end_of z b.nodes) ≡ true) (sym b.is_start.0) b.good

      pub best_clean : IsCleanNumbers value g.adjacency numbers t
      best_clean = let p = b.path in record {
        rest = b.nodes;
        is = from_start;
        goes = goes_listed b.nodes 0 t goes_from;
        distinct = subst (λ (v : List ℕ). NoRepeats nat_eq v) from_start p.distinct;
        ends = ends_well;
      }

      pub best_member : is_member (0 ∷ q) g.banned numbers ≡ true
      best_member = subst (λ (v : List ℕ). is_member (0 ∷ q) g.banned v ≡ true) (sym from_start) (walk_back q b.nodes 0 t filtered_lists.leads goes_from ends_well)

      pub best_least : (p : List ℕ) (u : ℤ) → IsCleanNumbers value g.adjacency p u → is_member (0 ∷ q) g.banned p ≡ true → t ≤ℤ u
      best_least p u c m = b.best 0 (refl, some) c.rest u (class_walk p u c m) c.ends

-- no step that is left costs less than 0
pub filtered_from_zero : {C : Type 0} (value : C → ℤ) (g : FilteredLists C) → IsWhole value g.adjacency → IsNonNegative (FilteredStep value g)
filtered_from_zero value g whole = record { non_negative = λ a z b s. let k = is_known value g a z b s in subst (λ (y : ℤ). pos 0 ≤ℤ y) k.2 (whole.from_zero a b k.0 k.1) }
