-- The way behind a prefix that remaining costs name is a cheapest path of its class.
use Rattle.std.proofs.Common.{◌≡◌, ℕ, ◌<◌, ◌+◌, ◌∙◌, refl, sym, ap, subst, arith, inl, inr, Bool, true, false, true≢false, not, ◌&&◌, List, [], ◌∷◌, ◌++◌, length, take, get_or, ℤ, pos, nat_eq, eq-eqb, Option, Some, None}
use Rattle.std.specs.Prelude.{◌⊎◌, ◌≤ℤ◌, ◌<ℤ◌, ◌+ℤ◌, Contains, slice_get, IfSome, MatchBool}
use borrow.Author.Tests.{eqb-true}
use Rattle.std.specs.Option.{is_some}
use Rattle.std.proofs.lemmas.Int.{ints}
use Rattle.std.proofs.lemmas.Option.{slice_get_read}
use Rattle.pf_base.specs.Walks.{HasNode, NoRepeats, end_of}
use Rattle.pf_core.specs.Steps.{GoesAlong}
use Rattle.pf_base.proofs.ListLemmas.{bool_dec, int_dec, get_within, Contains-here, Contains-take, Contains-take_more, Contains-take_here}
use Rattle.pf_yen.specs.Internal.Adjacency.{AdjacencyLists, is_goal, row_of, AdjacencyStep}
use Rattle.pf_yen.specs.Internal.WholeGraphs.{IsWhole}
use Rattle.pf_yen.specs.Internal.Classes.{is_in, is_member, IsCleanNumbers}
use Rattle.pf_yen.specs.Internal.Splits.{LeadsOn, IsFilteredTo, IsCheapestAlong, HasNoneAlong}
use Rattle.pf_yen.specs.Internal.Remaining.{AreRemaining}
use Rattle.pf_yen.specs.Internal.Filtered.{waits, is_new}
use Rattle.pf_yen.specs.Internal.NamedWays.{is_first, IsSpent, IsFirstStep, HasNoFirst, IsBestFirst, IsNextStep, IsPrefix, IsWaySoFar}
use Rattle.pf_yen.proofs.FilteredWalks.{not_twice, not_true}
use Rattle.pf_yen.proofs.ClassLemmas.{both_true, and_left, and_right, same_is_true, goes_on, member_of}
use Rattle.pf_yen.proofs.SplitLemmas.{ends_at_spur, spur_in, free_waits, cut_goes}
use Rattle.pf_yen.proofs.RemainingLemmas.{one_cost, remains}

pub none_some : {X : Type 0} (x : X) → ¬ (None ≡ Some x)
none_some x e = cc

pub some_same : {X : Type 0} (x y : X) → Some x ≡ Some y → x ≡ y
some_same x y e = cc

false_right : (a b : Bool) → b ≡ false → a && b ≡ false
false_right true b h = h
false_right false b h = refl

pub not_less : (b : Bool) (x y : ℤ) → MatchBool b (x <ℤ y) (y ≤ℤ x) → not b ≡ true → y ≤ℤ x
not_less true x y m h = absurd (true≢false (sym h))
not_less false x y m h = m

pub better_by : {C : Type 0} (value : C → ℤ) (best : Option (ℕ × C)) (r : ℕ × C) (sum : C) (b : Bool) → best ≡ Some r → MatchBool b (value sum <ℤ value r.1) (value r.1 ≤ℤ value sum)
    → MatchBool b (IfSome best (λ x. value sum ≤ℤ value x.1)) ((x : ℕ × C) × (best ≡ Some x) × (value x.1 ≤ℤ value sum))
better_by value best r sum true is m = subst (λ (o : Option (ℕ × _)). IfSome o (λ x. value sum ≤ℤ value x.1)) (sym is) (omega (arith, ints, m))
better_by value best r sum false is m = (r, is, m)

pub not_above : (x y : ℤ) (b : Bool) → b ≡ true → MatchBool b (x <ℤ y) (y ≤ℤ x) → ¬ (y ≤ℤ x)
not_above x y true t m = λ h. absurd (omega (arith, ints, m, h))
not_above x y false t m = absurd (true≢false (sym t))

pub nothing_spent : (x : ℤ) → x ≡ pos 0 → (u : ℤ) → u ≡ pos 0 → x ≤ℤ u
nothing_spent x z u e = omega (arith, ints, z, e)

-- the sum of two costs, where it is known
pub summed : {C : Type 0} (value : C → ℤ) (fits : ℤ → Type 0) (spent : Option C) (s sum : C) (r : Option C) → spent ≡ Some s → (elim r as (λ _. Type 0) [ None ↦ ¬ (fits (value s +ℤ value sum)) | Some t ↦ fits (value s +ℤ value sum) × (value t ≡ value s +ℤ value sum) ]) → IfSome r (λ t. (x : C) × (spent ≡ Some x) × (value t ≡ value x +ℤ value sum))
summed value fits spent s sum None is m = tt
summed value fits spent s sum (Some t) is m = (s, is, m.1)

-- whether a number is new, by its onward number as it is read
module _ (onward : List (Option ℕ)) (spur number : ℕ) (o : Option ℕ) (inside : number < length onward) (at : o ≡ get_or onward number o) where
  pub new_by_spur : (b : Bool) → is_some o ≡ not b → b ≡ true → not (nat_eq number spur) ≡ is_new onward spur number
  new_by_spur b is t = by o (is ∙ ap not t) (slice_get_read onward (length onward) number o refl inside at)
    where
      by : (p : Option ℕ) → is_some p ≡ false → slice_get onward number ≡ Some p → not (nat_eq number spur) ≡ is_new onward spur number
      by None f e = rw e refl
      by (Some x) f e = absurd (true≢false f)

  pub not_new_by : (b : Bool) → is_some o ≡ not b → b ≡ false → b ≡ is_new onward spur number
  not_new_by b is f = f ∙ by o (is ∙ ap not f) (slice_get_read onward (length onward) number o refl inside at)
    where
      by : (p : Option ℕ) → is_some p ≡ true → slice_get onward number ≡ Some p → false ≡ is_new onward spur number
      by None t e = absurd (true≢false (sym t))
      by (Some x) t e = rw e refl

-- one step more, where the best first step is looked for
module _ {C : Type 0} (value : C → ℤ) (first : ℕ → Bool) (costs : List (Option C)) (steps more : List (ℕ × C)) (next : ℕ) (price : C) (keeps : (e : ℕ × C) → Contains steps e → Contains more e) (there : Contains more (next, price)) (from : (e : ℕ × C) → Contains more e → ((next, price) ≡ e) ⊎ Contains steps e) where
  -- it changes nothing where it may not come first, or another one costs no more
  pub best_kept : (best : Option (ℕ × C)) → ((y : C) → slice_get costs next ≡ Some (Some y) → first next ≡ true → (r : ℕ × C) × (best ≡ Some r) × (value r.1 ≤ℤ (value price +ℤ value y))) → IsBestFirst value first costs steps best → IsBestFirst value first costs more best
  best_kept None d h = λ x c y i f k. elim (from (x, c) i) as (λ _. ⊥) [
    | inl e ↦ let p = d y (subst (λ (s : ℕ × C). slice_get costs s.0 ≡ Some (Some y)) (sym e) k) (subst (λ (s : ℕ × C). first s.0 ≡ true) (sym e) f) in none_some p.0 p.1
    | inr s ↦ h x c y s f k
  ]
  best_kept (Some r) d h = record {
    may = h.may;
    price = h.price;
    rest = h.rest;
    edge = keeps (r.0, h.price) h.edge;
    known = h.known;
    is = h.is;
    least = λ x c y i f k. elim (from (x, c) i) as (λ _. value r.1 ≤ℤ (value c +ℤ value y)) [
      | inl e ↦
          let p = d y (subst (λ (s : ℕ × C). slice_get costs s.0 ≡ Some (Some y)) (sym e) k) (subst (λ (s : ℕ × C). first s.0 ≡ true) (sym e) f) in
          let same : p.0 ≡ r = some_same p.0 r (sym p.1) in
          subst (λ (s : ℕ × C). value r.1 ≤ℤ (value s.1 +ℤ value y)) e (subst (λ (s : ℕ × C). value s.1 ≤ℤ (value price +ℤ value y)) same p.2)
      | inr s ↦ h.least x c y s f k
    ];
  }

  -- it is the best one where it may come first, and no other one costs less
  pub best_taken : (best : Option (ℕ × C)) (rest sum : C) → first next ≡ true → slice_get costs next ≡ Some (Some rest) → value sum ≡ value price +ℤ value rest → IfSome best (λ r. value sum ≤ℤ value r.1) → IsBestFirst value first costs steps best → IsBestFirst value first costs more (Some (next, sum))
  best_taken best rest sum may known is low h = record {
    may = may;
    price = price;
    rest = rest;
    edge = there;
    known = known;
    is = is;
    least = λ x c y i f k. elim (from (x, c) i) as (λ _. value sum ≤ℤ (value c +ℤ value y)) [
      | inl e ↦
          let same : rest ≡ y = one_cost (slice_get costs next) rest y known (subst (λ (s : ℕ × C). slice_get costs s.0 ≡ Some (Some y)) (sym e) k) in
          subst (λ (s : ℕ × C). value sum ≤ℤ (value s.1 +ℤ value y)) e (subst (λ (z : C). value sum ≤ℤ (value price +ℤ value z)) same (omega (arith, ints, is)))
      | inr s ↦ others best low h x c y s f k
    ];
  }
    where
      others : (o : Option (ℕ × C)) → IfSome o (λ r. value sum ≤ℤ value r.1) → IsBestFirst value first costs steps o → (x : ℕ) (c y : C) → Contains steps (x, c) → first x ≡ true → slice_get costs x ≡ Some (Some y) → value sum ≤ℤ (value c +ℤ value y)
      others None l b x c y i f k = absurd (b x c y i f k)
      others (Some r) l b x c y i f k = let m = b.least x c y i f k in omega (arith, ints, l, m)

-- a step of a row that is read
pub row_step : {C : Type 0} (k : AdjacencyLists C) (a : ℕ) (row : List (ℕ × C)) (i : ℕ) (item : ℕ × C) → row ≡ row_of k a → i < length row → item ≡ get_or row i item → Contains (row_of k a) item
row_step k a row i item is inside at = subst (λ (v : List (ℕ × _)). Contains v item) is (Contains-here row i item inside at)

-- what stands at the end of a list
goes_more : {X : Type 0} (step : X → ℤ → X → Type 0) (w : List X) (a b : X) (t z : ℤ) → GoesAlong step a w t → step (end_of a w) z b → GoesAlong step a (w ++ b ∷ []) (t +ℤ z)
goes_more step [] a b t z h s = (z, pos 0, s, refl, omega (arith, ints, h))
goes_more step (x ∷ w) a b t z h s = (h.0, h.1 +ℤ z, h.2, goes_more step w x b h.1 z h.3 s, omega (arith, ints, h.4))

ends_more : (w : List ℕ) (a b : ℕ) → end_of a (w ++ b ∷ []) ≡ b
ends_more [] a b = refl
ends_more (x ∷ w) a b = ends_more w x b

has_more : (w : List ℕ) (b x : ℕ) → HasNode nat_eq (w ++ b ∷ []) x → HasNode nat_eq w x ⊎ (b ≡ x)
has_more [] b x (inl e) = inr (eqb-true b x e)
has_more [] b x (inr h) = absurd h
has_more (y ∷ w) b x (inl e) = inl (inl e)
has_more (y ∷ w) b x (inr h) = elim (has_more w b x h) as (λ _. HasNode nat_eq (y ∷ w) x ⊎ (b ≡ x)) [ inl k ↦ inl (inr k) | inr e ↦ inr e ]

distinct_more : (w : List ℕ) (b : ℕ) → NoRepeats nat_eq w → ¬ (HasNode nat_eq w b) → NoRepeats nat_eq (w ++ b ∷ [])
distinct_more [] b n h = ((λ k. k), tt)
distinct_more (y ∷ w) b n h = (
  (λ k. elim (has_more w b y k) as (λ _. ⊥) [ inl i ↦ n.0 i | inr e ↦ h (inl (eq-eqb y b (sym e))) ]),
  distinct_more w b n.1 (λ k. h (inr k)),
)

assoc : (q : List ℕ) (b : ℕ) (w : List ℕ) (x : ℕ) → (q ++ b ∷ w) ++ x ∷ [] ≡ q ++ b ∷ (w ++ x ∷ [])
assoc [] b w x = refl
assoc (y ∷ q) b w x = ap (λ (v : List ℕ). y ∷ v) (assoc q b w x)

-- the numbers of the prefix are not new
pub in_prefix : {C : Type 0} (k : AdjacencyLists C) (onward : List (Option ℕ)) (spur : ℕ) (p : List ℕ) (a x : ℕ) → LeadsOn k onward spur a p → HasNode nat_eq (a ∷ p) x → is_new onward spur x ≡ false
in_prefix k onward spur [] a x l (inl e) = false_right (waits (slice_get onward x)) (not (nat_eq x spur)) (ap not (eq-eqb x spur (sym (eqb-true a x e) ∙ l.0)))
in_prefix k onward spur [] a x l (inr h) = absurd h
in_prefix k onward spur (b ∷ p) a x l (inl e) = subst (λ (n : ℕ). is_new onward spur n ≡ false) (eqb-true a x e) (subst (λ (o : Option (Option ℕ)). waits o && not (nat_eq a spur) ≡ false) (sym l.0) refl)
in_prefix k onward spur (b ∷ p) a x l (inr h) = in_prefix k onward spur p b x l.2 h

module _ {C : Type 0} (value : C → ℤ) (k : AdjacencyLists C) (whole : IsWhole value k) (costs : List (Option C)) (onward : List (Option ℕ)) (spur : ℕ) (q banned : List ℕ) where
  -- one step more of the way
  pub way_on : (total : ℤ) (path : List ℕ) (number next : ℕ) (here rest : C) → IsNextStep value onward spur costs (row_of k number) here next rest → IsWaySoFar value k onward spur q banned costs total path number here → IsWaySoFar value k onward spur q banned costs total (path ++ next ∷ []) next rest
  way_on total path number next here rest s w =
      let e : (q ++ w.first ∷ w.more) ++ next ∷ [] ≡ q ++ w.first ∷ (w.more ++ next ∷ []) = assoc q w.first w.more next in
      let new : ¬ (HasNode nat_eq (0 ∷ (q ++ w.first ∷ w.more)) next) = (λ h. elim (w.above next h) as (λ _. ⊥) [
        | inl f ↦ true≢false (sym s.new ∙ f)
        | inr z ↦ let same : z.0 ≡ rest = one_cost (slice_get costs next) z.0 rest z.1 s.known in s.less (subst (λ (y : C). value here ≤ℤ value y) same z.2)
      ]) in
      record {
        first = w.first;
        free = w.free;
        more = w.more ++ next ∷ [];
        is = subst (λ (v : List ℕ). path ++ next ∷ [] ≡ 0 ∷ v) e (ap (λ (v : List ℕ). v ++ next ∷ []) w.is);
        cost = w.cost +ℤ value s.price;
        goes = subst (λ (v : List ℕ). GoesAlong (AdjacencyStep value k) 0 v (w.cost +ℤ value s.price)) e
            (goes_more (AdjacencyStep value k) (q ++ w.first ∷ w.more) 0 next w.cost (value s.price) w.goes (subst (λ (a : ℕ). AdjacencyStep value k a (value s.price) next) (sym w.ends) (s.price, s.edge, refl)));
        distinct = subst (λ (v : List ℕ). NoRepeats nat_eq (0 ∷ v)) e (distinct_more (0 ∷ (q ++ w.first ∷ w.more)) next w.distinct new);
        ends = subst (λ (v : List ℕ). end_of 0 v ≡ next) e (ends_more (q ++ w.first ∷ w.more) 0 next);
        inside = whole.inside number next s.price s.edge;
        known = s.known;
        sum = omega (arith, ints, w.sum, s.is);
        above = subst (λ (v : List ℕ). (x : ℕ) → HasNode nat_eq (0 ∷ v) x → (is_new onward spur x ≡ false) ⊎ ((z : C) × (slice_get costs x ≡ Some (Some z)) × (value rest ≤ℤ value z))) e
            (λ x h. elim (has_more (0 ∷ (q ++ w.first ∷ w.more)) next x h) as (λ _. (is_new onward spur x ≡ false) ⊎ ((z : C) × (slice_get costs x ≡ Some (Some z)) × (value rest ≤ℤ value z))) [
              | inl i ↦ elim (w.above x i) as (λ _. (is_new onward spur x ≡ false) ⊎ ((z : C) × (slice_get costs x ≡ Some (Some z)) × (value rest ≤ℤ value z))) [
                | inl f ↦ inl f
                | inr z ↦ inr (z.0, z.1, less_still (value rest) (value here) (value z.0) s.less z.2)
              ]
              | inr j ↦ inr (rest, subst (λ (n : ℕ). slice_get costs n ≡ Some (Some rest)) j s.known, omega (arith, ints))
            ]);
      }
    where
      less_still : (x y z : ℤ) → ¬ (y ≤ℤ x) → y ≤ℤ z → x ≤ℤ z
      less_still x y z n h = elim (int_order x z) as (λ _. x ≤ℤ z) [ inl l ↦ l | inr g ↦ absurd (n (omega (arith, ints, h, g))) ]
        where
          int_order : (x z : ℤ) → (x ≤ℤ z) ⊎ (z <ℤ x)
          int_order x z = int_dec x z

module _ {C : Type 0} (value : C → ℤ) (fits : ℤ → Type 0) (k : AdjacencyLists C) (whole : IsWhole value k) (costs : List (Option C)) (r : AreRemaining value fits k costs) where
  -- a step and what remains behind it fit together
  pub fits_behind : (a b : ℕ) (c y : C) → a < length k.rows → is_goal k a ≡ false → Contains (row_of k a) (b, c) → slice_get costs b ≡ Some (Some y) → fits (value c +ℤ value y)
  fits_behind a b c y inside live edge known =
      let m = get_within costs a (omega (arith, inside, r.wide)) in
      let l = r.least a m.0 m.1 in
      (l.onward live b c y edge known).3

  module _ (onward : List (Option ℕ)) (spur : ℕ) (q banned : List ℕ) where
    module _ (wide : length onward ≡ length k.rows) (spent : Option C) (pre : IsPrefix value k onward spur q spent) where
      abbrev narrowed : IsFilteredTo k onward spur q
      narrowed = pre.filtered

      at_spur : end_of 0 q ≡ spur
      at_spur = let f = narrowed in ends_at_spur k onward spur q 0 f.leads

      -- what does not stand in the prefix is new
      is_new_behind : (x : ℕ) → x < length k.rows → ¬ (HasNode nat_eq (0 ∷ q) x) → is_new onward spur x ≡ true
      is_new_behind x inside out =
          let f = narrowed in
          let w = free_waits k onward x (omega (arith, inside, wide)) (λ y. f.free x y out) in
          both_true (waits (slice_get onward x)) (not (nat_eq x spur)) (subst (λ (o : Option (Option ℕ)). waits o ≡ true) (sym w) refl)
          (elim (bool_dec (nat_eq x spur)) as (λ _. not (nat_eq x spur) ≡ true) [
            | inl t ↦ absurd (out (subst (λ (n : ℕ). HasNode nat_eq (0 ∷ q) n) (sym (eqb-true x spur t)) (spur_in k onward spur q 0 f.leads)))
            | inr t ↦ ap not t
          ])

      -- a path of the class: a first step, and what remains behind it, at most
      pub record IsInClass (u : ℤ) : Type 0 where
        pub first : ℕ
        pub price : C
        pub rest : C
        pub edge : Contains (row_of k spur) (first, price)
        pub may : is_first onward spur banned first ≡ true
        pub known : slice_get costs first ≡ Some (Some rest)
        pub before : ℤ
        pub goes : GoesAlong (AdjacencyStep value k) 0 q before
        pub low : (before +ℤ (value price +ℤ value rest)) ≤ℤ u

      in_class : (path : List ℕ) (u : ℤ) → IsCleanNumbers value k path u → is_member (0 ∷ q) banned path ≡ true → IsInClass u
      in_class path u c m = let g = goes_on (0 ∷ q) banned path m in at g.0 (tails (sym c.is ∙ g.1)) g.2
        where
          tails : {v w : List ℕ} → 0 ∷ v ≡ 0 ∷ w → v ≡ w
          tails e = cc

          nil : (v : List ℕ) → v ++ [] ≡ v
          nil [] = refl
          nil (x ∷ v) = ap (λ (w : List ℕ). x ∷ w) (nil v)

          at : (w : List ℕ) → c.rest ≡ q ++ w → is_member [] banned w ≡ true → IsInClass u
          at [] e h = absurd (true≢false (sym (subst (λ (n : ℕ). is_goal k n ≡ true) at_spur (subst (λ (v : List ℕ). is_goal k (end_of 0 v) ≡ true) (e ∙ nil q) c.ends)) ∙ pre.live))
          at (b ∷ w) e h =
              let g = cut_goes (AdjacencyStep value k) q (b ∷ w) 0 u (subst (λ (v : List ℕ). GoesAlong (AdjacencyStep value k) 0 v u) e c.goes) in
              let s = g.3 in
              let edge = s.2 in
              let here = whole.inside (end_of 0 q) b edge.0 edge.1 in
              let y = remains value fits k whole costs r w b s.1 here s.3 (subst (λ (n : ℕ). is_goal k n ≡ true) (ends_on q b w 0) (subst (λ (v : List ℕ). is_goal k (end_of 0 v) ≡ true) e c.ends)) in
              let out = not_twice (0 ∷ q) (b ∷ w) b (subst (λ (v : List ℕ). NoRepeats nat_eq (0 ∷ v)) e c.distinct) (inl (same_is_true b)) in
              record {
                first = b;
                price = edge.0;
                rest = y.0;
                edge = subst (λ (n : ℕ). Contains (row_of k n) (b, edge.0)) at_spur edge.1;
                may = both_true (is_new onward spur b) (not (is_in banned b)) (is_new_behind b here out) h;
                known = y.1;
                before = g.0;
                goes = g.2;
                low = omega (arith, ints, g.4, s.4, edge.2, y.2);
              }
            where
              ends_on : (v : List ℕ) (b : ℕ) (w : List ℕ) (a : ℕ) → end_of a (v ++ b ∷ w) ≡ end_of b w
              ends_on [] b w a = refl
              ends_on (x ∷ v) b w a = ends_on v b w x

      -- where no goal is reached behind a first step, the class has no path
      pub none_named : HasNoFirst value (is_first onward spur banned) costs (row_of k spur) → HasNoneAlong value k q banned
      none_named none path u c = elim (bool_dec (is_member (0 ∷ q) banned path)) as (λ _. is_member (0 ∷ q) banned path ≡ false) [
        | inl t ↦ let i = in_class path u c t in absurd (none i.first i.price i.rest i.edge i.may i.known)
        | inr f ↦ f
      ]

      module _ (next : ℕ) (sum : C) (best : IsFirstStep value (is_first onward spur banned) costs (row_of k spur) next sum) (s total : C) (known : spent ≡ Some s) (adds : value total ≡ value s +ℤ value sum) where
        spent_is : GoesAlong (AdjacencyStep value k) 0 q (value s) × ((u : ℤ) → GoesAlong (AdjacencyStep value k) 0 q u → value s ≤ℤ u)
        spent_is = subst (λ (o : Option C). IsSpent value k q o) known pre.costs

        way_low : (path : List ℕ) (u : ℤ) → IsCleanNumbers value k path u → is_member (0 ∷ q) banned path ≡ true → value total ≤ℤ u
        way_low path u c m =
            let i = in_class path u c m in
            let a = best.least i.first i.price i.rest i.edge i.may i.known in
            let b = spent_is.1 i.before i.goes in
            omega (arith, ints, a, b, adds, i.low)

        pub first_inside : next < length k.rows
        first_inside = whole.inside spur next best.price best.edge

        -- the way begins
        pub way_start : (rest : C) (path : List ℕ) → slice_get costs next ≡ Some (Some rest) → path ≡ (0 ∷ q) ++ next ∷ [] → IsWaySoFar value k onward spur q banned costs (value total) path next rest
        way_start rest path at is =
            let f = narrowed in
            let new = and_left (is_new onward spur next) (not (is_in banned next)) best.may in
            let same : best.rest ≡ rest = one_cost (slice_get costs next) best.rest rest best.known at in
            let adds' : value sum ≡ value best.price +ℤ value rest = subst (λ (y : C). value sum ≡ value best.price +ℤ value y) same best.is in
            let g = spent_is.0 in
            record {
              first = next;
              free = not_true (is_in banned next) (and_right (is_new onward spur next) (not (is_in banned next)) best.may);
              more = [];
              is = is;
              cost = value s +ℤ value best.price;
              goes = goes_more (AdjacencyStep value k) q 0 next (value s) (value best.price) g (subst (λ (a : ℕ). AdjacencyStep value k a (value best.price) next) (sym at_spur) (best.price, best.edge, refl));
              distinct = distinct_more (0 ∷ q) next pre.distinct (λ h. true≢false (sym new ∙ in_prefix k onward spur q 0 next f.leads h));
              ends = ends_more q 0 next;
              inside = first_inside;
              known = at;
              sum = omega (arith, ints, adds, adds');
              above = λ x h. elim (has_more (0 ∷ q) next x h) as (λ _. (is_new onward spur x ≡ false) ⊎ ((z : C) × (slice_get costs x ≡ Some (Some z)) × (value rest ≤ℤ value z))) [
                | inl i ↦ inl (in_prefix k onward spur q 0 x f.leads i)
                | inr j ↦ inr (rest, subst (λ (n : ℕ). slice_get costs n ≡ Some (Some rest)) j at, omega (arith, ints))
              ];
            }

        -- the way leads to a goal
        pub way_found : (zero here : C) (path : List ℕ) (number : ℕ) → value zero ≡ pos 0 → value zero ≤ℤ value here → is_goal k number ≡ true → IsWaySoFar value k onward spur q banned costs (value total) path number here → IsCheapestAlong value k q banned path total
        way_found zero here path number z low goal w =
            let l = r.least number (Some here) w.known in
            let g = l.goal goal in
            let same : g.0 ≡ here = some_same g.0 here (sym g.1) in
            let high : value here ≤ℤ pos 0 = subst (λ (y : C). value y ≤ℤ pos 0) same g.2 in
            let exact : w.cost ≡ value total = omega (arith, ints, w.sum, high, low, z) in
            record {
              clean = record {
                rest = q ++ w.first ∷ w.more;
                is = w.is;
                goes = subst (λ (t : ℤ). GoesAlong (AdjacencyStep value k) 0 (q ++ w.first ∷ w.more) t) exact w.goes;
                distinct = w.distinct;
                ends = subst (λ (n : ℕ). is_goal k n ≡ true) (sym w.ends) goal;
              };
              member = subst (λ (v : List ℕ). is_member (0 ∷ q) banned v ≡ true) (sym w.is) (member_of (0 ∷ q) banned (w.first ∷ w.more) (ap not w.free));
              least = way_low;
            }

-- another first step costs no more than this one with what remains behind it
pub kept_dearer : {C : Type 0} (value : C → ℤ) (costs : List (Option C)) (best : Option (ℕ × C)) (next : ℕ) (price rest y sum : C) → slice_get costs next ≡ Some (Some rest) → slice_get costs next ≡ Some (Some y) → value sum ≡ value price +ℤ value rest
    → (r : ℕ × C) × (best ≡ Some r) × (value r.1 ≤ℤ value sum) → (r : ℕ × C) × (best ≡ Some r) × (value r.1 ≤ℤ (value price +ℤ value y))
kept_dearer value costs best next price rest y sum known k adds d =
    let same : rest ≡ y = one_cost (slice_get costs next) rest y known k in
    let low = d.2 in
    (d.0, d.1, subst (λ (z : _). value d.0.1 ≤ℤ (value price +ℤ value z)) same (omega (arith, ints, low, adds)))

-- the cost of a cheapest step to a number, where there is one
pub record IsCheapestTo {C : Type 0} (value : C → ℤ) (to : ℕ) (steps : List (ℕ × C)) (o : Option C) : Type 0 where
  pub there : IfSome o (λ c. Contains steps (to, c))
  pub least : (d : C) → Contains steps (to, d) → (x : C) × (o ≡ Some x) × (value x ≤ℤ value d)

module _ {C : Type 0} (value : C → ℤ) (to : ℕ) (row : List (ℕ × C)) (i : ℕ) (item : ℕ × C) (inside : i < length row) (is : item ≡ get_or row i item) (o : Option C) (h : IsCheapestTo value to (take i row) o) where
  -- the step leads there: the lesser cost
  pub cheapest_taken : (less : C) → item.0 ≡ to → value less ≤ℤ value item.1 → IfSome o (λ x. value less ≤ℤ value x) → (less ≡ item.1) ⊎ (o ≡ Some less) → IsCheapestTo value to (take (i + 1) row) (Some less)
  cheapest_taken less at low lower one = record {
    there = elim one as (λ _. Contains (take (i + 1) row) (to, less)) [
      | inl e ↦ subst (λ (c : C). Contains (take (i + 1) row) (to, c)) (sym e) (subst (λ (n : ℕ). Contains (take (i + 1) row) (n, item.1)) at (Contains-take_here row i item inside is))
      | inr e ↦ Contains-take row i (to, less) (subst (λ (p : Option C). IfSome p (λ c. Contains (take i row) (to, c))) e h.there)
    ];
    least = λ d m. elim (Contains-take_more row i item (to, d) m) as (λ _. (x : C) × (Some less ≡ Some x) × (value x ≤ℤ value d)) [
      | inl old ↦ let z = h.least d old in (less, refl, below z.0 z.1 d z.2)
      | inr e ↦ (less, refl, subst (λ (s : ℕ × C). value less ≤ℤ value s.1) (is ∙ e) low)
    ];
  }
    where
      below : (x : C) → o ≡ Some x → (d : C) → value x ≤ℤ value d → value less ≤ℤ value d
      below x e d l = let m : value less ≤ℤ value x = subst (λ (p : Option C). IfSome p (λ y. value less ≤ℤ value y)) e lower in omega (arith, ints, l, m)

  -- the step does not lead there
  pub cheapest_kept : ¬ (item.0 ≡ to) → IsCheapestTo value to (take (i + 1) row) o
  cheapest_kept away = record {
    there = wider o h.there;
    least = λ d m. elim (Contains-take_more row i item (to, d) m) as (λ _. (x : C) × (o ≡ Some x) × (value x ≤ℤ value d)) [
      | inl old ↦ h.least d old
      | inr e ↦ absurd (away (ap (λ (s : ℕ × C). s.0) (is ∙ e)))
    ];
  }
    where
      wider : (p : Option C) → IfSome p (λ c. Contains (take i row) (to, c)) → IfSome p (λ c. Contains (take (i + 1) row) (to, c))
      wider None t = tt
      wider (Some c) t = Contains-take row i (to, c) t

-- what the way over one number more costs
pub spent_more : {C : Type 0} (value : C → ℤ) (k : AdjacencyLists C) (q : List ℕ) (spur next : ℕ) (spent : Option C) (row : List (ℕ × C)) (o : Option C) → row ≡ row_of k spur
    → IfSome o (λ sum. (s c : C) × (spent ≡ Some s) × (value sum ≡ value s +ℤ value c) × Contains row (next, c) × ((d : C) → Contains row (next, d) → value c ≤ℤ value d))
    → IsSpent value k q spent → end_of 0 q ≡ spur → IsSpent value k (q ++ next ∷ []) o
spent_more value k q spur next spent row None is h p e = tt
spent_more value k q spur next spent row (Some sum) is h p e =
    let s = h.0 in
    let c = h.1 in
    let b = subst (λ (x : Option _). IsSpent value k q x) h.2 p in
    let edge : Contains (row_of k (end_of 0 q)) (next, c) = subst (λ (n : ℕ). Contains (row_of k n) (next, c)) (sym e) (subst (λ (v : List (ℕ × _)). Contains v (next, c)) is h.4) in (
      subst (λ (t : ℤ). GoesAlong (AdjacencyStep value k) 0 (q ++ next ∷ []) t) (sym h.3) (goes_more (AdjacencyStep value k) q 0 next (value s) (value c) b.0 (c, edge, refl)),
      λ u g.
          let w = cut_goes (AdjacencyStep value k) q (next ∷ []) 0 u g in
          let t = w.3 in
          let d = t.2 in
          let there : Contains row (next, d.0) = subst (λ (v : List (ℕ × _)). Contains v (next, d.0)) (sym is) (subst (λ (n : ℕ). Contains (row_of k n) (next, d.0)) e d.1) in
          let low = h.5 d.0 there in
          let low' = b.1 w.0 w.2 in
          omega (arith, ints, low, low', h.3, w.4, t.3, t.4, d.2),
    )

pub cheapest_is : {C : Type 0} (value : C → ℤ) (to : ℕ) (steps : List (ℕ × C)) (o : Option C) → IsCheapestTo value to steps o → IfSome o (λ c. Contains steps (to, c) × ((d : C) → Contains steps (to, d) → value c ≤ℤ value d))
cheapest_is value to steps None h = tt
cheapest_is value to steps (Some c) h = (h.there, λ d m. let z = h.least d m in let same : z.0 ≡ c = some_same z.0 c (sym z.1) in subst (λ (x : _). value x ≤ℤ value d) same z.2)
