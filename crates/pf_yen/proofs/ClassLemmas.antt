-- How a class is split, and how the classes of plans split the clean paths.
use Rattle.std.proofs.Common.{◌≡◌, ℕ, ◌<◌, ◌≤◌, ◌+◌, ◌∙◌, refl, sym, ap, subst, arith, inl, inr, Bool, true, false, true≢false, not, ◌&&◌, ◌||◌, List, [], ◌∷◌, ◌++◌, length, take, ℤ, nat_eq, eq-eqb}
use Rattle.std.specs.Prelude.{Contains, sum_by}
use Rattle.std.specs.List.Sorted.{IsPermutation}
use borrow.Author.Tests.{eqb-true}
use Rattle.std.proofs.lemmas.List.Folds.{list_any-append}
use Rattle.std.proofs.lemmas.List.Sums.{sum_by-append, sum_by-cons}
use Rattle.std.proofs.lemmas.List.Sorted.{sum_by-IsPermutation}
use Rattle.std.proofs.lemmas.List.Elements.{Contains-append_cases, Contains-append_left, Contains-append_right}
use Rattle.pf_base.specs.Walks.{end_of}
use Rattle.pf_core.specs.Steps.{GoesAlong}
use Rattle.pf_base.proofs.ListLemmas.{bool_dec, Contains-head, Contains-tail, Contains-cases}
use Rattle.pf_yen.specs.Internal.Adjacency.{AdjacencyLists, is_goal, row_of, AdjacencyStep}
use Rattle.pf_yen.specs.Internal.WholeGraphs.{IsWhole}
use Rattle.pf_yen.specs.Internal.Classes.{is_in, is_member, goes_on_to, one_if, Plan, in_class, is_path, IsCleanNumbers, IsCheapestOfClass, IsPartition}
use Rattle.pf_yen.specs.Internal.Splits.{IsSplit}
use Rattle.pf_yen.proofs.FilteredLemmas.{in_none}

pub same_is_true : (a : ℕ) → nat_eq a a ≡ true
same_is_true a = eq-eqb a a refl

-- ---- the test of a class

pub any_goes_on : (p : List ℕ) → is_member [] [] p ≡ true
any_goes_on [] = refl
any_goes_on (x ∷ p) = refl

split_base : (b e m : Bool) → (e ≡ true → b ≡ false) → m ≡ true → one_if (not b) ≡ one_if (not (b || (e || false))) + one_if (e && m)
split_base true true m h t = absurd (true≢false (h refl))
split_base true false m h t = refl
split_base false true m h t = subst (λ (k : Bool). 1 ≡ 0 + one_if k) (sym t) refl
split_base false false m h t = refl

split_and : (e a b c : Bool) → one_if a ≡ one_if b + one_if c → one_if (e && a) ≡ one_if (e && b) + one_if (e && c)
split_and true a b c h = h
split_and false a b c h = refl

-- a class is the class in which one number more is banned, and that of the prefix with this number
pub split_member : (q banned p : List ℕ) (n : ℕ) → is_in banned n ≡ false → one_if (is_member q banned p) ≡ one_if (is_member q (banned ++ n ∷ []) p) + one_if (is_member (q ++ n ∷ []) [] p)
split_member [] banned [] n new = refl
split_member [] banned (x ∷ p) n new = rw (list_any-append (λ y. nat_eq y x) banned (n ∷ []))
    (split_base (is_in banned x) (nat_eq n x) (is_member [] [] p) (λ e. subst (λ (k : ℕ). is_in banned k ≡ false) (eqb-true n x e) new) (any_goes_on p))
split_member (y ∷ q) banned [] n new = refl
split_member (y ∷ q) banned (x ∷ p) n new = split_and (nat_eq y x) (is_member q banned p) (is_member q (banned ++ n ∷ []) p) (is_member (q ++ n ∷ []) [] p) (split_member q banned p n new)

pub both_true : (a b : Bool) → a ≡ true → b ≡ true → a && b ≡ true
both_true true b h k = k
both_true false b h k = h

pub and_left : (a b : Bool) → a && b ≡ true → a ≡ true
and_left true b h = refl
and_left false b h = h

pub and_right : (a b : Bool) → a && b ≡ true → b ≡ true
and_right true b h = h
and_right false b h = absurd (true≢false (sym h))

-- a path of a class begins with its prefix
pub goes_on : (q banned p : List ℕ) → is_member q banned p ≡ true → (r : List ℕ) × (p ≡ q ++ r) × (is_member [] banned r ≡ true)
goes_on [] banned p h = (p, refl, h)
goes_on (y ∷ q) banned [] h = absurd (true≢false (sym h))
goes_on (y ∷ q) banned (x ∷ p) h =
    let e = eqb-true y x (and_left (nat_eq y x) (is_member q banned p) h) in
    let k = goes_on q banned p (and_right (nat_eq y x) (is_member q banned p) h) in
    (k.0, subst (λ (z : ℕ). x ∷ p ≡ z ∷ q ++ k.0) (sym e) (ap (λ (v : List ℕ). x ∷ v) k.1), k.2)

pub member_of : (q banned r : List ℕ) → is_member [] banned r ≡ true → is_member q banned (q ++ r) ≡ true
member_of [] banned r h = h
member_of (y ∷ q) banned r h = subst (λ (b : Bool). b && is_member q banned (q ++ r) ≡ true) (sym (same_is_true y)) (member_of q banned r h)

take_prefix : (q r : List ℕ) → take (length q) (q ++ r) ≡ q
take_prefix [] r = refl
take_prefix (x ∷ q) r = ap (λ (v : List ℕ). x ∷ v) (take_prefix q r)

-- the path of a class has its prefix in front
pub prefix_is : (q banned p : List ℕ) (n : ℕ) → n ≡ length q → is_member q banned p ≡ true → take n p ≡ q
prefix_is q banned p n e h = let k = goes_on q banned p h in subst (λ (m : ℕ). take m p ≡ q) (sym e) (subst (λ (v : List ℕ). take (length q) v ≡ q) (sym k.1) (take_prefix q k.0))

one_if_true : (b : Bool) → 0 < one_if b → b ≡ true
one_if_true true h = refl
one_if_true false h = absurd (omega (arith, h))

pub one_if_one : (b : Bool) → b ≡ true → one_if b ≡ 1
one_if_one true h = refl
one_if_one false h = absurd (true≢false (sym h))

pub at_most_one : (b : Bool) → one_if b ≤ 1
at_most_one true = omega arith
at_most_one false = omega arith

-- a positive sum has a positive term
pub some_term : {X : Type 0} (f : X → Bool) (xs : List X) → 0 < sum_by (λ x. one_if (f x)) xs → (x : X) × Contains xs x × (f x ≡ true)
some_term f [] h = absurd (omega (arith, h))
some_term f (x ∷ xs) h = elim (bool_dec (f x)) as (λ _. (y : _) × Contains (x ∷ xs) y × (f y ≡ true)) [
  | inl t ↦ (x, Contains-head xs x, t)
  | inr n ↦ let z : one_if (f x) ≡ 0 = subst (λ (b : Bool). one_if b ≡ 0) (sym n) refl in
      let s : sum_by (λ y. one_if (f y)) (x ∷ xs) ≡ one_if (f x) + sum_by (λ y. one_if (f y)) xs = sum_by-cons (λ y. one_if (f y)) x xs in
      let k = some_term f xs (omega (arith, h, z, s)) in (k.0, Contains-tail xs x k.0 k.1, k.2)
]

-- a term is no more than the sum
pub term_below : {X : Type 0} (f : X → Bool) (xs : List X) (x : X) → Contains xs x → f x ≡ true → 0 < sum_by (λ x. one_if (f x)) xs
term_below f [] x h t = absurd (in_none x h)
term_below f (y ∷ ys) x h t =
    let more : sum_by (λ x. one_if (f x)) (y ∷ ys) ≡ one_if (f y) + sum_by (λ x. one_if (f x)) ys = sum_by-cons (λ x. one_if (f x)) y ys in
    elim (Contains-cases ys y x h) as (λ _. 0 < sum_by (λ x. one_if (f x)) (y ∷ ys)) [
      | inl e ↦ let z : one_if (f y) ≡ 1 = one_if_one (f y) (subst (λ k. f k ≡ true) (sym e) t) in omega (arith, z, more)
      | inr q ↦ let z = term_below f ys x q t in omega (arith, z, more)
    ]

module _ {C : Type 0} (value : C → ℤ) (k : AdjacencyLists C) (whole : IsWhole value k) where
  -- no walk goes on from a goal
  pub stuck : (a : ℕ) (w : List ℕ) (u : ℤ) → is_goal k a ≡ true → GoesAlong (AdjacencyStep value k) a w u → w ≡ []
  stuck a [] u h g = refl
  stuck a (b ∷ w) u h g = let s = g.2 in absurd (none_there (row_of k a) (whole.stops a h) (b, s.0) s.1)
    where
      none_there : (es : List (ℕ × C)) → es ≡ [] → (e : ℕ × C) → Contains es e → ⊥
      none_there [] h e c = in_none e c
      none_there (x ∷ es) h e c = cc

  -- the part of a walk behind its beginning
  pub behind : (v w : List ℕ) (a : ℕ) (u : ℤ) → GoesAlong (AdjacencyStep value k) a (v ++ w) u → (t : ℤ) × GoesAlong (AdjacencyStep value k) (end_of a v) w t
  behind [] w a u g = (u, g)
  behind (b ∷ v) w a u g = behind v w b g.1 g.3

  -- a clean path that begins with another is that one
  pub same_path : (p q : List ℕ) (u t : ℤ) → IsCleanNumbers value k p u → IsCleanNumbers value k q t → is_member q [] p ≡ true → p ≡ q
  same_path p q u t a b h =
      let m = goes_on q [] p h in
      let e : 0 ∷ a.rest ≡ 0 ∷ (b.rest ++ m.0) = sym a.is ∙ m.1 ∙ ap (λ (v : List ℕ). v ++ m.0) b.is in
      let f : a.rest ≡ b.rest ++ m.0 = cc in
      let g = behind b.rest m.0 0 u (subst (λ (v : List ℕ). GoesAlong (AdjacencyStep value k) 0 v u) f a.goes) in
      let z = stuck (end_of 0 b.rest) m.0 g.0 b.ends g.1 in
      m.1 ∙ ap (λ (v : List ℕ). q ++ v) z ∙ append-nil q
    where
      append-nil : (v : List ℕ) → v ++ [] ≡ v
      append-nil [] = refl
      append-nil (x ∷ v) = ap (λ (w : List ℕ). x ∷ w) (append-nil v)

  -- the first plan, where there is one
  pub first_partition : (c : Plan C) → IsCheapestOfClass value k c → c.spur ≡ 0 → c.banned ≡ [] → IsPartition value k (c ∷ []) []
  first_partition c h s b = record {
    cheapest = λ d m. elim (Contains-cases [] c d m) as (λ _. IsCheapestOfClass value k d) [ inl e ↦ subst (λ (x : Plan C). IsCheapestOfClass value k x) e h | inr f ↦ absurd (in_none d f) ];
    barred = λ d y m i. elim (Contains-cases [] c d m) as (λ _. (p : List ℕ) × Contains [] p × (goes_on_to (take (d.spur + 1) d.path) y p ≡ true)) [
      | inl e ↦ absurd (true≢false (sym (subst (λ (v : List ℕ). is_in v y ≡ true) b (subst (λ (x : Plan C). is_in x.banned y ≡ true) (sym e) i))))
      | inr f ↦ absurd (in_none d f)
    ];
    once = λ p u clean.
        let e : take (c.spur + 1) c.path ≡ 0 ∷ [] = subst (λ (n : ℕ). take (n + 1) c.path ≡ 0 ∷ []) (sym s) (let f = h.clean in subst (λ (v : List ℕ). take 1 v ≡ 0 ∷ []) (sym f.is) refl) in
        let t : in_class p c ≡ 1 = one_if_one (is_member (take (c.spur + 1) c.path) c.banned p) (subst (λ (v : List ℕ). is_member v c.banned p ≡ true) (sym e) (subst (λ (v : List ℕ). is_member (0 ∷ []) v p ≡ true) (sym b) (subst (λ (v : List ℕ). is_member (0 ∷ []) [] v ≡ true) (sym clean.is) (any_goes_on clean.rest)))) in
        let i : sum_by (in_class p) (c ∷ []) ≡ in_class p c + 0 = sum_by-cons (in_class p) c [] in
        let j : sum_by (is_path p) [] ≡ 0 = refl in
        omega (arith, t, i, j);
  }

  -- where there is no clean path, there is nothing to split
  pub no_partition : ((p : List ℕ) (u : ℤ) → ¬ (IsCleanNumbers value k p u)) → IsPartition value k [] []
  no_partition h = record { cheapest = λ d m. absurd (in_none d m); once = λ p u clean. absurd (h p u clean); barred = λ d y m i. absurd (in_none d m) }

  -- a plan is split when its path has gone
  pub split_partition : (c : Plan C) (plans more : List (Plan C)) (before : List (List ℕ)) → IsPartition value k (c ∷ plans) before → IsSplit value k c more → IsPartition value k (more ++ plans) (before ++ c.path ∷ [])
  split_partition c plans more before h s = record {
    cheapest = λ d m. elim (Contains-append_cases more plans d m) as (λ _. IsCheapestOfClass value k d) [ inl q ↦ s.cheapest d q | inr q ↦ h.cheapest d (Contains-tail plans c d q) ];
    once = λ p u clean.
        let a = h.once p u clean in
        let b = s.parts p u clean in
        let x = sum_by-append (in_class p) more plans in
        let y = sum_by-append (is_path p) before (c.path ∷ []) in
        let i : sum_by (in_class p) (c ∷ plans) ≡ in_class p c + sum_by (in_class p) plans = sum_by-cons (in_class p) c plans in
        let j : sum_by (is_path p) (c.path ∷ []) ≡ is_path p c.path + 0 = sum_by-cons (is_path p) c.path [] in
        omega (arith, a, b, x, y, i, j);
    barred = λ d y m i. elim (Contains-append_cases more plans d m) as (λ _. (p : List ℕ) × Contains (before ++ c.path ∷ []) p × (goes_on_to (take (d.spur + 1) d.path) y p ≡ true)) [
      | inl q ↦ elim (s.barred d y q i) as (λ _. (p : List ℕ) × Contains (before ++ c.path ∷ []) p × (goes_on_to (take (d.spur + 1) d.path) y p ≡ true)) [
        | inl t ↦ (c.path, Contains-append_right before (c.path ∷ []) c.path (Contains-head [] c.path), t)
        | inr t ↦ let r = h.barred c y (Contains-head plans c) t.1 in (r.0, Contains-append_left before (c.path ∷ []) r.0 r.1, subst (λ (v : List ℕ). goes_on_to v y r.0 ≡ true) (sym t.0) r.2)
      ]
      | inr q ↦ let r = h.barred d y (Contains-tail plans c d q) i in (r.0, Contains-append_left before (c.path ∷ []) r.0 r.1, r.2)
    ];
  }

  pub moved_partition : (plans plans' : List (Plan C)) (before : List (List ℕ)) → IsPermutation plans plans' → ((c : Plan C) → Contains plans' c → Contains plans c) → IsPartition value k plans before → IsPartition value k plans' before
  moved_partition plans plans' before m back h = record {
    cheapest = λ c q. h.cheapest c (back c q);
    once = λ p u clean. let a = h.once p u clean in let e = sum_by-IsPermutation (in_class p) plans plans' m in omega (arith, a, e);
    barred = λ c y q i. h.barred c y (back c q) i;
  }
