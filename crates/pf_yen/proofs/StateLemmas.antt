-- What the plans say of the clean paths over nodes.
use Rattle.std.proofs.Common.{◌≡◌, ℕ, zero, suc, ◌<◌, ◌≤◌, ◌+◌, refl, sym, ap, subst, arith, inl, inr, Bool, true, false, true≢false, List, [], ◌∷◌, ◌++◌, length, take, ℤ, Option, Some, None, nat_eq, eq-eqb}
use Rattle.std.specs.Prelude.{◌⊎◌, ◌↔◌, ◌≤ℤ◌, Contains, sum_by}
use Rattle.std.specs.List.{AllZip}
use Rattle.std.specs.Cmp.{IsEquivalence, nat_eq_equiv}
use borrow.Author.Tests.{eqb-true}
use Rattle.std.proofs.lemmas.Int.{ints}
use Rattle.std.proofs.lemmas.List.{append-nil}
use Rattle.std.proofs.lemmas.List.Sums.{sum_by-append, sum_by-cons}
use Rattle.pf_base.specs.Walks.{HasNode, NoRepeats}
use Rattle.pf_base.specs.Edges.{WalkCosts, InReach}
use Rattle.pf_base.specs.Answers.{ListsEdges}
use Rattle.pf_core.specs.Steps.{GoesAlong}
use Rattle.pf_core.specs.Nodes.{StandsFor, IsStep}
use Rattle.pf_base.proofs.ListLemmas.{nat_dec, bool_dec, Contains-head, Contains-tail, Contains-cases, Contains-append_one, AllZip-append}
use Rattle.pf_core.proofs.WalkLemmas.{same_of}
use Rattle.pf_yen.specs.Internal.Adjacency.{AdjacencyLists, AdjacencyStep}
use Rattle.pf_yen.specs.Internal.WholeGraphs.{IsWhole}
use Rattle.pf_yen.specs.Internal.Learned.{IsLearned}
use Rattle.pf_yen.specs.Internal.Classes.{Plan, is_member, goes_on_to, one_if, in_class, is_path, IsCleanNumbers, IsCheapestOfClass, IsPartition, is_in}
use Rattle.pf_yen.specs.Internal.Splits.{ClassOverflows}
use Rattle.pf_yen.specs.Counting.{most_paths}
use Rattle.pf_yen.specs.Internal.Gathered.{same_nodes}
use Rattle.pf_yen.specs.Internal.Candidates.{as_list, last_given, IsFirst, NoneBelow}
use Rattle.pf_yen.specs.Internal.PlanChanges.{GoesOn}
use Rattle.pf_yen.specs.CleanPaths.{IsCleanPath, WasGiven, AllGiven, IsNextPath, BranchOverflows}
use Rattle.std.proofs.lemmas.List.Elements.{Contains-append_left, Contains-append_right}
use Rattle.pf_yen.specs.Internal.PlannedSearch.{IsPlanned}
use Rattle.pf_yen.proofs.FilteredLemmas.{in_none}
use Rattle.pf_yen.proofs.ClassLemmas.{one_if_one, some_term, term_below, same_path, member_of}
use Rattle.pf_yen.proofs.CountLemmas.{both, AreOver, most}
use Rattle.pf_yen.proofs.NodePaths.{zip_find, zip_found, zip_length, branch_past, same_numbers, numbers_of_clean, numbers_at_cost, clean_of_numbers, costs_of_numbers}

-- the numbers below n
abbrev below : ℕ → List ℕ
below zero = []
below (suc n) = n ∷ below n

length-below : (n : ℕ) → length (below n) ≡ n
length-below zero = refl
length-below (suc n) = ap suc (length-below n)

has_below : (n x : ℕ) → x < n → HasNode nat_eq (below n) x
has_below zero x h = absurd (omega (arith, h))
has_below (suc n) x h = elim (nat_dec n x) as (λ _. HasNode nat_eq (below (suc n)) x) [
  | inl e ↦ inl (eq-eqb n x e)
  | inr d ↦ inr (has_below n x (omega (arith, h, d)))
]

same_list : (p q : List ℕ) → same_nodes nat_eq p q ≡ true → p ≡ q
same_list [] [] h = refl
same_list [] (y ∷ q) h = absurd (true≢false (sym h))
same_list (x ∷ p) [] h = absurd (true≢false (sym h))
same_list (x ∷ p) (y ∷ q) h = let b = both (nat_eq x y) (same_nodes nat_eq p q) h in subst (λ (z : ℕ). x ∷ p ≡ z ∷ q) (eqb-true x y b.0) (ap (λ (v : List ℕ). x ∷ v) (same_list p q b.1))

has_same : (ps : List (List ℕ)) (p : List ℕ) → HasNode (same_nodes nat_eq) ps p → Contains ps p
has_same [] p h = absurd h
has_same (q ∷ ps) p (inl e) = subst (λ (v : List ℕ). Contains (q ∷ ps) v) (same_list q p e) (Contains-head ps q)
has_same (q ∷ ps) p (inr h) = Contains-tail ps q p (has_same ps p h)

none_more : (q : List ℕ) (before : List (List ℕ)) → sum_by (is_path q) before ≤ 1 → sum_by (is_path q) (before ++ []) ≤ 1
none_more q before h = subst (λ (v : List (List ℕ)). sum_by (is_path q) v ≤ 1) (sym (append-nil before)) h

-- a path begins with itself
begins_itself : (p : List ℕ) → is_member p [] p ≡ true
begins_itself p = subst (λ (v : List ℕ). is_member p [] v ≡ true) (append-nil p) (member_of p [] [] refl)

module _ {N C : Type 0} (eq : N → N → Bool) (laws : IsEquivalence eq) (value : C → ℤ) (keys : List N) (k : AdjacencyLists C) where
  -- the plans after a change that keeps what they share out
  pub went_on : (given : List (List N × C)) (waiting waiting' : List (Plan C)) (chosen chosen' : Option (Plan C)) (was : Bool) → IsPlanned eq value keys k given waiting chosen was
      → GoesOn value k (as_list chosen ++ waiting) (as_list chosen' ++ waiting') (last_given was chosen) → IsFirst value false chosen' waiting' → IsPlanned eq value keys k given waiting' chosen' false
  went_on given waiting waiting' chosen chosen' was p on first = record {
    before = p.before ++ last_given was chosen;
    partition = on.partition p.before p.partition;
    given_are = subst (λ (v : List (List ℕ)). AllZip (λ (q : List ℕ) (g : List N × C). AllZip (StandsFor eq keys) q g.0 × IsCleanNumbers value k q (value g.1)) v given) (sym (append-nil (p.before ++ last_given was chosen))) p.given_are;
    rising = λ g c h i. on.dearer (value g.1) (λ d j. p.rising g d h j) c i;
    first = first;
  }

  -- the first plans
  pub planned_first : (waiting : List (Plan C)) (chosen : Option (Plan C)) → waiting ≡ [] → IsPartition value k (as_list chosen ++ waiting) [] → IsPlanned eq value keys k [] waiting chosen false
  planned_first waiting chosen none part = record {
    before = [];
    partition = part;
    given_are = tt;
    rising = λ g c h i. absurd (in_none g h);
    first = subst (λ (v : List (Plan C)). IsFirst value false chosen v) (sym none) (at chosen);
  }
    where
      at : (o : Option (Plan C)) → IsFirst value false o []
      at None = tt
      at (Some c) = λ d i. absurd (in_none d i)

  -- the chosen plan costs no more than any
  chosen_least : (given : List (List N × C)) (waiting : List (Plan C)) (c : Plan C) → IsPlanned eq value keys k given waiting (Some c) false → NoneBelow value (value c.cost) (c ∷ waiting)
  chosen_least given waiting c p d i = elim (Contains-cases waiting c d i) as (λ _. value c.cost ≤ℤ value d.cost) [
    | inl e ↦ subst (λ (x : Plan C). value c.cost ≤ℤ value x.cost) e (omega (arith, ints))
    | inr q ↦ p.first d q
  ]

  -- the path of the chosen plan was given
  pub gave : (given : List (List N × C)) (waiting : List (Plan C)) (c : Plan C) (path : List N) → IsPlanned eq value keys k given waiting (Some c) false → AllZip (StandsFor eq keys) c.path path → IsPlanned eq value keys k (given ++ (path, c.cost) ∷ []) waiting (Some c) true
  gave given waiting c path p z = record {
    before = p.before;
    partition = p.partition;
    given_are =
        let part = p.partition in
        let cheap = part.cheapest c (Contains-head waiting c) in
        AllZip-append (λ (q : List ℕ) (g : List N × C). AllZip (StandsFor eq keys) q g.0 × IsCleanNumbers value k q (value g.1)) p.before given c.path (path, c.cost)
        (subst (λ (v : List (List ℕ)). AllZip (λ (q : List ℕ) (g : List N × C). AllZip (StandsFor eq keys) q g.0 × IsCleanNumbers value k q (value g.1)) v given) (append-nil p.before) p.given_are) (z, cheap.clean);
    rising = λ g d h i. elim (Contains-append_one given (path, c.cost) g h) as (λ _. value g.1 ≤ℤ value d.cost) [
      | inl q ↦ p.rising g d q i
      | inr e ↦ subst (λ (x : List N × C). value x.1 ≤ℤ value d.cost) e (chosen_least given waiting c p d i)
    ];
    first = tt;
  }

  -- of the given paths, a clean path is one at most
  given_once : IsWhole value k → (waiting : List (Plan C)) (chosen : Option (Plan C)) (was : Bool) (before : List (List ℕ)) → IsPartition value k (as_list chosen ++ waiting) before → (q : List ℕ) (u : ℤ) → IsCleanNumbers value k q u
      → sum_by (is_path q) (before ++ last_given was chosen) ≤ 1
  given_once whole waiting chosen false before part q u a = none_more q before (let o = part.once q u a in omega (arith, o))
  given_once whole waiting None true before part q u a = none_more q before (let o = part.once q u a in omega (arith, o))
  given_once whole waiting (Some c) true before part q u a =
      let e = sum_by-append (is_path q) before (c.path ∷ []) in
      let j : sum_by (is_path q) (c.path ∷ []) ≡ is_path q c.path + 0 = sum_by-cons (is_path q) c.path [] in
      let i : sum_by (in_class q) (c ∷ waiting) ≡ in_class q c + sum_by (in_class q) waiting = sum_by-cons (in_class q) c waiting in
      let o = part.once q u a in
      let cheap = part.cheapest c (Contains-head waiting c) in
      let low : is_path q c.path ≤ in_class q c = elim (bool_dec (is_member c.path [] q)) as (λ _. is_path q c.path ≤ in_class q c) [
        | inl t ↦
            let same : q ≡ c.path = same_path value k whole q c.path u (value c.cost) a cheap.clean t in
            let here = one_if_one (is_member (take (c.spur + 1) c.path) c.banned q) (subst (λ (v : List ℕ). is_member (take (c.spur + 1) c.path) c.banned v ≡ true) (sym same) cheap.member) in
            let itself = one_if_one (is_member c.path [] q) t in
            omega (arith, here, itself)
        | inr f ↦ let none : is_path q c.path ≡ 0 = ap one_if f in omega (arith, none)
      ] in
      omega (arith, e, j, i, o, low)

  -- each given path is one clean path over numbers more
  pub given_at_most : (whole : IsWhole value k) (n : ℕ) → length k.rows ≤ n → 0 < length k.rows → (given : List (List N × C)) (waiting : List (Plan C)) (chosen : Option (Plan C)) (was : Bool) → IsPlanned eq value keys k given waiting chosen was → length given ≤ most_paths n
  given_at_most whole n few some given waiting chosen was p =
      let ps : List (List ℕ) = p.before ++ last_given was chosen in
      let R : List ℕ → List N × C → Type 0 = λ q g. AllZip (StandsFor eq keys) q g.0 × IsCleanNumbers value k q (value g.1) in
      let clean : (q : List ℕ) → Contains ps q → (u : ℤ) × IsCleanNumbers value k q u = λ q i. let f = zip_found R ps given q p.given_are i in (value f.0.1, f.2.1) in
      let e = zip_length R ps given p.given_are in
      let m = most nat_eq nat_eq_equiv n (below (length k.rows)) ps (let l = length-below (length k.rows) in omega (arith, l, few)) (all_over ps clean) (none_twice ps clean (given_once whole waiting chosen was p.before p.partition)) in
      omega (arith, e, m)
    where
      along_below : (w : List ℕ) (a : ℕ) (u : ℤ) → GoesAlong (AdjacencyStep value k) a w u → (x : ℕ) → HasNode nat_eq w x → x < length k.rows
      along_below [] a u g x h = absurd h
      along_below (b ∷ w) a u g x (inl e) = let t = g.2 in subst (λ (y : ℕ). y < length k.rows) (eqb-true b x e) (whole.inside a b t.0 t.1)
      along_below (b ∷ w) a u g x (inr h) = along_below w b g.1 g.3 x h

      all_over : (qs : List (List ℕ)) → ((q : List ℕ) → Contains qs q → (u : ℤ) × IsCleanNumbers value k q u) → AreOver nat_eq (below (length k.rows)) qs
      all_over [] c = tt
      all_over (q ∷ qs) c =
          let a = c q (Contains-head qs q) in
          let b = a.1 in (
            (
              subst (λ (v : List ℕ). NoRepeats nat_eq v) (sym b.is) b.distinct,
              λ x h. has_below (length k.rows) x (elim (subst (λ (v : List ℕ). HasNode nat_eq v x) b.is h) as (λ _. x < length k.rows) [
                | inl e ↦ subst (λ (y : ℕ). y < length k.rows) (eqb-true 0 x e) some
                | inr r ↦ along_below b.rest 0 a.0 b.goes x r
              ]),
            ),
            all_over qs (λ v i. c v (Contains-tail qs q v i)),
          )

      none_twice : (qs : List (List ℕ)) → ((q : List ℕ) → Contains qs q → (u : ℤ) × IsCleanNumbers value k q u) → ((q : List ℕ) (u : ℤ) → IsCleanNumbers value k q u → sum_by (is_path q) qs ≤ 1) → NoRepeats (same_nodes nat_eq) qs
      none_twice [] c o = tt
      none_twice (q ∷ qs) c o = (
        (λ h.
            let a = c q (Contains-head qs q) in
            let here : sum_by (is_path q) (q ∷ qs) ≡ is_path q q + sum_by (is_path q) qs = sum_by-cons (is_path q) q qs in
            let itself = one_if_one (is_member q [] q) (begins_itself q) in
            let again = term_below (λ (v : List ℕ). is_member v [] q) qs q (has_same qs q h) (begins_itself q) in
            omega (arith, here, itself, again, o q a.0 a.1)),
        none_twice qs (λ v i. c v (Contains-tail qs q v i)) (λ v u a. let here : sum_by (is_path v) (q ∷ qs) ≡ is_path v q + sum_by (is_path v) qs = sum_by-cons (is_path v) q qs in omega (arith, here, o v u a)),
      )

  module _ (one : (i j : ℕ) (x : N) → StandsFor eq keys i x → StandsFor eq keys j x → i ≡ j) (edges : N → List (N × ℤ)) (start : N) (test : N → Bool)
      (alike : (x y : N) → InReach eq edges (start ∷ []) x → eq x y ≡ true → ListsEdges eq (λ z. z) (edges x) (edges y)) (begins : (x : N) → StandsFor eq keys 0 x ↔ (eq start x ≡ true)) (whole : IsWhole value k)
      (learned : IsLearned value (IsStep eq (record { starts = start ∷ []; edges = edges })) test (StandsFor eq keys) (length keys) k) (all : length keys ≤ length k.rows) where
    abbrev Given : List ℕ → List N × C → Type 0
    Given q g = AllZip (StandsFor eq keys) q g.0 × IsCleanNumbers value k q (value g.1)

    -- a clean path whose numbers went before was given
    was_given : (before : List (List ℕ)) (given : List (List N × C)) → AllZip (λ (q : List ℕ) (g : List N × C). AllZip (StandsFor eq keys) q g.0 × IsCleanNumbers value k q (value g.1)) before given
        → (path : List N) (p : List ℕ) (u : ℤ) → AllZip (StandsFor eq keys) p path → IsCleanNumbers value k p u → 0 < sum_by (is_path p) before → WasGiven eq edges start test value given path
    was_given before given zip path p u z c h =
        let t = some_term (λ (q : List ℕ). is_member q [] p) before h in
        let f = zip_found Given before given t.0 zip t.1 in
        let e : p ≡ t.0 = same_path value k whole p t.0 u (value f.0.1) c f.2.1 t.2 in
        (f.0, f.1, same_of eq laws keys p f.0.0 path (subst (λ (v : List ℕ). AllZip (StandsFor eq keys) v f.0.0) (sym e) f.2.0) z)

    -- a sum that does not fit, in a class that is split off that of the path that was given last
    pub branch : (fits : ℤ → Type 0) (given : List (List N × C)) (waiting : List (Plan C)) (c : Plan C) → IsPlanned eq value keys k given waiting (Some c) true → ClassOverflows value k fits c → BranchOverflows eq edges start test value fits given
    branch fits given waiting c p b = branch_past eq laws keys one edges start test alike begins value k learned all fits c b p.before given p.given_are none_there barred
      where
        part : IsPartition value k (c ∷ waiting) p.before
        part = p.partition

        none_there : (q : List ℕ) (u : ℤ) → Contains (p.before ++ c.path ∷ []) q → IsCleanNumbers value k q u → is_member b.prefix b.banned q ≡ false
        none_there q u i a = elim (bool_dec (is_member b.prefix b.banned q)) as (λ _. is_member b.prefix b.banned q ≡ false) [
          | inl t ↦
              let n = b.inside q u a t in
              elim (Contains-append_one p.before c.path q i) as (λ _. is_member b.prefix b.banned q ≡ false) [
                | inl o ↦
                    let h = part in
                    let once = h.once q u a in
                    let more : sum_by (in_class q) (c ∷ waiting) ≡ in_class q c + sum_by (in_class q) waiting = sum_by-cons (in_class q) c waiting in
                    let some = term_below (λ (v : List ℕ). is_member v [] q) p.before q o (begins_itself q) in
                    absurd (omega (arith, once, more, some, n.0))
                | inr e ↦ let itself = one_if_one (is_member c.path [] q) (subst (λ (v : List ℕ). is_member c.path [] v ≡ true) e (begins_itself c.path)) in absurd (omega (arith, itself, n.1))
              ]
          | inr f ↦ f
        ]

        barred : (y : ℕ) → is_in b.banned y ≡ true → (q : List ℕ) × Contains (p.before ++ c.path ∷ []) q × (goes_on_to b.prefix y q ≡ true)
        barred y h = elim (b.barred y h) as (λ _. (q : List ℕ) × Contains (p.before ++ c.path ∷ []) q × (goes_on_to b.prefix y q ≡ true)) [
          | inl t ↦ (c.path, Contains-append_right p.before (c.path ∷ []) c.path (Contains-head [] c.path), t)
          | inr t ↦
              let w = part in
              let r = w.barred c y (Contains-head waiting c) t.1 in
              (r.0, Contains-append_left p.before (c.path ∷ []) r.0 r.1, subst (λ (v : List ℕ). goes_on_to v y r.0 ≡ true) (sym t.0) r.2)
        ]

    -- where no plan is left, all was given
    pub all_given : (given : List (List N × C)) → IsPlanned eq value keys k given [] None false → AllGiven eq edges start test value given
    all_given given p path clean =
        let n = numbers_of_clean eq laws keys one edges start test alike begins value k learned all path clean in
        let part = p.partition in
        let o = part.once n.0 n.1 n.3 in
        let z : sum_by (in_class {C = C} n.0) [] ≡ 0 = refl in
        was_given p.before given (subst (λ (v : List (List ℕ)). AllZip (λ (q : List ℕ) (g : List N × C). AllZip (StandsFor eq keys) q g.0 × IsCleanNumbers value k q (value g.1)) v given) (append-nil p.before) p.given_are) path n.0 n.1 n.2 n.3 (omega (arith, o, z))

    -- the chosen path is the next
    pub next_is : (given : List (List N × C)) (waiting : List (Plan C)) (c : Plan C) (path : List N) → IsPlanned eq value keys k given waiting (Some c) false → AllZip (StandsFor eq keys) c.path path → IsNextPath eq edges start test value given path c.cost
    next_is given waiting c path p z = record {
      clean = clean_of_numbers eq laws keys one edges start test alike begins value k learned all c.path path (value c.cost) z itself;
      costs = costs_of_numbers eq laws keys one edges start test alike begins value k learned all c.path path (value c.cost) z itself (λ t goes. low t goes);
      new = λ w. new w;
      rising = λ g h. p.rising g c h (Contains-head waiting c);
      none_cheaper = λ other u clean costs not_given. none other u clean costs not_given;
    }
      where
        part : IsPartition value k (c ∷ waiting) p.before
        part = p.partition

        cheap : IsCheapestOfClass value k c
        cheap = let q = part in q.cheapest c (Contains-head waiting c)

        itself : IsCleanNumbers value k c.path (value c.cost)
        itself = let q = p.partition in let h = q.cheapest c (Contains-head waiting c) in h.clean

        zip : AllZip (λ (q : List ℕ) (g : List N × C). AllZip (StandsFor eq keys) q g.0 × IsCleanNumbers value k q (value g.1)) p.before given
        zip = subst (λ (v : List (List ℕ)). AllZip (λ (q : List ℕ) (g : List N × C). AllZip (StandsFor eq keys) q g.0 × IsCleanNumbers value k q (value g.1)) v given) (append-nil p.before) p.given_are

        low : (t : ℤ) → GoesAlong (AdjacencyStep value k) 0 itself.rest t → value c.cost ≤ℤ t
        low t goes = let h = cheap in let a = itself in h.least c.path t (record { rest = a.rest; is = a.is; goes = goes; distinct = a.distinct; ends = a.ends }) h.member

        new : ¬ (WasGiven eq edges start test value given path)
        new w =
            let f = zip_find Given p.before given w.0 zip w.1 in
            let e : f.0 ≡ c.path = same_numbers eq laws keys one f.0 c.path w.0.0 path f.2.0 z w.2 in
            let a = term_below (λ (q : List ℕ). is_member q [] c.path) p.before f.0 f.1 (subst (λ (v : List ℕ). is_member v [] c.path ≡ true) (sym e) (begins_itself c.path)) in
            let h = cheap in
            let b = term_below (λ (d : Plan C). is_member (take (d.spur + 1) d.path) d.banned c.path) (c ∷ waiting) c (Contains-head waiting c) h.member in
            let q = part in
            let o = q.once c.path (value c.cost) itself in
            omega (arith, a, b, o)

        none : (other : List N) (u : ℤ) → IsCleanPath eq edges start test other → WalkCosts eq edges other u → ¬ (WasGiven eq edges start test value given other) → value c.cost ≤ℤ u
        none other u clean costs not_given =
            let n = numbers_of_clean eq laws keys one edges start test alike begins value k learned all other clean in
            let m = numbers_at_cost eq laws keys one edges start test alike begins value k learned all other u clean costs n.0 n.2 n.1 n.3 in
            let q = part in
            let o = q.once n.0 u m in
            elim (positive (sum_by (is_path n.0) p.before)) as (λ _. value c.cost ≤ℤ u) [
              | inl h ↦ absurd (not_given (was_given p.before given zip other n.0 n.1 n.2 n.3 h))
              | inr e ↦
                  let t = some_term (λ (d : Plan C). is_member (take (d.spur + 1) d.path) d.banned n.0) (c ∷ waiting) (omega (arith, o, e)) in
                  let h = q.cheapest t.0 t.1 in
                  let a = h.least n.0 u m t.2 in
                  let b = chosen_least given waiting c p t.0 t.1 in
                  omega (arith, ints, a, b)
            ]
          where
            positive : (n : ℕ) → (0 < n) ⊎ (n ≡ 0)
            positive zero = inr refl
            positive (suc n) = inl (omega arith)
