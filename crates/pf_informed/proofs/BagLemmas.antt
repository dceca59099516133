-- That the ways over tight edges are the cheapest clean paths.
use Rattle.std.proofs.Common.{◌≡◌, ℕ, zero, suc, ◌<◌, ◌≤◌, Bool, true, List, [], ◌∷◌, ◌++◌, ◌∙◌, refl, sym, ap, subst, arith, inl, inr, ℤ, pos, Some, Option, nat_eq, eq-eqb, length, map}
use Rattle.std.specs.Prelude.{◌≤ℤ◌, ◌+ℤ◌, slice_get, Contains, reverse}
use Rattle.std.specs.List.{AllZip}
use Rattle.std.specs.Cmp.{IsEquivalence}
use Rattle.std.proofs.lemmas.Int.{ints}
use borrow.Author.Tests.{eqb-true}
use Rattle.pf_base.specs.Walks.{end_of, HasNode, NoRepeats, IsGoalWalk}
use Rattle.pf_base.specs.Edges.{InReach, HasNoNegativeCost, IsCheapestGoalPath, NoGoalWalkCostsLess, IsSuccessor, WalkCosts}
use Rattle.pf_base.specs.Answers.{ListsEdges, SameNodes}
use Rattle.pf_core.specs.declared.labels.Label.{Label}
use Rattle.pf_core.specs.Labels.{Labels, HasLabel}
use Rattle.pf_core.specs.Steps.{GoesAlong, IsNonNegative}
use Rattle.pf_core.specs.Nodes.{NodeGraph, StandsFor, IsStep}
use Rattle.pf_core.specs.Numbered.{Grows}
use Rattle.pf_base.proofs.ListLemmas.{bool_dec, reverse-cons, Contains-head, Contains-tail, Contains-cases, none_in, AllZip-append}
use Rattle.pf_core.proofs.LabelLemmas.{HasLabel-inside, label_is}
use Rattle.pf_core.proofs.FrontierLemmas.{goes_more, end_more, walk_positive}
use Rattle.pf_informed.proofs.PathUp.{HasNode-reverse}
use Rattle.pf_core.proofs.NodeLemmas.{eq-sym, eq-trans, InReach-same, InReach-start, StandsFor-same, HasEdge-same, edge_of_same}
use Rattle.pf_core.proofs.WalkLemmas.{same_of, no_negative, walk_of_goes, distinct_nodes}
use Rattle.pf_informed.specs.CheapestPaths.{FailsUpToEnd, IsCheapestCleanPath, AreCheapestCleanPaths}
use Rattle.pf_informed.specs.Internal.Labelled.{IsLabelled}
use Rattle.pf_informed.specs.Internal.Tight.{IsTight}
use Rattle.pf_informed.specs.Internal.Ways.{each_of, ways, nodes_of, node_and, paths_of}
use Rattle.pf_informed.proofs.NodeWalks.{cheap_of_costs, costs_of_cheap, cheap_of_goes, goes_of_cheap, NoRepeats-begin}
use Rattle.pf_informed.proofs.WayLaws.{Linked, once_index, each_of_in, HasNode_of, ways_sound, all_once, all_complete}

-- ---- lists
in_map : {A B : Type 0} (f : A → B) (xs : List A) (y : B) → Contains (map f xs) y → (x : A) × Contains xs x × (f x ≡ y)
in_map f [] y h = absurd (omega (arith, h.1))
in_map f (x ∷ xs) y h = elim (Contains-cases (map f xs) (f x) y h) as (λ _. (z : _) × Contains (x ∷ xs) z × (f z ≡ y)) [
  | inl e ↦ (x, Contains-head xs x, e)
  | inr i ↦ let r = in_map f xs y i in (r.0, Contains-tail xs x r.0 r.1, r.2)
]

map_in : {A B : Type 0} (f : A → B) (xs : List A) (x : A) → Contains xs x → Contains (map f xs) (f x)
map_in f [] x h = absurd (omega (arith, h.1))
map_in f (z ∷ xs) x h = elim (Contains-cases xs z x h) as (λ _. Contains (f z ∷ map f xs) (f x)) [
  | inl e ↦ subst (λ w. Contains (f z ∷ map f xs) (f w)) e (Contains-head (map f xs) (f z))
  | inr i ↦ Contains-tail (map f xs) (f z) (f x) (map_in f xs x i)
]

get_map : {A B : Type 0} (f : A → B) (xs : List A) (i : ℕ) (y : B) → slice_get (map f xs) i ≡ Some y → (x : A) × (slice_get xs i ≡ Some x) × (f x ≡ y)
get_map f [] i y h = absurd (none_in i y h)
get_map f (x ∷ xs) zero y h = let e : Some (f x) ≡ Some y = h in (x, refl, cc)
get_map f (x ∷ xs) (suc i) y h = get_map f xs i y h

get_in : {A : Type 0} (xs : List A) (i : ℕ) (x : A) → slice_get xs i ≡ Some x → Contains xs x
get_in [] i x h = absurd (none_in i x h)
get_in (y ∷ xs) zero x h = let e : Some y ≡ Some x = h in let q : y ≡ x = cc in subst (λ w. Contains (y ∷ xs) w) q (Contains-head xs y)
get_in (y ∷ xs) (suc i) x h = Contains-tail xs y x (get_in xs i x h)

some_key : {A : Type 0} (xs : List A) (k : ℕ) → k < length xs → (m : A) × (slice_get xs k ≡ Some m)
some_key [] k l = absurd (omega (arith, l))
some_key (x ∷ xs) zero l = (x, refl)
some_key (x ∷ xs) (suc k) l = some_key xs k (omega (arith, l))

module _ {N : Type 0} (eq : N → N → Bool) (laws : IsEquivalence eq) (keys : List N) where
  pub nodes_stand : (ks : List ℕ) → ((j : ℕ) → HasNode nat_eq ks j → j < length keys) → AllZip (StandsFor eq keys) ks (nodes_of keys ks)
  nodes_stand [] inside = tt
  nodes_stand (k ∷ ks) inside =
      let m = some_key keys k (inside k (inl (eq-eqb k k refl))) in
      subst (λ (o : Option N). AllZip (StandsFor eq keys) (k ∷ ks) (node_and o (nodes_of keys ks))) (sym m.1) ((m.0, m.1, laws.refl m.0), nodes_stand ks (λ j h. inside j (inr h)))

  pub zip_same : (ks : List ℕ) (xs ys : List N) → AllZip (StandsFor eq keys) ks xs → SameNodes eq xs ys → AllZip (StandsFor eq keys) ks ys
  zip_same [] [] [] z s = tt
  zip_same [] [] (y ∷ ys) z s = absurd s
  zip_same [] (x ∷ xs) ys z s = absurd z
  zip_same (k ∷ ks) [] ys z s = absurd z
  zip_same (k ∷ ks) (x ∷ xs) [] z s = absurd s
  zip_same (k ∷ ks) (x ∷ xs) (y ∷ ys) z s = (StandsFor-same eq laws keys k x y z.0 s.0, zip_same ks xs ys z.1 s.1)

  pub Same-sym : (xs ys : List N) → SameNodes eq xs ys → SameNodes eq ys xs
  Same-sym [] [] s = tt
  Same-sym [] (y ∷ ys) s = absurd s
  Same-sym (x ∷ xs) [] s = absurd s
  Same-sym (x ∷ xs) (y ∷ ys) s = (eq-sym eq laws x y s.0, Same-sym xs ys s.1)

  zip_snoc : (ks : List ℕ) (xs : List N) (k : ℕ) (x : N) → AllZip (StandsFor eq keys) ks xs → StandsFor eq keys k x → AllZip (StandsFor eq keys) (ks ++ k ∷ []) (xs ++ x ∷ [])
  zip_snoc ks xs k x z s = AllZip-append (StandsFor eq keys) ks xs k x z s

  pub zip_reverse : (ks : List ℕ) (xs : List N) → AllZip (StandsFor eq keys) ks xs → AllZip (StandsFor eq keys) (reverse ks) (reverse xs)
  zip_reverse [] [] z = tt
  zip_reverse [] (x ∷ xs) z = absurd z
  zip_reverse (k ∷ ks) [] z = absurd z
  zip_reverse (k ∷ ks) (x ∷ xs) z = rw (reverse-cons k ks, reverse-cons x xs) (zip_snoc (reverse ks) (reverse xs) k x (zip_reverse ks xs z.1) z.0)

  -- clones of the nodes of a way, in reverse
  pub way_nodes : (way : List ℕ) (path : List N) → ((j : ℕ) → HasNode nat_eq way j → j < length keys) → AllZip (StandsFor eq keys) way path → SameNodes eq (reverse path) (nodes_of keys (reverse way))
  way_nodes way path inside z = same_of eq laws keys (reverse way) (reverse path) (nodes_of keys (reverse way)) (zip_reverse way path z) (nodes_stand (reverse way) (λ j h. inside j (HasNode-reverse way j h)))

module _ {N : Type 0} (eq : N → N → Bool) (laws : IsEquivalence eq) (keys : List N) (one : (i j : ℕ) (x : N) → StandsFor eq keys i x → StandsFor eq keys j x → i ≡ j) where
  numbers_same : (ks js : List ℕ) (xs : List N) → AllZip (StandsFor eq keys) ks xs → AllZip (StandsFor eq keys) js xs → ks ≡ js
  numbers_same [] [] xs a b = refl
  numbers_same [] (j ∷ js) [] a b = absurd b
  numbers_same [] (j ∷ js) (x ∷ xs) a b = absurd a
  numbers_same (k ∷ ks) [] [] a b = absurd a
  numbers_same (k ∷ ks) [] (x ∷ xs) a b = absurd b
  numbers_same (k ∷ ks) (j ∷ js) [] a b = absurd a
  numbers_same (k ∷ ks) (j ∷ js) (x ∷ xs) a b = let e : k ≡ j = one k j x a.0 b.0 in let r : ks ≡ js = numbers_same ks js xs a.1 b.1 in cc

  zip_end : (w : List ℕ) (xs : List N) (k : ℕ) (x : N) → StandsFor eq keys k x → AllZip (StandsFor eq keys) w xs → StandsFor eq keys (end_of k w) (end_of x xs)
  zip_end [] [] k x s z = s
  zip_end [] (y ∷ ys) k x s z = absurd z
  zip_end (j ∷ w) [] k x s z = absurd z
  zip_end (j ∷ w) (y ∷ ys) k x s z = zip_end w ys j y z.0 z.1

  same_stands : (k : ℕ) (x y : N) → StandsFor eq keys k x → StandsFor eq keys k y → eq x y ≡ true
  same_stands k x y a b =
      let e : Some a.0 ≡ Some b.0 = sym a.1 ∙ b.1 in
      let same : a.0 ≡ b.0 = cc in
      eq-trans eq laws x a.0 y (eq-sym eq laws a.0 x a.2) (subst (λ (z : N). eq z y ≡ true) (sym same) b.2)

  node_of : (ks : List ℕ) (xs : List N) (k : ℕ) (x : N) → AllZip (StandsFor eq keys) ks xs → HasNode nat_eq ks k → StandsFor eq keys k x → HasNode eq xs x
  node_of [] [] k x z h s = absurd h
  node_of [] (y ∷ ys) k x z h s = absurd z
  node_of (j ∷ ks) [] k x z h s = absurd z
  node_of (j ∷ ks) (y ∷ ys) k x z (inl e) s = inl (same_stands k y x (subst (λ (n : ℕ). StandsFor eq keys n y) (eqb-true j k e) z.0) s)
  node_of (j ∷ ks) (y ∷ ys) k x z (inr h) s = inr (node_of ks ys k x z.1 h s)

  distinct_numbers : (ks : List ℕ) (xs : List N) → AllZip (StandsFor eq keys) ks xs → NoRepeats eq xs → NoRepeats nat_eq ks
  distinct_numbers [] [] z d = tt
  distinct_numbers [] (x ∷ xs) z d = absurd z
  distinct_numbers (k ∷ ks) [] z d = absurd z
  distinct_numbers (k ∷ ks) (x ∷ xs) z d = ((λ h. d.0 (node_of ks xs k x z.1 h z.0)), distinct_numbers ks xs z.1 d.1)

module _ {N : Type 0} (eq : N → N → Bool) (laws : IsEquivalence eq) (start : N) (edges : N → List (N × ℤ)) (test : N → Bool)
    (alike : (x y : N) → InReach eq edges (start ∷ []) x → eq x y ≡ true → ListsEdges eq (λ z. z) (edges x) (edges y)) (costs : HasNoNegativeCost eq edges (start ∷ [])) where
  abbrev graph : NodeGraph N
  graph = record { starts = start ∷ []; edges = edges }

  -- ---- the first node that passes, on a walk to one
  pub record Cut (a : N) (w : List N) (u : ℤ) : Type 0 where
    pub front : List N
    pub back : List N
    pub is : w ≡ front ++ back
    pub cost : ℤ
    pub goes : GoesAlong (IsStep eq graph) a front cost
    pub ends : test (end_of a front) ≡ true
    pub fails : FailsUpToEnd test a front
    pub low : cost ≤ℤ u

  positive : IsNonNegative (IsStep eq graph)
  positive = no_negative eq laws graph alike costs

  cut_walk : (w : List N) (a : N) (u : ℤ) → GoesAlong (IsStep eq graph) a w u → test (end_of a w) ≡ true → Cut a w u
  cut_walk [] a u goes good = record { front = []; back = []; is = refl; cost = pos 0; goes = refl; ends = good; fails = tt; low = omega (arith, ints, goes) }
  cut_walk (b ∷ w) a u goes good = elim (bool_dec (test a)) as (λ _. Cut a (b ∷ w) u) [
    | inl t ↦ record { front = []; back = b ∷ w; is = refl; cost = pos 0; goes = refl; ends = t; fails = tt; low = walk_positive (IsStep eq graph) positive (b ∷ w) a u goes }
    | inr f ↦
        let r = cut_walk w b goes.1 goes.3 good in
        record {
          front = b ∷ r.front;
          back = r.back;
          is = ap (λ v. b ∷ v) r.is;
          cost = goes.0 +ℤ r.cost;
          goes = (goes.0, r.cost, goes.2, r.goes, refl);
          ends = r.ends;
          fails = (f, r.fails);
          low = omega (arith, ints, r.low, goes.4);
        }
  ]

  at_start : (a : N) → HasNode eq (start ∷ []) a → eq start a ≡ true
  at_start a (inl e) = e
  at_start a (inr h) = absurd h

  -- a walk that costs no more than any walk to a goal
  clean_path : (t : ℤ) → NoGoalWalkCostsLess eq edges (start ∷ []) test t → (a : N) (w : List N) (u : ℤ) → HasNode eq (start ∷ []) a → GoesAlong (IsStep eq graph) a w u → test (end_of a w) ≡ true → FailsUpToEnd test a w → NoRepeats eq (a ∷ w) → u ≤ℤ t → IsCheapestCleanPath eq edges (start ∷ []) test (a ∷ w) t
  clean_path t best a w u begins goes good fails distinct cheap =
      let m = cheap_of_goes eq laws graph alike w a u goes in
      let walk : IsGoalWalk eq (IsSuccessor eq edges) (start ∷ []) test (a ∷ w) = record { walks = walk_of_goes eq laws graph alike w a u goes; begins = begins; ends = good } in
      let c = costs_of_cheap eq laws graph alike w a m.0 m.1 in
      let low = best (a ∷ w) m.0 walk c in
      let same : m.0 ≡ t = omega (arith, ints, low, m.2, cheap) in
      record { clean = record { goes = record { goes = walk; distinct = distinct }; fails = fails }; costs = subst (λ (z : ℤ). WalkCosts eq edges (a ∷ w) z) same c; best = best }

  goes_of_path : (a : N) (w : List N) (t : ℤ) → HasNode eq (start ∷ []) a → WalkCosts eq edges (a ∷ w) t → GoesAlong (IsStep eq graph) a w t
  goes_of_path a w t begins c = goes_of_cheap eq laws graph alike w a t (cheap_of_costs eq laws graph alike w a t (InReach-start eq laws edges (start ∷ []) a a begins (laws.refl a)) c)

  -- the first part of a cheapest path is a cheapest clean path
  pub clean_prefix : (p : List N) (t : ℤ) → IsCheapestGoalPath eq edges (start ∷ []) test p t → (q : List N) × IsCheapestCleanPath eq edges (start ∷ []) test q t
  clean_prefix [] t h = absurd h.costs
  clean_prefix (a ∷ w) t h =
      let begins = h.goes.goes.begins in
      let goes = goes_of_path a w t begins h.costs in
      let c = cut_walk w a t goes h.goes.goes.ends in
      let apart : NoRepeats eq (a ∷ c.front) = NoRepeats-begin eq (a ∷ c.front) c.back (subst (λ v. NoRepeats eq (a ∷ v)) c.is h.goes.distinct) in
      (a ∷ c.front, clean_path t h.best a c.front c.cost begins c.goes c.ends c.fails apart c.low)

  module _ {C : Type 0} (value : C → ℤ) (keys0 keys : List N) (found found' : ℕ) (grow : Grows found found' (StandsFor eq keys0) (StandsFor eq keys)) (one : (i j : ℕ) (x : N) → StandsFor eq keys i x → StandsFor eq keys j x → i ≡ j)
      (labels : Labels C) (wide : length labels ≤ length keys) (t : ℤ) (found_all : IsLabelled eq value edges start test keys0 labels t) (goals : List ℕ) (before : ℕ → List ℕ) (h : IsTight value labels (IsStep eq graph) test (StandsFor eq keys) t (length labels) goals before) where
    best : NoGoalWalkCostsLess eq edges (start ∷ []) test t
    best = let p = found_all.path.1 in p.best

    begins : StandsFor eq keys 0 start
    begins = grow.stays 0 start found_all.begins

    -- ---- each way is a cheapest clean path
    pub record Along (k : ℕ) (w : List ℕ) (l : Label C) (x : N) (xs : List N) : Type 0 where
      pub cost : ℤ
      pub goes : GoesAlong (IsStep eq graph) x xs cost
      pub fails : FailsUpToEnd test x xs
      pub last : Label C
      pub at : HasLabel labels (end_of k w) last
      pub sum : value last.cost ≡ value l.cost +ℤ cost

    along : (w : List ℕ) (k : ℕ) (l : Label C) (x : N) (xs : List N) → HasLabel labels k l → Linked before k w → StandsFor eq keys k x → AllZip (StandsFor eq keys) w xs → Along k w l x xs
    along [] k l x [] at link s z = record { cost = pos 0; goes = refl; fails = tt; last = l; at = at; sum = omega (arith, ints) }
    along [] k l x (y ∷ ys) at link s z = absurd z
    along (j ∷ w) k l x [] at link s z = absurd z
    along (j ∷ w) k l x (y ∷ ys) at link s z =
        let e = h.tight j k link.0 in
        let step = e.along x s in
        let r = along w j e.next y ys e.there link.1 z.0 z.1 in
        let same = same_stands eq laws keys one j step.1.1 y step.1.3 z.0 in
        let edge = HasEdge-same eq laws (edges x) step.1.1 y step.1.0 same step.1.2.1 in
        let own = ap (λ (m : Label C). value m.cost) (label_is labels k e.label l e.at at) in
        record {
          cost = step.1.0 +ℤ r.cost;
          goes = (step.1.0, r.cost, (step.1.2.0, edge), r.goes, refl);
          fails = (step.0, r.fails);
          last = r.last;
          at = r.at;
          sum = omega (arith, ints, r.sum, step.1.4, own);
        }

    linked_inside : (w : List ℕ) (k : ℕ) (l : Label C) → HasLabel labels k l → Linked before k w → (j : ℕ) → HasNode nat_eq (k ∷ w) j → j < length labels
    linked_inside w k l at link j (inl e) = subst (λ (n : ℕ). n < length labels) (eqb-true k j e) (HasLabel-inside labels k l at)
    linked_inside [] k l at link j (inr i) = absurd i
    linked_inside (b ∷ w) k l at link j (inr i) = let e = h.tight b k link.0 in linked_inside w b e.next e.there link.1 j i

    sound_nodes : (w : List ℕ) (nodes : List N) → Linked before 0 w → NoRepeats nat_eq (0 ∷ w) → HasNode nat_eq goals (end_of 0 w) → AllZip (StandsFor eq keys) (0 ∷ w) nodes → IsCheapestCleanPath eq edges (start ∷ []) test nodes t
    sound_nodes w [] link d goal z = absurd z
    sound_nodes w (x ∷ xs) link d goal z =
        let f = found_all.first in
        let r = along w 0 f.0 x xs f.1 link z.0 z.1 in
        let g = h.goal (end_of 0 w) goal in
        let same = ap (λ (m : Label C). value m.cost) (label_is labels (end_of 0 w) r.last g.0 r.at g.1) in
        clean_path t best x xs r.cost (inl (same_stands eq laws keys one 0 start x begins z.0)) r.goes (g.3 (end_of x xs) (zip_end eq laws keys one w xs 0 x z.0 z.1)) r.fails (distinct_nodes eq laws keys one (0 ∷ w) (x ∷ xs) z d) (omega (arith, ints, r.sum, f.2, same, g.2))

    pub record IsWay (ks : List ℕ) : Type 0 where
      pub rest : List ℕ
      pub is : ks ≡ 0 ∷ rest
      pub link : Linked before 0 rest
      pub distinct : NoRepeats nat_eq (0 ∷ rest)
      pub goal : HasNode nat_eq goals (end_of 0 rest)
      pub inside : (j : ℕ) → HasNode nat_eq ks j → j < length keys

    listed_way : (ks : List ℕ) → Contains (each_of (ways before (length labels) []) goals) ks → IsWay ks
    listed_way ks c =
        let g = each_of_in (ways before (length labels) []) goals ks c in
        let r = ways_sound before (length labels) [] g.0 ks tt tt g.2 in
        let f = found_all.first in
        record {
          rest = r.0;
          is = r.1;
          link = r.2;
          distinct = r.3;
          goal = subst (HasNode nat_eq goals) (sym r.4) (HasNode_of goals g.0 g.1);
          inside = λ j i. omega (arith, wide, linked_inside r.0 0 f.0 f.1 r.2 j (subst (λ ys. HasNode nat_eq ys j) r.1 i));
        }

    -- ---- each cheapest clean path is a way
    pub record Numbers (k : ℕ) (w : List N) (s : ℤ) : Type 0 where
      pub numbers : List ℕ
      pub stand : AllZip (StandsFor eq keys) numbers w
      pub link : Linked before k numbers
      pub last : Label C
      pub at : HasLabel labels (end_of k numbers) last
      pub sum : value last.cost ≡ s

    numbered : (w p : List N) (x : N) (u r : ℤ) (k : ℕ) (l : Label C) → GoesAlong (IsStep eq graph) start p u → end_of start p ≡ x → GoesAlong (IsStep eq graph) x w r → test (end_of x w) ≡ true → FailsUpToEnd test x w → (u +ℤ r) ≤ℤ t
        → HasLabel labels k l → StandsFor eq keys k x → value l.cost ≡ u → Numbers k w (u +ℤ r)
    numbered [] p x u r k l goes here on good fails cheap at s is = record { numbers = []; stand = tt; link = tt; last = l; at = at; sum = omega (arith, ints, is, on) }
    numbered (b ∷ w) p x u r k l goes here on good fails cheap at s is =
        let z = on.0 in
        let up_to = goes_more (IsStep eq graph) p start b u z goes (subst (λ (y : N). IsStep eq graph y z b) (sym here) on.2) in
        let there : end_of start (p ++ b ∷ []) ≡ b = end_more p start b in
        let rest : GoesAlong (IsStep eq graph) (end_of start (p ++ b ∷ [])) w on.1 = subst (λ (y : N). GoesAlong (IsStep eq graph) y w on.1) (sym there) on.3 in
        let ends : test (end_of (end_of start (p ++ b ∷ [])) w) ≡ true = subst (λ (y : N). test (end_of y w) ≡ true) (sym there) good in
        let q = found_all.exact (p ++ b ∷ []) w (u +ℤ z) on.1 up_to rest ends (omega (arith, ints, cheap, on.4)) in
        let j = q.0 in
        let stand : StandsFor eq keys j b = grow.stays j b (subst (StandsFor eq keys0 j) there q.3) in
        let low = walk_positive (IsStep eq graph) positive (b ∷ w) x r on in
        let link = h.every k j l q.1 x b z (HasLabel-inside labels k l at) at (omega (arith, ints, is, low, cheap)) s fails.0 on.2 stand q.2 (omega (arith, ints, q.4, is)) in
        let n = numbered w (p ++ b ∷ []) b (u +ℤ z) on.1 j q.1 up_to there on.3 good fails.1 (omega (arith, ints, cheap, on.4)) q.2 stand q.4 in
        record { numbers = j ∷ n.numbers; stand = (stand, n.stand); link = (link, n.link); last = n.last; at = n.at; sum = omega (arith, ints, n.sum, on.4) }

    complete_way : (nodes : List N) → IsCheapestCleanPath eq edges (start ∷ []) test nodes t → (ks : List ℕ) × Contains (each_of (ways before (length labels) []) goals) ks × AllZip (StandsFor eq keys) ks nodes
    complete_way [] c = absurd c.costs
    complete_way (a ∷ w) c =
        let path = c.clean in
        let walk = path.goes.goes in
        let goes = goes_of_path a w t walk.begins c.costs in
        let f = found_all.first in
        let here : StandsFor eq keys 0 a = StandsFor-same eq laws keys 0 start a begins (at_start a walk.begins) in
        let n = first_step w a walk.begins goes walk.ends path.fails f.0 f.1 f.2 here in
        let zip : AllZip (StandsFor eq keys) (0 ∷ n.numbers) (a ∷ w) = (here, n.stand) in
        let goal = h.every_goal (end_of 0 n.numbers) n.last (end_of a w) (HasLabel-inside labels (end_of 0 n.numbers) n.last n.at) n.at (omega (arith, ints, n.sum)) (zip_end eq laws keys one n.numbers w 0 a here n.stand) walk.ends in
        (0 ∷ n.numbers, all_complete before (length labels) goals n.numbers n.link (distinct_numbers eq laws keys one (0 ∷ n.numbers) (a ∷ w) zip path.goes.distinct) (linked_inside n.numbers 0 f.0 f.1 n.link) goal, zip)
      where
        -- the first node may be another than the start, which is the same
        first_step : (w : List N) (a : N) → HasNode eq (start ∷ []) a → GoesAlong (IsStep eq graph) a w t → test (end_of a w) ≡ true → FailsUpToEnd test a w → (l : Label C) → HasLabel labels 0 l → value l.cost ≡ pos 0 → StandsFor eq keys 0 a → Numbers 0 w t
        first_step [] a begins goes good fails l at is s = record { numbers = []; stand = tt; link = tt; last = l; at = at; sum = omega (arith, ints, is, goes) }
        first_step (b ∷ w) a begins goes good fails l at is s =
            let same = eq-sym eq laws start a (at_start a begins) in
            let z = goes.0 in
            let edge = goes.2 in
            let first : IsStep eq graph start z b = (InReach-same eq laws edges (start ∷ []) a start edge.0 same, edge_of_same eq laws edges (start ∷ []) alike a start b z edge.0 same edge.1) in
            let up_to : GoesAlong (IsStep eq graph) start (b ∷ []) z = (z, pos 0, first, refl, omega (arith, ints)) in
            let q = found_all.exact (b ∷ []) w z goes.1 up_to goes.3 good (omega (arith, ints, goes.4)) in
            let j = q.0 in
            let stand : StandsFor eq keys j b = grow.stays j b q.3 in
            let low = walk_positive (IsStep eq graph) positive (b ∷ w) a t goes in
            let link = h.every 0 j l q.1 a b z (HasLabel-inside labels 0 l at) at (omega (arith, ints, is, low)) s fails.0 edge stand q.2 (omega (arith, ints, q.4, is)) in
            let n = numbered w (b ∷ []) b z goes.1 j q.1 up_to refl goes.3 good fails.1 (omega (arith, ints, goes.4)) q.2 stand q.4 in
            record { numbers = j ∷ n.numbers; stand = (stand, n.stand); link = (link, n.link); last = n.last; at = n.at; sum = omega (arith, ints, n.sum, goes.4) }

    -- ---- all of them, each once
    stand_for : (ks : List ℕ) → IsWay ks → AllZip (StandsFor eq keys) ks (nodes_of keys ks)
    stand_for ks v = nodes_stand eq laws keys ks v.inside

    pub all_paths : AreCheapestCleanPaths eq edges (start ∷ []) test (paths_of keys (each_of (ways before (length labels) []) goals)) t
    all_paths =
        let listed = each_of (ways before (length labels) []) goals in
        record {
          some = let p = clean_prefix found_all.path.0 t found_all.path.1 in let q = complete_way p.0 p.1 in (nodes_of keys q.0, map_in (nodes_of keys) listed q.0 q.1);
          sound = λ path nodes c s.
              let m = in_map (nodes_of keys) listed path c in
              let v = listed_way m.0 m.1 in
              let zip = subst (λ xs. AllZip (StandsFor eq keys) m.0 xs) m.2 (stand_for m.0 v) in
              sound_nodes v.rest nodes v.link v.distinct v.goal (subst (λ ks. AllZip (StandsFor eq keys) ks nodes) v.is (zip_same eq laws keys m.0 path nodes zip (Same-sym eq laws keys nodes path s)));
          complete = λ nodes c.
              let q = complete_way nodes c in
              (nodes_of keys q.0, map_in (nodes_of keys) listed q.0 q.1, same_of eq laws keys q.0 nodes (nodes_of keys q.0) q.2 (stand_for q.0 (listed_way q.0 q.1)));
          once = λ i j path path' a b s.
              let m = get_map (nodes_of keys) listed i path a in
              let n = get_map (nodes_of keys) listed j path' b in
              let zm = subst (λ xs. AllZip (StandsFor eq keys) m.0 xs) m.2 (stand_for m.0 (listed_way m.0 (get_in listed i m.0 m.1))) in
              let zn = subst (λ xs. AllZip (StandsFor eq keys) n.0 xs) n.2 (stand_for n.0 (listed_way n.0 (get_in listed j n.0 n.1))) in
              let same = numbers_same eq laws keys one m.0 n.0 path' (zip_same eq laws keys m.0 path path' zm s) zn in
              once_index listed (all_once before h.once (length labels) goals h.goals_once) i j m.0 m.1 (subst (λ ks. slice_get listed j ≡ Some ks) (sym same) n.1);
        }
