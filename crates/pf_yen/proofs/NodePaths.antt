-- From clean paths over numbers to clean paths over nodes, and back.
use Rattle.std.proofs.Common.{◌≡◌, ℕ, suc, ◌<◌, ◌≤◌, ◌∙◌, refl, sym, ap, subst, arith, inl, inr, Bool, true, false, true≢false, not, List, [], ◌∷◌, ◌++◌, length, ℤ, pos, nat_eq, eq-eqb, Some}
use Rattle.std.specs.Prelude.{◌⊎◌, ◌↔◌, ◌≤ℤ◌, ◌+ℤ◌, All, Contains}
use Rattle.std.specs.List.{AllZip}
use Rattle.std.specs.Cmp.{IsEquivalence}
use borrow.Author.Tests.{eqb-true}
use Rattle.std.proofs.lemmas.Int.{ints}
use Rattle.std.proofs.lemmas.List.Elements.{All-nil, All-cons}
use Rattle.pf_base.specs.Walks.{HasNode, NoRepeats, BeginsAt, EndsAt, end_of}
use Rattle.pf_base.specs.Edges.{StepCosts, StepsCost, WalkCosts, InReach, CostOverflows}
use Rattle.pf_base.specs.Answers.{ListsEdges, SameNodes}
use Rattle.pf_core.specs.Numbered.{ListsSteps}
use Rattle.pf_core.specs.Steps.{GoesAlong, IsNonNegative}
use Rattle.pf_base.proofs.ListLemmas.{bool_dec, Contains-head, Contains-tail, Contains-cases, AllZip-append}
use Rattle.pf_core.proofs.FrontierLemmas.{walk_positive}
use Rattle.pf_core.specs.Nodes.{NodeGraph, StandsFor, IsStep}
use Rattle.pf_core.specs.NodeLaws.{StandsFor-inside}
use Rattle.pf_core.proofs.NodeLemmas.{eq-sym, eq-trans, StandsFor-same, HasEdge-same, InReach-start, InReach-more}
use Rattle.pf_core.proofs.WalkLemmas.{cheapest_edge, goes_of_walk, walk_of_goes, distinct_nodes}
use Rattle.pf_yen.specs.Internal.Adjacency.{AdjacencyLists, is_goal, row_of, AdjacencyStep}
use Rattle.pf_yen.specs.Internal.Learned.{LiveStep, IsLearned}
use Rattle.pf_yen.specs.Internal.Classes.{Plan, is_member, goes_on_to, IsCleanNumbers, is_in}
use Rattle.pf_yen.specs.Internal.Splits.{IsPastAlong, ClassOverflows}
use Rattle.pf_yen.specs.CleanPaths.{FailsBeforeEnd, GoesOnTo, LeavesGiven, IsCleanPath, PathOverflows, BranchOverflows}
use Rattle.pf_yen.proofs.FilteredLemmas.{in_none}
use Rattle.pf_yen.proofs.FilteredWalks.{not_true}
use Rattle.pf_yen.proofs.ClassLemmas.{both_true, and_left, and_right, same_is_true, any_goes_on, goes_on}

-- lists that go together, where the first one is cut
zip_split : {A B : Type 0} (R : A → B → Type 0) (xs ys : List A) (zs : List B) → AllZip R (xs ++ ys) zs → (p : List B) × (q : List B) × (zs ≡ p ++ q) × AllZip R xs p × AllZip R ys q
zip_split R [] ys zs h = ([], zs, refl, tt, h)
zip_split R (x ∷ xs) ys [] h = absurd h
zip_split R (x ∷ xs) ys (z ∷ zs) h = let k = zip_split R xs ys zs h.1 in (z ∷ k.0, k.1, ap (λ (v : List _). z ∷ v) k.2, (h.0, k.3), k.4)

zip_last : {A B : Type 0} (R : A → B → Type 0) (xs : List A) (x : A) (zs : List B) → AllZip R (xs ++ x ∷ []) zs → (p : List B) × (z : B) × (zs ≡ p ++ z ∷ []) × R x z
zip_last R xs x zs h = let k = zip_split R xs (x ∷ []) zs h in at k.0 k.1 k.2 k.4
  where
    at : (p q : List _) → zs ≡ p ++ q → AllZip R (x ∷ []) q → (p : List _) × (z : _) × (zs ≡ p ++ z ∷ []) × R x z
    at p [] e k = absurd k
    at p (z ∷ []) e k = (p, z, e, k.0)
    at p (z ∷ y ∷ q) e k = absurd k.1

pub zip_length : {A B : Type 0} (R : A → B → Type 0) (xs : List A) (ys : List B) → AllZip R xs ys → length xs ≡ length ys
zip_length R [] [] z = refl
zip_length R [] (b ∷ ys) z = absurd z
zip_length R (a ∷ xs) [] z = absurd z
zip_length R (a ∷ xs) (b ∷ ys) z = ap suc (zip_length R xs ys z.1)

pub zip_find : {A B : Type 0} (R : A → B → Type 0) (xs : List A) (ys : List B) (y : B) → AllZip R xs ys → Contains ys y → (x : A) × Contains xs x × R x y
zip_find R [] [] y z c = absurd (in_none y c)
zip_find R [] (b ∷ ys) y z c = absurd z
zip_find R (a ∷ xs) [] y z c = absurd z
zip_find R (a ∷ xs) (b ∷ ys) y z c = elim (Contains-cases ys b y c) as (λ _. (x : _) × Contains (a ∷ xs) x × R x y) [
  | inl e ↦ (a, Contains-head xs a, subst (λ (v : _). R a v) e z.0)
  | inr q ↦ let r = zip_find R xs ys y z.1 q in (r.0, Contains-tail xs a r.0 r.1, r.2)
]

pub zip_found : {A B : Type 0} (R : A → B → Type 0) (xs : List A) (ys : List B) (x : A) → AllZip R xs ys → Contains xs x → (y : B) × Contains ys y × R x y
zip_found R [] ys x z c = absurd (in_none x c)
zip_found R (a ∷ xs) [] x z c = absurd z
zip_found R (a ∷ xs) (b ∷ ys) x z c = elim (Contains-cases xs a x c) as (λ _. (y : _) × Contains (b ∷ ys) y × R x y) [
  | inl e ↦ (b, Contains-head ys b, subst (λ (v : _). R v b) e z.0)
  | inr q ↦ let r = zip_found R xs ys x z.1 q in (r.0, Contains-tail ys b r.0 r.1, r.2)
]

-- a path that goes on to a number that is not banned is in the class
open_member : (q banned : List ℕ) (y : ℕ) (p : List ℕ) → goes_on_to q y p ≡ true → is_in banned y ≡ false → is_member q banned p ≡ true
open_member [] banned y [] h f = absurd (true≢false (sym h))
open_member [] banned y (x ∷ p) h f = let e = eqb-true y x (and_left (nat_eq y x) (is_member [] [] p) h) in subst (λ (n : ℕ). not (is_in banned n) ≡ true) e (ap not f)
open_member (i ∷ q) banned y [] h f = absurd (true≢false (sym h))
open_member (i ∷ q) banned y (x ∷ p) h f = both_true (nat_eq i x) (is_member q banned p) (and_left (nat_eq i x) (is_member (q ++ y ∷ []) [] p) h) (open_member q banned y p (and_right (nat_eq i x) (is_member (q ++ y ∷ []) [] p) h) f)

-- to what a path of the class goes on, where one number more stands behind it
onward_of : (q banned p : List ℕ) (n : ℕ) → is_member q [] p ≡ true → is_member q banned (p ++ n ∷ []) ≡ true → (y : ℕ) × (goes_on_to q y (p ++ n ∷ []) ≡ true) × (is_in banned y ≡ false)
onward_of [] banned [] n h k = (n, both_true (nat_eq n n) true (same_is_true n) refl, not_true (is_in banned n) k)
onward_of [] banned (x ∷ p) n h k = (x, both_true (nat_eq x x) (is_member [] [] (p ++ n ∷ [])) (same_is_true x) (any_goes_on (p ++ n ∷ [])), not_true (is_in banned x) k)
onward_of (i ∷ q) banned [] n h k = absurd (true≢false (sym h))
onward_of (i ∷ q) banned (x ∷ p) n h k =
    let r = onward_of q banned p n (and_right (nat_eq i x) (is_member q [] p) h) (and_right (nat_eq i x) (is_member q banned (p ++ n ∷ [])) k) in
    (r.0, both_true (nat_eq i x) (is_member (q ++ r.0 ∷ []) [] (p ++ n ∷ [])) (and_left (nat_eq i x) (is_member q [] p) h) r.1, r.2)

module _ {N : Type 0} (eq : N → N → Bool) (laws : IsEquivalence eq) (keys : List N) (one : (i j : ℕ) (x : N) → StandsFor eq keys i x → StandsFor eq keys j x → i ≡ j) where
  abbrev stands : ℕ → N → Type 0
  stands = StandsFor eq keys

  -- nodes that one number stands for are the same
  pub same_node : (k : ℕ) (x y : N) → StandsFor eq keys k x → StandsFor eq keys k y → eq x y ≡ true
  same_node k x y a b =
      let e : Some a.0 ≡ Some b.0 = sym a.1 ∙ b.1 in
      let f : a.0 ≡ b.0 = cc in
      eq-trans eq laws x a.0 y (eq-sym eq laws a.0 x a.2) (subst (λ m. eq m y ≡ true) (sym f) b.2)

  -- equal nodes have one number
  pub same_number : (i j : ℕ) (x y : N) → StandsFor eq keys i x → StandsFor eq keys j y → eq x y ≡ true → i ≡ j
  same_number i j x y a b e = one i j y (a.0, a.1, eq-trans eq laws a.0 x y a.2 e) b

  -- paths of the same nodes have the same numbers
  pub same_numbers : (ks js : List ℕ) (xs ys : List N) → AllZip (StandsFor eq keys) ks xs → AllZip (StandsFor eq keys) js ys → SameNodes eq xs ys → ks ≡ js
  same_numbers [] [] [] [] a b s = refl
  same_numbers [] [] [] (y ∷ ys) a b s = absurd s
  same_numbers [] [] (x ∷ xs) ys a b s = absurd a
  same_numbers [] (j ∷ js) [] [] a b s = absurd b
  same_numbers [] (j ∷ js) [] (y ∷ ys) a b s = absurd s
  same_numbers [] (j ∷ js) (x ∷ xs) ys a b s = absurd a
  same_numbers (k ∷ ks) js [] ys a b s = absurd a
  same_numbers (k ∷ ks) [] (x ∷ xs) [] a b s = absurd s
  same_numbers (k ∷ ks) [] (x ∷ xs) (y ∷ ys) a b s = absurd b
  same_numbers (k ∷ ks) (j ∷ js) (x ∷ xs) [] a b s = absurd s
  same_numbers (k ∷ ks) (j ∷ js) (x ∷ xs) (y ∷ ys) a b s = subst (λ (n : ℕ). k ∷ ks ≡ n ∷ js) (same_number k j x y a.0 b.0 s.0) (ap (λ (v : List ℕ). k ∷ v) (same_numbers ks js xs ys a.1 b.1 s.1))

  -- distinct nodes have distinct numbers
  node_of_number : (ks : List ℕ) (ys : List N) (k : ℕ) (x : N) → AllZip (StandsFor eq keys) ks ys → HasNode nat_eq ks k → StandsFor eq keys k x → HasNode eq ys x
  node_of_number [] ys k x a h s = absurd h
  node_of_number (j ∷ ks) [] k x a h s = absurd a
  node_of_number (j ∷ ks) (y ∷ ys) k x a (inl e) s = inl (same_node k y x (subst (λ (n : ℕ). StandsFor eq keys n y) (eqb-true j k e) a.0) s)
  node_of_number (j ∷ ks) (y ∷ ys) k x a (inr h) s = inr (node_of_number ks ys k x a.1 h s)

  distinct_numbers : (ks : List ℕ) (ys : List N) → AllZip (StandsFor eq keys) ks ys → NoRepeats eq ys → NoRepeats nat_eq ks
  distinct_numbers [] ys a n = tt
  distinct_numbers (k ∷ ks) [] a n = absurd a
  distinct_numbers (k ∷ ks) (y ∷ ys) a n = ((λ h. n.0 (node_of_number ks ys k y a.1 h a.0)), distinct_numbers ks ys a.1 n.1)

  -- to a node equal to one that a path goes on to it goes on too
  goes_same : (P path : List N) (x y : N) → eq x y ≡ true → GoesOnTo eq P path x → GoesOnTo eq P path y
  goes_same [] [] x y e h = h
  goes_same [] (z ∷ w) x y e h = eq-trans eq laws z x y h e
  goes_same (a ∷ P) [] x y e h = h
  goes_same (a ∷ P) (z ∷ w) x y e h = (h.0, goes_same P w x y e h.1)

  -- where numbers go on, so do their nodes
  to_node : (q : List ℕ) (P : List N) (p : List ℕ) (path : List N) (y : ℕ) → AllZip (StandsFor eq keys) q P → AllZip (StandsFor eq keys) p path → goes_on_to q y p ≡ true → (x : N) × StandsFor eq keys y x × GoesOnTo eq P path x
  to_node [] [] [] path y a b h = absurd (true≢false (sym h))
  to_node [] [] (j ∷ p) [] y a b h = absurd b
  to_node [] [] (j ∷ p) (z ∷ w) y a b h = (z, subst (λ (n : ℕ). StandsFor eq keys n z) (sym (eqb-true y j (and_left (nat_eq y j) (is_member [] [] p) h))) b.0, laws.refl z)
  to_node [] (v ∷ P) p path y a b h = absurd a
  to_node (i ∷ q) [] p path y a b h = absurd a
  to_node (i ∷ q) (v ∷ P) [] path y a b h = absurd (true≢false (sym h))
  to_node (i ∷ q) (v ∷ P) (j ∷ p) [] y a b h = absurd b
  to_node (i ∷ q) (v ∷ P) (j ∷ p) (z ∷ w) y a b h =
      let e = eqb-true i j (and_left (nat_eq i j) (is_member (q ++ y ∷ []) [] p) h) in
      let r = to_node q P p w y a.1 b.1 (and_right (nat_eq i j) (is_member (q ++ y ∷ []) [] p) h) in
      (r.0, r.1, (same_node j v z (subst (λ (n : ℕ). StandsFor eq keys n v) e a.0) b.0, r.2))

  to_this_node : (q : List ℕ) (P : List N) (p : List ℕ) (path : List N) (y : ℕ) (x : N) → AllZip (StandsFor eq keys) q P → AllZip (StandsFor eq keys) p path → StandsFor eq keys y x → goes_on_to q y p ≡ true → GoesOnTo eq P path x
  to_this_node q P p path y x a b s h = let r = to_node q P p path y a b h in goes_same P path r.0 x (same_node y r.0 x r.1 s) r.2

  -- and where nodes go on, so do their numbers
  to_number : (q : List ℕ) (P : List N) (p : List ℕ) (path : List N) (x : N) → AllZip (StandsFor eq keys) q P → AllZip (StandsFor eq keys) p path → GoesOnTo eq P path x → (y : ℕ) × StandsFor eq keys y x × (goes_on_to q y p ≡ true)
  to_number [] [] [] [] x a b h = absurd h
  to_number [] [] [] (z ∷ w) x a b h = absurd b
  to_number [] [] (j ∷ p) [] x a b h = absurd b
  to_number [] [] (j ∷ p) (z ∷ w) x a b h = (j, StandsFor-same eq laws keys j z x b.0 h, both_true (nat_eq j j) (is_member [] [] p) (same_is_true j) (any_goes_on p))
  to_number [] (v ∷ P) p path x a b h = absurd a
  to_number (i ∷ q) [] p path x a b h = absurd a
  to_number (i ∷ q) (v ∷ P) [] [] x a b h = absurd h
  to_number (i ∷ q) (v ∷ P) [] (z ∷ w) x a b h = absurd b
  to_number (i ∷ q) (v ∷ P) (j ∷ p) [] x a b h = absurd b
  to_number (i ∷ q) (v ∷ P) (j ∷ p) (z ∷ w) x a b h =
      let e = same_number i j v z a.0 b.0 h.0 in
      let r = to_number q P p w x a.1 b.1 h.1 in
      (r.0, r.1, both_true (nat_eq i j) (is_member (q ++ r.0 ∷ []) [] p) (eq-eqb i j e) r.2)

  ends_stand : (v : List ℕ) (w : List N) (a : ℕ) (x : N) → StandsFor eq keys a x → AllZip (StandsFor eq keys) v w → StandsFor eq keys (end_of a v) (end_of x w)
  ends_stand [] [] a x s z = s
  ends_stand [] (y ∷ w) a x s z = absurd z
  ends_stand (b ∷ v) [] a x s z = absurd z
  ends_stand (b ∷ v) (y ∷ w) a x s z = ends_stand v w b y z.0 z.1

  module _ (edges : N → List (N × ℤ)) (start : N) (test : N → Bool) (alike : (x y : N) → InReach eq edges (start ∷ []) x → eq x y ≡ true → ListsEdges eq (λ z. z) (edges x) (edges y)) (begins : (x : N) → StandsFor eq keys 0 x ↔ (eq start x ≡ true)) where
    abbrev graph : NodeGraph N
    graph = record { starts = start ∷ []; edges = edges }

    abbrev Step : N → ℤ → N → Type 0
    Step = IsStep eq graph

    module _ {C : Type 0} (value : C → ℤ) where
      abbrev Live : N → ℤ → N → Type 0
      Live = LiveStep value Step test

      goes_of_live : (w : List N) (x : N) (u : ℤ) → GoesAlong Live x w u → GoesAlong Step x w u
      goes_of_live [] x u h = h
      goes_of_live (y ∷ w) x u h = (h.0, h.1, h.2.0, goes_of_live w y h.1 h.3, h.4)

      fails_of_live : (w : List N) (x : N) (u : ℤ) → GoesAlong Live x w u → FailsBeforeEnd test x w
      fails_of_live [] x u h = tt
      fails_of_live (y ∷ w) x u h = (h.2.1, fails_of_live w y h.1 h.3)

      live_of_goes : (w : List N) (x : N) (u : ℤ) → FailsBeforeEnd test x w → GoesAlong Step x w u → GoesAlong Live x w u
      live_of_goes [] x u f h = h
      live_of_goes (y ∷ w) x u f h = (h.0, h.1, (h.2, f.0), live_of_goes w y h.1 f.1 h.3, h.4)

      -- where the nodes before the end fail the test, and the end does, each does
      all_fail : (w : List N) (x : N) → FailsBeforeEnd test x w → test (end_of x w) ≡ false → All (λ z. test z ≡ false) (x ∷ w)
      all_fail [] x f e = All-cons (λ z. test z ≡ false) x [] e (All-nil (λ z. test z ≡ false))
      all_fail (y ∷ w) x f e = All-cons (λ z. test z ≡ false) x (y ∷ w) f.0 (all_fail w y f.1 e)

      goes_of_costs : (w : List N) (a : N) (u : ℤ) → InReach eq edges (start ∷ []) a → StepsCost eq edges a w u → GoesAlong Step a w u
      goes_of_costs [] a u r h = h
      goes_of_costs (b ∷ w) a u r h = let s = h.2 in (h.0, h.1, (r, s.edge), goes_of_costs w b h.1 (InReach-more eq laws edges (start ∷ []) alike a b h.0 r s.edge) h.3, h.4)

      costs_of_goes : (w : List N) (a : N) (u : ℤ) → GoesAlong Step a w u → (m : ℤ) × StepsCost eq edges a w m × (m ≤ℤ u) × GoesAlong Step a w m
      costs_of_goes [] a u h = (pos 0, refl, omega (arith, ints, h), refl)
      costs_of_goes (b ∷ w) a u h =
          let c = cheapest_edge eq laws edges a b h.0 h.2.1 in
          let s = c.1 in
          let q = costs_of_goes w b h.1 h.3 in
          let low = s.cheapest h.0 h.2.1 in
          (c.0 +ℤ q.0, (c.0, q.0, s, q.1, refl), omega (arith, ints, low, q.2, h.4), (c.0, q.0, (h.2.0, s.edge), q.3, refl))

      module _ (k : AdjacencyLists C) (learned : IsLearned value (IsStep eq (record { starts = start ∷ []; edges = edges })) test (StandsFor eq keys) (length keys) k) (all : length keys ≤ length k.rows) where
        listed_at : (a : ℕ) (x : N) → StandsFor eq keys a x → a < length k.rows
        listed_at a x s = let i = StandsFor-inside eq keys a x s in omega (arith, i, all)

        numbers_of : (w : List N) (x : N) (a : ℕ) (u : ℤ) → StandsFor eq keys a x → GoesAlong Live x w u → (v : List ℕ) × AllZip (StandsFor eq keys) v w × GoesAlong (AdjacencyStep value k) a v u
        numbers_of [] x a u s h = ([], tt, h)
        numbers_of (y ∷ w) x a u s h =
            let l = learned.rows a x (listed_at a x s) s in
            let n = l.numbered h.0 y h.2 in
            let c = l.complete h.0 y n.0 h.2 n.1 in
            let r = numbers_of w y n.0 h.1 n.1 h.3 in
            (n.0 ∷ r.0, (n.1, r.1), (h.0, h.1, c, r.2, h.4))

        along_numbers : (v : List ℕ) (w : List N) (x : N) (a : ℕ) (u : ℤ) → StandsFor eq keys a x → AllZip (StandsFor eq keys) v w → GoesAlong Live x w u → GoesAlong (AdjacencyStep value k) a v u
        along_numbers [] [] x a u s z h = h
        along_numbers [] (y ∷ w) x a u s z h = absurd z
        along_numbers (b ∷ v) [] x a u s z h = absurd z
        along_numbers (b ∷ v) (y ∷ w) x a u s z h =
            let l = learned.rows a x (listed_at a x s) s in
            (h.0, h.1, l.complete h.0 y b h.2 z.0, along_numbers v w y b h.1 z.0 z.1 h.3, h.4)

        along_nodes : (v : List ℕ) (w : List N) (x : N) (a : ℕ) (u : ℤ) → StandsFor eq keys a x → AllZip (StandsFor eq keys) v w → GoesAlong (AdjacencyStep value k) a v u → GoesAlong Live x w u
        along_nodes [] [] x a u s z h = h
        along_nodes [] (y ∷ w) x a u s z h = absurd z
        along_nodes (b ∷ v) [] x a u s z h = absurd z
        along_nodes (b ∷ v) (y ∷ w) x a u s z h =
            let l = learned.rows a x (listed_at a x s) s in
            let t = h.2 in
            let n = l.sound b t.0 t.1 in
            let e = same_node b n.0 y n.2 z.0 in
            let edge : Live x h.0 y = subst (λ (c : ℤ). Live x c y) t.2 ((n.1.0.0, HasEdge-same eq laws (edges x) n.0 y (value t.0) e n.1.0.1), n.1.1) in
            (h.0, h.1, edge, along_nodes v w y b h.1 z.0 z.1 h.3, h.4)

        goal_is : (a : ℕ) (x : N) → StandsFor eq keys a x → is_goal k a ≡ test x
        goal_is a x s = learned.goals a x (listed_at a x s) s

        -- the numbers of a clean path
        pub numbers_of_clean : (path : List N) (clean : IsCleanPath eq edges start test path) → (p : List ℕ) × (u : ℤ) × AllZip (StandsFor eq keys) p path × IsCleanNumbers value k p u
        numbers_of_clean [] clean = let g = clean.goes in let h = g.goes in absurd h.walks
        numbers_of_clean (x ∷ w) clean =
            let g = clean.goes in
            let h = g.goes in
            let first = elim h.begins as (λ _. eq start x ≡ true) [ inl e ↦ e | inr f ↦ absurd f ] in
            let s = (begins x).1 first in
            let r = goes_of_walk eq laws graph alike w x (InReach-start eq laws edges (start ∷ []) x x h.begins (laws.refl x)) h.walks in
            let n = numbers_of w x 0 r.0 s (live_of_goes w x r.0 clean.fails r.1) in (
              0 ∷ n.0,
              r.0,
              (s, n.1),
              record {
                rest = n.0;
                is = refl;
                goes = n.2;
                distinct = distinct_numbers (0 ∷ n.0) (x ∷ w) (s, n.1) g.distinct;
                ends = goal_is (end_of 0 n.0) (end_of x w) (ends_stand n.0 w 0 x s n.1) ∙ h.ends;
              },
            )

        -- and at its cost
        pub numbers_at_cost : (path : List N) (t : ℤ) → IsCleanPath eq edges start test path → WalkCosts eq edges path t → (p : List ℕ) → AllZip (StandsFor eq keys) p path → (u : ℤ) → IsCleanNumbers value k p u → IsCleanNumbers value k p t
        numbers_at_cost [] t clean costs p z u c = absurd costs
        numbers_at_cost (x ∷ w) t clean costs [] z u c = absurd z
        numbers_at_cost (x ∷ w) t clean costs (a ∷ v) z u c =
            let g = clean.goes in
            let h = g.goes in
            let e : a ∷ v ≡ 0 ∷ c.rest = c.is in
            let f : v ≡ c.rest = cc in
            let first = elim h.begins as (λ _. eq start x ≡ true) [ inl q ↦ q | inr q ↦ absurd q ] in
            let s = (begins x).1 first in
            let goes = live_of_goes w x t clean.fails (goes_of_costs w x t (InReach-start eq laws edges (start ∷ []) x x h.begins (laws.refl x)) costs) in
            record {
              rest = c.rest;
              is = c.is;
              goes = along_numbers c.rest w x 0 t s (subst (λ (q : List ℕ). AllZip (StandsFor eq keys) q w) f z.1) goes;
              distinct = c.distinct;
              ends = c.ends;
            }

        -- the nodes of a clean path over numbers
        pub clean_of_numbers : (p : List ℕ) (path : List N) (u : ℤ) → AllZip (StandsFor eq keys) p path → IsCleanNumbers value k p u → IsCleanPath eq edges start test path
        clean_of_numbers [] path u z c = absurd (no_path c.rest c.is)
          where
            no_path : (v : List ℕ) → ¬ ([] ≡ 0 ∷ v)
            no_path v e = cc
        clean_of_numbers (a ∷ v) [] u z c = absurd z
        clean_of_numbers (a ∷ v) (x ∷ w) u z c =
            let e : a ∷ v ≡ 0 ∷ c.rest = c.is in
            let f : v ≡ c.rest = cc in
            let o : a ≡ 0 = cc in
            let s = subst (λ (n : ℕ). StandsFor eq keys n x) o z.0 in
            let y = subst (λ (q : List ℕ). AllZip (StandsFor eq keys) q w) f z.1 in
            let live = along_nodes c.rest w x 0 u s y c.goes in
            record {
              goes = record {
                goes = record {
                  walks = walk_of_goes eq laws graph alike w x u (goes_of_live w x u live);
                  begins = inl ((begins x).0 s);
                  ends = sym (goal_is (end_of 0 c.rest) (end_of x w) (ends_stand c.rest w 0 x s y)) ∙ c.ends;
                };
                distinct = distinct_nodes eq laws keys one (a ∷ v) (x ∷ w) z (subst (λ (q : List ℕ). NoRepeats nat_eq q) (sym c.is) c.distinct);
              };
              fails = fails_of_live w x u live;
            }

        -- what it costs, where no parallel steps cost less
        pub costs_of_numbers : (p : List ℕ) (path : List N) (u : ℤ) → AllZip (StandsFor eq keys) p path → (c : IsCleanNumbers value k p u) → ((t : ℤ) → GoesAlong (AdjacencyStep value k) 0 c.rest t → u ≤ℤ t) → WalkCosts eq edges path u
        costs_of_numbers [] path u z c low = absurd (no_path c.rest c.is)
          where
            no_path : (v : List ℕ) → ¬ ([] ≡ 0 ∷ v)
            no_path v e = cc
        costs_of_numbers (a ∷ v) [] u z c low = absurd z
        costs_of_numbers (a ∷ v) (x ∷ w) u z c low =
            let e : a ∷ v ≡ 0 ∷ c.rest = c.is in
            let f : v ≡ c.rest = cc in
            let o : a ≡ 0 = cc in
            let s = subst (λ (n : ℕ). StandsFor eq keys n x) o z.0 in
            let y = subst (λ (q : List ℕ). AllZip (StandsFor eq keys) q w) f z.1 in
            let live = along_nodes c.rest w x 0 u s y c.goes in
            let m = costs_of_goes w x u (goes_of_live w x u live) in
            let least = low m.0 (along_numbers c.rest w x 0 m.0 s y (live_of_goes w x m.0 (fails_of_live w x u live) m.3)) in
            let same : m.0 ≡ u = omega (arith, ints, least, m.2) in
            subst (λ (t : ℤ). StepsCost eq edges x w t) same m.1

        -- nodes that the numbers of a walk stand for
        nodes_of : (v : List ℕ) (x : N) (a : ℕ) (u : ℤ) → StandsFor eq keys a x → GoesAlong (AdjacencyStep value k) a v u → (w : List N) × AllZip (StandsFor eq keys) v w
        nodes_of [] x a u s h = ([], tt)
        nodes_of (b ∷ v) x a u s h =
            let l = learned.rows a x (listed_at a x s) s in
            let t = h.2 in
            let n = l.sound b t.0 t.1 in
            let r = nodes_of v n.0 b h.1 n.2 h.3 in
            (n.0 ∷ r.0, (n.2, r.1))

        -- a walk up to the first goal on it
        cut_walk : IsNonNegative (IsStep eq (record { starts = start ∷ []; edges = edges })) → (w : List N) (x : N) (u : ℤ) → GoesAlong Step x w u → GoesAlong Live x w u ⊎ ((w1 : List N) × (u1 : ℤ) × GoesAlong Live x w1 u1 × (test (end_of x w1) ≡ true) × (u1 ≤ℤ u))
        cut_walk p [] x u h = inl h
        cut_walk p (y ∷ w) x u h = elim (bool_dec (test x)) as (λ _. GoesAlong Live x (y ∷ w) u ⊎ ((w1 : List N) × (u1 : ℤ) × GoesAlong Live x w1 u1 × (test (end_of x w1) ≡ true) × (u1 ≤ℤ u))) [
          | inl t ↦ inr ([], pos 0, refl, t, walk_positive Step p (y ∷ w) x u h)
          | inr f ↦ elim (cut_walk p w y h.1 h.3) as (λ _. GoesAlong Live x (y ∷ w) u ⊎ ((w1 : List N) × (u1 : ℤ) × GoesAlong Live x w1 u1 × (test (end_of x w1) ≡ true) × (u1 ≤ℤ u))) [
            | inl g ↦ inl (h.0, h.1, (h.2, f), g, h.4)
            | inr g ↦ inr (y ∷ g.0, h.0 +ℤ g.1, (h.0, g.1, (h.2, f), g.2, refl), g.3, (let low = g.4 in omega (arith, ints, low, h.4)))
          ]
        ]

        -- a path and one step more, which do not fit
        module _ (fits : ℤ → Type 0) (d : IsPastAlong value k fits) where
          abbrev origin : StandsFor eq keys 0 start
          origin = (begins start).1 (laws.refl start)

          abbrev nodes : (w : List N) × AllZip (StandsFor eq keys) d.rest w
          nodes = nodes_of d.rest start 0 d.cost origin d.goes

          abbrev last : N
          last = end_of start nodes.0

          abbrev ends_here : StandsFor eq keys (end_of 0 d.rest) last
          ends_here = ends_stand d.rest nodes.0 0 start origin nodes.1

          abbrev here : ListsSteps value Live (StandsFor eq keys) last (row_of k (end_of 0 d.rest))
          here = learned.rows (end_of 0 d.rest) last (listed_at (end_of 0 d.rest) last ends_here) ends_here

          abbrev live : GoesAlong Live start nodes.0 d.cost
          live = along_nodes d.rest nodes.0 start 0 d.cost origin nodes.1 d.goes

          past_costs : StepsCost eq edges start nodes.0 d.cost
          past_costs =
              let m = costs_of_goes nodes.0 start d.cost (goes_of_live nodes.0 start d.cost live) in
              let least = d.cheapest m.0 (along_numbers d.rest nodes.0 start 0 m.0 origin nodes.1 (live_of_goes nodes.0 start m.0 (fails_of_live nodes.0 start d.cost live) m.3)) in
              let same : m.0 ≡ d.cost = omega (arith, ints, least, m.2) in
              subst (λ (t : ℤ). StepsCost eq edges start nodes.0 t) same m.1

          past_step : (y : N) × (m : ℤ) × StepCosts eq edges last y m × ¬ (fits (d.cost +ℤ m)) × StandsFor eq keys d.next y
          past_step =
              let t = d.edge in
              let l = here in
              let n = l.sound d.next t.0 t.1 in
              let c = cheapest_edge eq laws edges last n.0 (value t.0) n.1.0.1 in
              let s = c.1 in
              (n.0, c.0, s, d.all_past c.0 (l.complete c.0 n.0 d.next ((n.1.0.0, s.edge), n.1.1) n.2), n.2)

          -- some step leads on from the end, so it is no goal
          past_fails : All (λ z. test z ≡ false) (start ∷ nodes.0)
          past_fails =
              let t = d.edge in
              let l = here in
              let n = l.sound d.next t.0 t.1 in
              all_fail nodes.0 start (fails_of_live nodes.0 start d.cost live) n.1.1

          past_distinct : NoRepeats eq (start ∷ nodes.0)
          past_distinct = distinct_nodes eq laws keys one (0 ∷ d.rest) (start ∷ nodes.0) (origin, nodes.1) d.distinct

          pub path_past : PathOverflows eq edges start test fits
          path_past = let s = past_step in record {
            first = start;
            rest = nodes.0;
            begins = laws.refl start;
            walks = walk_of_goes eq laws graph alike nodes.0 start d.cost (goes_of_live nodes.0 start d.cost live);
            distinct = past_distinct;
            fails = past_fails;
            cost = d.cost;
            costs = past_costs;
            next = s.0;
            price = s.1;
            step = s.2;
            past = s.3;
          }

          -- before the first path it is a cheapest one, and no goal is cheaper
          pub first_past : IsNonNegative (IsStep eq (record { starts = start ∷ []; edges = edges })) → ((v : List ℕ) (u : ℤ) → GoesAlong (AdjacencyStep value k) 0 v u → end_of 0 v ≡ end_of 0 d.rest → d.cost ≤ℤ u)
              → ((v : List ℕ) (u : ℤ) → GoesAlong (AdjacencyStep value k) 0 v u → is_goal k (end_of 0 v) ≡ true → d.cost ≤ℤ u) → CostOverflows eq edges (start ∷ []) test fits
          first_past p to_here to_goal = let s = past_step in record {
            node = last;
            path = start ∷ nodes.0;
            cost = d.cost;
            cheapest = record {
              goes = record {
                goes = record { walks = walk_of_goes eq laws graph alike nodes.0 start d.cost (goes_of_live nodes.0 start d.cost live); begins = inl (laws.refl start); ends = laws.refl last };
                distinct = past_distinct;
              };
              costs = past_costs;
              best = λ walk u w c. to_last walk u w.begins w.ends c;
            };
            next = s.0;
            price = s.1;
            step = s.2;
            past = s.3;
            none_cheaper = λ walk u w c. to_any walk u w.begins w.ends c;
          }
            where
              from_goal : (x : N) → StandsFor eq keys 0 x → (w : List N) (u : ℤ) → GoesAlong Live x w u → test (end_of x w) ≡ true → d.cost ≤ℤ u
              from_goal x s w u g t = let n = numbers_of w x 0 u s g in to_goal n.0 u n.2 (goal_is (end_of 0 n.0) (end_of x w) (ends_stand n.0 w 0 x s n.1) ∙ t)

              to_last : (walk : List N) (u : ℤ) → BeginsAt eq (start ∷ []) walk → EndsAt eq (λ y. eq y last) walk → WalkCosts eq edges walk u → d.cost ≤ℤ u
              to_last [] u b e c = absurd c
              to_last (x ∷ w) u b e c =
                  let first = elim b as (λ _. eq start x ≡ true) [ inl q ↦ q | inr q ↦ absurd q ] in
                  let s = (begins x).1 first in
                  let g = goes_of_costs w x u (InReach-start eq laws edges (start ∷ []) x x b (laws.refl x)) c in
                  elim (cut_walk p w x u g) as (λ _. d.cost ≤ℤ u) [
                    | inl l ↦
                        let n = numbers_of w x 0 u s l in
                        to_here n.0 u n.2 (same_number (end_of 0 n.0) (end_of 0 d.rest) (end_of x w) last (ends_stand n.0 w 0 x s n.1) ends_here e)
                    | inr l ↦ let a = from_goal x s l.0 l.1 l.2 l.3 in let low = l.4 in omega (arith, ints, a, low)
                  ]

              to_any : (walk : List N) (u : ℤ) → BeginsAt eq (start ∷ []) walk → EndsAt eq test walk → WalkCosts eq edges walk u → d.cost ≤ℤ u
              to_any [] u b e c = absurd c
              to_any (x ∷ w) u b e c =
                  let first = elim b as (λ _. eq start x ≡ true) [ inl q ↦ q | inr q ↦ absurd q ] in
                  let s = (begins x).1 first in
                  let g = goes_of_costs w x u (InReach-start eq laws edges (start ∷ []) x x b (laws.refl x)) c in
                  elim (cut_walk p w x u g) as (λ _. d.cost ≤ℤ u) [
                    | inl l ↦ from_goal x s w u l e
                    | inr l ↦ let a = from_goal x s l.0 l.1 l.2 l.3 in let low = l.4 in omega (arith, ints, a, low)
                  ]

        -- in a class that is split off that of the path that was given last
        module _ (fits : ℤ → Type 0) (c : Plan C) (b : ClassOverflows value k fits c) (before : List (List ℕ)) (given : List (List N × C))
            (given_are : AllZip (λ (q : List ℕ) (g : List N × C). AllZip (StandsFor eq keys) q g.0 × IsCleanNumbers value k q (value g.1)) (before ++ c.path ∷ []) given)
            (none_there : (p : List ℕ) (u : ℤ) → Contains (before ++ c.path ∷ []) p → IsCleanNumbers value k p u → is_member b.prefix b.banned p ≡ false)
            (barred : (y : ℕ) → is_in b.banned y ≡ true → (p : List ℕ) × Contains (before ++ c.path ∷ []) p × (goes_on_to b.prefix y p ≡ true)) where
          abbrev Given : List ℕ → List N × C → Type 0
          Given q g = AllZip (StandsFor eq keys) q g.0 × IsCleanNumbers value k q (value g.1)

          abbrev found : (w : List N) × AllZip (StandsFor eq keys) b.past.rest w
          found = nodes fits b.past

          origin_stands : StandsFor eq keys 0 start
          origin_stands = (begins start).1 (laws.refl start)

          -- the nodes of the prefix
          front : (P : List N) × AllZip (StandsFor eq keys) b.prefix P
          front =
              let r = goes_on b.prefix [] (0 ∷ b.past.rest) b.begins in
              let z = zip_split (StandsFor eq keys) b.prefix r.0 (start ∷ found.0) (subst (λ (v : List ℕ). AllZip (StandsFor eq keys) v (start ∷ found.0)) r.1 (origin_stands, found.1)) in
              (z.0, z.3)

          -- a node that comes next on a given path, and its number
          not_given : (y : ℕ) (x : N) → StandsFor eq keys y x → is_in b.banned y ≡ false → (g : List N × C) → Contains given g → ¬ (GoesOnTo eq front.0 g.0 x)
          not_given y x s free g i h =
              let f = zip_find Given (before ++ c.path ∷ []) given g given_are i in
              let n = to_number b.prefix front.0 f.0 g.0 x front.1 f.2.0 h in
              let e = one n.0 y x n.1 s in
              let m = open_member b.prefix b.banned y f.0 (subst (λ (v : ℕ). goes_on_to b.prefix v f.0 ≡ true) e n.2) free in
              true≢false (sym m ∙ none_there f.0 (value g.1) f.1 f.2.1)

          past_leaves : LeavesGiven eq given front.0 ((start ∷ found.0) ++ (past_step fits b.past).0 ∷ [])
          past_leaves =
              let s = past_step fits b.past in
              let o = onward_of b.prefix b.banned (0 ∷ b.past.rest) b.past.next b.begins b.leaves in
              let x = to_node b.prefix front.0 ((0 ∷ b.past.rest) ++ b.past.next ∷ []) ((start ∷ found.0) ++ s.0 ∷ []) o.0 front.1
              (AllZip-append (StandsFor eq keys) (0 ∷ b.past.rest) (start ∷ found.0) b.past.next s.0 (origin_stands, found.1) s.4) o.1 in
              (x.0, x.2, not_given o.0 x.0 x.1 o.2)

          -- a clean path that leaves the given ones there is one of the class
          in_its_class : (path : List N) (u : ℤ) → IsCleanPath eq edges start test path → WalkCosts eq edges path u → LeavesGiven eq given front.0 path → b.past.cost ≤ℤ u
          in_its_class path u clean costs leaves =
              let n = numbers_of_clean path clean in
              let m = numbers_at_cost path u clean costs n.0 n.2 n.1 n.3 in
              let y = to_number b.prefix front.0 n.0 path leaves.0 front.1 n.2 leaves.1 in
              elim (bool_dec (is_in b.banned y.0)) as (λ _. b.past.cost ≤ℤ u) [
                | inl t ↦
                    let r = barred y.0 t in
                    let g = zip_found Given (before ++ c.path ∷ []) given r.0 given_are r.1 in
                    absurd (leaves.2 g.0 g.1 (to_this_node b.prefix front.0 r.0 g.0.0 y.0 leaves.0 front.1 g.2.0 y.1 r.2))
                | inr f ↦ b.none_cheaper n.0 u m (open_member b.prefix b.banned y.0 n.0 y.2 f)
              ]

          pub branch_past : BranchOverflows eq edges start test value fits given
          unfolding path_past
          branch_past =
              let l = zip_last Given before c.path given given_are in
              let o = to_node b.prefix front.0 c.path l.1.0 b.onward front.1 l.3.0 b.along in
              record {
                prefix = front.0;
                some = (let e = zip_length (StandsFor eq keys) b.prefix front.0 front.1 in omega (arith, b.some, e));
                before = l.0;
                last = l.1;
                is_last = l.2;
                onward = o.0;
                goes_on = o.2;
                over = path_past fits b.past;
                leaves = past_leaves;
                none_cheaper = in_its_class;
              }
