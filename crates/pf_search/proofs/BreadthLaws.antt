-- What holds of each beginning of a breadth order.
use Rattle.std.proofs.Common.{◌≡◌, ℕ, zero, suc, ◌<◌, ◌≤◌, ◌+◌, Bool, true, false, Some, List, [], ◌∷◌, ◌++◌, ◌∙◌, slice_get, length, take, drop, refl, sym, ap, subst, arith, inl, inr, true≢false, if◌then◌else◌}
use Rattle.std.specs.Prelude.{◌⊎◌}
use Rattle.std.specs.Cmp.{IsEquivalence}
use Rattle.std.specs.List.{IsDistinct, list_any}
use Rattle.indexmap.specs.IndexSet.{insert_key, insert_all}
use Rattle.std.proofs.lemmas.List.{append_assoc, take-append-drop, length-take, length-append}
use Rattle.std.proofs.lemmas.List.Sums.{fold-append}
use Rattle.std.proofs.lemmas.Option.{slice_get_within}
use Rattle.pf_base.specs.Walks.{HasNode, NoRepeats, Follows, IsGoalWalk, end_of}
use Rattle.pf_base.specs.Successors.{HasSuccessor}
use Rattle.pf_base.specs.Answers.{SameNodes}
use Rattle.pf_base.specs.Orders.{successors_of, found_from, IsBreadthOrder, AllGiven}
use Rattle.pf_core.specs.NodeLaws.{StandsFor-one}
use Rattle.pf_base.proofs.ListLemmas.{take_get, get_take, bool_dec, get-append}
use Rattle.pf_core.proofs.NodeLemmas.{AddsNode-insert, eq-sym, eq-trans}
use Rattle.pf_core.proofs.FrontierLemmas.{end_more}
use Rattle.pf_search.proofs.BreadthLemmas.{at_node, any_at, place_of, in_append, inserted_cases, Same-sym, IsReached, reached-same, given_reached}

-- the element at a place below the length
pub get_below : {A : Type 0} (xs : List A) (k : ℕ) → k < length xs → (m : A) × (slice_get xs k ≡ Some m)
get_below [] k l = absurd (omega (arith, l))
get_below (x ∷ xs) zero l = (x, refl)
get_below (x ∷ xs) (suc k) l = get_below xs k (omega (arith, l))

below_or : (a b : ℕ) → (a < b) ⊎ (b ≤ a)
below_or a zero = inr (omega arith)
below_or zero (suc b) = inl (omega arith)
below_or (suc a) (suc b) = elim (below_or a b) as (λ _. (suc a < suc b) ⊎ (suc b ≤ suc a)) [ inl l ↦ inl (omega (arith, l)) | inr l ↦ inr (omega (arith, l)) ]

module _ {N : Type 0} (eq : N → N → Bool) where
  -- the place of a node of a list
  pub node_place : (xs : List N) (x : N) → HasNode eq xs x → (k : ℕ) × (m : N) × (slice_get xs k ≡ Some m) × (eq m x ≡ true)
  node_place [] x h = absurd h
  node_place (y ∷ ys) x (inl e) = (0, y, refl, e)
  node_place (y ∷ ys) x (inr h) = let p = node_place ys x h in (suc p.0, p.1, p.2, p.3)

  pub no_repeats : (xs : List N) → ((i j : ℕ) (m n : N) → slice_get xs i ≡ Some m → slice_get xs j ≡ Some n → eq m n ≡ true → i ≡ j) → (symm : (x y : N) → eq x y ≡ true → eq y x ≡ true) → NoRepeats eq xs
  no_repeats [] one symm = tt
  no_repeats (x ∷ xs) one symm = (
    λ h. let p = node_place xs x h in absurd (omega (arith, one (suc p.0) 0 p.1 x p.2 refl p.3)),
    no_repeats xs (λ i j m n a b e. omega (arith, one (suc i) (suc j) m n a b e)) symm,
  )

  follows_one_more : (step : N → N → Type 0) (w : List N) (a b : N) → Follows step a w → step (end_of a w) b → Follows step a (w ++ b ∷ [])
  follows_one_more step [] a b h s = (s, tt)
  follows_one_more step (c ∷ w) a b h s = (h.0, follows_one_more step w c b h.1 s)

  -- what was put into a set stays at its place
  inserted_stays : (xs ks : List N) (k : ℕ) (m : N) → slice_get ks k ≡ Some m → slice_get (insert_all eq ks xs) k ≡ Some m
  inserted_stays [] ks k m h = h
  inserted_stays (x ∷ xs) ks k m h = inserted_stays xs (insert_key eq ks x) k m (by (list_any (eq x) ks))
    where
      by : (b : Bool) → slice_get (if b then ks else ks ++ x ∷ []) k ≡ Some m
      by true = h
      by false = get-append ks (x ∷ []) k m h

  module _ (laws : IsEquivalence eq) where
    has_same : (xs : List N) (x y : N) → HasNode eq xs x → eq x y ≡ true → HasNode eq xs y
    has_same [] x y h e = h
    has_same (z ∷ zs) x y (inl h) e = inl (eq-trans eq laws z x y h e)
    has_same (z ∷ zs) x y (inr h) e = inr (has_same zs x y h e)

    has_alike : (xs ys : List N) (x : N) → SameNodes eq xs ys → HasNode eq xs x → HasNode eq ys x
    has_alike [] [] x s h = h
    has_alike [] (y ∷ ys) x s h = absurd h
    has_alike (z ∷ xs) [] x s h = absurd s
    has_alike (z ∷ xs) (y ∷ ys) x s (inl h) = inl (eq-trans eq laws y z x (eq-sym eq laws z y s.0) h)
    has_alike (z ∷ xs) (y ∷ ys) x s (inr h) = inr (has_alike xs ys x s.1 h)

    has_kept : (xs ks : List N) (x : N) → HasNode eq ks x → HasNode eq (insert_all eq ks xs) x
    has_kept xs ks x h = let p = node_place ks x h in at_node eq (insert_all eq ks xs) p.0 p.1 x (inserted_stays xs ks p.0 p.1 p.2) p.3

    -- what is put into a set is in it
    has_inserted : (xs ks : List N) (x : N) → HasNode eq xs x → HasNode eq (insert_all eq ks xs) x
    has_inserted [] ks x h = absurd h
    has_inserted (y ∷ ys) ks x (inl e) = has_kept ys (insert_key eq ks y) x (elim (bool_dec (list_any (eq y) ks)) as (λ _. HasNode eq (insert_key eq ks y) x) [
      | inl t ↦
          let p = place_of eq y ks t in
          subst (λ (c : Bool). HasNode eq (if c then ks else ks ++ y ∷ []) x) (sym t) (at_node eq ks p.0 p.1 x p.2 (eq-trans eq laws p.1 y x (eq-sym eq laws y p.1 p.3) e))
      | inr t ↦ subst (λ (c : Bool). HasNode eq (if c then ks else ks ++ y ∷ []) x) (sym t) (last_in ks)
    ])
      where
        last_in : (zs : List N) → HasNode eq (zs ++ y ∷ []) x
        last_in [] = inl e
        last_in (z ∷ zs) = inr (last_in zs)
    has_inserted (y ∷ ys) ks x (inr h) = has_inserted ys (insert_key eq ks y) x h

    -- no node stands twice in a set
    inserted_distinct : (xs ks : List N) → IsDistinct eq ks → IsDistinct eq (insert_all eq ks xs)
    inserted_distinct [] ks d = d
    inserted_distinct (x ∷ xs) ks d = inserted_distinct xs (insert_key eq ks x) ((AddsNode-insert eq laws ks (insert_key eq ks x) x refl).distinct d)

    none_distinct : IsDistinct eq []
    unfolding IsDistinct
    none_distinct = tt

    module _ (next : N → List N) (start : N) where
      found_distinct : (given : List N) → IsDistinct eq (found_from eq next start given)
      found_distinct given = inserted_distinct (start ∷ successors_of eq next given) [] none_distinct

      successors-append : (xs ys : List N) → successors_of eq next (xs ++ ys) ≡ successors_of eq next xs ++ successors_of eq next ys
      successors-append [] ys = refl
      successors-append (x ∷ xs) ys = ap (λ zs. next x ++ zs) (successors-append xs ys) ∙ sym (append_assoc (next x) (successors_of eq next xs) (successors_of eq next ys))

      -- what was found stays at its place
      found_stays : (given : List N) (n k : ℕ) (m : N) → slice_get (found_from eq next start (take n given)) k ≡ Some m → slice_get (found_from eq next start given) k ≡ Some m
      found_stays given n k m h =
          let xs = take n given in
          let ys = drop n given in
          let more : found_from eq next start (xs ++ ys) ≡ insert_all eq (found_from eq next start xs) (successors_of eq next ys) =
          ap (λ zs. insert_all eq [] (start ∷ zs)) (successors-append xs ys) ∙ fold-append (insert_key eq) [] (start ∷ successors_of eq next xs) (successors_of eq next ys) in
          subst (λ zs. slice_get (found_from eq next start zs) k ≡ Some m) (take-append-drop n given) (subst (λ zs. slice_get zs k ≡ Some m) (sym more) (inserted_stays (successors_of eq next ys) (found_from eq next start xs) k m h))

      successor_in : (xs : List N) (k : ℕ) (m b : N) → slice_get xs k ≡ Some m → HasNode eq (next m) b → HasNode eq (successors_of eq next xs) b
      successor_in [] k m b h s = absurd (none_here k m h)
        where
          none_here : (k : ℕ) (m : N) → slice_get [] k ≡ Some m → ⊥
          none_here zero m h = cc
          none_here (suc k) m h = cc
      successor_in (x ∷ xs) zero m b h s = let e : Some x ≡ Some m = h in let f : x ≡ m = cc in left_in (next x) (subst (λ z. HasNode eq (next z) b) (sym f) s)
        where
          left_in : (zs : List N) → HasNode eq zs b → HasNode eq (zs ++ successors_of eq next xs) b
          left_in [] h = absurd h
          left_in (z ∷ zs) (inl e) = inl e
          left_in (z ∷ zs) (inr h) = inr (left_in zs h)
      successor_in (x ∷ xs) (suc k) m b h s = right_in (next x) (successor_in xs k m b h s)
        where
          right_in : (zs : List N) → HasNode eq (successors_of eq next xs) b → HasNode eq (zs ++ successors_of eq next xs) b
          right_in [] h = h
          right_in (z ∷ zs) h = inr (right_in zs h)

      -- which node a successor follows
      successor_of : (xs : List N) (b : N) → HasNode eq (successors_of eq next xs) b → (k : ℕ) × (m : N) × (slice_get xs k ≡ Some m) × HasNode eq (next m) b
      successor_of [] b h = absurd h
      successor_of (x ∷ xs) b h = elim (in_append eq (next x) (successors_of eq next xs) b h) as (λ _. (k : ℕ) × (m : N) × (slice_get (x ∷ xs) k ≡ Some m) × HasNode eq (next m) b) [
        | inl k ↦ (0, x, refl, k)
        | inr k ↦ let p = successor_of xs b k in (suc p.0, p.1, p.2, p.3)
      ]

      module _ (given : List N) (order : IsBreadthOrder eq next start given) where
        -- each given node stands at its place among those that are found from all
        given_place : (k : ℕ) (x : N) → slice_get given k ≡ Some x → (y : N) × (slice_get (found_from eq next start given) k ≡ Some y) × (eq y x ≡ true)
        given_place k x h =
            let i = order k x h in
            let long : length (take k given) ≡ k = omega (arith, length-take k given, slice_get_within given k x h) in
            (i.0, found_stays given k k i.0 (subst (λ n. slice_get (found_from eq next start (take k given)) n ≡ Some i.0) long i.1), i.2)

        given_one : (i j : ℕ) (m n : N) → slice_get given i ≡ Some m → slice_get given j ≡ Some n → eq m n ≡ true → i ≡ j
        given_one i j m n a b e =
            let p = given_place i m a in
            let q = given_place j n b in
            StandsFor-one eq laws (found_from eq next start given) (found_distinct given) i j n (p.0, p.1, eq-trans eq laws p.0 m n p.2 e) (q.0, q.1, q.2)

        pub given_once : NoRepeats eq given
        given_once = no_repeats given given_one (eq-sym eq laws)

        found_is : (k : ℕ) (m x : N) → slice_get (found_from eq next start given) k ≡ Some m → slice_get given k ≡ Some x → eq m x ≡ true
        found_is k m x h g =
            let p = given_place k x g in
            let e : Some p.0 ≡ Some m = sym p.1 ∙ h in
            let f : p.0 ≡ m = cc in
            subst (λ z. eq z x ≡ true) f p.2

        module _ (alike : (x y : N) → IsReached eq laws next start x → eq x y ≡ true → SameNodes eq (next x) (next y)) where
          reached : (k : ℕ) (x : N) → slice_get given k ≡ Some x → IsReached eq laws next start x
          reached = given_reached eq laws next start alike given order

          pub given_in_reach : (x : N) → HasNode eq given x → IsReached eq laws next start x
          given_in_reach x h = let p = node_place given x h in reached-same eq laws next start p.1 x (reached p.0 p.1 p.2) p.3

          -- where all that was found was given, that is all in reach
          module _ (all : AllGiven eq next start given) where
            found_given : (x : N) → HasNode eq (found_from eq next start given) x → HasNode eq given x
            found_given x h =
                let p = node_place (found_from eq next start given) x h in
                let g = get_below given p.0 (omega (arith, all, slice_get_within (found_from eq next start given) p.0 p.1 p.2)) in
                at_node eq given p.0 g.0 x g.1 (eq-trans eq laws g.0 p.1 x (eq-sym eq laws p.1 g.0 (found_is p.0 p.1 g.0 p.2 g.1)) p.3)

            along : (w : List N) (a : N) → HasNode eq given a → Follows (HasSuccessor eq next) a w → HasNode eq given (end_of a w)
            along [] a h f = h
            along (b ∷ w) a h f =
                let p = node_place given a h in
                let follows : HasNode eq (next p.1) b = has_alike (next a) (next p.1) b (Same-sym eq laws (next p.1) (next a) (alike p.1 a (reached p.0 p.1 p.2) p.3)) f.0 in
                along w b (found_given b (has_inserted (start ∷ successors_of eq next given) [] b (inr (successor_in given p.0 p.1 b p.2 follows)))) f.1

            pub reach_given : (x : N) → IsReached eq laws next start x → HasNode eq given x
            reach_given x r = by r.walk r.goes
              where
                by : (w : List N) → IsGoalWalk eq (HasSuccessor eq next) (start ∷ []) (λ y. eq y x) w → HasNode eq given x
                by [] g = absurd g.walks
                by (a ∷ w) g =
                    let first : HasNode eq given a = found_given a (has_inserted (start ∷ successors_of eq next given) [] a (elim g.begins as (λ _. HasNode eq (start ∷ successors_of eq next given) a) [ inl e ↦ inl e | inr n ↦ absurd n ])) in
                    has_same given (end_of a w) x (along w a first g.walks) g.ends

          -- some walk to this node has at most this many edges
          abbrev IsNear : N → ℕ → Type 0
          IsNear x n = (w : List N) × IsGoalWalk eq (HasSuccessor eq next) (start ∷ []) (λ z. eq z x) w × (length w ≤ suc n)

          near_start : (x : N) (n : ℕ) → eq start x ≡ true → IsNear x n
          near_start x n e = (start ∷ [], record { walks = tt; begins = inl (laws.refl start); ends = e }, omega arith)

          near_more : (x y : N) (n : ℕ) → IsReached eq laws next start x → IsNear x n → HasNode eq (next x) y → IsNear y (suc n)
          near_more x y n r (w, g, l) h = by w g l
            where
              by : (w : List N) → IsGoalWalk eq (HasSuccessor eq next) (start ∷ []) (λ z. eq z x) w → length w ≤ suc n → IsNear y (suc n)
              by [] g l = absurd g.walks
              by (a ∷ v) g l =
                  let last = end_of a v in
                  let follows : HasNode eq (next last) y = has_alike (next x) (next last) y (alike x last r (eq-sym eq laws last x g.ends)) h in (
                    a ∷ (v ++ y ∷ []),
                    record { walks = follows_one_more (HasSuccessor eq next) v a y g.walks follows; begins = g.begins; ends = subst (λ z. eq z y ≡ true) (sym (end_more v a y)) (laws.refl y) },
                    omega (arith, l, length-append v (y ∷ [])),
                  )

          -- each given node that x does not come before is no farther than n
          abbrev IsBehind : N → ℕ → Type 0
          IsBehind x n = (j : ℕ) (y : N) → slice_get given j ≡ Some y → ¬ (HasNode eq (take j given) x) → IsNear y n

          -- a node that follows x and does not come before the given one at place j puts that one among what is found from x
          found_by : (q : ℕ) (z x : N) → slice_get given q ≡ Some z → HasNode eq (next z) x → (j : ℕ) (y : N) → slice_get given j ≡ Some y → ¬ (HasNode eq (take j given) x)
              → (eq start y ≡ true) ⊎ ((p : ℕ) × (m : N) × (slice_get given p ≡ Some m) × (p ≤ q) × HasNode eq (next m) y)
          found_by q z x at s j y h none =
              let first = take (suc q) given in
              let found = found_from eq next start first in
              let in_found : HasNode eq found x = has_inserted (start ∷ successors_of eq next first) [] x (inr (successor_in first q z x (get_take (suc q) given q z (omega arith) at) s)) in
              let r = node_place found x in_found in
              let far : j ≤ r.0 = not_before r.0 r.1 (found_stays given (suc q) r.0 r.1 r.2) r.3 in
              let m = get_below found j (omega (arith, far, slice_get_within found r.0 r.1 r.2)) in
              let same : eq m.0 y ≡ true = found_is j m.0 y (found_stays given (suc q) j m.0 m.1) h in
              elim (inserted_cases eq (start ∷ successors_of eq next first) [] y (at_node eq found j m.0 y m.1 same)) as (λ _. (eq start y ≡ true) ⊎ ((p : ℕ) × (m : N) × (slice_get given p ≡ Some m) × (p ≤ q) × HasNode eq (next m) y)) [
                | inl k ↦ absurd k
                | inr k ↦ elim k as (λ _. (eq start y ≡ true) ⊎ ((p : ℕ) × (m : N) × (slice_get given p ≡ Some m) × (p ≤ q) × HasNode eq (next m) y)) [
                  | inl e ↦ inl e
                  | inr i ↦
                      let p = successor_of first y i in
                      inr (p.0, p.1, take_get (suc q) given p.0 p.1 p.2, omega (arith, slice_get_within first p.0 p.1 p.2, length-take (suc q) given), p.3)
                ]
              ]
            where
              not_before : (r : ℕ) (m : N) → slice_get (found_from eq next start given) r ≡ Some m → eq m x ≡ true → j ≤ r
              not_before r m g e = elim (below_or r j) as (λ _. j ≤ r) [
                | inr l ↦ l
                | inl l ↦
                    let v = get_below given r (omega (arith, l, slice_get_within given j y h)) in
                    absurd (none (at_node eq (take j given) r v.0 x (get_take j given r v.0 l v.1) (eq-trans eq laws v.0 m x (eq-sym eq laws m v.0 (found_is r m v.0 g v.1)) e)))
              ]

          behind_start : (x : N) → eq start x ≡ true → IsBehind x 0
          behind_start x e zero y h none =
              let i = order 0 y h in
              let f : Some start ≡ Some i.0 = i.1 in
              let k : start ≡ i.0 = cc in
              near_start y 0 (subst (λ z. eq z y ≡ true) (sym k) i.2)
          behind_start x e (suc j) y h none =
              let v = get_below given 0 (omega (arith, slice_get_within given (suc j) y h)) in
              let i = order 0 v.0 v.1 in
              let f : Some start ≡ Some i.0 = i.1 in
              let k : start ≡ i.0 = cc in
              let same : eq v.0 x ≡ true = eq-trans eq laws v.0 start x (eq-sym eq laws start v.0 (subst (λ z. eq z v.0 ≡ true) (sym k) i.2)) e in
              absurd (none (at_node eq (take (suc j) given) 0 v.0 x (get_take (suc j) given 0 v.0 (omega arith) v.1) same))

          near_later : (x : N) (n : ℕ) → IsNear x n → IsNear x (suc n)
          near_later x n (w, g, l) = (w, g, omega (arith, l))

          behind_more : (a b : N) (n : ℕ) → IsBehind a n → HasNode eq (next a) b → IsBehind b (suc n)
          behind_more a b n behind s j y h none = elim (bool_dec (list_any (eq a) (take j given))) as (λ _. IsNear y (suc n)) [
            | inr t ↦ near_later y n (behind j y h (λ k. let p = node_place (take j given) a k in absurd (true≢false (sym (any_at eq a (take j given) p.0 p.1 p.2 (eq-sym eq laws p.1 a p.3)) ∙ t))))
            | inl t ↦
                let q = place_of eq a (take j given) t in
                let at = take_get j given q.0 q.1 q.2 in
                let same : eq q.1 a ≡ true = eq-sym eq laws a q.1 q.3 in
                let follows : HasNode eq (next q.1) b = has_alike (next a) (next q.1) b (Same-sym eq laws (next q.1) (next a) (alike q.1 a (reached q.0 q.1 at) same)) s in
                elim (found_by q.0 q.1 b at follows j y h none) as (λ _. IsNear y (suc n)) [
                  | inl e ↦ near_start y (suc n) e
                  | inr p ↦ near_more p.1 y n (reached p.0 p.1 p.2) (behind p.0 p.1 p.2 (λ k. let v = node_place (take p.0 given) a k in
                      let one : v.0 ≡ q.0 = given_one v.0 q.0 v.1 q.1 (take_get p.0 given v.0 v.1 v.2) at (eq-trans eq laws v.1 a q.1 v.3 q.3) in
                      absurd (omega (arith, one, p.3, slice_get_within (take p.0 given) v.0 v.1 v.2, length-take p.0 given)))) p.4
                ]
          ]

          behind_walk : (w : List N) (a : N) (n : ℕ) → IsBehind a n → Follows (HasSuccessor eq next) a w → IsBehind (end_of a w) (n + length w)
          behind_walk [] a n h f = subst (IsBehind a) (sym (plus_none n)) h
            where
              plus_none : (n : ℕ) → n + 0 ≡ n
              plus_none n = omega arith
          behind_walk (b ∷ w) a n h f =
              let sum : n + suc (length w) ≡ suc n + length w = omega arith in
              subst (IsBehind (end_of b w)) (sym sum) (behind_walk w b (suc n) (behind_more a b n h f.0) f.1)

          -- a node that was given earlier is at most as far from the start
          pub never_nearer : (i j : ℕ) (x y : N) → i ≤ j → slice_get given i ≡ Some x → slice_get given j ≡ Some y → (w : List N) → IsGoalWalk eq (HasSuccessor eq next) (start ∷ []) (λ z. eq z y) w
              → (v : List N) × IsGoalWalk eq (HasSuccessor eq next) (start ∷ []) (λ z. eq z x) v × (length v ≤ length w)
          never_nearer i j x y l a b [] g = absurd g.walks
          never_nearer i j x y l a b (s ∷ w) g =
              let first : eq start s ≡ true = elim g.begins as (λ _. eq start s ≡ true) [ inl e ↦ e | inr n ↦ absurd n ] in
              let sum : 0 + length w ≡ length w = omega arith in
              subst (IsNear x) sum (behind_walk w s 0 (behind_start s first) g.walks i x a (λ k.
              let v = node_place (take i given) (end_of s w) k in
              let one : v.0 ≡ j = given_one v.0 j v.1 y (take_get i given v.0 v.1 v.2) b (eq-trans eq laws v.1 (end_of s w) y v.3 g.ends) in
              absurd (omega (arith, one, l, slice_get_within (take i given) v.0 v.1 v.2, length-take i given))))
