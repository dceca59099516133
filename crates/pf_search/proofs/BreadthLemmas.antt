-- Lemmas on breadth order, over the definitions alone.
use Rattle.std.proofs.Common.{◌≡◌, ℕ, zero, suc, ◌<◌, ◌≤◌, ◌+◌, Bool, true, false, Some, List, [], ◌∷◌, ◌++◌, ◌∙◌, slice_get, length, take, drop, refl, sym, ap, subst, arith, inl, inr, ◌||◌, true≢false, if◌then◌else◌, pos, add-one}
use Rattle.std.specs.Prelude.{◌⊎◌}
use Rattle.std.specs.Cmp.{IsEquivalence}
use Rattle.std.specs.List.{list_any}
use Rattle.indexmap.specs.IndexSet.{insert_key, insert_all}
use Rattle.std.proofs.lemmas.List.{append-nil, append_assoc, take-append-le, length-take}
use Rattle.std.proofs.lemmas.List.Sums.{fold-append}
use Rattle.std.proofs.lemmas.Option.{slice_get_within}
use Rattle.std.proofs.Math.Seq.{take-append_seam}
use Rattle.pf_base.specs.Walks.{HasNode, IsReachable}
use Rattle.pf_base.specs.Edges.{InReach}
use Rattle.pf_base.specs.Successors.{HasSuccessor}
use Rattle.pf_base.specs.Answers.{SameNodes, ListsEdges}
use Rattle.pf_base.specs.Orders.{successors_of, found_from, IsNextInBreadth, IsBreadthOrder}
use Rattle.pf_core.specs.Hops.{unit_edges}
use Rattle.pf_base.proofs.ListLemmas.{take_get, none_in}
use Rattle.pf_core.proofs.NodeLemmas.{eq-sym, eq-trans, InReach-same, InReach-start, InReach-more}
use Rattle.pf_core.specs.HopLaws.{lists_unit, reach_next}
use Rattle.pf_core.proofs.UnitLemmas.{edge_of_next, reach_edges}
use Rattle.pf_core.proofs.PathLemmas.{HasNode-append_cases}

-- an element at a place of the list with one more at its end
pub push_cases : {A : Type 0} (xs : List A) (x : A) (k : ℕ) (m : A) → slice_get (xs ++ x ∷ []) k ≡ Some m → ((k < length xs) × (slice_get xs k ≡ Some m)) ⊎ ((k ≡ length xs) × (x ≡ m))
push_cases [] x zero m h = let e : Some x ≡ Some m = h in inr (refl, cc)
push_cases [] x (suc k) m h = absurd (none_in k m h)
push_cases (y ∷ ys) x zero m h = inl (omega arith, h)
push_cases (y ∷ ys) x (suc k) m h = elim (push_cases ys x k m h) as (λ _. ((suc k < suc (length ys)) × (slice_get ys k ≡ Some m)) ⊎ ((suc k ≡ suc (length ys)) × (x ≡ m))) [
  | inl p ↦ inl (omega (arith, p.0), p.1)
  | inr p ↦ inr (ap suc p.0, p.1)
]

-- one element more
pub take_more : {A : Type 0} (xs : List A) (n : ℕ) (m : A) → slice_get xs n ≡ Some m → take (n + 1) xs ≡ take n xs ++ m ∷ []
take_more xs n m h = subst (λ i. take i xs ≡ take n xs ++ m ∷ []) (sym (add-one n)) (by xs n h)
  where
    by : (xs : List _) (n : ℕ) → slice_get xs n ≡ Some m → take (suc n) xs ≡ take n xs ++ m ∷ []
    by [] n h = absurd (none_in n m h)
    by (x ∷ xs) zero h = let e : Some x ≡ Some m = h in let f : x ≡ m = cc in ap (λ y. y ∷ []) f
    by (x ∷ xs) (suc n) h = ap (λ ys. x ∷ ys) (by xs n h)

pub take_take : {A : Type 0} (xs : List A) (m n : ℕ) → m ≤ n → take m (take n xs) ≡ take m xs
take_take [] zero zero l = refl
take_take [] zero (suc n) l = refl
take_take [] (suc m) zero l = absurd (omega (arith, l))
take_take [] (suc m) (suc n) l = refl
take_take (x ∷ xs) zero zero l = refl
take_take (x ∷ xs) zero (suc n) l = refl
take_take (x ∷ xs) (suc m) zero l = absurd (omega (arith, l))
take_take (x ∷ xs) (suc m) (suc n) l = ap (λ ys. x ∷ ys) (take_take xs m n (omega (arith, l)))

module _ {N : Type 0} (eq : N → N → Bool) where
  -- a node that equals the one at a place
  pub at_node : (xs : List N) (k : ℕ) (m x : N) → slice_get xs k ≡ Some m → eq m x ≡ true → HasNode eq xs x
  at_node [] k m x h e = absurd (none_in k m h)
  at_node (y ∷ ys) zero m x h e = let f : Some y ≡ Some m = h in let g : y ≡ m = cc in inl (subst (λ z. eq z x ≡ true) (sym g) e)
  at_node (y ∷ ys) (suc k) m x h e = inr (at_node ys k m x h e)

  pub any_at : (x : N) (xs : List N) (k : ℕ) (m : N) → slice_get xs k ≡ Some m → eq x m ≡ true → list_any (eq x) xs ≡ true
  any_at x [] k m h e = absurd (none_in k m h)
  any_at x (y ∷ ys) zero m h e = let f : Some y ≡ Some m = h in let g : y ≡ m = cc in ap (λ b. b || list_any (eq x) ys) (subst (λ z. eq x z ≡ true) (sym g) e)
  any_at x (y ∷ ys) (suc k) m h e = by (eq x y) (any_at x ys k m h e)
    where
      by : (b : Bool) → list_any (eq x) ys ≡ true → (b || list_any (eq x) ys) ≡ true
      by true r = refl
      by false r = r

  pub place_of : (x : N) (xs : List N) → list_any (eq x) xs ≡ true → (k : ℕ) × (m : N) × (slice_get xs k ≡ Some m) × (eq x m ≡ true)
  place_of x [] h = absurd (true≢false (sym h))
  place_of x (y ∷ ys) h = by (eq x y) refl h (λ r. place_of x ys r)
    where
      by : (b : Bool) → eq x y ≡ b → (b || list_any (eq x) ys) ≡ true → (list_any (eq x) ys ≡ true → (k : ℕ) × (m : N) × (slice_get ys k ≡ Some m) × (eq x m ≡ true))
          → (k : ℕ) × (m : N) × (slice_get (y ∷ ys) k ≡ Some m) × (eq x m ≡ true)
      by true e r rest = (0, y, refl, e)
      by false e r rest = let p = rest r in (suc p.0, p.1, p.2, p.3)

  pub in_append : (xs ys : List N) (y : N) → HasNode eq (xs ++ ys) y → HasNode eq xs y ⊎ HasNode eq ys y
  in_append [] ys y h = inr h
  in_append (x ∷ xs) ys y (inl h) = inl (inl h)
  in_append (x ∷ xs) ys y (inr h) = elim (in_append xs ys y h) as (λ _. HasNode eq (x ∷ xs) y ⊎ HasNode eq ys y) [ inl k ↦ inl (inr k) | inr k ↦ inr k ]

  -- a node of a set was there before, or was put in
  pub inserted_cases : (xs ks : List N) (y : N) → HasNode eq (insert_all eq ks xs) y → HasNode eq ks y ⊎ HasNode eq xs y
  inserted_cases [] ks y h = inl h
  inserted_cases (x ∷ xs) ks y h = elim (inserted_cases xs (insert_key eq ks x) y h) as (λ _. HasNode eq ks y ⊎ HasNode eq (x ∷ xs) y) [
    | inl k ↦ by (list_any (eq x) ks) k
    | inr k ↦ inr (inr k)
  ]
    where
      by : (b : Bool) → HasNode eq (if b then ks else ks ++ x ∷ []) y → HasNode eq ks y ⊎ HasNode eq (x ∷ xs) y
      by true k = inl k
      by false k = elim (HasNode-append_cases eq ks x y k) as (λ _. HasNode eq ks y ⊎ HasNode eq (x ∷ xs) y) [ inl j ↦ inl j | inr e ↦ inr (inl e) ]

  pub Same-append : (xs ys us vs : List N) → SameNodes eq xs ys → SameNodes eq us vs → SameNodes eq (xs ++ us) (ys ++ vs)
  Same-append [] [] us vs s t = t
  Same-append [] (y ∷ ys) us vs s t = absurd s
  Same-append (x ∷ xs) [] us vs s t = absurd s
  Same-append (x ∷ xs) (y ∷ ys) us vs s t = (s.0, Same-append xs ys us vs s.1 t)

  pub Same-length : (xs ys : List N) → SameNodes eq xs ys → length xs ≡ length ys
  Same-length [] [] s = refl
  Same-length [] (y ∷ ys) s = absurd s
  Same-length (x ∷ xs) [] s = absurd s
  Same-length (x ∷ xs) (y ∷ ys) s = ap suc (Same-length xs ys s.1)

  pub Same-take : (n : ℕ) (xs ys : List N) → SameNodes eq xs ys → SameNodes eq (take n xs) (take n ys)
  Same-take zero [] [] s = tt
  Same-take zero [] (y ∷ ys) s = absurd s
  Same-take zero (x ∷ xs) [] s = absurd s
  Same-take zero (x ∷ xs) (y ∷ ys) s = tt
  Same-take (suc n) [] [] s = tt
  Same-take (suc n) [] (y ∷ ys) s = absurd s
  Same-take (suc n) (x ∷ xs) [] s = absurd s
  Same-take (suc n) (x ∷ xs) (y ∷ ys) s = (s.0, Same-take n xs ys s.1)

  pub Same-drop : (n : ℕ) (xs ys : List N) → SameNodes eq xs ys → SameNodes eq (drop n xs) (drop n ys)
  Same-drop zero xs ys s = s
  Same-drop (suc n) [] [] s = tt
  Same-drop (suc n) [] (y ∷ ys) s = absurd s
  Same-drop (suc n) (x ∷ xs) [] s = absurd s
  Same-drop (suc n) (x ∷ xs) (y ∷ ys) s = Same-drop n xs ys s.1

  -- the node at the same place of the other list
  pub Same-get : (xs ys : List N) (k : ℕ) (x : N) → SameNodes eq xs ys → slice_get xs k ≡ Some x → (y : N) × (slice_get ys k ≡ Some y) × (eq x y ≡ true)
  Same-get [] [] k x s h = absurd (none_in k x h)
  Same-get [] (b ∷ ys) k x s h = absurd s
  Same-get (a ∷ xs) [] k x s h = absurd s
  Same-get (a ∷ xs) (b ∷ ys) zero x s h = let e : Some a ≡ Some x = h in let f : a ≡ x = cc in (b, refl, subst (λ z. eq z b ≡ true) f s.0)
  Same-get (a ∷ xs) (b ∷ ys) (suc k) x s h = Same-get xs ys k x s.1 h

  -- lists of one length that have equal nodes at each place
  pub Same-places : (xs ys : List N) → length xs ≡ length ys → ((k : ℕ) (x : N) → slice_get xs k ≡ Some x → (y : N) × (slice_get ys k ≡ Some y) × (eq x y ≡ true)) → SameNodes eq xs ys
  Same-places [] [] e h = tt
  Same-places [] (y ∷ ys) e h = absurd (omega (arith, e))
  Same-places (x ∷ xs) [] e h = absurd (omega (arith, e))
  Same-places (x ∷ xs) (y ∷ ys) e h =
      let first = h 0 x refl in
      let f : Some y ≡ Some first.0 = first.1 in
      let g : y ≡ first.0 = cc in
      (subst (λ z. eq x z ≡ true) (sym g) first.2, Same-places xs ys (omega (arith, e)) (λ k z a. h (suc k) z a))

  module _ (laws : IsEquivalence eq) where
    pub Same-sym : (xs ys : List N) → SameNodes eq xs ys → SameNodes eq ys xs
    Same-sym [] [] s = tt
    Same-sym [] (y ∷ ys) s = absurd s
    Same-sym (x ∷ xs) [] s = absurd s
    Same-sym (x ∷ xs) (y ∷ ys) s = (eq-sym eq laws x y s.0, Same-sym xs ys s.1)

    any_same : (xs ys : List N) (x y : N) → SameNodes eq xs ys → eq x y ≡ true → list_any (eq x) xs ≡ list_any (eq y) ys
    any_same [] [] x y s e = refl
    any_same [] (b ∷ ys) x y s e = absurd s
    any_same (a ∷ xs) [] x y s e = absurd s
    any_same (a ∷ xs) (b ∷ ys) x y s e =
        let head : eq x a ≡ eq y b = laws.congr x y a e ∙ laws.symm y a ∙ laws.congr a b y s.0 ∙ laws.symm b y in
        let rest = any_same xs ys x y s.1 e in
        cc

    Same-insert : (xs ys : List N) (x y : N) → SameNodes eq xs ys → eq x y ≡ true → SameNodes eq (insert_key eq xs x) (insert_key eq ys y)
    Same-insert xs ys x y s e = by (list_any (eq x) xs) (list_any (eq y) ys) (any_same xs ys x y s e)
      where
        by : (b c : Bool) → b ≡ c → SameNodes eq (if b then xs else xs ++ x ∷ []) (if c then ys else ys ++ y ∷ [])
        by true true p = s
        by true false p = cc
        by false true p = cc
        by false false p = Same-append xs ys (x ∷ []) (y ∷ []) s (e, tt)

    pub Same-insert_all : (ks ls xs ys : List N) → SameNodes eq ks ls → SameNodes eq xs ys → SameNodes eq (insert_all eq ks xs) (insert_all eq ls ys)
    Same-insert_all ks ls [] [] s t = s
    Same-insert_all ks ls [] (y ∷ ys) s t = absurd t
    Same-insert_all ks ls (x ∷ xs) [] s t = absurd t
    Same-insert_all ks ls (x ∷ xs) (y ∷ ys) s t = Same-insert_all (insert_key eq ks x) (insert_key eq ls y) xs ys (Same-insert ks ls x y s t.0) t.1

    module _ (next : N → List N) (start : N) where
      successors-push : (given : List N) (x : N) → successors_of eq next (given ++ x ∷ []) ≡ successors_of eq next given ++ next x
      successors-push [] x = append-nil (next x)
      successors-push (y ∷ ys) x = ap (λ zs. next y ++ zs) (successors-push ys x) ∙ sym (append_assoc (next y) (successors_of eq next ys) (next x))

      -- one more node was given
      pub found-push : (given : List N) (x : N) → found_from eq next start (given ++ x ∷ []) ≡ insert_all eq (found_from eq next start given) (next x)
      found-push given x = ap (λ ys. insert_all eq [] (start ∷ ys)) (successors-push given x) ∙ fold-append (insert_key eq) [] (start ∷ successors_of eq next given) (next x)

      -- in reach of the start
      abbrev pub IsReached : N → Type 0
      IsReached = IsReachable eq (HasSuccessor eq next) (start ∷ [])

      pub reached-same : (x y : N) → IsReached x → eq x y ≡ true → IsReached y
      reached-same x y r e = reach_next eq next (start ∷ []) y (InReach-same eq laws (unit_edges next) (start ∷ []) x y (reach_edges eq next (start ∷ []) x r) e)

      -- what holds of each node of a list
      abbrev AllReached : List N → Type 0
      AllReached xs = (k : ℕ) (x : N) → slice_get xs k ≡ Some x → IsReached x

      module _ (alike : (x y : N) → IsReached x → eq x y ≡ true → SameNodes eq (next x) (next y)) where
        pub alike_edges : (x y : N) → InReach eq (unit_edges next) (start ∷ []) x → eq x y ≡ true → ListsEdges eq (λ z. z) (unit_edges next x) (unit_edges next y)
        alike_edges x y r e = lists_unit eq (next x) (next y) (alike x y (reach_next eq next (start ∷ []) x r) e)

        pub reached-more : (x y : N) → IsReached x → HasNode eq (next x) y → IsReached y
        reached-more x y r h = reach_next eq next (start ∷ []) y (InReach-more eq laws (unit_edges next) (start ∷ []) alike_edges x y (pos 1) (reach_edges eq next (start ∷ []) x r) (edge_of_next eq (next x) y h))

        successor_reached : (given : List N) → AllReached given → (y : N) → HasNode eq (successors_of eq next given) y → IsReached y
        successor_reached [] all y h = absurd h
        successor_reached (x ∷ xs) all y h = elim (in_append (next x) (successors_of eq next xs) y h) as (λ _. IsReached y) [
          | inl k ↦ reached-more x y (all 0 x refl) k
          | inr k ↦ successor_reached xs (λ j z g. all (suc j) z g) y k
        ]

        pub found_reached : (given : List N) → AllReached given → (y : N) → HasNode eq (found_from eq next start given) y → IsReached y
        found_reached given all y h = elim (inserted_cases (start ∷ successors_of eq next given) [] y h) as (λ _. IsReached y) [
          | inl k ↦ absurd k
          | inr k ↦ elim k as (λ _. IsReached y) [
            | inl e ↦ reach_next eq next (start ∷ []) y (InReach-start eq laws (unit_edges next) (start ∷ []) start y (inl (laws.refl start)) e)
            | inr m ↦ successor_reached given all y m
          ]
        ]

        -- each node of a beginning of the breadth order is in reach
        pub given_reached : (given : List N) → IsBreadthOrder eq next start given → AllReached given
        given_reached given order k x h = below (suc k) k x (omega arith) h
          where
            below : (n k : ℕ) (x : N) → k < n → slice_get given k ≡ Some x → IsReached x
            below zero k x l h = absurd (omega (arith, l))
            below (suc n) k x l h =
                let i = order k x h in
                found_reached (take k given) (λ j z g. below n j z (omega (arith, l, slice_get_within (take k given) j z g, length-take k given)) (take_get k given j z g)) x (at_node (found_from eq next start (take k given)) (length (take k given)) i.0 x i.1 i.2)

        successors_same : (xs ys : List N) → AllReached xs → SameNodes eq xs ys → SameNodes eq (successors_of eq next xs) (successors_of eq next ys)
        successors_same [] [] all s = tt
        successors_same [] (y ∷ ys) all s = absurd s
        successors_same (x ∷ xs) [] all s = absurd s
        successors_same (x ∷ xs) (y ∷ ys) all s = Same-append (next x) (next y) (successors_of eq next xs) (successors_of eq next ys) (alike x y (all 0 x refl) s.0) (successors_same xs ys (λ j z g. all (suc j) z g) s.1)

        pub found_same : (xs ys : List N) → AllReached xs → SameNodes eq xs ys → SameNodes eq (found_from eq next start xs) (found_from eq next start ys)
        found_same xs ys all s = Same-insert_all [] [] (start ∷ successors_of eq next xs) (start ∷ successors_of eq next ys) tt (laws.refl start, successors_same xs ys all s)

        -- the next node goes on with the order
        pub order_push : (given : List N) (x : N) → IsBreadthOrder eq next start given → IsNextInBreadth eq next start given x → IsBreadthOrder eq next start (given ++ x ∷ [])
        order_push given x order new k m h = elim (push_cases given x k m h) as (λ _. IsNextInBreadth eq next start (take k (given ++ x ∷ [])) m) [
          | inl p ↦ subst (λ zs. IsNextInBreadth eq next start zs m) (sym (take-append-le k given (x ∷ []) (omega (arith, p.0)))) (order k m p.1)
          | inr p ↦ subst (λ z. IsNextInBreadth eq next start (take k (given ++ x ∷ [])) z) p.1 (subst (λ zs. IsNextInBreadth eq next start zs x) (sym (ap (λ i. take i (given ++ x ∷ [])) p.0 ∙ take-append_seam given (x ∷ []))) new)
        ]

        -- so do equal nodes
        pub order_same : (xs ys : List N) → SameNodes eq xs ys → IsBreadthOrder eq next start xs → IsBreadthOrder eq next start ys
        order_same xs ys s order k y h =
            let g = Same-get ys xs k y (Same-sym xs ys s) h in
            let i = order k g.0 g.1 in
            let t = Same-take k xs ys s in
            let f = found_same (take k xs) (take k ys) (λ j z a. given_reached xs order j z (take_get k xs j z a)) t in
            let w = Same-get (found_from eq next start (take k xs)) (found_from eq next start (take k ys)) (length (take k xs)) i.0 f i.1 in (
              w.0,
              subst (λ n. slice_get (found_from eq next start (take k ys)) n ≡ Some w.0) (Same-length (take k xs) (take k ys) t) w.1,
              eq-trans eq laws w.0 i.0 y (eq-sym eq laws i.0 w.0 w.2) (eq-trans eq laws i.0 g.0 y i.2 (eq-sym eq laws y g.0 g.2)),
            )
