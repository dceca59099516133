-- Lemmas on nodes and their numbers.
use Rattle.std.proofs.Common.{◌≡◌, ℕ, zero, suc, ◌<◌, ◌≤◌, ◌+◌, ◌-◌, Bool, true, false, Option, Some, List, [], ◌∷◌, ◌++◌, ◌∙◌, slice_get, length, take, refl, sym, ap, subst, arith, length-append, Bor, inl, inr, ℤ, ◌||◌, true≢false, if◌then◌else◌}
use Rattle.std.specs.Prelude.{Contains, ◌⊎◌, ◌↔◌}
use Rattle.std.specs.Cmp.{IsEquivalence}
use Rattle.std.specs.Iterator.{Count}
use Rattle.std.specs.Fn.{Mut}
use Rattle.std.specs.List.{IsDistinct, AllByRecursion, list_any}
use Rattle.indexmap.specs.IndexSet.{insert_key}
use Rattle.std.proofs.lemmas.List.{take-append-le}
use Rattle.std.proofs.lemmas.List.Elements.{Contains-append_left, Contains-push}
use Rattle.std.proofs.lemmas.Option.{slice_get_within}
use Rattle.std.specs.Set.{is_member}
use Rattle.std.proofs.lemmas.Map.Made.{length-le_from_is_member}
use Rattle.pf_base.specs.Walks.{HasNode, IsAtMostNumberOf, Follows, IsWalk, end_of, BeginsAt, EndsAt}
use Rattle.pf_base.specs.NodeRefs.{HasSameNodes}
use Rattle.pf_base.specs.Edges.{HasEdge, IsSuccessor, InReach}
use Rattle.pf_base.specs.Answers.{ListsEdges, Gives, Answers, AnswersEach}
use Rattle.pf_core.specs.Numbered.{ListsSteps, Grows}
use Rattle.pf_core.specs.NodeLaws.{StandsFor-one}
use Rattle.pf_core.specs.Nodes.{NodeGraph, StandsFor, IsStep, AddsNode, NumbersItems, AddedFrom, Explores}
use Rattle.pf_base.proofs.ListLemmas.{or_left, or_right, or_true, or_cases, Contains-head, Contains-tail, Contains-cases, get-append_cases, take_get, get_take, none_in}
use Rattle.pf_core.proofs.FrontierLemmas.{end_more}

-- the list with one more element at its end
module _ {N : Type 0} (eq : N → N → Bool) where
  none_by : (xs : List N) (x : N) → ((k : ℕ) (m : N) → slice_get xs k ≡ Some m → eq m x ≡ false) → AllByRecursion (λ y. eq y x ≡ false) xs
  none_by [] x h = tt
  none_by (y ∷ ys) x h = (h 0 y refl, none_by ys x (λ k m g. h (suc k) m g))

  all_push : (P : N → Type 0) (xs : List N) (x : N) → AllByRecursion P xs → P x → AllByRecursion P (xs ++ x ∷ [])
  all_push P [] x a p = (p, tt)
  all_push P (y ∷ ys) x a p = (a.0, all_push P ys x a.1 p)

  distinct_push : (xs : List N) (x : N) → IsDistinct eq xs → AllByRecursion (λ y. eq y x ≡ false) xs → IsDistinct eq (xs ++ x ∷ [])
  unfolding IsDistinct
  distinct_push [] x d n = (tt, tt)
  distinct_push (y ∷ ys) x d n = (all_push (λ z. eq y z ≡ false) ys x d.0 n.0, distinct_push ys x d.1 n.1)

  pub AddsNode-new : (keys keys' : List N) (x : N) → keys' ≡ keys ++ x ∷ [] → ((k : ℕ) (m : N) → slice_get keys k ≡ Some m → eq m x ≡ false) → AddsNode eq x keys keys'
  AddsNode-new keys keys' x e new = subst (AddsNode eq x keys) (sym e) (record {
    grown = inr refl;
    longer = omega (arith, length-append keys (x ∷ []));
    kept = take-append-le (length keys) keys (x ∷ []) (omega arith) ∙ take_same keys;
    from = λ k m h. elim (get-append_cases keys x k m h) as (λ _. slice_get keys k ≡ Some m ⊎ (m ≡ x)) [ inl i ↦ inl i | inr i ↦ inr (sym i) ];
    distinct = λ d. distinct_push keys x d (none_by keys x new);
  })
    where
      take_same : (xs : List N) → take (length xs) xs ≡ xs
      take_same [] = refl
      take_same (y ∷ ys) = ap (λ zs. y ∷ zs) (take_same ys)

  pub AddsNode-old : (keys : List N) (x : N) → AddsNode eq x keys keys
  AddsNode-old keys x = record { grown = inl refl; longer = omega arith; kept = take_same keys; from = λ k m h. inl h; distinct = λ d. d }
    where
      take_same : (xs : List N) → take (length xs) xs ≡ xs
      take_same [] = refl
      take_same (y ∷ ys) = ap (λ zs. y ∷ zs) (take_same ys)

  -- a node was put into the set
  pub AddsNode-insert : IsEquivalence eq → (keys keys' : List N) (x : N) → keys' ≡ insert_key eq keys x → AddsNode eq x keys keys'
  AddsNode-insert laws keys keys' x e = by (list_any (eq x) keys) refl
    where
      none_at : (ks : List N) → list_any (eq x) ks ≡ false → (k : ℕ) (m : N) → slice_get ks k ≡ Some m → eq m x ≡ false
      none_at [] h k m g = absurd (none_in k m g)
      none_at (y ∷ ys) h zero m g =
          let q : Some y ≡ Some m = g in
          let r : y ≡ m = cc in
          laws.symm m x ∙ subst (λ (z : N). eq x z ≡ false) r (or_left (eq x y) (list_any (eq x) ys) h)
      none_at (y ∷ ys) h (suc k) m g = none_at ys (or_right (eq x y) (list_any (eq x) ys) h) k m g

      by : (b : Bool) → list_any (eq x) keys ≡ b → AddsNode eq x keys keys'
      by true h = subst (AddsNode eq x keys) (sym (e ∙ ap (λ (b : Bool). if b then keys else keys ++ x ∷ []) h)) (AddsNode-old keys x)
      by false h = AddsNode-new keys keys' x (e ∙ ap (λ (b : Bool). if b then keys else keys ++ x ∷ []) h) (none_at keys h)

  module _ (laws : IsEquivalence eq) where
    has_pushed : (ys : List N) (s x : N) → HasNode eq (ys ++ s ∷ []) x ↔ (HasNode eq ys x ⊎ (eq s x ≡ true))
    has_pushed [] s x = (λ h. elim h [ inl e ↦ inr e | inr n ↦ absurd n ], λ h. elim h [ inl n ↦ absurd n | inr e ↦ inl e ])
    has_pushed (y ∷ ys) s x = let rest = has_pushed ys s x in (
      λ h. elim h [ inl e ↦ inl (inl e) | inr n ↦ elim (rest.0 n) [ inl m ↦ inl (inr m) | inr e ↦ inr e ] ],
      λ h. elim h [ inl n ↦ elim n [ inl e ↦ inl e | inr m ↦ inr (rest.1 (inl m)) ] | inr e ↦ inr (rest.1 (inr e)) ],
    )

    has_found : (ks : List N) (x y : N) → list_any (eq x) ks ≡ true → eq x y ≡ true → HasNode eq ks y
    has_found [] x y h e = absurd (true≢false (sym h))
    has_found (k ∷ ks) x y h e = elim (or_cases (eq x k) (list_any (eq x) ks) h) as (λ _. HasNode eq (k ∷ ks) y) [
      | inl f ↦ inl (sym (laws.congr x k y f) ∙ e)
      | inr f ↦ inr (has_found ks x y f e)
    ]

    has_inserted : (ks : List N) (x y : N) → HasNode eq (insert_key eq ks x) y ↔ (HasNode eq ks y ⊎ (eq x y ≡ true))
    has_inserted ks x y = by (list_any (eq x) ks) refl
      where
        by : (b : Bool) → list_any (eq x) ks ≡ b → HasNode eq (if b then ks else ks ++ x ∷ []) y ↔ (HasNode eq ks y ⊎ (eq x y ≡ true))
        by true found = (λ h. inl h, λ h. elim h [ inl n ↦ n | inr e ↦ has_found ks x y found e ])
        by false found = has_pushed ks x y

    -- a set with the nodes of a list, and one node more, the same as the list's next
    pub HasSameNodes-insert : (ys keys keys' : List N) (s x : N) → HasSameNodes eq keys ys → eq s x ≡ true → keys' ≡ insert_key eq keys x → HasSameNodes eq keys' (ys ++ s ∷ [])
    HasSameNodes-insert ys keys keys' s x h e q = subst (λ ks. HasSameNodes eq ks (ys ++ s ∷ [])) (sym q) (λ y. (
      λ k. elim ((has_inserted keys x y).0 k) as (λ _. HasNode eq (ys ++ s ∷ []) y) [
        | inl n ↦ (has_pushed ys s y).1 (inl ((h y).0 n))
        | inr f ↦ (has_pushed ys s y).1 (inr (laws.congr s x y e ∙ f))
      ],
      λ k. elim ((has_pushed ys s y).0 k) as (λ _. HasNode eq (insert_key eq keys x) y) [
        | inl n ↦ (has_inserted keys x y).1 (inl ((h y).1 n))
        | inr f ↦ (has_inserted keys x y).1 (inr (sym (laws.congr s x y e) ∙ f))
      ],
    ))

  pub AddsNode-stays : (x : N) (keys keys' : List N) → AddsNode eq x keys keys' → (k : ℕ) (m : N) → slice_get keys k ≡ Some m → slice_get keys' k ≡ Some m
  AddsNode-stays x keys keys' a k m h = take_get (length keys) keys' k m (subst (λ (zs : List N). slice_get zs k ≡ Some m) (sym a.kept) h)

  -- a longer list keeps what a shorter one kept
  pub take_longer : (n : ℕ) (keys keys' : List N) → n ≤ length keys → take (length keys) keys' ≡ keys → take n keys' ≡ take n keys
  take_longer n keys keys' l h = sym (take_both n keys keys' l h)
    where
      take_both : (n : ℕ) (xs ys : List N) → n ≤ length xs → take (length xs) ys ≡ xs → take n xs ≡ take n ys
      take_both zero [] [] l h = refl
      take_both zero [] (y ∷ ys) l h = refl
      take_both zero (x ∷ xs) [] l h = refl
      take_both zero (x ∷ xs) (y ∷ ys) l h = refl
      take_both (suc n) [] ys l h = absurd (omega (arith, l))
      take_both (suc n) (x ∷ xs) [] l h = cc
      take_both (suc n) (x ∷ xs) (y ∷ ys) l h = let a : y ≡ x = cc in let b : take (length xs) ys ≡ xs = cc in ap (λ (z : N). z ∷ take n xs) (sym a) ∙ ap (λ zs. y ∷ zs) (take_both n xs ys (omega (arith, l)) b)

  module _ (laws : IsEquivalence eq) where
    pub eq-sym : (x y : N) → eq x y ≡ true → eq y x ≡ true
    eq-sym x y h = laws.symm y x ∙ h

    pub eq-trans : (x y z : N) → eq x y ≡ true → eq y z ≡ true → eq x z ≡ true
    eq-trans x y z h k = laws.congr x y z h ∙ k

    pub StandsFor-same : (keys : List N) (k : ℕ) (x y : N) → StandsFor eq keys k x → eq x y ≡ true → StandsFor eq keys k y
    StandsFor-same keys k x y s e = (s.0, s.1, eq-trans s.0 x y s.2 e)

  module _ {C : Type 0} where
    pub Numbers-grow : (ks ks' : List N) (row : List (ℕ × C)) (xs : List (N × C)) → ((k : ℕ) (m : N) → slice_get ks k ≡ Some m → slice_get ks' k ≡ Some m) → NumbersItems eq ks row xs → NumbersItems eq ks' row xs
    Numbers-grow ks ks' [] [] more h = tt
    Numbers-grow ks ks' [] (x ∷ xs) more h = absurd h
    Numbers-grow ks ks' (r ∷ row) [] more h = absurd h
    Numbers-grow ks ks' (r ∷ row) (x ∷ xs) more h = (((h.0.0.0, more r.0 h.0.0.0 h.0.0.1, h.0.0.2), h.0.1), Numbers-grow ks ks' row xs more h.1)

    pub Numbers-push : (ks : List N) (row : List (ℕ × C)) (xs : List (N × C)) (j : ℕ) (c : C) (x : N) → NumbersItems eq ks row xs → StandsFor eq ks j x → NumbersItems eq ks (row ++ (j, c) ∷ []) (xs ++ (x, c) ∷ [])
    Numbers-push ks [] [] j c x h s = ((s, refl), tt)
    Numbers-push ks [] (y ∷ ys) j c x h s = absurd h
    Numbers-push ks (q ∷ row) [] j c x h s = absurd h
    Numbers-push ks (q ∷ row) (y ∷ ys) j c x h s = (h.0, Numbers-push ks row ys j c x h.1 s)

    pub AddedFrom-push : (start ks ks' : List N) (xs : List (N × C)) (c : C) (x : N) → AddsNode eq x ks ks' → AddedFrom eq xs start ks → AddedFrom eq (xs ++ (x, c) ∷ []) start ks'
    AddedFrom-push start ks ks' xs c x e a k m h = elim (e.from k m h) as (λ _. slice_get start k ≡ Some m ⊎ ((d : C) × Contains (xs ++ (x, c) ∷ []) (m, d))) [
      | inl g ↦ elim (a k m g) as (λ _. slice_get start k ≡ Some m ⊎ ((d : C) × Contains (xs ++ (x, c) ∷ []) (m, d))) [ inl b ↦ inl b | inr b ↦ inr (b.0, Contains-append_left xs ((x, c) ∷ []) (m, b.0) b.1) ]
      | inr g ↦ inr (c, subst (λ (n : N). Contains (xs ++ (x, c) ∷ []) (n, c)) (sym g) (Contains-push xs (x, c)))
    ]

-- graphs, up to node equality
module _ {N : Type 0} (eq : N → N → Bool) (laws : IsEquivalence eq) where
  pub HasEdge-alike : (xs ys : List (N × ℤ)) (b : N) (z : ℤ) → ListsEdges eq (λ z. z) xs ys → HasEdge eq xs b z → HasEdge eq ys b z
  HasEdge-alike [] [] b z s h = h
  HasEdge-alike [] (y ∷ ys) b z s h = absurd h
  HasEdge-alike (x ∷ xs) [] b z s h = absurd s
  HasEdge-alike (x ∷ xs) (y ∷ ys) b z s (inl h) = inl (sym (laws.congr x.0 y.0 b s.0.0) ∙ h.0, sym s.0.1 ∙ h.1)
  HasEdge-alike (x ∷ xs) (y ∷ ys) b z s (inr h) = inr (HasEdge-alike xs ys b z s.1 h)

  pub HasEdge-same : (xs : List (N × ℤ)) (a b : N) (z : ℤ) → eq a b ≡ true → HasEdge eq xs a z → HasEdge eq xs b z
  HasEdge-same [] a b z e h = h
  HasEdge-same (x ∷ xs) a b z e (inl h) = inl (eq-trans eq laws x.0 a b h.0 e, h.1)
  HasEdge-same (x ∷ xs) a b z e (inr h) = inr (HasEdge-same xs a b z e h)

  Lists-sym : (xs ys : List (N × ℤ)) → ListsEdges eq (λ z. z) xs ys → ListsEdges eq (λ z. z) ys xs
  Lists-sym [] [] s = tt
  Lists-sym [] (y ∷ ys) s = absurd s
  Lists-sym (x ∷ xs) [] s = absurd s
  Lists-sym (x ∷ xs) (y ∷ ys) s = ((eq-sym eq laws x.0 y.0 s.0.0, sym s.0.1), Lists-sym xs ys s.1)

  pub follows_more : (step : N → N → Type 0) (w : List N) (a b : N) → Follows step a w → step (end_of a w) b → Follows step a (w ++ b ∷ [])
  follows_more step [] a b h k = (k, tt)
  follows_more step (c ∷ w) a b h k = (h.0, follows_more step w c b h.1 k)

  module _ (edges : N → List (N × ℤ)) (starts : List N) where
    pub InReach-same : (x y : N) → InReach eq edges starts x → eq x y ≡ true → InReach eq edges starts y
    InReach-same x y r e = record { walk = r.walk; goes = record { walks = r.goes.walks; begins = r.goes.begins; ends = ends r.walk r.goes.ends } }
      where
        ends : (w : List N) → EndsAt eq (λ z. eq z x) w → EndsAt eq (λ z. eq z y) w
        ends [] h = h
        ends (a ∷ w) h = eq-trans eq laws (end_of a w) x y h e

    pub InReach-start : (s x : N) → HasNode eq starts s → eq s x ≡ true → InReach eq edges starts x
    InReach-start s x h e = record { walk = s ∷ []; goes = record { walks = tt; begins = h; ends = e } }

    -- what follows a walk from a start is in reach
    pub InReach-after : (a : N) (w : List N) → Follows (IsSuccessor eq edges) a w → HasNode eq starts a → InReach eq edges starts (end_of a w)
    InReach-after a w f h = record { walk = a ∷ w; goes = record { walks = f; begins = h; ends = laws.refl (end_of a w) } }

    module _ (alike : (x y : N) → InReach eq edges starts x → eq x y ≡ true → ListsEdges eq (λ z. z) (edges x) (edges y)) where
      -- the edges of equal nodes in reach
      pub edge_of_same : (x y b : N) (z : ℤ) → InReach eq edges starts x → eq x y ≡ true → HasEdge eq (edges x) b z → HasEdge eq (edges y) b z
      edge_of_same x y b z r e h = HasEdge-alike (edges x) (edges y) b z (alike x y r e) h

      pub edge_of_same_back : (x y b : N) (z : ℤ) → InReach eq edges starts x → eq x y ≡ true → HasEdge eq (edges y) b z → HasEdge eq (edges x) b z
      edge_of_same_back x y b z r e h = HasEdge-alike (edges y) (edges x) b z (Lists-sym (edges x) (edges y) (alike x y r e)) h

      pub InReach-more : (x b : N) (z : ℤ) → InReach eq edges starts x → HasEdge eq (edges x) b z → InReach eq edges starts b
      InReach-more x b z r h = by r.walk r.goes.walks r.goes.begins r.goes.ends
        where
          by : (w : List N) → IsWalk (IsSuccessor eq edges) w → BeginsAt eq starts w → EndsAt eq (λ y. eq y x) w → InReach eq edges starts b
          by [] f s e = absurd f
          by (a ∷ w) f s e =
              let last = end_of a w in
              let edge : HasEdge eq (edges last) b z = edge_of_same_back last x b z (InReach-after a w f s) e h in
              InReach-same b b (subst (InReach eq edges starts) (end_more w a b) (InReach-after a (w ++ b ∷ []) (follows_more (IsSuccessor eq edges) w a b f (z, edge)) s)) (laws.refl b)

      module _ {C : Type 0} (value : C → ℤ) where
        -- each edge of the answer is in the row, and each place of the row is an edge
        row_of_edge : (ks : List N) (row : List (ℕ × C)) (xs : List (N × C)) (es : List (N × ℤ)) (b : N) (z : ℤ) → NumbersItems eq ks row xs → ListsEdges eq value xs es → HasEdge eq es b z → (j : ℕ) × (c : C) × Contains row (j, c) × (value c ≡ z) × StandsFor eq ks j b
        row_of_edge ks [] [] [] b z n l h = absurd h
        row_of_edge ks [] [] (e ∷ es) b z n l h = absurd l
        row_of_edge ks [] (x ∷ xs) es b z n l h = absurd n
        row_of_edge ks (r ∷ row) [] es b z n l h = absurd n
        row_of_edge ks (r ∷ row) (x ∷ xs) [] b z n l h = absurd l
        row_of_edge ks (r ∷ row) (x ∷ xs) (e ∷ es) b z n l (inl h) =
            let s = n.0.0 in
            (r.0, r.1, Contains-head row r, ap value n.0.1 ∙ l.0.1 ∙ h.1, (s.0, s.1, eq-trans eq laws s.0 e.0 b (eq-trans eq laws s.0 x.0 e.0 s.2 l.0.0) h.0))
        row_of_edge ks (r ∷ row) (x ∷ xs) (e ∷ es) b z n l (inr h) = let q = row_of_edge ks row xs es b z n.1 l.1 h in (q.0, q.1, Contains-tail row r (q.0, q.1) q.2, q.3, q.4)

        edge_of_row : (ks : List N) (row : List (ℕ × C)) (xs : List (N × C)) (es : List (N × ℤ)) (j : ℕ) (c : C) → NumbersItems eq ks row xs → ListsEdges eq value xs es → Contains row (j, c) → (b : N) × HasEdge eq es b (value c) × StandsFor eq ks j b
        edge_of_row ks [] xs es j c n l h = absurd (omega (arith, h.1))
        edge_of_row ks (r ∷ row) [] es j c n l h = absurd n
        edge_of_row ks (r ∷ row) (x ∷ xs) [] j c n l h = absurd l
        edge_of_row ks (r ∷ row) (x ∷ xs) (e ∷ es) j c n l h = elim (Contains-cases row r (j, c) h) as (λ _. (b : N) × HasEdge eq (e ∷ es) b (value c) × StandsFor eq ks j b) [
          | inl q ↦
              let s = n.0.0 in
              (e.0, inl (laws.refl e.0, sym l.0.1 ∙ ap value (sym n.0.1 ∙ ap (λ (p : ℕ × C). p.1) q)), subst (λ (i : ℕ). StandsFor eq ks i e.0) (ap (λ (p : ℕ × C). p.0) q) (s.0, s.1, eq-trans eq laws s.0 x.0 e.0 s.2 l.0.0))
          | inr k ↦ let q = edge_of_row ks row xs es j c n.1 l.1 k in (q.0, inr q.1, q.2)
        ]

        -- an item of the answer is an edge
        edge_of_item : (xs : List (N × C)) (es : List (N × ℤ)) (m : N) (c : C) → ListsEdges eq value xs es → Contains xs (m, c) → HasEdge eq es m (value c)
        edge_of_item [] es m c l h = absurd (omega (arith, h.1))
        edge_of_item (x ∷ xs) [] m c l h = absurd l
        edge_of_item (x ∷ xs) (e ∷ es) m c l h = elim (Contains-cases xs x (m, c) h) as (λ _. HasEdge eq (e ∷ es) m (value c)) [
          | inl q ↦ inl (eq-sym eq laws m e.0 (subst (λ (n : N). eq n e.0 ≡ true) (ap (λ (p : N × C). p.0) q) l.0.0), sym l.0.1 ∙ ap (λ (p : N × C). value p.1) q)
          | inr k ↦ inr (edge_of_item xs es m c l.1 k)
        ]

        -- the nodes found after an answer are in reach
        pub reached_added : (keys keys' : List N) (here : N) (xs : List (N × C)) → InReach eq edges starts here → ListsEdges eq value xs (edges here) → AddedFrom eq xs keys keys' → ((k : ℕ) (x : N) → slice_get keys k ≡ Some x → InReach eq edges starts x)
            → (k : ℕ) (x : N) → slice_get keys' k ≡ Some x → InReach eq edges starts x
        reached_added keys keys' here xs r l added before k x h = elim (added k x h) as (λ _. InReach eq edges starts x) [
          | inl b ↦ before k x b
          | inr b ↦ InReach-more here x (value b.0) r (edge_of_item xs (edges here) x b.0 l b.1)
        ]

  -- the row lists the steps of each node that the number stands for
  pub Lists-from : {C : Type 0} (value : C → ℤ) (g : NodeGraph N) (alike : (x y : N) → InReach eq g.edges g.starts x → eq x y ≡ true → ListsEdges eq (λ z. z) (g.edges x) (g.edges y))
      (keys keys' : List N) (k : ℕ) (here : N) (row : List (ℕ × C)) (xs : List (N × C)) → slice_get keys k ≡ Some here → InReach eq g.edges g.starts here → NumbersItems eq keys' row xs → ListsEdges eq value xs (g.edges here)
      → ((i j : ℕ) (x : N) → StandsFor eq keys' i x → StandsFor eq keys' j x → i ≡ j) → (x : N) → StandsFor eq keys k x → ListsSteps value (IsStep eq g) (StandsFor eq keys') x row
  Lists-from value g alike keys keys' k here row xs at reach n l one x s =
      let same : s.0 ≡ here = (let e : Some s.0 ≡ Some here = sym s.1 ∙ at in cc) in
      let h : eq here x ≡ true = subst (λ (m : N). eq m x ≡ true) same s.2 in
      let rx : InReach eq g.edges g.starts x = InReach-same g.edges g.starts here x reach h in
      record {
        numbered = λ z y e. let r = row_of_edge g.edges g.starts alike value keys' row xs (g.edges here) y z n l (edge_of_same_back g.edges g.starts alike here x y z reach h e.1) in (r.0, r.4);
        complete = λ z y j e t.
            let r = row_of_edge g.edges g.starts alike value keys' row xs (g.edges here) y z n l (edge_of_same_back g.edges g.starts alike here x y z reach h e.1) in
            (r.1, subst (λ (i : ℕ). Contains row (i, r.1)) (one r.0 j y r.4 t) r.2, r.3);
        sound = λ j c m. let r = edge_of_row g.edges g.starts alike value keys' row xs (g.edges here) j c n l m in (r.0, (rx, edge_of_same g.edges g.starts alike here x r.0 (value c) reach h r.1), r.2);
      }

pub test_at : {N : Type 0} (eq : N → N → Bool) (within : N → Type 0) (test : N → Bool) → ((x y : N) → within x → eq x y ≡ true → test x ≡ test y) → (keys : List N) (k : ℕ) (here x : N) → within here → slice_get keys k ≡ Some here → StandsFor eq keys k x → test here ≡ test x
test_at eq within test same keys k here x w at s =
    let e : Some s.0 ≡ Some here = sym s.1 ∙ at in
    let f : s.0 ≡ here = cc in
    same here x w (subst (λ m. eq m x ≡ true) f s.2)

pub Grows-from_take : {N : Type 0} (eq : N → N → Bool) (ks ks' : List N) → length ks ≤ length ks' → take (length ks) ks' ≡ ks → Grows (length ks) (length ks') (StandsFor eq ks) (StandsFor eq ks')
Grows-from_take eq ks ks' l t = record {
  more = l;
  stays = λ k x s. (s.0, take_get (length ks) ks' k s.0 (subst (λ (ys : List _). slice_get ys k ≡ Some s.0) (sym t) s.1), s.2);
  back = λ k x h s. (s.0, subst (λ (ys : List _). slice_get ys k ≡ Some s.0) t (get_take (length ks) ks' k s.0 h s.1), s.2);
}

pub inside_of : {N C : Type 0} (eq : N → N → Bool) (keys : List N) (row : List (ℕ × C)) (xs : List (N × C)) → NumbersItems eq keys row xs → (j : ℕ) (c : C) → Contains row (j, c) → j < length keys
inside_of eq keys [] xs n j c h = absurd (omega (arith, h.1))
inside_of eq keys (r ∷ row) [] n j c h = absurd n
inside_of eq keys (r ∷ row) (x ∷ xs) n j c h = elim (Contains-cases row r (j, c) h) as (λ _. j < length keys) [
  | inl e ↦ subst (λ (p : ℕ × _). p.0 < length keys) e (slice_get_within keys r.0 n.0.0.0 n.0.0.1)
  | inr k ↦ inside_of eq keys row xs n.1 j c k
]

-- a discovery begins with a set of the starts
module _ {N S : Type 0} (eq : N → N → Bool) (laws : IsEquivalence eq) (answers : S → List N → (N → List (N × ℤ)) → Type 0) where
  node_of : (keys : List N) (k : ℕ) (x : N) → slice_get keys k ≡ Some x → HasNode eq keys x
  node_of [] k x h = absurd (none_in k x h)
  node_of (m ∷ keys) zero x h = let e : Some m ≡ Some x = h in let f : m ≡ x = cc in inl (subst (λ (y : N). eq m y ≡ true) f (laws.refl m))
  node_of (m ∷ keys) (suc k) x h = inr (node_of keys k x h)

  pub Explores-start : (g : NodeGraph N) (keys : List N) (source : S) → IsDistinct eq keys → HasSameNodes eq keys g.starts
      → ((x y : N) → InReach eq g.edges g.starts x → eq x y ≡ true → ListsEdges eq (λ z. z) (g.edges x) (g.edges y)) → answers source g.starts g.edges
      → Explores eq answers g keys source
  Explores-start g keys source once same alike a = record {
    alike = alike;
    answered = a;
    distinct = once;
    reached = λ k x h. InReach-start eq laws g.edges g.starts x x ((same x).0 (node_of keys k x h)) (laws.refl x);
  }

-- what answers say, said in another way
module _ {F N R : Type 0} (calls : Mut F (Bor N × Unit {0}) R) (within within' : N → Type 0) (less : (x : N) → within' x → within x) (gives gives' : N → R → Type 0) (said : (x : N) (r : R) → gives x r → gives' x r) where
  each_weaker : (f : F) (xs : List (Bor N)) → AnswersEach calls within gives f xs → AnswersEach calls within' gives' f xs
  each_weaker f [] h = tt
  each_weaker f (x ∷ xs) h = λ w. let q = h (less x.now w) in (q.0, λ r f' k. let n = q.1 r f' k in (said x.now r n.0, each_weaker f' xs n.1))

  pub Answers-weaker : (f : F) → Answers calls within gives f → Answers calls within' gives' f
  Answers-weaker f h = record { at = λ xs. each_weaker f xs (h.at xs) }

pub Gives-weaker : {I S A : Type 0} (becomes : I → S → Type 0) (can : S → Type 0) (left : S → Count) (steps : S → Option A → S → Type 0) (P Q : List A → Type 0) → ((xs : List A) → P xs → Q xs) → (r : I) → Gives becomes can left steps P r → Gives becomes can left steps Q r
Gives-weaker becomes can left steps P Q f r g = record { can_next = g.can_next; finite = g.finite; items = λ it b p t e w. f p.items (g.items it b p t e w) }

-- a number that is new is in the row
module _ {N C : Type 0} (eq : N → N → Bool) (laws : IsEquivalence eq) (keys keys' : List N) (distinct : IsDistinct eq keys') where
  number_in_row : (row : List (ℕ × C)) (xs : List (N × C)) (m : N) (d : C) (j : ℕ) → NumbersItems eq keys' row xs → Contains xs (m, d) → StandsFor eq keys' j m → (c : C) × Contains row (j, c)
  number_in_row row [] m d j n h s = absurd (omega (arith, h.1))
  number_in_row [] (x ∷ xs) m d j n h s = absurd n
  number_in_row (r ∷ row) (x ∷ xs) m d j n h s = elim (Contains-cases xs x (m, d) h) as (λ _. (c : C) × Contains (r ∷ row) (j, c)) [
    | inl e ↦
        let same : x.0 ≡ m = ap (λ (p : N × C). p.0) e in
        let k : r.0 ≡ j = StandsFor-one eq laws keys' distinct r.0 j m (subst (λ (y : N). StandsFor eq keys' r.0 y) same n.0.0) s in
        (r.1, subst (λ (i : ℕ). Contains (r ∷ row) (i, r.1)) k (Contains-head row r))
    | inr k ↦ let q = number_in_row row xs m d j n.1 k s in (q.0, Contains-tail row r (j, q.0) q.1)
  ]

  pub fresh_number : (row : List (ℕ × C)) (xs : List (N × C)) → NumbersItems eq keys' row xs → AddedFrom eq xs keys keys' → (j : ℕ) → length keys ≤ j → j < length keys' → (c : C) × Contains row (j, c)
  fresh_number row xs n a j low high =
      let m = get_below keys' j high in
      elim (a j m.0 m.1) as (λ _. (c : C) × Contains row (j, c)) [
        | inl old ↦ absurd (omega (arith, slice_get_within keys j m.0 old, low))
        | inr new ↦ number_in_row row xs m.0 new.0 j n new.1 (m.0, m.1, laws.refl m.0)
      ]
    where
      get_below : (ks : List N) (j : ℕ) → j < length ks → (m : N) × (slice_get ks j ≡ Some m)
      get_below [] j h = absurd (omega (arith, h))
      get_below (k ∷ ks) zero h = (k, refl)
      get_below (k ∷ ks) (suc j) h = get_below ks j (omega (arith, h))

-- there are at most as many distinct nodes of a sort as there are nodes of that sort
module _ {N : Type 0} (eq : N → N → Bool) (laws : IsEquivalence eq) (P : N → Type 0) (keys : List N) (distinct : IsDistinct eq keys) (all : (k : ℕ) (x : N) → slice_get keys k ≡ Some x → P x) where
  member_of : (xs : List N) (q : N) → HasNode eq xs q → is_member eq xs q ≡ true
  member_of [] q h = absurd h
  member_of (x ∷ xs) q (inl e) = ap (λ b. b || is_member eq xs q) (eq-sym eq laws x q e)
  member_of (x ∷ xs) q (inr h) = or_true (eq q x) (is_member eq xs q) (member_of xs q h)

  place_of : (xs : List N) (q : N) → is_member eq xs q ≡ true → (k : ℕ) × (x : N) × (slice_get xs k ≡ Some x) × (eq q x ≡ true)
  place_of [] q h = absurd (true≢false (sym h))
  place_of (x ∷ xs) q h = elim (or_cases (eq q x) (is_member eq xs q) h) as (λ _. (k : ℕ) × (y : N) × (slice_get (x ∷ xs) k ≡ Some y) × (eq q y ≡ true)) [
    | inl e ↦ (0, x, refl, e)
    | inr r ↦ let p = place_of xs q r in (suc p.0, p.1, p.2, p.3)
  ]

  HasNode-same : (nodes : List N) (x y : N) → HasNode eq nodes x → eq x y ≡ true → HasNode eq nodes y
  HasNode-same [] x y h e = h
  HasNode-same (n ∷ nodes) x y (inl h) e = inl (eq-trans eq laws n x y h e)
  HasNode-same (n ∷ nodes) x y (inr h) e = inr (HasNode-same nodes x y h e)

  pub at_most : (before after : ℕ) → after ≤ before + length keys → IsAtMostNumberOf eq P (after - before)
  at_most before after l nodes has =
      let short = length-le_from_is_member laws keys nodes distinct (λ q m. let p = place_of keys q m in member_of nodes q (HasNode-same nodes p.1 q (has p.1 (all p.0 p.1 p.2)) (eq-sym eq laws q p.1 p.3))) in
      omega (arith, l, short)
