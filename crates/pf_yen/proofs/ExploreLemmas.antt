-- What is learned stays true while nodes are found, and what one number more adds.
use Rattle.std.proofs.Common.{◌≡◌, ℕ, zero, suc, ◌<◌, ◌≤◌, ◌+◌, ◌∙◌, refl, sym, ap, subst, arith, inl, inr, Bool, true, false, true≢false, List, [], ◌∷◌, ◌++◌, length, get_or, length-append, ℤ}
use Rattle.std.specs.Prelude.{◌⊎◌, Contains}
use Rattle.std.proofs.Math.ListN.{get_or-append}
use Rattle.std.proofs.Math.Seq.{get_or-append_seam}
use Rattle.pf_core.specs.Numbered.{ListsSteps, Grows}
use Rattle.pf_core.specs.Steps.{IsNonNegative}
use Rattle.pf_base.proofs.ListLemmas.{nat_dec, Contains-head}
use Rattle.pf_yen.specs.Internal.Adjacency.{AdjacencyLists, row_of, is_goal}
use Rattle.pf_yen.specs.Internal.WholeGraphs.{IsWhole}
use Rattle.pf_yen.specs.Internal.Learned.{LiveStep, IsLearned}
use Rattle.pf_yen.proofs.FilteredLemmas.{in_none}

get_or-beyond : {A : Type 0} (xs : List A) (n : ℕ) (d : A) → length xs ≤ n → get_or xs n d ≡ d
get_or-beyond [] n d h = refl
get_or-beyond (x ∷ xs) zero d h = absurd (omega (arith, h))
get_or-beyond (x ∷ xs) (suc n) d h = get_or-beyond xs n d (omega (arith, h))

-- a place of a longer list
place_cases : (n a : ℕ) → (a < n) ⊎ ((a ≡ n) ⊎ (n + 1 ≤ a))
place_cases n a = elim (nat_dec a n) as (λ _. (a < n) ⊎ ((a ≡ n) ⊎ (n + 1 ≤ a))) [
  | inl e ↦ inr (inl e)
  | inr d ↦ less a n d
]
  where
    less : (a n : ℕ) → ¬ (a ≡ n) → (a < n) ⊎ ((a ≡ n) ⊎ (n + 1 ≤ a))
    less zero zero d = absurd (d refl)
    less zero (suc n) d = inl (omega arith)
    less (suc a) zero d = inr (inr (omega arith))
    less (suc a) (suc n) d = elim (less a n (λ e. d (ap suc e))) as (λ _. (suc a < suc n) ⊎ ((suc a ≡ suc n) ⊎ (suc n + 1 ≤ suc a))) [
      | inl l ↦ inl (omega (arith, l))
      | inr r ↦ elim r as (λ _. (suc a < suc n) ⊎ ((suc a ≡ suc n) ⊎ (suc n + 1 ≤ suc a))) [ inl e ↦ inr (inl (ap suc e)) | inr m ↦ inr (inr (omega (arith, m))) ]
    ]

module _ {X C : Type 0} (value : C → ℤ) (step : X → ℤ → X → Type 0) (passes : X → Bool) where
  abbrev Live : X → ℤ → X → Type 0
  Live = LiveStep value step passes

  lists_grow : (found found' : ℕ) (stands stands' : ℕ → X → Type 0) → Grows found found' stands stands' → ((i j : ℕ) (x : X) → stands' i x → stands' j x → i ≡ j) → (x : X) (row : List (ℕ × C)) → ListsSteps value Live stands x row → ListsSteps value Live stands' x row
  lists_grow found found' stands stands' grows one x row l = record {
    numbered = λ z y s. let n = l.numbered z y s in (n.0, grows.stays n.0 y n.1);
    complete = λ z y j s h.
        let n = l.numbered z y s in
        let e : n.0 ≡ j = one n.0 j y (grows.stays n.0 y n.1) h in
        subst (λ (i : ℕ). (c : C) × Contains row (i, c) × (value c ≡ z)) e (l.complete z y n.0 s n.1);
    sound = λ j c h. let n = l.sound j c h in (n.0, n.1, grows.stays j n.0 n.2);
  }

  -- more nodes were found
  pub learned_grow : (found found' : ℕ) (stands stands' : ℕ → X → Type 0) → Grows found found' stands stands' → ((i j : ℕ) (x : X) → stands' i x → stands' j x → i ≡ j) → ((a : ℕ) → found ≤ a → a < found' → (x : X) × stands' a x) → (k : AdjacencyLists C)
      → IsLearned value step passes stands found k → IsLearned value step passes stands' found' k
  learned_grow found found' stands stands' grows one fresh k l = record {
    rows = λ a x h s. lists_grow found found' stands stands' grows one x (row_of k a) (l.rows a x h (grows.back a x (omega (arith, h, l.below)) s));
    goals = λ a x h s. l.goals a x h (grows.back a x (omega (arith, h, l.below)) s);
    even = l.even;
    below = omega (arith, l.below, grows.more);
    all = λ a h. at a h (less_or a found);
    inside = λ a b c h. let i = l.inside a b c h in omega (arith, i, grows.more);
  }
    where
      less_or : (a n : ℕ) → (a < n) ⊎ (n ≤ a)
      less_or a n = elim (place_cases n a) as (λ _. (a < n) ⊎ (n ≤ a)) [
        | inl h ↦ inl h
        | inr r ↦ elim r as (λ _. (a < n) ⊎ (n ≤ a)) [ inl e ↦ inr (omega (arith, e)) | inr m ↦ inr (omega (arith, m)) ]
      ]

      at : (a : ℕ) → a < found' → (a < found) ⊎ (found ≤ a) → (x : X) × stands' a x
      at a h (inl i) = let x = l.all a i in (x.0, grows.stays a x.0 x.1)
      at a h (inr i) = fresh a i h

  -- one number more is known
  pub learned_add : (found : ℕ) (stands : ℕ → X → Type 0) (k : AdjacencyLists C) (row : List (ℕ × C)) (goal : Bool) → IsLearned value step passes stands found k → length k.rows < found
      → ((x : X) → stands (length k.rows) x → ListsSteps value Live stands x row × (goal ≡ passes x)) → ((b : ℕ) (c : C) → Contains row (b, c) → b < found)
      → IsLearned value step passes stands found (record { rows = k.rows ++ row ∷ []; goals = k.goals ++ goal ∷ [] })
  learned_add found stands k row goal l more here ends = record {
    rows = λ a x h s. at_row a x s (place_cases (length k.rows) a) h;
    goals = λ a x h s. at_goal a x s (place_cases (length k.rows) a) h;
    even = length-append k.goals (goal ∷ []) ∙ ap (λ (n : ℕ). n + 1) l.even ∙ sym (length-append k.rows (row ∷ []));
    below = let e = length-append k.rows (row ∷ []) in let f : length (row ∷ []) ≡ 1 = refl in omega (arith, e, f, more);
    all = l.all;
    inside = λ a b c h. at_inside a b c (place_cases (length k.rows) a) h;
  }
    where
      k' : AdjacencyLists C
      k' = record { rows = k.rows ++ row ∷ []; goals = k.goals ++ goal ∷ [] }

      old_row : (a : ℕ) → a < length k.rows → get_or (k.rows ++ row ∷ []) a [] ≡ get_or k.rows a []
      old_row a h = get_or-append k.rows (row ∷ []) [] a h

      new_row : (a : ℕ) → a ≡ length k.rows → get_or (k.rows ++ row ∷ []) a [] ≡ row
      new_row a e = subst (λ (n : ℕ). get_or (k.rows ++ row ∷ []) n [] ≡ row) (sym e) (get_or-append_seam k.rows row [] [])

      long : length (k.rows ++ row ∷ []) ≡ length k.rows + 1
      long = length-append k.rows (row ∷ [])

      at_row : (a : ℕ) (x : X) → stands a x → (a < length k.rows) ⊎ ((a ≡ length k.rows) ⊎ (length k.rows + 1 ≤ a)) → a < length (k.rows ++ row ∷ []) → ListsSteps value Live stands x (get_or (k.rows ++ row ∷ []) a [])
      at_row a x s (inl i) h = subst (λ (r : List (ℕ × C)). ListsSteps value Live stands x r) (sym (old_row a i)) (l.rows a x i s)
      at_row a x s (inr (inl e)) h = subst (λ (r : List (ℕ × C)). ListsSteps value Live stands x r) (sym (new_row a e)) (here x (subst (λ (n : ℕ). stands n x) e s)).0
      at_row a x s (inr (inr m)) h = absurd (omega (arith, h, m, long))

      at_goal : (a : ℕ) (x : X) → stands a x → (a < length k.rows) ⊎ ((a ≡ length k.rows) ⊎ (length k.rows + 1 ≤ a)) → a < length (k.rows ++ row ∷ []) → get_or (k.goals ++ goal ∷ []) a false ≡ passes x
      at_goal a x s (inl i) h = get_or-append k.goals (goal ∷ []) false a (omega (arith, i, l.even)) ∙ l.goals a x i s
      at_goal a x s (inr (inl e)) h = subst (λ (n : ℕ). get_or (k.goals ++ goal ∷ []) n false ≡ passes x) (l.even ∙ sym e) (get_or-append_seam k.goals goal [] false ∙ (here x (subst (λ (n : ℕ). stands n x) e s)).1)
      at_goal a x s (inr (inr m)) h = absurd (omega (arith, h, m, long))

      at_inside : (a b : ℕ) (c : C) → (a < length k.rows) ⊎ ((a ≡ length k.rows) ⊎ (length k.rows + 1 ≤ a)) → Contains (get_or (k.rows ++ row ∷ []) a []) (b, c) → b < found
      at_inside a b c (inl i) h = l.inside a b c (subst (λ (r : List (ℕ × C)). Contains r (b, c)) (old_row a i) h)
      at_inside a b c (inr (inl e)) h = ends b c (subst (λ (r : List (ℕ × C)). Contains r (b, c)) (new_row a e) h)
      at_inside a b c (inr (inr m)) h = absurd (in_none (b, c) (subst (λ (r : List (ℕ × C)). Contains r (b, c)) (get_or-beyond (k.rows ++ row ∷ []) a [] (omega (arith, m, long))) h))

  -- the steps from a node that is no goal are all live ones
  pub lists_live : (stands : ℕ → X → Type 0) (x : X) (row : List (ℕ × C)) → passes x ≡ false → ListsSteps value step stands x row → ListsSteps value Live stands x row
  lists_live stands x row f l = record {
    numbered = λ z y s. l.numbered z y s.0;
    complete = λ z y j s h. l.complete z y j s.0 h;
    sound = λ j c h. let n = l.sound j c h in (n.0, (n.1, f), n.2);
  }

  -- a goal has none
  pub lists_none : (stands : ℕ → X → Type 0) (x : X) → passes x ≡ true → ListsSteps value Live stands x []
  lists_none stands x t = record {
    numbered = λ z y s. absurd (true≢false (sym t ∙ s.1));
    complete = λ z y j s h. absurd (true≢false (sym t ∙ s.1));
    sound = λ j c h. absurd (in_none (j, c) h);
  }

  -- once all that is found is known, the known graph is whole
  pub learned_whole : (found : ℕ) (stands : ℕ → X → Type 0) (k : AdjacencyLists C) → IsNonNegative step → IsLearned value step passes stands found k → found ≤ length k.rows → IsWhole value k
  learned_whole found stands k costs l all = record {
    inside = λ a b c h. let i = l.inside a b c h in omega (arith, i, all);
    from_zero = λ a b c h. let x = node_of a b c h in let s = (l.rows a x.0 (row_listed a b c h) x.1) in let t = s.sound b c h in costs.non_negative x.0 (value c) t.0 t.1.0;
    stops = λ a t. at a t (row_of k a) (λ b c h. h);
  }
    where
      row_listed : (a b : ℕ) (c : C) → Contains (row_of k a) (b, c) → a < length k.rows
      row_listed a b c h = elim (place_cases (length k.rows) a) as (λ _. a < length k.rows) [
        | inl i ↦ i
        | inr r ↦ absurd (in_none (b, c) (subst (λ (v : List (ℕ × C)). Contains v (b, c)) (get_or-beyond k.rows a [] (elim r as (λ _. length k.rows ≤ a) [ inl e ↦ omega (arith, e) | inr m ↦ omega (arith, m) ])) h))
      ]

      node_of : (a b : ℕ) (c : C) → Contains (row_of k a) (b, c) → (x : X) × stands a x
      node_of a b c h = let i = row_listed a b c h in l.all a (omega (arith, i, l.below))

      at : (a : ℕ) → is_goal k a ≡ true → (row : List (ℕ × C)) → ((b : ℕ) (c : C) → Contains row (b, c) → Contains (row_of k a) (b, c)) → row ≡ []
      at a t [] h = refl
      at a t (e ∷ row) h =
          let m = h e.0 e.1 (Contains-head row e) in
          let x = node_of a e.0 e.1 m in
          let i = row_listed a e.0 e.1 m in
          let s = l.rows a x.0 i x.1 in
          let u = s.sound e.0 e.1 m in
          absurd (true≢false (sym t ∙ l.goals a x.0 i x.1 ∙ u.1.1))
