-- What stays of a depth-first search to a limit when the steps from the last number of its way are forgotten.
use Rattle.std.proofs.Common.{ℕ, ◌<◌, ◌≤◌, ◌≡◌, sym, ◌∙◌, ap, subst, arith, Bool, List, [], ◌∷◌, length, inl, inr, ℤ, Option, Some, take}
use Rattle.std.specs.Prelude.{◌⊎◌, ◌↔◌, ◌+ℤ◌, Contains, slice_get}
use Rattle.std.proofs.lemmas.List.{length-take-le}
use Rattle.std.proofs.lemmas.Option.{slice_get_within}
use Rattle.pf_base.proofs.ListLemmas.{Contains-head, Contains-tail, Contains-cases, get_take, get_within, take_get}
use Rattle.pf_deepening.proofs.Writes.{of_some}
use Rattle.pf_deepening.specs.declared.rows.Span.{Span}
use Rattle.pf_deepening.specs.declared.way.Frame.{Frame}
use Rattle.pf_deepening.specs.Ways.{HasSpan}
use Rattle.pf_informed.specs.Internal.Rows.{HasRows, IsTable, KeepsNone}
use Rattle.pf_informed.specs.Internal.Deepening.{numbers_of, AllCovered, IsLeft, IsFrame, IsAbove, IsTrail, IsNested, IsStack}

-- a number has one span
one_span : (spans : List (Option Span)) (k : ℕ) (s t : Span) → HasSpan spans k s → HasSpan spans k t → s ≡ t
one_span spans k s t a b = of_some s t (of_some (Some s) (Some t) (sym a ∙ b))

module _ {C : Type 0} (steps : List (ℕ × C)) (spans : List (Option Span)) where
  -- the numbers of nested frames were found
  pub nested_below : (fs : List (Frame C)) (found end : ℕ) → IsNested steps spans found end fs → (k : ℕ) → Contains (numbers_of fs) k → k < found
  nested_below [] found end h k c = absurd (omega (arith, c.1))
  nested_below (f ∷ fs) found end h k c = elim (Contains-cases (numbers_of fs) f.number k c) as (λ _. k < found) [
    | inl e ↦ omega (arith, e, h.4, h.3)
    | inr m ↦ let l = nested_below fs h.0.found h.0.begin h.6 k m in omega (arith, l, h.3)
  ]

  -- as many nodes had been found as are now, or fewer
  pub nested_found : (f : Frame C) (fs : List (Frame C)) (found end : ℕ) → IsNested steps spans found end (f ∷ fs) → (s : Span) → HasSpan spans f.number s → s.found ≤ found
  nested_found f fs found end h s has = let one = one_span spans f.number s h.0 has h.1 in omega (arith, ap (λ (t : Span). t.found) one, h.3)

  -- no frames
  pub no_stack : (found : ℕ) → KeepsNone spans → IsStack steps spans found []
  no_stack found none = record { nested = tt; only = λ k s h. absurd (none k s h) }

  -- at another place of the last frame's steps
  pub stack_at : (found : ℕ) (f : Frame C) (at : ℕ) (fs : List (Frame C)) → IsStack steps spans found (f ∷ fs) → IsStack steps spans found (record f { at = at } ∷ fs)
  stack_at found f at fs h = record { nested = h.nested; only = h.only }

  module _ (wide : (k : ℕ) (s : Span) → HasSpan spans k s → s.begin ≤ s.end) where
    -- the steps of nested frames stand before the end
    pub nested_ends : (fs : List (Frame C)) (found end : ℕ) → IsNested steps spans found end fs → (k : ℕ) (s : Span) → Contains (numbers_of fs) k → HasSpan spans k s → s.end ≤ end
    nested_ends [] found end h k s c has = absurd (omega (arith, c.1))
    nested_ends (f ∷ fs) found end h k s c has = elim (Contains-cases (numbers_of fs) f.number k c) as (λ _. s.end ≤ end) [
      | inl e ↦ let one = one_span spans k s h.0 has (subst (λ (n : ℕ). HasSpan spans n h.0) e h.1) in omega (arith, ap (λ (t : Span). t.end) one, h.2)
      | inr m ↦
          let l = nested_ends fs h.0.found h.0.begin h.6 k s m has in
          let w = wide f.number h.0 h.1 in
          omega (arith, l, w, h.2)
    ]

    -- more steps and spans are kept
    pub nested_more : (steps' : List (ℕ × C)) (spans' : List (Option Span)) → ((i : ℕ) (e : ℕ × C) → slice_get steps i ≡ Some e → slice_get steps' i ≡ Some e) → ((k : ℕ) (s : Span) → HasSpan spans k s → HasSpan spans' k s)
        → (fs : List (Frame C)) (found end : ℕ) → end ≤ length steps → IsNested steps spans found end fs → IsNested steps' spans' found end fs
    nested_more steps' spans' kept held [] found end l h = tt
    nested_more steps' spans' kept held (f ∷ fs) found end l h =
        let w = wide f.number h.0 h.1 in
        let short : h.0.begin ≤ length steps = omega (arith, w, h.2, l) in (
          h.0,
          held f.number h.0 h.1,
          h.2,
          h.3,
          h.4,
          λ i j c b at.
              let old = get_within steps i (omega (arith, b, short)) in
              let same = of_some old.0 (j, c) (sym (kept i old.0 old.1) ∙ at) in
              h.5 i j c b (old.1 ∙ ap Some same),
          nested_more steps' spans' kept held fs h.0.found h.0.begin short h.6,
        )

    -- a frame was entered
    pub stack_entered : (steps' : List (ℕ × C)) (spans' : List (Option Span)) → ((i : ℕ) (e : ℕ × C) → slice_get steps i ≡ Some e → slice_get steps' i ≡ Some e) → ((k : ℕ) (s : Span) → HasSpan spans k s → HasSpan spans' k s)
        → (fs : List (Frame C)) (found found' : ℕ) → found ≤ found' → ((i j : ℕ) (c : C) → slice_get steps i ≡ Some (j, c) → j < found) → IsStack steps spans found fs
        → (e : Frame C) (s : Span) → HasSpan spans' e.number s → s.end ≤ length steps' → s.begin ≡ length steps → s.found ≡ found → e.number < found → ((k : ℕ) (t : Span) → HasSpan spans' k t → HasSpan spans k t ⊎ (k ≡ e.number)) → IsStack steps' spans' found' (e ∷ fs)
    stack_entered steps' spans' kept held fs found found' more inside h e s has within begin at number only = record {
      nested = (
        s,
        has,
        within,
        omega (arith, more, at),
        omega (arith, number, at),
        λ i j c b here.
            let old = get_within steps i (omega (arith, b, begin)) in
            let same = of_some old.0 (j, c) (sym (kept i old.0 old.1) ∙ here) in
            let l = inside i j c (old.1 ∙ ap Some same) in
            omega (arith, l, at),
        subst (λ (n : ℕ). IsNested steps' spans' n s.begin fs) (sym at) (subst (λ (n : ℕ). IsNested steps' spans' found n fs) (sym begin) (nested_more steps' spans' kept held fs found (length steps) (omega arith) h.nested)),
      );
      only = λ k t q. elim (only k t q) as (λ _. Contains (numbers_of (e ∷ fs)) k) [
        | inl o ↦ Contains-tail (numbers_of fs) e.number k (h.only k t o)
        | inr o ↦ subst (λ (n : ℕ). Contains (e.number ∷ numbers_of fs) n) (sym o) (Contains-head (numbers_of fs) e.number)
      ];
    }

  -- ---- the last frame's steps are forgotten
  module _ (found : ℕ) (f : Frame C) (fs : List (Frame C)) (h : IsStack steps spans found (f ∷ fs)) (t : IsTable found steps spans) (fresh : ¬ (Contains (numbers_of fs) f.number)) (s : Span) (has : HasSpan spans f.number s)
      (steps' : List (ℕ × C)) (spans' : List (Option Span)) (cut : steps' ≡ take s.begin steps) (out : (k : ℕ) (q : Span) → HasSpan spans' k q ↔ (HasSpan spans k q × ¬ (k ≡ f.number))) where
    same : h.nested.0 ≡ s
    same = one_span spans f.number h.nested.0 s h.nested.1 has

    begins : h.nested.0.begin ≡ s.begin
    begins = ap (λ (q : Span). q.begin) same

    founds : h.nested.0.found ≡ s.found
    founds = ap (λ (q : Span). q.found) same

    begin_within : s.begin ≤ length steps
    begin_within = let w = t.within f.number s has in omega (arith, w.0, w.1)

    pub cut_length : length steps' ≡ s.begin
    cut_length = ap length cut ∙ length-take-le s.begin steps begin_within

    pub cut_back : (i : ℕ) (e : ℕ × C) → slice_get steps' i ≡ Some e → slice_get steps i ≡ Some e
    cut_back i e at = take_get s.begin steps i e (subst (λ (xs : List (ℕ × C)). slice_get xs i ≡ Some e) cut at)

    pub cut_still : (i : ℕ) (e : ℕ × C) → i < s.begin → slice_get steps i ≡ Some e → slice_get steps' i ≡ Some e
    cut_still i e l at = subst (λ (xs : List (ℕ × C)). slice_get xs i ≡ Some e) (sym cut) (get_take s.begin steps i e l at)

    pub others_held : (k : ℕ) (q : Span) → Contains (numbers_of fs) k → HasSpan spans k q → HasSpan spans' k q
    others_held k q c o = (out k q).1 (o, λ e. fresh (subst (λ (n : ℕ). Contains (numbers_of fs) n) e c))

    pub others_end : (k : ℕ) (q : Span) → Contains (numbers_of fs) k → HasSpan spans k q → q.end ≤ s.begin
    others_end k q c o = let l = nested_ends (λ i r w. (t.within i r w).0) fs h.nested.0.found h.nested.0.begin h.nested.6 k q c o in omega (arith, l, begins)

    pub others_below : (k : ℕ) → Contains (numbers_of fs) k → k < s.found
    others_below k c = let l = nested_below fs h.nested.0.found h.nested.0.begin h.nested.6 k c in omega (arith, l, founds)

    pub last_below : f.number < s.found
    last_below = omega (arith, h.nested.4, founds)

    pub fewer_found : s.found ≤ found
    fewer_found = omega (arith, h.nested.3, founds)

    others_only : (k : ℕ) (q : Span) → HasSpan spans' k q → Contains (numbers_of fs) k
    others_only k q o = let b = (out k q).0 o in elim (Contains-cases (numbers_of fs) f.number k (h.only k q b.0)) as (λ _. Contains (numbers_of fs) k) [ inl e ↦ absurd (b.1 (sym e)) | inr m ↦ m ]

    nested_less : (gs : List (Frame C)) (n end : ℕ) → ((k : ℕ) → Contains (numbers_of gs) k → Contains (numbers_of fs) k) → IsNested steps spans n end gs → IsNested steps' spans' n end gs
    nested_less [] n end sub q = tt
    nested_less (g ∷ gs) n end sub q = (
      q.0,
      others_held g.number q.0 (sub g.number (Contains-head (numbers_of gs) g.number)) q.1,
      q.2,
      q.3,
      q.4,
      λ i j c b at. q.5 i j c b (cut_back i (j, c) at),
      nested_less gs q.0.found q.0.begin (λ k c. sub k (Contains-tail (numbers_of gs) g.number k c)) q.6,
    )

    pub stack_less : IsStack steps' spans' s.found fs
    stack_less = record {
      nested = subst (λ (n : ℕ). IsNested steps' spans' s.found n fs) (begins ∙ sym cut_length) (subst (λ (n : ℕ). IsNested steps' spans' n h.nested.0.begin fs) founds (nested_less fs h.nested.0.found h.nested.0.begin (λ k c. c) h.nested.6));
      only = others_only;
    }

    pub table_less : IsTable s.found steps' spans'
    table_less = record {
      numbered = λ k q o. others_below k (others_only k q o);
      within = λ k q o.
          let b = (out k q).0 o in
          let w = t.within k q b.0 in
          let l = others_end k q (others_only k q o) b.0 in
          (w.0, omega (arith, l, cut_length));
      inside = λ i j c at.
          let l = slice_get_within steps' i (j, c) at in
          let m = h.nested.5 i j c (omega (arith, l, cut_length, begins)) (cut_back i (j, c) at) in
          omega (arith, m, founds);
    }

    -- the numbers that are left stand for what they stood for
    module _ {X : Type 0} (eq : X → X → Bool) (value : C → ℤ) (step : X → ℤ → X → Type 0) (passes : X → Bool) (stands stands' : ℕ → X → Type 0) (stays : (k : ℕ) (x : X) → stands' k x → stands k x) (back : (k : ℕ) (x : X) → k < s.found → stands k x → stands' k x) where
      pub rows_less : HasRows value step passes stands steps spans → HasRows value step passes stands' steps' spans'
      rows_less r = record {
        fails = λ k q x o here. r.fails k q x ((out k q).0 o).0 (stays k x here);
        sound = λ k q x o here i j c within at.
            let n = r.sound k q x ((out k q).0 o).0 (stays k x here) i j c within (cut_back i (j, c) at) in
            (n.0, n.1, back j n.0 (table_less.inside i j c at) n.2);
        complete = λ k q x o here z y e.
            let b = (out k q).0 o in
            let n = r.complete k q x b.0 (stays k x here) z y e in
            let l = others_end k q (others_only k q o) b.0 in
            let at = cut_still n.0 (n.1, n.2) (omega (arith, n.3.1, l)) n.4 in
            (n.0, n.1, n.2, n.3, at, back n.1 y (table_less.inside n.0 n.1 n.2 at) n.5, n.6);
      }

      pub covered_less : (covers : ℤ → Type 0) (ks : List ℕ) (z : ℤ) (y : X) → ((k : ℕ) → Contains ks k → k < s.found) → AllCovered eq value step passes stands covers ks z y → AllCovered eq value step passes stands' covers ks z y
      covered_less covers ks z y below all w u goes good d a = all w u goes good d (λ k x c n q. a k x c n (back k x (below k c) q))

      module _ (covers : ℤ → Type 0) (one : (i j : ℕ) (x : X) → stands i x → stands j x → i ≡ j) (rows : HasRows value step passes stands steps spans) where
        frame_less : (g : Frame C) (below : List ℕ) → Contains (numbers_of fs) g.number → ((k : ℕ) → Contains (g.number ∷ below) k → k < s.found) → IsFrame eq value step passes stands covers steps spans g below → IsFrame eq value step passes stands' covers steps' spans' g below
        frame_less g below c small b = record {
          span = b.span;
          has = others_held g.number b.span c b.has;
          begins = b.begins;
          ends = b.ends;
          stops = b.stops;
          fresh = b.fresh;
          done = λ x z y here e.
              let n = (rows_less rows).complete g.number b.span x (others_held g.number b.span c b.has) here z y e in
              let l = others_end g.number b.span c b.has in
              elim (b.done x z y (stays g.number x here) e)
              as (λ _. IsLeft eq value step passes stands' covers steps' spans' g z y ⊎ (((k : ℕ) × Contains (g.number ∷ below) k × stands' k y) ⊎ ((j : ℕ) × stands' j y × AllCovered eq value step passes stands' covers (j ∷ g.number ∷ below) (value g.cost +ℤ z) y))) [
                | inl q ↦ inl (record {
                  place = q.place;
                  number = q.number;
                  price = q.price;
                  later = q.later;
                  inside = q.inside;
                  at = cut_still q.place (q.number, q.price) (omega (arith, q.inside, b.ends, l)) q.at;
                  there = subst (λ (i : ℕ). stands' i y) (one n.1 q.number y (stays n.1 y n.5) q.there) n.5;
                  costs = q.costs;
                })
                | inr r ↦ elim r as (λ _. IsLeft eq value step passes stands' covers steps' spans' g z y ⊎ (((k : ℕ) × Contains (g.number ∷ below) k × stands' k y) ⊎ ((j : ℕ) × stands' j y × AllCovered eq value step passes stands' covers (j ∷ g.number ∷ below) (value g.cost +ℤ z) y))) [
                  | inl k ↦ inr (inl (k.0, k.1, back k.0 y (small k.0 k.1) k.2))
                  | inr j ↦
                      let is = one n.1 j.0 y (stays n.1 y n.5) j.1 in
                      let first = table_less.inside n.0 n.1 n.2 n.4 in
                      let least : j.0 < s.found = omega (arith, first, is) in
                      inr (inr (
                        j.0,
                        back j.0 y least j.1,
                        covered_less covers (j.0 ∷ g.number ∷ below) (value g.cost +ℤ z) y (λ k m. elim (Contains-cases (g.number ∷ below) j.0 k m) as (λ _. k < s.found) [ inl o ↦ subst (λ (i : ℕ). i < s.found) o least | inr o ↦ small k o ]) j.2,
                      ))
                ]
              ];
        }

        above_less : (g : Frame C) (gs : List (Frame C)) → ((k : ℕ) → Contains (numbers_of gs) k → Contains (numbers_of fs) k) → IsTrail eq value step passes stands covers steps spans gs → IsAbove eq value step passes stands steps g gs → IsAbove eq value step passes stands' steps' g gs
        above_less g [] sub q h = h
        above_less g (e ∷ gs) sub q h =
            let b = q.0 in
            let l = others_end e.number b.span (sub e.number (Contains-head (numbers_of gs) e.number)) b.has in
            (h.0, cut_still e.at (g.number, h.0) (omega (arith, h.2, b.ends, l)) h.1, h.2, h.3)

        pub trail_less : (gs : List (Frame C)) → ((k : ℕ) → Contains (numbers_of gs) k → Contains (numbers_of fs) k) → IsTrail eq value step passes stands covers steps spans gs → IsTrail eq value step passes stands' covers steps' spans' gs
        trail_less [] sub q = tt
        trail_less (g ∷ gs) sub q =
            let here = sub g.number (Contains-head (numbers_of gs) g.number) in
            let on : (k : ℕ) → Contains (numbers_of gs) k → Contains (numbers_of fs) k = λ k c. sub k (Contains-tail (numbers_of gs) g.number k c) in
            (frame_less g (numbers_of gs) here (λ k c. others_below k (sub k c)) q.0, above_less g gs on q.2 q.1, trail_less gs on q.2)
