-- What is so of the frames of a depth-first search to a limit.
use Rattle.std.proofs.Common.{ℕ, ◌+◌, ◌<◌, ◌≤◌, ◌≡◌, sym, ◌∙◌, ap, subst, arith, Bool, true, false, true≢false, List, [], ◌∷◌, ◌++◌, inl, inr, ℤ, nat_eq, Option, Some}
use Rattle.std.specs.Prelude.{◌+ℤ◌, ◌⊎◌, Contains, reverse, slice_get}
use Rattle.std.specs.Cmp.{IsEquivalence}
use Rattle.std.specs.List.{AllZip}
use Rattle.std.proofs.lemmas.Int.{ints}
use borrow.Author.Tests.{eqb-true}
use Rattle.pf_base.specs.Walks.{HasNode, NoRepeats, end_of}
use Rattle.pf_core.specs.Steps.{GoesAlong}
use Rattle.pf_core.proofs.FrontierLemmas.{goes_more, end_more}
use Rattle.pf_base.proofs.ListLemmas.{nat_dec, Contains-head, Contains-tail, Contains-cases, reverse-cons, AllZip-append}
use Rattle.pf_core.proofs.WalkLemmas.{HasNode-same}
use Rattle.pf_informed.proofs.PathUp.{NoRepeats-reverse}
use Rattle.pf_deepening.proofs.Writes.{of_some}
use Rattle.pf_informed.proofs.RowLemmas.{number_is, price_is}
use Rattle.pf_deepening.specs.declared.rows.Span.{Span}
use Rattle.pf_deepening.specs.declared.way.Frame.{Frame}
use Rattle.pf_deepening.specs.Ways.{HasSpan}
use Rattle.pf_informed.specs.Internal.Rows.{IsIn, HasRows}
use Rattle.pf_informed.specs.Internal.Deepening.{numbers_of, Avoids, AllCovered, IsLeft, IsFrame, IsAbove, IsTrail}

-- a number that is not in a list
apart : (ks : List ℕ) (k : ℕ) → ¬ (Contains ks k) → ¬ (HasNode nat_eq ks k)
apart [] k n h = h
apart (j ∷ ks) k n (inl e) = n (subst (λ (i : ℕ). Contains (j ∷ ks) i) (eqb-true j k e) (Contains-head ks j))
apart (j ∷ ks) k n (inr h) = apart ks k (λ c. n (Contains-tail ks j k c)) h

module _ {X C : Type 0} (eq : X → X → Bool) (laws : IsEquivalence eq) (value : C → ℤ) (step : X → ℤ → X → Type 0) (passes : X → Bool) (stands : ℕ → X → Type 0) where
  -- ---- more is covered, and more numbers stand
  module _ (stands' : ℕ → X → Type 0) (stays : (k : ℕ) (x : X) → stands k x → stands' k x) (covers covers' : ℤ → Type 0) (more : (u : ℤ) → covers u → covers' u) where
    pub covered_more : (ks : List ℕ) (t : ℤ) (x : X) → AllCovered eq value step passes stands covers ks t x → AllCovered eq value step passes stands' covers' ks t x
    covered_more ks t x h w u goes good d a = more (t +ℤ u) (h w u goes good d (λ k y c n s. a k y c n (stays k y s)))

    module _ (back : (k : ℕ) (x : X) (y : X) → stands k y → stands' k x → stands k x) (steps steps' : List (ℕ × C)) (spans spans' : List (Option Span))
        (kept : (i : ℕ) (e : ℕ × C) → slice_get steps i ≡ Some e → slice_get steps' i ≡ Some e) (held : (k : ℕ) (s : Span) → HasSpan spans k s → HasSpan spans' k s) where
      frame_more : (f : Frame C) (below : List ℕ) → (y : X) → stands f.number y → IsFrame eq value step passes stands covers steps spans f below → IsFrame eq value step passes stands' covers' steps' spans' f below
      frame_more f below here there h = record {
        span = h.span;
        has = held f.number h.span h.has;
        begins = h.begins;
        ends = h.ends;
        stops = h.stops;
        fresh = h.fresh;
        done = λ x z y s e. elim (h.done x z y (back f.number x here there s) e)
            as (λ _. IsLeft eq value step passes stands' covers' steps' spans' f z y ⊎ (((k : ℕ) × Contains (f.number ∷ below) k × stands' k y) ⊎ ((j : ℕ) × stands' j y × AllCovered eq value step passes stands' covers' (j ∷ f.number ∷ below) (value f.cost +ℤ z) y))) [
              | inl l ↦ inl (record { place = l.place; number = l.number; price = l.price; later = l.later; inside = l.inside; at = kept l.place (l.number, l.price) l.at; there = stays l.number y l.there; costs = l.costs })
              | inr r ↦ elim r as (λ _. IsLeft eq value step passes stands' covers' steps' spans' f z y ⊎ (((k : ℕ) × Contains (f.number ∷ below) k × stands' k y) ⊎ ((j : ℕ) × stands' j y × AllCovered eq value step passes stands' covers' (j ∷ f.number ∷ below) (value f.cost +ℤ z) y))) [
                | inl k ↦ inr (inl (k.0, k.1, stays k.0 y k.2))
                | inr j ↦ inr (inr (j.0, stays j.0 y j.1, covered_more (j.0 ∷ f.number ∷ below) (value f.cost +ℤ z) y j.2))
              ]
            ];
      }

      above_more : (f : Frame C) (fs : List (Frame C)) → IsAbove eq value step passes stands steps f fs → IsAbove eq value step passes stands' steps' f fs
      above_more f [] h = h
      above_more f (g ∷ fs) h = (h.0, kept g.at (f.number, h.0) h.1, h.2, h.3)

      pub trail_more : (fs : List (Frame C)) → ((k : ℕ) → Contains (numbers_of fs) k → (x : X) × stands k x) → IsTrail eq value step passes stands covers steps spans fs → IsTrail eq value step passes stands' covers' steps' spans' fs
      trail_more [] all h = tt
      trail_more (f ∷ fs) all h =
          let n = all f.number (Contains-head (numbers_of fs) f.number) in
          (frame_more f (numbers_of fs) n.0 n.1 h.0, above_more f fs h.1, trail_more fs (λ k c. all k (Contains-tail (numbers_of fs) f.number k c)) h.2)

  -- ---- a number whose steps were all looked along
  module _ (covers : ℤ → Type 0) (same : (k : ℕ) (x y : X) → stands k x → stands k y → eq x y ≡ true) where
    closed : (k : ℕ) (below : List ℕ) (t : ℤ) (x : X) → passes x ≡ false
        → ((z : ℤ) (y : X) → step x z y → ((i : ℕ) × Contains (k ∷ below) i × stands i y) ⊎ ((j : ℕ) × stands j y × AllCovered eq value step passes stands covers (j ∷ k ∷ below) (t +ℤ z) y))
        → AllCovered eq value step passes stands covers (k ∷ below) t x
    closed k below t x fails all [] u goes good d a = absurd (true≢false (sym good ∙ fails))
    closed k below t x fails all (y ∷ w) u goes good d a = elim (all goes.0 y goes.2) as (λ _. covers (t +ℤ u)) [
      | inl h ↦ absurd (a h.0 y h.1 (inl (laws.refl y)) h.2)
      | inr h ↦
          let sum : (t +ℤ goes.0) +ℤ goes.1 ≡ t +ℤ u = omega (arith, ints, goes.4) in
          let avoid : Avoids eq value step passes stands (h.0 ∷ k ∷ below) w = λ i q c n s. elim (Contains-cases (k ∷ below) h.0 i c) as (λ _. ⊥) [
            | inl e ↦ d.0 (HasNode-same eq laws w q y (same h.0 q y (subst (λ (m : ℕ). stands m q) (sym e) s) h.1) n)
            | inr m ↦ a i q m (inr n) s
          ] in
          subst covers sum (h.2 w goes.1 goes.3 good d.1 avoid)
    ]

    module _ (steps : List (ℕ × C)) (spans : List (Option Span)) where
      -- the place at which a frame is was looked at
      pub advanced : (f : Frame C) (fs : List (Frame C)) (j : ℕ) (c : C) → IsTrail eq value step passes stands covers steps spans (f ∷ fs) → f.at < f.end → slice_get steps f.at ≡ Some (j, c)
          → ((x : X) (z : ℤ) (y : X) → stands f.number x → step x z y → stands j y → value c ≡ z → ((k : ℕ) × Contains (f.number ∷ numbers_of fs) k × stands k y) ⊎ ((i : ℕ) × stands i y × AllCovered eq value step passes stands covers (i ∷ f.number ∷ numbers_of fs) (value f.cost +ℤ z) y))
          → IsTrail eq value step passes stands covers steps spans (record f { at = f.at + 1 } ∷ fs)
      advanced f fs j c h inside at looked =
          let b = h.0 in (
            record {
              span = b.span;
              has = b.has;
              begins = omega (arith, b.begins);
              ends = b.ends;
              stops = omega (arith, inside);
              fresh = b.fresh;
              done = λ x z y s e. elim (b.done x z y s e)
                  as (λ _. IsLeft eq value step passes stands covers steps spans (record f { at = f.at + 1 }) z y ⊎ (((k : ℕ) × Contains (f.number ∷ numbers_of fs) k × stands k y) ⊎ ((i : ℕ) × stands i y × AllCovered eq value step passes stands covers (i ∷ f.number ∷ numbers_of fs) (value f.cost +ℤ z) y))) [
                    | inl l ↦ elim (nat_dec f.at l.place)
                        as (λ _. IsLeft eq value step passes stands covers steps spans (record f { at = f.at + 1 }) z y ⊎ (((k : ℕ) × Contains (f.number ∷ numbers_of fs) k × stands k y) ⊎ ((i : ℕ) × stands i y × AllCovered eq value step passes stands covers (i ∷ f.number ∷ numbers_of fs) (value f.cost +ℤ z) y))) [
                          | inl q ↦
                              let one = of_some (j, c) (l.number, l.price) (sym at ∙ ap (slice_get steps) q ∙ l.at) in
                              inr (looked x z y s e (subst (λ (n : ℕ). stands n y) (sym (number_is one)) l.there) (ap value (price_is one) ∙ l.costs))
                          | inr q ↦ inl (record { place = l.place; number = l.number; price = l.price; later = omega (arith, l.later, q); inside = l.inside; at = l.at; there = l.there; costs = l.costs })
                        ]
                    | inr r ↦ inr r
                  ];
            },
            h.1,
            h.2,
          )

      -- a frame with no step left
      pub spent : HasRows value step passes stands steps spans → (f : Frame C) (fs : List (Frame C)) → IsTrail eq value step passes stands covers steps spans (f ∷ fs) → f.at ≡ f.end → (x : X) → stands f.number x
          → AllCovered eq value step passes stands covers (f.number ∷ numbers_of fs) (value f.cost) x
      spent rows f fs h over x s =
          let b = h.0 in
          closed f.number (numbers_of fs) (value f.cost) x (rows.fails f.number b.span x b.has s) (λ z y e. elim (b.done x z y s e)
          as (λ _. ((k : ℕ) × Contains (f.number ∷ numbers_of fs) k × stands k y) ⊎ ((i : ℕ) × stands i y × AllCovered eq value step passes stands covers (i ∷ f.number ∷ numbers_of fs) (value f.cost +ℤ z) y)) [
            | inl l ↦ absurd (omega (arith, l.later, l.inside, over))
            | inr r ↦ r
          ])

      -- back to the frame below
      pub left : HasRows value step passes stands steps spans → (f g : Frame C) (fs : List (Frame C)) → IsTrail eq value step passes stands covers steps spans (f ∷ g ∷ fs) → f.at ≡ f.end
          → IsTrail eq value step passes stands covers steps spans (record g { at = g.at + 1 } ∷ fs)
      left rows f g fs h over =
          let a = h.1 in
          advanced g fs f.number a.0 h.2 a.2 a.1 (λ x z y s e there costs.
          let sum : value f.cost ≡ value g.cost +ℤ z = omega (arith, ints, a.3, costs) in
          inr (f.number, there, subst (λ (t : ℤ). AllCovered eq value step passes stands covers (f.number ∷ g.number ∷ numbers_of fs) t y) sum (spent rows f (g ∷ fs) h over y there)))

      -- a new frame for a number that has a span
      pub entered : HasRows value step passes stands steps spans → (f : Frame C) (fs : List (Frame C)) (s : Span) → HasSpan spans f.number s → s.begin ≤ s.end → f.at ≡ s.begin → f.end ≡ s.end → ¬ (Contains (numbers_of fs) f.number)
          → IsAbove eq value step passes stands steps f fs → IsTrail eq value step passes stands covers steps spans fs → IsTrail eq value step passes stands covers steps spans (f ∷ fs)
      entered rows f fs s has wide begin end fresh above rest = (
        record {
          span = s;
          has = has;
          begins = omega (arith, begin);
          ends = sym end;
          stops = omega (arith, wide, begin, end);
          fresh = fresh;
          done = λ x z y there e.
              let r = rows.complete f.number s x has there z y e in
              inl (record { place = r.0; number = r.1; price = r.2; later = omega (arith, begin, r.3.0); inside = omega (arith, end, r.3.1); at = r.4; there = r.5; costs = r.6 });
        },
        above,
        rest,
      )

  -- ---- the way that the frames stand for
  module _ (steps : List (ℕ × C)) (spans : List (Option Span)) (rows : HasRows value step passes stands steps spans) (first : X) (begins : stands 0 first) where
    -- a way to what k stands for, which costs t
    pub record WayUp (k : ℕ) (t : ℤ) (numbers : List ℕ) : Type 0 where
      pub nodes : List X
      pub numbered : AllZip stands numbers (first ∷ nodes)
      pub goes : GoesAlong step first nodes t
      pub here : stands k (end_of first nodes)

    pub way_on : (k : ℕ) (t : ℤ) (numbers : List ℕ) → WayUp k t numbers → (s : Span) → HasSpan spans k s → (i j : ℕ) (c : C) → IsIn s i → slice_get steps i ≡ Some (j, c) → WayUp j (t +ℤ value c) (numbers ++ j ∷ [])
    way_on k t numbers up s has i j c inside at =
        let x = end_of first up.nodes in
        let next = rows.sound k s x has up.here i j c inside at in
        record {
          nodes = up.nodes ++ next.0 ∷ [];
          numbered = AllZip-append stands numbers (first ∷ up.nodes) j next.0 up.numbered next.2;
          goes = goes_more step up.nodes first next.0 t (value c) up.goes next.1;
          here = subst (stands j) (sym (end_more up.nodes first next.0)) next.2;
        }

    module _ (covers : ℤ → Type 0) where
      pub way_up : (fs : List (Frame C)) (f : Frame C) → IsTrail eq value step passes stands covers steps spans (f ∷ fs) → WayUp f.number (value f.cost) (reverse (f.number ∷ numbers_of fs))
      way_up [] f h =
          let a = h.1 in
          let here : stands f.number first = subst (λ (n : ℕ). stands n first) (sym a.0) begins in
          record { nodes = []; numbered = (here, tt); goes = a.1; here = here }
      way_up (g ∷ fs) f h =
          let a = h.1 in
          let b = h.2.0 in
          let up = way_up fs g h.2 in
          let r = way_on g.number (value g.cost) (reverse (g.number ∷ numbers_of fs)) up b.span b.has g.at f.number a.0 (b.begins, omega (arith, b.ends, a.2)) a.1 in
          subst (λ (t : ℤ). WayUp f.number t (reverse (f.number ∷ g.number ∷ numbers_of fs))) (sym a.3) (subst (WayUp f.number (value g.cost +ℤ value a.0)) (sym (reverse-cons f.number (g.number ∷ numbers_of fs))) r)

      pub distinct_up : (fs : List (Frame C)) → IsTrail eq value step passes stands covers steps spans fs → NoRepeats nat_eq (numbers_of fs)
      distinct_up [] h = tt
      distinct_up (f ∷ fs) h = (apart (numbers_of fs) f.number h.0.fresh, distinct_up fs h.2)

      -- the way one step on, to a number that is not on it
      pub way_to : (fs : List (Frame C)) (f : Frame C) → IsTrail eq value step passes stands covers steps spans (f ∷ fs) → f.at < f.end → (j : ℕ) (c : C) → slice_get steps f.at ≡ Some (j, c) → WayUp j (value f.cost +ℤ value c) (reverse (f.number ∷ numbers_of fs) ++ j ∷ [])
      way_to fs f h inside j c at = let b = h.0 in way_on f.number (value f.cost) (reverse (f.number ∷ numbers_of fs)) (way_up fs f h) b.span b.has f.at j c (b.begins, omega (arith, b.ends, inside)) at

      pub distinct_to : (fs : List (Frame C)) → IsTrail eq value step passes stands covers steps spans fs → (j : ℕ) → ¬ (Contains (numbers_of fs) j) → NoRepeats nat_eq (reverse (numbers_of fs) ++ j ∷ [])
      distinct_to fs h j n = subst (NoRepeats nat_eq) (reverse-cons j (numbers_of fs)) (NoRepeats-reverse (j ∷ numbers_of fs) (apart (numbers_of fs) j n, distinct_up fs h))
