-- The turns of a depth-first search to a limit over nodes.
use Rattle.std.proofs.Common.{ℕ, ◌+◌, ◌<◌, ◌≤◌, ◌≡◌, refl, sym, ◌∙◌, ap, subst, arith, Bool, true, false, true≢false, List, [], ◌∷◌, ◌++◌, length, inl, inr, ℤ, pos, nat_eq, Option, Some, None, get_or}
use Rattle.std.specs.Prelude.{◌↔◌, ◌≤ℤ◌, ◌+ℤ◌, ◌⊎◌, Contains, reverse, slice_get, map}
use Rattle.std.specs.Cmp.{IsEquivalence}
use Rattle.std.specs.List.{AllZip}
use Rattle.std.proofs.lemmas.Int.{ints}
use Rattle.std.proofs.lemmas.List.{reverse-reverse}
use Rattle.pf_base.specs.Walks.{end_of, NoRepeats}
use Rattle.pf_base.specs.Edges.{InReach, HasNoNegativeCost}
use Rattle.pf_base.specs.Answers.{ListsEdges}
use Rattle.pf_core.specs.Steps.{GoesAlong, IsNonNegative}
use Rattle.pf_core.specs.Nodes.{NodeGraph, StandsFor}
use Rattle.pf_core.specs.NodeLaws.{StandsFor-inside}
use Rattle.pf_core.specs.Numbered.{Grows}
use Rattle.pf_core.proofs.FrontierLemmas.{walk_positive}
use Rattle.pf_base.proofs.ListLemmas.{at_place, reverse-cons, Contains-head, Contains-tail, Contains-cases}
use Rattle.pf_core.proofs.PathLemmas.{AllZip-map}
use Rattle.pf_core.proofs.WalkLemmas.{distinct_nodes}
use Rattle.pf_informed.specs.Estimates.{IsAdmissible}
use Rattle.pf_deepening.specs.declared.rows.Span.{Span}
use Rattle.pf_deepening.specs.declared.way.Frame.{Frame}
use Rattle.pf_deepening.specs.Ways.{HasSpan}
use Rattle.pf_informed.specs.Internal.Rows.{IsCheapStep, HasRows, IsTable}
use Rattle.pf_deepening.specs.Ways.{IsMarked, IsCutOff}
use Rattle.pf_informed.specs.Internal.Deepening.{numbers_of, AllCovered, IsTrail, IsWayPast, IsWayTo, IsOnWay}
use Rattle.pf_informed.proofs.KnownLemmas.{one_node}
use Rattle.pf_informed.proofs.NodeWalks.{never_above, goes_of_cheap}
use Rattle.pf_informed.proofs.TrailLemmas.{trail_more, advanced, spent, left, entered, way_to, way_up, distinct_to}

pub cheap_positive : {N : Type 0} (eq : N → N → Bool) (g : NodeGraph N) → HasNoNegativeCost eq g.edges g.starts → IsNonNegative (IsCheapStep eq g)
cheap_positive eq g h = record { non_negative = λ a z b s. let costs = s.1 in h.from_zero a b z s.0 costs.edge }

-- marks after one more number
pub marked_on : (marks marks' : List Bool) (ks : List ℕ) (j : ℕ) → ((k : ℕ) → IsMarked marks k ↔ Contains ks k) → ((k : ℕ) → IsMarked marks' k ↔ (IsMarked marks k ⊎ (k ≡ j))) → (k : ℕ) → IsMarked marks' k ↔ Contains (j ∷ ks) k
marked_on marks marks' ks j old new k = (
  λ m. elim ((new k).0 m) as (λ _. Contains (j ∷ ks) k) [
    | inl o ↦ Contains-tail ks j k ((old k).0 o)
    | inr e ↦ subst (λ (i : ℕ). Contains (j ∷ ks) i) (sym e) (Contains-head ks j)
  ],
  λ m. (new k).1 (elim (Contains-cases ks j k m) as (λ _. IsMarked marks k ⊎ (k ≡ j)) [
    | inl e ↦ inr (sym e)
    | inr o ↦ inl ((old k).1 o)
  ]),
)

-- marks after the last number was left
pub marked_back : (marks marks' : List Bool) (ks : List ℕ) (j : ℕ) → ¬ (Contains ks j) → ((k : ℕ) → IsMarked marks k ↔ Contains (j ∷ ks) k) → ((k : ℕ) → IsMarked marks' k ↔ (IsMarked marks k × ¬ (k ≡ j))) → (k : ℕ) → IsMarked marks' k ↔ Contains ks k
marked_back marks marks' ks j fresh old new k = (
  λ m.
      let n = (new k).0 m in
      elim (Contains-cases ks j k ((old k).0 n.0)) as (λ _. Contains ks k) [
        | inl e ↦ absurd (n.1 (sym e))
        | inr o ↦ o
      ],
  λ m. (new k).1 ((old k).1 (Contains-tail ks j k m), λ e. fresh (subst (λ (i : ℕ). Contains ks i) e m)),
)

map_more : {C : Type 0} (xs : List (Frame C)) (x : Frame C) → map (λ (h : Frame C). h.number) (xs ++ x ∷ []) ≡ map (λ (h : Frame C). h.number) xs ++ x.number ∷ []
map_more [] x = refl
map_more (y ∷ ys) x = ap (λ ns. y.number ∷ ns) (map_more ys x)

-- the numbers of frames from the first one on
numbers_map : {C : Type 0} (fs : List (Frame C)) → reverse (numbers_of fs) ≡ map (λ (f : Frame C). f.number) (reverse fs)
numbers_map [] = refl
numbers_map {C} (f ∷ fs) = reverse-cons f.number (numbers_of fs) ∙ ap (λ ns. ns ++ f.number ∷ []) (numbers_map fs) ∙ sym (map_more (reverse fs) f) ∙ ap (map (λ (h : Frame C). h.number)) (sym (reverse-cons f fs))

pub numbers_up : {C : Type 0} (f : Frame C) (trail : List (Frame C)) → reverse (numbers_of (f ∷ reverse trail)) ≡ map (λ (h : Frame C). h.number) trail ++ f.number ∷ []
numbers_up {C} f trail = reverse-cons f.number (numbers_of (reverse trail)) ∙ ap (λ ns. ns ++ f.number ∷ []) (numbers_map (reverse trail) ∙ ap (map (λ (h : Frame C). h.number)) (reverse-reverse trail))

-- a number that was found stays one of those that were
pub still_found : (i m n : ℕ) → i < m → m ≤ n → i < n
still_found i m n h l = omega (arith, h, l)

-- a sum within a limit, of which one part is not below 0
pub part_within : (s e l m : ℤ) → e ≡ l → pos 0 ≤ℤ l → (s +ℤ e) ≤ℤ m → s ≤ℤ m
part_within s e l m is low h = omega (arith, ints, is, low, h)

module _ {N C : Type 0} (eq : N → N → Bool) (laws : IsEquivalence eq) (value : C → ℤ) (fits : ℤ → Type 0) (g : NodeGraph N) (test : N → Bool) (least : N → ℤ) (first : N) where
  module _ (keys : List N) (steps : List (ℕ × C)) (spans : List (Option Span)) (rows : HasRows value (IsCheapStep eq g) test (StandsFor eq keys) steps spans) where
    -- the end of the last frame's row lies within the steps
    pub frame_ends : (found : ℕ) → IsTable found steps spans → (f : Frame C) (fs : List (Frame C)) (cut : Option C) (past : Bool) → IsOnWay eq value fits g test least first keys steps spans f fs cut past → (f.at ≤ f.end) × (f.end ≤ length steps)
    frame_ends found t f fs cut past h = let b = h.trail.0 in let w = t.within f.number b.span b.has in (b.stops, omega (arith, b.ends, w.1))

    -- the step that the last frame is at
    pub step_at : (found : ℕ) → IsTable found steps spans → (f : Frame C) (fs : List (Frame C)) (cut : Option C) (past : Bool) → IsOnWay eq value fits g test least first keys steps spans f fs cut past → f.at < f.end → (x : ℕ × C) → get_or steps f.at x ≡ x → slice_get steps f.at ≡ Some x
    step_at found t f fs cut past h inside x e = let b = frame_ends found t f fs cut past h in at_place steps f.at x x (omega (arith, inside, b.1)) e

    -- the frame below is at a step
    pub room : (f : Frame C) (fs : List (Frame C)) (cut : Option C) (past : Bool) → IsOnWay eq value fits g test least first keys steps spans f fs cut past → (e : Frame C) (es : List (Frame C)) → fs ≡ e ∷ es → e.at < e.end
    room f fs cut past h e es is = let t = subst (λ (xs : List (Frame C)). IsTrail eq value (IsCheapStep eq g) test (StandsFor eq keys) (IsCutOff value fits cut past) steps spans (f ∷ xs)) is h.trail in t.1.2

    -- the same, of equal things
    pub on_way_as : (f : Frame C) (fs fs' : List (Frame C)) (cut cut' : Option C) (past past' : Bool) → fs' ≡ fs → cut' ≡ cut → past' ≡ past → IsOnWay eq value fits g test least first keys steps spans f fs cut past → IsOnWay eq value fits g test least first keys steps spans f fs' cut' past'
    on_way_as f fs fs' cut cut' past past' a b c h =
        subst (λ (xs : List (Frame C)). IsOnWay eq value fits g test least first keys steps spans f xs cut' past') (sym a)
        (subst (λ (o : Option C). IsOnWay eq value fits g test least first keys steps spans f fs o past') (sym b)
        (subst (λ (q : Bool). IsOnWay eq value fits g test least first keys steps spans f fs cut q) (sym c) h))

    -- the step leads back
    pub skipped : (f : Frame C) (fs : List (Frame C)) (cut : Option C) (past : Bool) → IsOnWay eq value fits g test least first keys steps spans f fs cut past → f.at < f.end → (j : ℕ) (c : C) → slice_get steps f.at ≡ Some (j, c) → Contains (numbers_of (f ∷ fs)) j
        → IsOnWay eq value fits g test least first keys steps spans (record f { at = f.at + 1 }) fs cut past
    skipped f fs cut past h inside j c at on = record {
      trail = advanced eq laws value (IsCheapStep eq g) test (StandsFor eq keys) (IsCutOff value fits cut past) (one_node eq laws keys) steps spans f fs j c h.trail inside at (λ x z y s e there costs. inl (j, on, there));
      begins = h.begins;
      all_past = h.all_past;
    }

    -- back to the frame below
    pub went_back : (f : Frame C) (fs : List (Frame C)) (cut : Option C) (past : Bool) → IsOnWay eq value fits g test least first keys steps spans f fs cut past → f.at ≡ f.end → (e : Frame C) (es : List (Frame C)) → fs ≡ e ∷ es
        → IsOnWay eq value fits g test least first keys steps spans (record e { at = e.at + 1 }) es cut past
    went_back f fs cut past h over e es is = record {
      trail = left eq laws value (IsCheapStep eq g) test (StandsFor eq keys) (IsCutOff value fits cut past) (one_node eq laws keys) steps spans rows f e es
          (subst (λ (xs : List (Frame C)). IsTrail eq value (IsCheapStep eq g) test (StandsFor eq keys) (IsCutOff value fits cut past) steps spans (f ∷ xs)) is h.trail) over;
      begins = h.begins;
      all_past = h.all_past;
    }

    -- nothing is left
    pub all_done : (f : Frame C) (fs : List (Frame C)) (cut : Option C) (past : Bool) → IsOnWay eq value fits g test least first keys steps spans f fs cut past → f.at ≡ f.end → fs ≡ []
        → AllCovered eq value (IsCheapStep eq g) test (StandsFor eq keys) (IsCutOff value fits cut past) (0 ∷ []) (pos 0) first
    all_done f fs cut past h over is =
        let t = subst (λ (xs : List (Frame C)). IsTrail eq value (IsCheapStep eq g) test (StandsFor eq keys) (IsCutOff value fits cut past) steps spans (f ∷ xs)) is h.trail in
        let a = t.1 in
        let s = spent eq laws value (IsCheapStep eq g) test (StandsFor eq keys) (IsCutOff value fits cut past) (one_node eq laws keys) steps spans rows f [] t over first (subst (λ (n : ℕ). StandsFor eq keys n first) (sym a.0) h.begins) in
        subst (λ (d : ℤ). AllCovered eq value (IsCheapStep eq g) test (StandsFor eq keys) (IsCutOff value fits cut past) (0 ∷ []) d first) a.1
        (subst (λ (n : ℕ). AllCovered eq value (IsCheapStep eq g) test (StandsFor eq keys) (IsCutOff value fits cut past) (n ∷ []) (value f.cost) first) a.0 s)

    -- the way begins
    pub begun : (f : Frame C) (s : Span) → HasSpan spans 0 s → s.begin ≤ s.end → f.number ≡ 0 → value f.cost ≡ pos 0 → f.at ≡ s.begin → f.end ≡ s.end → StandsFor eq keys 0 first → IsOnWay eq value fits g test least first keys steps spans f [] None false
    begun f s has wide number cost begin end here = record {
      trail = entered eq laws value (IsCheapStep eq g) test (StandsFor eq keys) (IsCutOff value fits None false) (one_node eq laws keys) steps spans rows f [] s (subst (λ (n : ℕ). HasSpan spans n s) (sym number) has) wide begin end (none f.number) (number, cost) tt;
      begins = here;
      all_past = λ e. absurd (true≢false (sym e));
    }
      where
        none : (n : ℕ) → ¬ (Contains (numbers_of {C = C} []) n)
        none n h = absurd (omega (arith, h.1))

    module _ (alike : (x y : N) → InReach eq g.edges g.starts x → eq x y ≡ true → ListsEdges eq (λ z. z) (g.edges x) (g.edges y)) (adm : IsAdmissible eq g.edges g.starts test least) (p : IsNonNegative (IsCheapStep eq g))
        (within : (k : ℕ) (x : N) → StandsFor eq keys k x → InReach eq g.edges g.starts x) (one : (i j : ℕ) (x : N) → StandsFor eq keys i x → StandsFor eq keys j x → i ≡ j)
        (f : Frame C) (fs : List (Frame C)) (cut : Option C) (past : Bool) (h : IsOnWay eq value fits g test least first keys steps spans f fs cut past) (inside : f.at < f.end) (j : ℕ) (c : C) (at : slice_get steps f.at ≡ Some (j, c))
        (all : (k : ℕ) → Contains (numbers_of (f ∷ fs)) k → (x : N) × StandsFor eq keys k x) where
      -- no cost on the way is below 0
      pub cost_from_zero : pos 0 ≤ℤ value f.cost
      cost_from_zero = let up = way_up eq laws value (IsCheapStep eq g) test (StandsFor eq keys) steps spans rows first h.begins (IsCutOff value fits cut past) fs f h.trail in walk_positive (IsCheapStep eq g) p up.nodes first (value f.cost) up.goes

      pub price_from_zero : pos 0 ≤ℤ value c
      price_from_zero =
          let up = way_up eq laws value (IsCheapStep eq g) test (StandsFor eq keys) steps spans rows first h.begins (IsCutOff value fits cut past) fs f h.trail in
          let b = h.trail.0 in
          let q = rows.sound f.number b.span (end_of first up.nodes) b.has up.here f.at j c (b.begins, omega (arith, b.ends, inside)) at in
          p.non_negative (end_of first up.nodes) (value c) q.0 q.1

      module _ (fresh : ¬ (Contains (numbers_of (f ∷ fs)) j)) (e : C) (estimated : (x : N) → StandsFor eq keys j x → value e ≡ least x) where
        -- the way is cut off behind the step
        pub cut_there : (cut' : Option C) (past' : Bool) → ((u : ℤ) → IsCutOff value fits cut past u → IsCutOff value fits cut' past' u) → ((u : ℤ) → (value f.cost +ℤ value c +ℤ value e) ≤ℤ u → IsCutOff value fits cut' past' u)
            → (past' ≡ true → (past ≡ true) ⊎ (¬ (fits (value f.cost +ℤ value c +ℤ value e)))) → IsOnWay eq value fits g test least first keys steps spans (record f { at = f.at + 1 }) fs cut' past'
        cut_there cut' past' more covered dear = record {
          trail = advanced eq laws value (IsCheapStep eq g) test (StandsFor eq keys) (IsCutOff value fits cut' past') (one_node eq laws keys) steps spans f fs j c
              (trail_more eq laws value (IsCheapStep eq g) test (StandsFor eq keys) (StandsFor eq keys) (λ k x t. t) (IsCutOff value fits cut past) (IsCutOff value fits cut' past') more (λ k x y r t. t) steps steps spans spans (λ i r t. t) (λ k s t. t) (f ∷ fs) all h.trail)
              inside at (λ x z y s step there costs. inr (
                j,
                there,
                λ w u goes good d a.
                    let low = never_above eq laws g alike test least adm y (within j y there) w u (goes_of_cheap eq laws g alike w y u goes) good in
                    covered ((value f.cost +ℤ z) +ℤ u) (omega (arith, ints, low, costs, estimated y there)),
              ));
          begins = h.begins;
          all_past = λ q. elim (dear q) as (λ _. IsWayPast eq value fits g least first) [
            | inl o ↦ h.all_past o
            | inr n ↦
                let up = way_to eq laws value (IsCheapStep eq g) test (StandsFor eq keys) steps spans rows first h.begins (IsCutOff value fits cut past) fs f h.trail inside j c at in
                let once = distinct_to eq laws value (IsCheapStep eq g) test (StandsFor eq keys) steps spans rows first h.begins (IsCutOff value fits cut past) (f ∷ fs) h.trail j fresh in
                record {
                  nodes = up.nodes;
                  cost = value f.cost +ℤ value c;
                  goes = up.goes;
                  distinct = distinct_nodes eq laws keys one (reverse (numbers_of (f ∷ fs)) ++ j ∷ []) (first ∷ up.nodes) up.numbered once;
                  past = λ k. n (subst (λ (t : ℤ). fits (value f.cost +ℤ value c +ℤ t)) (sym (estimated (end_of first up.nodes) up.here)) k);
                }
          ];
        }

      -- the way goes on along the step, once more nodes may have been found
      module _ (fresh : ¬ (Contains (numbers_of (f ∷ fs)) j)) (keys' : List N) (steps' : List (ℕ × C)) (spans' : List (Option Span)) (grows : Grows (length keys) (length keys') (StandsFor eq keys) (StandsFor eq keys'))
          (kept : (i : ℕ) (e : ℕ × C) → slice_get steps i ≡ Some e → slice_get steps' i ≡ Some e) (held : (k : ℕ) (s : Span) → HasSpan spans k s → HasSpan spans' k s) where
        pub went_on : HasRows value (IsCheapStep eq g) test (StandsFor eq keys') steps' spans' → (found : (k : ℕ) → Contains (numbers_of (f ∷ fs)) k → k < length keys) → (e : Frame C) (s : Span) → HasSpan spans' j s → s.begin ≤ s.end → e.number ≡ j → value e.cost ≡ value f.cost +ℤ value c → e.at ≡ s.begin → e.end ≡ s.end
            → IsOnWay eq value fits g test least first keys' steps' spans' e (f ∷ fs) cut past
        went_on rows' found e s has wide number cost begin end = record {
          trail = entered eq laws value (IsCheapStep eq g) test (StandsFor eq keys') (IsCutOff value fits cut past) (one_node eq laws keys') steps' spans' rows' e (f ∷ fs) s (subst (λ (n : ℕ). HasSpan spans' n s) (sym number) has) wide begin end
              (λ k. fresh (subst (λ (n : ℕ). Contains (numbers_of (f ∷ fs)) n) number k)) (c, kept f.at (e.number, c) (at ∙ ap (λ (n : ℕ). Some (n, c)) (sym number)), inside, cost)
              (trail_more eq laws value (IsCheapStep eq g) test (StandsFor eq keys) (StandsFor eq keys') grows.stays (IsCutOff value fits cut past) (IsCutOff value fits cut past) (λ u t. t) (λ k x y r t. grows.back k x (stands_below k y r) t) steps steps' spans spans' kept held (f ∷ fs) all h.trail);
          begins = grows.stays 0 first h.begins;
          all_past = h.all_past;
        }
          where
            stands_below : (k : ℕ) (y : N) → StandsFor eq keys k y → k < length keys
            stands_below k y r = StandsFor-inside eq keys k y r

        -- the step leads to a goal
        pub arrived : ((x : N) → StandsFor eq keys' j x → test x ≡ true) → (numbers : List ℕ) → numbers ≡ reverse (numbers_of (f ∷ fs)) ++ j ∷ [] → (t : ℤ) → t ≡ value f.cost +ℤ value c → IsWayTo eq value fits g test (StandsFor eq keys') first numbers t
        arrived good numbers is t sum =
            let up = way_to eq laws value (IsCheapStep eq g) test (StandsFor eq keys) steps spans rows first h.begins (IsCutOff value fits cut past) fs f h.trail inside j c at in
            let once = distinct_to eq laws value (IsCheapStep eq g) test (StandsFor eq keys) steps spans rows first h.begins (IsCutOff value fits cut past) (f ∷ fs) h.trail j fresh in
            record {
              nodes = up.nodes;
              path = record {
                numbered = subst (λ (ns : List ℕ). AllZip (StandsFor eq keys') ns (first ∷ up.nodes)) (sym is) (AllZip-map (StandsFor eq keys) (StandsFor eq keys') grows.stays (reverse (numbers_of (f ∷ fs)) ++ j ∷ []) (first ∷ up.nodes) up.numbered);
                goes = subst (GoesAlong (IsCheapStep eq g) first up.nodes) (sym sum) up.goes;
                distinct = subst (NoRepeats nat_eq) (sym is) once;
              };
              good = good (end_of first up.nodes) (grows.stays j (end_of first up.nodes) up.here);
            }

  -- the start is a goal
  pub start_way : (keys : List N) → StandsFor eq keys 0 first → test first ≡ true → (numbers : List ℕ) → numbers ≡ 0 ∷ [] → (t : ℤ) → t ≡ pos 0 → IsWayTo eq value fits g test (StandsFor eq keys) first numbers t
  start_way keys here good numbers is t sum = record {
    nodes = [];
    path = record {
      numbered = subst (λ (ns : List ℕ). AllZip (StandsFor eq keys) ns (first ∷ [])) (sym is) (here, tt);
      goes = sum;
      distinct = subst (NoRepeats nat_eq) (sym is) ((λ h. h), tt);
    };
    good = good;
  }
