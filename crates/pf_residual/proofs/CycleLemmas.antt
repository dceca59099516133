-- Cycles of arcs, and what is taken off them.
use Rattle.std.proofs.Common.{ℕ, zero, suc, ◌+◌, ◌<◌, ◌≡◌, ◌≢◌, refl, sym, ◌∙◌, ap, subst, arith, Bool, true, false, List, [], ◌∷◌, ◌++◌, length, take, get_or, inl, inr, ◌⊎◌, Some, pos, ℤ, true≢false}
use Rattle.std.specs.Prelude.{slice_get, slice_set, Option, None, ◌+ℤ◌, ◌-ℤ◌, ◌≤ℤ◌, ◌<ℤ◌, if◌then◌else◌}
use Rattle.std.proofs.lemmas.Int.{ints}
use Rattle.std.proofs.lemmas.List.{length-set, take_more, length-take-le}
use Rattle.std.proofs.lemmas.Option.{slice_get-get_or, slice_get_within}
use Rattle.pf_base.proofs.ListLemmas.{take_get, int_dec, nat_dec, none_in, get_set, get_pushed}
use Rattle.pf_residual.specs.declared.cancelling.arcs.Arc.{Arc}
use Rattle.pf_residual.specs.declared.cancelling.search.Step.{Step}
use Rattle.pf_residual.specs.Internal.Cancelling.{Has, IsOnce, Leads, gain, gain_at, gained, net_of, AreAmounts, HasAmount, IsCirculation, IsReached, IsExpanded, IsWayBack, IsCycle, IsTakenOff, IsLowered}
use Rattle.pf_residual.proofs.SearchLemmas.{Has-push, Has-left, Has-last, Has-take}
use Rattle.pf_residual.proofs.NetLemmas.{gain_less, net_set, net_below, gained_more, gained_round, leads_more}

-- one number more that does not stand in the list
pub once_more : (ks : List ℕ) (k : ℕ) → IsOnce ks → ¬ (Has ks k) → IsOnce (ks ++ k ∷ [])
once_more ks k h none i j n f g = elim (get_pushed ks k i n f) as (λ _. i ≡ j) [
  | inl a ↦ elim (get_pushed ks k j n g) as (λ _. i ≡ j) [
    | inl b ↦ h i j n a.1 b.1
    | inr b ↦ absurd (none (i, a.1 ∙ ap Some (sym b.1)))
  ]
  | inr a ↦ elim (get_pushed ks k j n g) as (λ _. i ≡ j) [
    | inl b ↦ absurd (none (j, b.1 ∙ ap Some (sym a.1)))
    | inr b ↦ a.0 ∙ sym b.0
  ]
]

module _ {C : Type 0} (value : C → ℤ) (ends : List Arc) (xs : List C) where
  -- the way back begins at the goal
  pub way_begin : (start goal : ℕ) (steps : List Step) (places : List (Option ℕ)) (at : ℕ) → IsReached value ends xs start steps places → slice_get places goal ≡ Some (Some at) → IsWayBack value ends xs goal steps places at []
  way_begin start goal steps places at r g =
      let s = r.standing goal at g in
      record {
        leads = (s.0, s.1, s.2);
        once = λ i j k h. absurd (none_in i k h);
        carries = λ k h. absurd (none_in h.0 k h.1);
        later = λ k h. absurd (none_in h.0 k h.1);
      }

  -- and goes on over the arc of a step
  pub way_more : (start goal : ℕ) (steps : List Step) (places : List (Option ℕ)) (at : ℕ) (way : List ℕ) (s : Step) → 0 < at → slice_get steps at ≡ Some s → IsReached value ends xs start steps places
      → IsWayBack value ends xs goal steps places at way → IsWayBack value ends xs goal steps places s.before (way ++ s.arc ∷ [])
  way_more start goal steps places zero way s l g r w = absurd (omega (arith, l))
  way_more start goal steps places (suc at) way s l g r w =
      let b = r.behind at s g in
      let one = b.1 in
      let same : Some w.leads.0 ≡ Some s = sym w.leads.1 ∙ g in
      let v : w.leads.0 ≡ s = cc in
      let lead : Leads ends s.vertex way goal = subst (λ (t : Step). Leads ends t.vertex way goal) v w.leads.2 in
      let place : slice_get places one.arc.to ≡ Some (Some (suc at)) = ap (slice_get places) one.to ∙ r.placed (suc at) s g in
      record {
        leads = (one.last, one.known, subst (λ (u : ℕ). Leads ends u (way ++ s.arc ∷ []) goal) one.from (leads_more ends s.vertex way goal s.arc one.arc lead one.at one.to));
        once = once_more way s.arc w.once (λ h.
            let o = w.later s.arc h in
            let e1 : Some o.0 ≡ Some one.arc = sym o.2 ∙ one.at in
            let e2 : o.0 ≡ one.arc = cc in
            let e3 : Some (Some o.1) ≡ Some (Some (suc at)) = sym o.3 ∙ ap (λ (a : Arc). slice_get places a.to) e2 ∙ place in
            let e4 : o.1 ≡ suc at = cc in
            absurd (omega (arith, e4, o.4)));
        carries = λ k h. elim (Has-push way s.arc k h) as (λ _. HasAmount value xs k (λ z. z ≢ pos 0)) [
          | inl i ↦ w.carries k i
          | inr i ↦ subst (λ (j : ℕ). HasAmount value xs j (λ z. z ≢ pos 0)) i one.carries
        ];
        later = λ k h. elim (Has-push way s.arc k h) as (λ _. (e : Arc) × (j : ℕ) × (slice_get ends k ≡ Some e) × (slice_get places e.to ≡ Some (Some j)) × (s.before < j)) [
          | inl i ↦ (let o = w.later k i in (o.0, o.1, o.2, o.3, omega (arith, o.4, b.0)))
          | inr i ↦ (one.arc, suc at, ap (slice_get ends) (sym i) ∙ one.at, place, omega (arith, b.0))
        ];
      }

  -- with the arc that the search began at it is a cycle
  pub way_end : (start goal : ℕ) (steps : List Step) (places : List (Option ℕ)) (way : List ℕ) (k : ℕ) (e : Arc) → IsReached value ends xs start steps places → IsWayBack value ends xs goal steps places 0 way
      → slice_get ends k ≡ Some e → e.from ≡ goal → e.to ≡ start → HasAmount value xs k (λ z. z ≢ pos 0) → IsCycle value ends xs k (way ++ k ∷ [])
  way_end start goal steps places way k e r w at from to carries =
      let first = r.first in
      let same : Some w.leads.0 ≡ Some first.0 = sym w.leads.1 ∙ first.1 in
      let v : w.leads.0 ≡ first.0 = cc in
      let lead : Leads ends start way goal = subst (λ (u : ℕ). Leads ends u way goal) (ap (λ (t : Step). t.vertex) v ∙ first.2) w.leads.2 in
      let place : slice_get places e.to ≡ Some (Some 0) = ap (slice_get places) (to ∙ sym first.2) ∙ r.placed 0 first.0 first.1 in
      record {
        leads = (goal, subst (λ (u : ℕ). Leads ends u (way ++ k ∷ []) goal) from (leads_more ends start way goal k e lead at to));
        once = once_more way k w.once (λ h.
            let o = w.later k h in
            let e1 : Some o.0 ≡ Some e = sym o.2 ∙ at in
            let e2 : o.0 ≡ e = cc in
            let e3 : Some (Some o.1) ≡ Some (Some 0) = sym o.3 ∙ ap (λ (a : Arc). slice_get places a.to) e2 ∙ place in
            let e4 : o.1 ≡ 0 = cc in
            absurd (omega (arith, e4, o.4)));
        carries = λ j h. elim (Has-push way k j h) as (λ _. HasAmount value xs j (λ z. z ≢ pos 0)) [
          | inl i ↦ w.carries j i
          | inr i ↦ subst (λ (m : ℕ). HasAmount value xs m (λ z. z ≢ pos 0)) i carries
        ];
        passes = Has-last way k;
      }

-- is the vertex reached?
abbrev marked : Option (Option ℕ) → Bool
marked None = false
marked (Some None) = false
marked (Some (Some j)) = true

abbrev side_of : List (Option ℕ) → ℕ → Bool
side_of places b = marked (slice_get places b)

marked_place : (o : Option (Option ℕ)) → marked o ≡ true → (j : ℕ) × (o ≡ Some (Some j))
marked_place None h = absurd (true≢false (sym h))
marked_place (Some None) h = absurd (true≢false (sym h))
marked_place (Some (Some j)) h = (j, refl)

out_none : (from to : Bool) (x : ℤ) → pos 0 ≤ℤ x → (x ≢ pos 0 → from ≡ true → to ≡ true) → ((if from then x else pos 0) -ℤ (if to then x else pos 0)) ≤ℤ pos 0
out_none true true x l h = omega (arith, ints, l)
out_none true false x l h = elim (int_dec x (pos 0)) as (λ _. (x -ℤ pos 0) ≤ℤ pos 0) [
  | inl e ↦ omega (arith, ints, e)
  | inr e ↦ absurd (true≢false (sym (h (λ q. omega (arith, ints, e, q)) refl)))
]
out_none false true x l h = omega (arith, ints, l)
out_none false false x l h = omega (arith, ints, l)

-- where no vertex set loses or gains, the tail of an arc that carries flow is in reach of its head
pub tail_reached : {C : Type 0} (value : C → ℤ) (ends : List Arc) (xs : List C) (start : ℕ) (steps : List Step) (places : List (Option ℕ)) (k : ℕ) (e : Arc) (x : C) → AreAmounts value xs → IsCirculation value ends xs
    → IsReached value ends xs start steps places → IsExpanded value ends xs (length steps) steps places → slice_get ends k ≡ Some e → slice_get xs k ≡ Some x → pos 0 <ℤ value x → e.to ≡ start
    → slice_get places e.from ≡ Some None → ⊥
tail_reached value ends xs start steps places k e x low balanced r whole at has some to free =
    let side = side_of places in
    let each = λ (j : ℕ) (f : Arc) (y : _) (p : slice_get ends j ≡ Some f) (q : slice_get xs j ≡ Some y). out_none (side f.from) (side f.to) (value y) (low j y q) (λ n m.
    let o = marked_place (slice_get places f.from) m in
    let s = r.standing f.from o.0 o.1 in
    let d = whole o.0 j s.0 f (slice_get_within steps o.0 s.0 s.1) s.1 p (sym s.2) (y, q, n) in
    ap marked d.1) in
    let below = net_below value side ends xs k e x at has each in
    let none = balanced side in
    let from : side e.from ≡ false = ap marked free in
    let into : side e.to ≡ true = ap (λ (b : ℕ). marked (slice_get places b)) (to ∙ sym r.first.2) ∙ ap marked (r.placed 0 r.first.0 r.first.1) in
    let one : gain side (value x) e ≡ (pos 0 -ℤ value x) = ap (λ (b : Bool). (if b then value x else pos 0) -ℤ (if side e.to then value x else pos 0)) from ∙ ap (λ (b : Bool). pos 0 -ℤ (if b then value x else pos 0)) into in
    absurd (omega (arith, ints, below, none, one, some))

-- the numbers so far, and the next one, which is none of them
pub next_apart : (cycle : List ℕ) (i : ℕ) → i < length cycle → IsOnce cycle → ¬ (Has (take i cycle) (get_or cycle i 0))
next_apart cycle i l once h =
    let at = take_get i cycle h.0 (get_or cycle i 0) h.1 in
    let same = once h.0 i (get_or cycle i 0) at (slice_get-get_or cycle i 0 l) in
    let short = slice_get_within (take i cycle) h.0 (get_or cycle i 0) h.1 in
    let long = length-take-le i cycle (omega (arith, l)) in
    absurd (omega (arith, same, short, long))

Has-take_left : (cycle : List ℕ) (i j : ℕ) → i < length cycle → Has (take i cycle) j → Has (take (i + 1) cycle) j
Has-take_left cycle i j l h = subst (λ ks. Has ks j) (sym (take_more cycle i 0 l)) (Has-left (take i cycle) (get_or cycle i 0) j h)

Has-take_here : (cycle : List ℕ) (i : ℕ) → i < length cycle → Has (take (i + 1) cycle) (get_or cycle i 0)
Has-take_here cycle i l = subst (λ ks. Has ks (get_or cycle i 0)) (sym (take_more cycle i 0 l)) (Has-last (take i cycle) (get_or cycle i 0))

module _ {C : Type 0} (value : C → ℤ) (z : ℤ) (cycle : List ℕ) (i : ℕ) (inside : i < length cycle) (xs now : List C) (x y : C) (at : slice_get now (get_or cycle i 0) ≡ Some x) (less : value y ≡ (value x -ℤ z)) where
  -- one amount more is less
  pub taken_more : IsOnce cycle → IsTakenOff value z (take i cycle) xs now → IsTakenOff value z (take (i + 1) cycle) xs (slice_set now (get_or cycle i 0) y)
  taken_more once h = record {
    len = length-set now k y ∙ h.len;
    less = λ j w m g. elim (Has-take cycle i j inside m) as (λ _. HasAmount value (slice_set now k y) j (λ u. u ≡ (value w -ℤ z))) [
      | inl p ↦ (let o = h.less j w p g in elim (get_set now k j y below) as (λ _. HasAmount value (slice_set now k y) j (λ u. u ≡ (value w -ℤ z))) [
        | inl q ↦ absurd (apart (subst (λ (n : ℕ). Has (take i cycle) n) q.0 p))
        | inr q ↦ (o.0, q.1 ∙ o.1, o.2)
      ])
      | inr p ↦ (
          let was : slice_get now k ≡ Some w = h.same k apart ∙ ap (slice_get xs) p ∙ g in
          let same : Some x ≡ Some w = sym at ∙ was in
          let v : x ≡ w = cc in
          elim (get_set now k j y below) as (λ _. HasAmount value (slice_set now k y) j (λ u. u ≡ (value w -ℤ z))) [
            | inl q ↦ (y, q.1, less ∙ ap (λ (t : C). value t -ℤ z) v)
            | inr q ↦ absurd (q.0 (sym p))
          ]
          )
    ];
    same = λ j m. elim (get_set now k j y below) as (λ _. slice_get (slice_set now k y) j ≡ slice_get xs j) [
      | inl q ↦ absurd (m (subst (λ (n : ℕ). Has (take (i + 1) cycle) n) (sym q.0) (Has-take_here cycle i inside)))
      | inr q ↦ q.1 ∙ h.same j (λ p. m (Has-take_left cycle i j inside p))
    ];
  }
    where
      k : ℕ
      k = get_or cycle i 0

      below : k < length now
      below = slice_get_within now k x at

      apart : ¬ (Has (take i cycle) k)
      apart = next_apart cycle i inside once

  -- and what all arcs bring out of a set of vertices falls by as much
  pub balance_more : (side : ℕ → Bool) (ends : List Arc) → length now ≡ length ends → net_of value side ends now +ℤ gained side z ends (take i cycle) ≡ net_of value side ends xs
      → net_of value side ends (slice_set now (get_or cycle i 0) y) +ℤ gained side z ends (take (i + 1) cycle) ≡ net_of value side ends xs
  balance_more side ends long h =
      let k = get_or cycle i 0 in
      let none : Arc = record { from = 0; to = 0 } in
      let e = get_or ends k none in
      let l = slice_get_within now k x at in
      let arc : slice_get ends k ≡ Some e = slice_get-get_or ends k none (omega (arith, l, long)) in
      let set = net_set value side ends now k e x y arc at in
      let part = gain_less side e (value x) z in
      let new : gain side (value y) e ≡ gain side (value x -ℤ z) e = ap (λ u. gain side u e) less in
      let more : gained side z ends (take (i + 1) cycle) ≡ gained side z ends (take i cycle) +ℤ gain_at side z (slice_get ends k) = ap (gained side z ends) (take_more cycle i 0 inside) ∙ gained_more side z ends (take i cycle) k in
      let one : gain_at side z (slice_get ends k) ≡ gain side z e = ap (gain_at side z) arc in
      omega (arith, ints, h, set, part, new, more, one)

-- nothing taken yet
pub taken_none : {C : Type 0} (value : C → ℤ) (z : ℤ) (xs : List C) → IsTakenOff value z [] xs xs
taken_none value z xs = record { len = refl; less = λ k x h. absurd (none_in h.0 k h.1); same = λ k h. refl }

has_dec : (ks : List ℕ) (k : ℕ) → Has ks k ⊎ (¬ (Has ks k))
has_dec [] k = inr (λ h. none_in h.0 k h.1)
has_dec (j ∷ ks) k = elim (nat_dec j k) as (λ _. Has (j ∷ ks) k ⊎ (¬ (Has (j ∷ ks) k))) [
  | inl e ↦ inl (0, ap Some e)
  | inr d ↦ elim (has_dec ks k) as (λ _. Has (j ∷ ks) k ⊎ (¬ (Has (j ∷ ks) k))) [
    | inl h ↦ inl (suc h.0, h.1)
    | inr n ↦ inr (λ h. neither h.0 h.1 d n)
  ]
]
  where
    neither : (i : ℕ) → slice_get (j ∷ ks) i ≡ Some k → j ≢ k → ¬ (Has ks k) → ⊥
    neither zero g d n = let same : Some j ≡ Some k = g in d (cc)
    neither (suc i) g d n = n (i, g)

module _ {C : Type 0} (value : C → ℤ) where
  pub lowered_none : (through : ℕ) (xs : List C) → AreAmounts value xs → (z : ℤ) → z ≡ pos 0 → IsLowered value z through xs xs
  lowered_none through xs low z e = record {
    len = refl;
    each = λ k x g. let l = low k x g in (x, g, (omega (arith, ints, l), omega (arith, ints), omega (arith, ints, e)));
    exact = λ x g. (x, g, omega (arith, ints, e));
  }

  pub lowered_amounts : (z : ℤ) (through : ℕ) (xs now : List C) → IsLowered value z through xs now → AreAmounts value now
  lowered_amounts z through xs now h k y g =
      let l = slice_get_within now k y g in
      let x = get_or xs k y in
      let at : slice_get xs k ≡ Some x = slice_get-get_or xs k y (omega (arith, l, h.len)) in
      let o = h.each k x at in
      let same : Some y ≡ Some o.0 = sym g ∙ o.1 in
      let v : y ≡ o.0 = cc in
      let e : value y ≡ value o.0 = ap value v in
      let low = o.2.0 in
      omega (arith, ints, e, low)

  -- what was taken off a cycle through the arc lowers it by as much more
  pub lowered_more : (z d s : ℤ) (through : ℕ) (cycle : List ℕ) (xs now new : List C) → IsLowered value z through xs now → IsTakenOff value d cycle now new → Has cycle through → pos 0 ≤ℤ d → s ≡ z +ℤ d
      → ((k : ℕ) → Has cycle k → HasAmount value now k (λ y. d ≤ℤ y)) → IsLowered value s through xs new
  lowered_more z d s through cycle xs now new h t passes some sum enough = record {
    len = t.len ∙ h.len;
    each = λ k x g.
        let o = h.each k x g in
        let a = o.2.0 in
        let b = o.2.1 in
        let c = o.2.2 in
        elim (has_dec cycle k) as (λ _. HasAmount value new k (λ y. (pos 0 ≤ℤ y) × (y ≤ℤ value x) × ((value x -ℤ s) ≤ℤ y))) [
          | inl i ↦ (
              let n = t.less k o.0 i o.1 in
              let e = n.2 in
              let m = enough k i in
              let same : Some m.0 ≡ Some o.0 = sym m.1 ∙ o.1 in
              let v : m.0 ≡ o.0 = cc in
              let w : value m.0 ≡ value o.0 = ap value v in
              let f = m.2 in
              (n.0, n.1, (omega (arith, ints, e, w, f), omega (arith, ints, e, b, some), omega (arith, ints, e, c, sum)))
              )
          | inr i ↦ (o.0, t.same k i ∙ o.1, (a, b, omega (arith, ints, c, sum, some)))
        ];
    exact = λ x g.
        let o = h.exact x g in
        let n = t.less through o.0 passes o.1 in
        let e = n.2 in
        let f = o.2 in
        (n.0, n.1, omega (arith, ints, e, f, sum));
  }

  -- and leaves all sets of vertices balanced
  pub circulation_more : (ends : List Arc) (through : ℕ) (cycle : List ℕ) (d : ℤ) (now new : List C) → IsCirculation value ends now → IsCycle value ends now through cycle
      → ((side : ℕ → Bool) → net_of value side ends new +ℤ gained side d ends cycle ≡ net_of value side ends now) → IsCirculation value ends new
  circulation_more ends through cycle d now new h o b side =
      let round = gained_round side d ends cycle o.leads.0 o.leads.1 in
      let all = b side in
      let none = h side in
      omega (arith, ints, round, all, none)

pub before_less : {C : Type 0} (value : C → ℤ) (ends : List Arc) (xs : List C) (start : ℕ) (steps : List Step) (places : List (Option ℕ)) (at : ℕ) (s : Step) → 0 < at → slice_get steps at ≡ Some s → IsReached value ends xs start steps places → s.before < at
before_less value ends xs start steps places zero s l g r = absurd (omega (arith, l))
before_less value ends xs start steps places (suc at) s l g r = let b = (r.behind at s g).0 in omega (arith, b)

module _ {C : Type 0} (value : C → ℤ) where
  -- each arc of a cycle carries more than 0
  pub cycle_above : (ends : List Arc) (through : ℕ) (cycle : List ℕ) (now : List C) → AreAmounts value now → IsCycle value ends now through cycle → (k : ℕ) → Has cycle k → HasAmount value now k (λ z. pos 0 <ℤ z)
  cycle_above ends through cycle now low h k m =
      let o = h.carries k m in
      let l = low k o.0 o.1 in
      let d = o.2 in
      (o.0, o.1, elim (int_dec (value o.0) (pos 0)) as (λ _. pos 0 <ℤ value o.0) [ inl e ↦ absurd (d (omega (arith, ints, l, e))) | inr e ↦ e ])

  -- what is left to take off the arc is there
  pub through_above : (excess rest : ℤ) (through : ℕ) (xs now : List C) → HasAmount value xs through (λ z. excess ≤ℤ z) → IsLowered value (excess -ℤ rest) through xs now → HasAmount value now through (λ z. rest ≤ℤ z)
  through_above excess rest through xs now h l =
      let o = l.exact h.0 h.1 in
      let e = o.2 in
      let f = h.2 in
      (o.0, o.1, omega (arith, ints, e, f))
