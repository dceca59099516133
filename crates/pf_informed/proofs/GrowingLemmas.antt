-- A search by growing limits: no walk to a goal costs less than the limit, and a turn of its loop keeps what it knows.
use Rattle.std.proofs.Common.{ℕ, ◌≡◌, sym, subst, arith, Bool, true, List, ◌++◌, inl, inr, ℤ, pos, Some}
use Rattle.std.specs.Prelude.{slice_get, Contains, ◌≤ℤ◌, ◌+ℤ◌, ◌⊎◌}
use Rattle.std.proofs.lemmas.Int.{ints}
use Rattle.std.proofs.lemmas.List.Elements.{Contains-append_left, Contains-append_right, Contains-append_cases}
use Rattle.pf_base.specs.Walks.{end_of}
use Rattle.pf_core.specs.declared.labels.Label.{Label}
use Rattle.pf_core.specs.Labels.{Labels, HasLabel}
use Rattle.pf_core.specs.Steps.{GoesAlong, IsNonNegative}
use Rattle.pf_base.proofs.ListLemmas.{int_dec}
use Rattle.pf_core.proofs.FrontierLemmas.{walk_positive}
use Rattle.pf_informed.specs.Internal.Forest.{IsForest}
use Rattle.pf_informed.specs.Internal.Waiting.{Entry, IsWaiting, IsQueue, Relaxed}
use Rattle.pf_informed.specs.Internal.Informed.{IsInformed, Follows}
use Rattle.pf_informed.specs.Internal.Fringe.{IsBelowWaiting, IsBelowGoals}
use Rattle.pf_informed.proofs.InformedLemmas.{on_goal_walk}
use Rattle.pf_informed.proofs.FringeLemmas.{either_in}

module _ {X C : Type 0} (value : C → ℤ) (fits : ℤ → Type 0) (step : X → ℤ → X → Type 0) (passes : X → Bool) (p : IsNonNegative step) (estimates : List C) (stands : ℕ → X → Type 0) (labels : Labels C) (entries : List (Entry C)) (f : IsForest value labels) (found : ℕ)
    (i : IsInformed value fits estimates step passes stands labels entries found) (est : X → ℤ) (within : X → Type 0) (all : (k : ℕ) (x : X) → stands k x → within x)
    (zero_up : (x : X) → within x → pos 0 ≤ℤ est x) (never_above : (x : X) → within x → (w : List X) (u : ℤ) → GoesAlong step x w u → passes (end_of x w) ≡ true → est x ≤ℤ u)
    (estimated : (k : ℕ) (x : X) (h : C) → stands k x → slice_get estimates k ≡ Some h → value h ≡ est x) (asked : (k : ℕ) (x : X) → stands k x → (h : C) × (slice_get estimates k ≡ Some h))
    (between : (x y z : ℤ) → fits x → fits z → x ≤ℤ y → y ≤ℤ z → fits y) (nothing : fits (pos 0)) (starts : X → Type 0) (begins : (s : X) → starts s → stands 0 s) where
  -- the least sum that waits is no more than a walk to a goal costs
  pub raised_below_goals : (limit : C) → fits (value limit) → IsBelowWaiting value labels estimates entries limit → IsBelowGoals step passes starts (value limit)
  raised_below_goals limit fit below s start w t walk good = elim (on_goal_walk value fits step passes p estimates stands labels entries f found i est s (begins s start) within all zero_up never_above estimated asked between nothing w t walk good) as (λ _. value limit ≤ℤ t) [
    | inl r ↦ omega (arith, ints, below r.number r.label r.estimate r.at r.waiting r.kept, r.low)
    | inr n ↦ elim (int_dec (value limit) t) as (λ _. value limit ≤ℤ t) [
      | inl le ↦ le
      | inr lt ↦ absurd (n (between (pos 0) t (value limit) nothing fit (walk_positive step p w s t walk) (omega (arith, ints, lt))))
    ]
  ]

  -- the limit stayed, or was raised to the least sum that waits
  pub limit_now : (old new : C) → (new ≡ old) ⊎ (fits (value new) × IsBelowWaiting value labels estimates entries new) → IsBelowGoals step passes starts (value old) → IsBelowGoals step passes starts (value new)
  limit_now old new (inl same) low = subst (λ (c : C). IsBelowGoals step passes starts (value c)) (sym same) low
  limit_now old new (inr raised) low = raised_below_goals new raised.0 raised.1

-- ---- steps whose entries go to a queue beside the lists
module _ {C : Type 0} (value : C → ℤ) (fits : ℤ → Type 0) (estimates : List C) where
  eased_beside : (parent : ℕ) (t : ℤ) (row : List (ℕ × C)) (labels labels' : Labels C) (heap heap' rest : List (Entry C)) → Relaxed value fits estimates parent t row labels labels' heap heap' → Relaxed value fits estimates parent t row labels labels' (heap ++ rest) (heap' ++ rest)
  eased_beside parent t row labels labels' heap heap' rest e = record {
    len = e.len;
    lower = e.lower;
    from = λ k m h. elim (e.from k m h) as (λ _. HasLabel labels k m ⊎ ((c : C) × Contains row (k, c) × (m.parent ≡ parent) × (value m.cost ≡ t +ℤ value c) × IsWaiting value estimates (heap' ++ rest) k m)) [
      | inl old ↦ inl old
      | inr new ↦ let w = new.4 in inr (new.0, new.1, new.2, new.3, (w.0, Contains-append_left heap' rest w.0 w.1, w.2, w.3))
    ];
    more = either_in heap rest (heap' ++ rest) (λ x h. Contains-append_left heap' rest x (e.more x h)) (λ x h. Contains-append_right heap' rest x h);
    own = e.own;
    covered = e.covered;
  }

  pub follows_beside : (number : ℕ) (l : Label C) (row : List (ℕ × C)) (labels labels' : Labels C) (heap heap' rest : List (Entry C)) → Follows value fits estimates number l row labels labels' heap heap' → Follows value fits estimates number l row labels labels' (heap ++ rest) (heap' ++ rest)
  follows_beside number l row labels labels' heap heap' rest f = record { wider = f.wider; wide = f.wide; relaxed = eased_beside number (value l.cost) row f.wider labels' heap heap' rest f.relaxed }

  pub queue_beside : (number : ℕ) (l : Label C) (row : List (ℕ × C)) (labels labels' : Labels C) (heap heap' rest : List (Entry C)) → Follows value fits estimates number l row labels labels' heap heap' → IsQueue value labels estimates (heap ++ rest) → IsQueue value labels' estimates heap' → IsQueue value labels' estimates (heap' ++ rest)
  queue_beside number l row labels labels' heap heap' rest f q new = record {
    labelled = λ e h. elim (Contains-append_cases heap' rest e h) as (λ _. (m : Label C) × HasLabel labels' e.1 m × (c : C) × (slice_get estimates e.1 ≡ Some c) × ((value m.cost +ℤ value c) ≤ℤ value e.0)) [
      | inl i ↦ new.labelled e i
      | inr i ↦
          let w = f.wide in
          let s = f.relaxed in
          let m = q.labelled e (Contains-append_right heap rest e i) in
          let now = s.lower e.1 m.0 (w.stays e.1 m.0 m.1) in
          (now.0, now.1, m.2, m.3, omega (arith, ints, now.2, m.4))
    ];
  }
