-- What waits while a round begins with what was put off.
use Rattle.std.proofs.Common.{ℕ, ◌+◌, ◌≤◌, ◌≡◌, refl, sym, ◌∙◌, ap, subst, arith, List, [], ◌∷◌, ◌++◌, length, length-append, inl, inr, ℤ, Some}
use Rattle.std.specs.Prelude.{slice_get, Contains, ◌≤ℤ◌, ◌+ℤ◌, ◌⊎◌}
use Rattle.std.proofs.lemmas.Int.{ints}
use Rattle.std.proofs.lemmas.List.Elements.{Contains-append_left, Contains-append_right, Contains-append_cases}
use Rattle.pf_core.specs.declared.labels.Label.{Label}
use Rattle.pf_core.specs.Labels.{Labels, HasLabel}
use Rattle.pf_base.proofs.ListLemmas.{Contains-head, Contains-tail, Contains-cases}
use Rattle.pf_core.proofs.LabelLemmas.{label_is}
use Rattle.pf_informed.specs.Internal.Waiting.{Entry, IsSum, IsWaiting, IsQueue}
use Rattle.pf_informed.specs.Internal.Fringe.{StillWait, IsNewest, IsNextEntry, IsBelowWaiting, IsTakenWithin, IsRaising}
use Rattle.pf_informed.proofs.FringeLemmas.{waits_in, either_in, cons_in, queue_in}

-- the entry of the lesser sum of two, and the other
abbrev pub IsLeastOf : {C : Type 0} → Entry C → Entry C → Entry C → Entry C → Type 0
IsLeastOf least e least' other = ((least' ≡ least) × (other ≡ e)) ⊎ ((least' ≡ e) × (other ≡ least))

module _ {C : Type 0} (value : C → ℤ) (labels : Labels C) (estimates : List C) where
  -- nothing was looked at yet but the first entry that is not stale
  pub raising_start : (e : Entry C) (es later : List (Entry C)) → IsNextEntry value labels estimates e es later → IsQueue value labels estimates es → length later + 1 ≤ length es → IsRaising value labels estimates es e [] later
  raising_start e es later n q fewer = record {
    queue = queue_in value labels estimates es (e ∷ later) q (cons_in e later es n.here n.rest);
    newest = n.newest;
    waits = n.left;
    below = λ f h. absurd (omega (arith, h.1));
    fewer = fewer;
  }

  module _ (es : List (Entry C)) (least : Entry C) (current later : List (Entry C)) (r : IsRaising value labels estimates es least current later) where
    pub queue_later : IsQueue value labels estimates later
    queue_later = queue_in value labels estimates (least ∷ (current ++ later)) later r.queue (λ e h. Contains-tail (current ++ later) least e (Contains-append_right current later e h))

    -- one entry more is looked at
    module _ (e : Entry C) (later' : List (Entry C)) (n : IsNextEntry value labels estimates e later later') (shorter : length later' + 1 ≤ length later) (least' other : Entry C) (low : value least'.0 ≤ℤ value other.0) (both : IsLeastOf least e least' other) where
      abbrev now : List (Entry C)
      now = least' ∷ ((current ++ other ∷ []) ++ later')

      old_least : Contains (least' ∷ ((current ++ other ∷ []) ++ later')) least
      old_least = elim both as (λ _. Contains now least) [
        | inl s ↦ subst (λ x. Contains now x) s.0 (Contains-head ((current ++ other ∷ []) ++ later') least')
        | inr s ↦ subst (λ x. Contains now x) s.1 (Contains-tail ((current ++ other ∷ []) ++ later') least' other (Contains-append_left (current ++ other ∷ []) later' other (Contains-append_right current (other ∷ []) other (Contains-head [] other))))
      ]

      new_one : Contains (least' ∷ ((current ++ other ∷ []) ++ later')) e
      new_one = elim both as (λ _. Contains now e) [
        | inl s ↦ subst (λ x. Contains now x) s.1 (Contains-tail ((current ++ other ∷ []) ++ later') least' other (Contains-append_left (current ++ other ∷ []) later' other (Contains-append_right current (other ∷ []) other (Contains-head [] other))))
        | inr s ↦ subst (λ x. Contains now x) s.0 (Contains-head ((current ++ other ∷ []) ++ later') least')
      ]

      e_before : Contains (least ∷ (current ++ later)) e
      e_before = Contains-tail (current ++ later) least e (Contains-append_right current later e n.here)

      least_before : (P : Entry C → Type 0) → P least → P e → P least' × P other
      least_before P a b = elim both as (λ _. P least' × P other) [
        | inl s ↦ (subst P (sym s.0) a, subst P (sym s.1) b)
        | inr s ↦ (subst P (sym s.0) b, subst P (sym s.1) a)
      ]

      was : (f : Entry C) → Contains (least' ∷ ((current ++ other ∷ []) ++ later')) f → Contains (least ∷ (current ++ later)) f
      was =
          let before = least ∷ (current ++ later) in
          let two = least_before (λ x. Contains before x) (Contains-head (current ++ later) least) e_before in
          cons_in least' ((current ++ other ∷ []) ++ later') before two.0 (either_in (current ++ other ∷ []) later' before
          (either_in current (other ∷ []) before (λ f h. Contains-tail (current ++ later) least f (Contains-append_left current later f h)) (cons_in other [] before two.1 (λ f h. absurd (omega (arith, h.1)))))
          (λ f h. Contains-tail (current ++ later) least f (Contains-append_right current later f (n.rest f h))))

      pub raising_more : IsRaising value labels estimates es least' (current ++ other ∷ []) later'
      raising_more = record {
        queue = queue_in value labels estimates (least ∷ (current ++ later)) now r.queue was;
        newest = (least_before (λ x. IsNewest value labels estimates x) r.newest n.newest).0;
        waits = λ k l h w.
            let v = r.waits k l h w in
            elim (Contains-cases (current ++ later) least v.0 v.1) as (λ _. IsWaiting value estimates now k l) [
              | inl s ↦ (v.0, subst (λ x. Contains now x) s old_least, v.2, v.3)
              | inr i ↦ elim (Contains-append_cases current later v.0 i) as (λ _. IsWaiting value estimates now k l) [
                | inl j ↦ (v.0, Contains-tail ((current ++ other ∷ []) ++ later') least' v.0 (Contains-append_left (current ++ other ∷ []) later' v.0 (Contains-append_left current (other ∷ []) v.0 j)), v.2, v.3)
                | inr j ↦ waits_in value estimates (e ∷ later') now k l (cons_in e later' now new_one (λ f i. Contains-tail ((current ++ other ∷ []) ++ later') least' f (Contains-append_right (current ++ other ∷ []) later' f i))) (n.left k l h (v.0, j, v.2, v.3))
              ]
            ];
        below =
            let under : value least'.0 ≤ℤ value least.0 = elim both as (λ _. value least'.0 ≤ℤ value least.0) [
              | inl s ↦ omega (arith, ints, ap (λ (x : Entry C). value x.0) s.0)
              | inr s ↦ omega (arith, ints, low, ap (λ (x : Entry C). value x.0) s.1)
            ] in
            λ f h. elim (Contains-append_cases current (other ∷ []) f h) as (λ _. value least'.0 ≤ℤ value f.0) [
              | inl i ↦ omega (arith, ints, under, r.below f i)
              | inr i ↦ elim (Contains-cases [] other f i) as (λ _. value least'.0 ≤ℤ value f.0) [
                | inl s ↦ omega (arith, ints, low, ap (λ (x : Entry C). value x.0) s)
                | inr none ↦ absurd (omega (arith, none.1))
              ]
            ];
        fewer = lengths;
      }
        where
          lengths : length ((current ++ other ∷ []) ++ later') + 1 ≤ length es
          lengths = omega (arith, r.fewer, shorter, length-append (current ++ other ∷ []) later', length-append current (other ∷ []), length-append current later)

    -- ---- all was looked at
    module _ (none : StillWait value labels estimates later []) where
      one_of : (k : ℕ) (l : Label C) → HasLabel labels k l → IsWaiting value estimates es k l → ((least.1 ≡ k) × IsSum value estimates k (value l.cost) least.0) ⊎ ((f : Entry C) × Contains current f × (f.1 ≡ k) × IsSum value estimates k (value l.cost) f.0)
      one_of k l h w =
          let v = r.waits k l h w in
          elim (Contains-cases (current ++ later) least v.0 v.1) as (λ _. ((least.1 ≡ k) × IsSum value estimates k (value l.cost) least.0) ⊎ ((f : Entry C) × Contains current f × (f.1 ≡ k) × IsSum value estimates k (value l.cost) f.0)) [
            | inl s ↦ inl (ap (λ (x : Entry C). x.1) s ∙ v.2, subst (λ (x : Entry C). IsSum value estimates k (value l.cost) x.0) (sym s) v.3)
            | inr i ↦ elim (Contains-append_cases current later v.0 i) as (λ _. ((least.1 ≡ k) × IsSum value estimates k (value l.cost) least.0) ⊎ ((f : Entry C) × Contains current f × (f.1 ≡ k) × IsSum value estimates k (value l.cost) f.0)) [
              | inl j ↦ inr (v.0, j, v.2, v.3)
              | inr j ↦ let u = none k l h (v.0, j, v.2, v.3) in let gone = u.1 in absurd (omega (arith, gone.1))
            ]
          ]

      pub raised_below : IsBelowWaiting value labels estimates es least.0
      raised_below = λ k l h at w kept. elim (one_of k l at w) as (λ _. value least.0 ≤ℤ (value l.cost +ℤ value h)) [
        | inl s ↦ sum_is k (value l.cost) h kept least.0 s.1
        | inr s ↦ omega (arith, ints, r.below s.0 s.1, sum_is k (value l.cost) h kept (s.0).0 s.3)
      ]
        where
          sum_is : (k : ℕ) (t : ℤ) (h : C) → slice_get estimates k ≡ Some h → (sum : C) → IsSum value estimates k t sum → value sum ≤ℤ (t +ℤ value h)
          sum_is k t h kept sum s =
              let e : Some s.0 ≡ Some h = sym s.1 ∙ kept in
              let same : s.0 ≡ h = cc in
              omega (arith, ints, s.2, ap value same)

      pub raised_taken : (limit : C) → limit ≡ least.0 → (label : Label C) → HasLabel labels least.1 label → IsTakenWithin value labels estimates least.1 label.cost limit es (current ++ [])
      raised_taken limit is label at =
          let q = r.queue in
          let l = q.labelled least (Contains-head (current ++ later) least) in
          let same = ap (λ (m : Label C). value m.cost) (label_is labels least.1 label l.0 at l.1) in
          record {
            label = label;
            at = at;
            same = refl;
            estimate = l.2;
            estimated = l.3;
            within = omega (arith, ints, same, l.4, ap value is);
            left = λ k m a w. elim (one_of k m a w) as (λ _. (k ≡ least.1) ⊎ IsWaiting value estimates (current ++ []) k m) [
              | inl s ↦ inl (sym s.0)
              | inr s ↦ inr (s.0, Contains-append_left current [] s.0 s.1, s.2, s.3)
            ];
          }

      pub raised_queue : IsQueue value labels estimates (current ++ [])
      raised_queue = queue_in value labels estimates (least ∷ (current ++ later)) (current ++ []) r.queue (either_in current [] (least ∷ (current ++ later)) (λ f h. Contains-tail (current ++ later) least f (Contains-append_left current later f h)) (λ f h. absurd (omega (arith, h.1))))
