-- What waits in a search by growing limits, as entries are taken out and put off.
use Rattle.std.proofs.Common.{ℕ, ◌≡◌, refl, sym, ◌∙◌, ap, subst, arith, true, false, true≢false, List, [], ◌∷◌, ◌++◌, inl, inr, ℤ, Option, Some, None}
use Rattle.std.specs.Prelude.{Contains, IsPermutation, MatchOption, is_some, slice_get, ◌≤ℤ◌, ◌<ℤ◌, ◌+ℤ◌, ◌⊎◌, ◌↔◌}
use Rattle.std.proofs.lemmas.Int.{ints}
use Rattle.std.proofs.lemmas.List.Elements.{Contains-append_left, Contains-append_right, Contains-append_cases}
use Rattle.std.proofs.lemmas.List.Sorted.{Contains-permutation, IsPermutation-sym}
use Rattle.pf_core.specs.declared.labels.Label.{Label}
use Rattle.pf_core.specs.Labels.{Labels, HasLabel}
use Rattle.pf_base.proofs.ListLemmas.{Contains-head, Contains-tail, Contains-cases, Contains-append_one}
use Rattle.pf_core.proofs.LabelLemmas.{label_is}
use Rattle.pf_informed.specs.Internal.Waiting.{Entry, IsWaiting, IsQueue}
use Rattle.pf_informed.specs.Internal.Fringe.{StillWait, NothingWaits, IsNextEntry, IsBelowWaiting, IsTakenWithin}

module _ {C : Type 0} (P : Type 0) (Q : C → Type 0) where
  pub at_some : (r : Option C) → is_some r ≡ true → MatchOption r P Q → (x : C) × Q x
  at_some (Some x) is h = (x, h)
  at_some None is h = absurd (true≢false (sym is))

  pub at_none : (r : Option C) → is_some r ≡ false → MatchOption r P Q → P
  at_none (Some x) is h = absurd (true≢false is)
  at_none None is h = h

module _ {C : Type 0} where
  -- ---- the last entry of a list
  module _ (es fs : List (Entry C)) (e : Entry C) (is : es ≡ fs ++ e ∷ []) where
    pub last_in : Contains es e
    last_in = subst (λ xs. Contains xs e) (sym is) (Contains-append_right fs (e ∷ []) e (Contains-head [] e))

    pub rest_in : (f : Entry C) → Contains fs f → Contains es f
    rest_in f h = subst (λ xs. Contains xs f) (sym is) (Contains-append_left fs (e ∷ []) f h)

    rest_or_last : (f : Entry C) → Contains es f → Contains fs f ⊎ (e ≡ f)
    rest_or_last f h = Contains-append_one fs e f (subst (λ xs. Contains xs f) is h)

  -- what is in both of two lists, one behind the other
  pub either_in : (es fs gs : List (Entry C)) → ((f : Entry C) → Contains es f → Contains gs f) → ((f : Entry C) → Contains fs f → Contains gs f) → (f : Entry C) → Contains (es ++ fs) f → Contains gs f
  either_in es fs gs a b f h = elim (Contains-append_cases es fs f h) as (λ _. Contains gs f) [ inl i ↦ a f i | inr i ↦ b f i ]

  -- what is the head of a list or in its tail
  pub cons_in : (e : Entry C) (fs gs : List (Entry C)) → Contains gs e → ((f : Entry C) → Contains fs f → Contains gs f) → (f : Entry C) → Contains (e ∷ fs) f → Contains gs f
  cons_in e fs gs a b f h = elim (Contains-cases fs e f h) as (λ _. Contains gs f) [ inl s ↦ subst (λ x. Contains gs x) s a | inr i ↦ b f i ]

  -- the first entry of the queue is moved
  module _ (heap heap' current current' : List (Entry C)) (e : Entry C) (p : IsPermutation heap (e ∷ heap')) (is : current' ≡ current ++ e ∷ []) where
    pub pushed_in : (f : Entry C) → Contains (heap ++ current) f → Contains (heap' ++ current') f
    pushed_in = either_in heap current (heap' ++ current')
        (λ f h. cons_in e heap' (heap' ++ current') (Contains-append_right heap' current' e (last_in current' current e is)) (λ x i. Contains-append_left heap' current' x i) f (Contains-permutation heap (e ∷ heap') f p h))
        (λ f h. Contains-append_right heap' current' f (rest_in current' current e is f h))

    pub pushed_from : (f : Entry C) → Contains (heap' ++ current') f → Contains (heap ++ current) f
    pushed_from = either_in heap' current' (heap ++ current)
        (λ f h. Contains-append_left heap current f (Contains-permutation (e ∷ heap') heap f (IsPermutation-sym _ _ p) (Contains-tail heap' e f h)))
        (λ f h. elim (rest_or_last current' current e is f h) as (λ _. Contains (heap ++ current) f) [
          | inl i ↦ Contains-append_right heap current f i
          | inr s ↦ Contains-append_left heap current f (Contains-permutation (e ∷ heap') heap f (IsPermutation-sym _ _ p) (subst (λ x. Contains (e ∷ heap') x) s (Contains-head heap' e)))
        ])

  -- the queue's entries are moved to the front of a round
  module _ (heap current later current' later' : List (Entry C)) (same : (f : Entry C) → Contains (heap ++ current) f ↔ Contains current' f) (kept : later' ≡ later) where
    pub moved_in : (f : Entry C) → Contains (heap ++ (current ++ later)) f → Contains (current' ++ later') f
    moved_in = either_in heap (current ++ later) (current' ++ later')
        (λ f h. Contains-append_left current' later' f ((same f).0 (Contains-append_left heap current f h)))
        (either_in current later (current' ++ later') (λ f h. Contains-append_left current' later' f ((same f).0 (Contains-append_right heap current f h))) (λ f h. Contains-append_right current' later' f (subst (λ (xs : List (Entry C)). Contains xs f) (sym kept) h)))

    pub moved_from : (f : Entry C) → Contains (current' ++ later') f → Contains (heap ++ (current ++ later)) f
    moved_from = either_in current' later' (heap ++ (current ++ later))
        (λ f h. either_in heap current (heap ++ (current ++ later)) (λ x i. Contains-append_left heap (current ++ later) x i) (λ x i. Contains-append_right heap (current ++ later) x (Contains-append_left current later x i)) f ((same f).1 h))
        (λ f h. Contains-append_right heap (current ++ later) f (Contains-append_right current later f (subst (λ (xs : List (Entry C)). Contains xs f) kept h)))

-- the number of a label waits in a list that has more
pub waits_in : {C : Type 0} (value : C → ℤ) (estimates : List C) (es fs : List (Entry C)) (k : ℕ) (l : Label C) → ((f : Entry C) → Contains es f → Contains fs f) → IsWaiting value estimates es k l → IsWaiting value estimates fs k l
waits_in value estimates es fs k l more w = (w.0, more w.0 w.1, w.2, w.3)

module _ {C : Type 0} (value : C → ℤ) (labels : Labels C) (estimates : List C) where
  pub StillWait-in : (gs es fs : List (Entry C)) → StillWait value labels estimates gs es → ((f : Entry C) → Contains es f → Contains fs f) → StillWait value labels estimates gs fs
  StillWait-in gs es fs waits more = λ k l h w. waits_in value estimates es fs k l more (waits k l h w)

  pub queue_in : (es fs : List (Entry C)) → IsQueue value labels estimates es → ((f : Entry C) → Contains fs f → Contains es f) → IsQueue value labels estimates fs
  queue_in es fs q less = record { labelled = λ e h. q.labelled e (less e h) }

  pub moved_wait : (heap current later current' later' : List (Entry C)) → ((f : Entry C) → Contains (heap ++ current) f ↔ Contains current' f) → later' ≡ later → StillWait value labels estimates (heap ++ (current ++ later)) (current' ++ later')
  moved_wait heap current later current' later' same kept = λ k l h w. waits_in value estimates (heap ++ (current ++ later)) (current' ++ later') k l (moved_in heap current later current' later' same kept) w

  -- ---- stale entries are taken out, and one that is not
  module _ (gs es fs : List (Entry C)) (e : Entry C) (is : es ≡ fs ++ e ∷ []) (waits : StillWait value labels estimates gs es) where
    pub StillWait-last : StillWait value labels estimates gs (e ∷ fs)
    StillWait-last = StillWait-in gs es (e ∷ fs) waits (λ f h. elim (rest_or_last es fs e is f h) as (λ _. Contains (e ∷ fs) f) [
      | inl i ↦ Contains-tail fs e f i
      | inr s ↦ subst (λ x. Contains (e ∷ fs) x) s (Contains-head fs e)
    ])

    pub StillWait-stale : ((l : Label C) (h : C) → HasLabel labels e.1 l → slice_get estimates e.1 ≡ Some h → (value l.cost +ℤ value h) <ℤ value e.0) → StillWait value labels estimates gs fs
    StillWait-stale stale = λ k l h w.
        let v = waits k l h w in
        elim (rest_or_last es fs e is v.0 v.1) as (λ _. IsWaiting value estimates fs k l) [
          | inl i ↦ (v.0, i, v.2, v.3)
          | inr s ↦
              let own = ap (λ (f : Entry C). f.1) s ∙ v.2 in
              let at = v.3 in
              absurd (omega (arith, ints, stale l at.0 (subst (λ (n : ℕ). HasLabel labels n l) (sym own) h) (subst (λ (n : ℕ). slice_get estimates n ≡ Some at.0) (sym own) at.1), ap (λ (f : Entry C). value f.0) s, at.2))
        ]

  -- ---- the next entry of a round is put off, or its number taken out
  module _ (e : Entry C) (current current' later : List (Entry C)) (n : IsNextEntry value labels estimates e current current') where
    abbrev put_off : List (Entry C)
    put_off = current' ++ (later ++ e ∷ [])

    last_put : Contains (current' ++ (later ++ e ∷ [])) e
    last_put = Contains-append_right current' (later ++ e ∷ []) e (Contains-append_right later (e ∷ []) e (Contains-head [] e))

    pub StillWait-put_off : (gs : List (Entry C)) → StillWait value labels estimates gs (current ++ later) → StillWait value labels estimates gs (current' ++ (later ++ e ∷ []))
    StillWait-put_off gs waits = λ k l h w.
        let v = waits k l h w in
        elim (Contains-append_cases current later v.0 v.1) as (λ _. IsWaiting value estimates (current' ++ (later ++ e ∷ [])) k l) [
          | inl i ↦ waits_in value estimates (e ∷ current') put_off k l (cons_in e current' put_off last_put (λ f j. Contains-append_left current' (later ++ e ∷ []) f j)) (n.left k l h (v.0, i, v.2, v.3))
          | inr i ↦ (v.0, Contains-append_right current' (later ++ e ∷ []) v.0 (Contains-append_left later (e ∷ []) v.0 i), v.2, v.3)
        ]

    pub queue_put_off : IsQueue value labels estimates (current ++ later) → IsQueue value labels estimates (current' ++ (later ++ e ∷ []))
    queue_put_off q = queue_in (current ++ later) put_off q (either_in current' (later ++ e ∷ []) (current ++ later) (λ f h. Contains-append_left current later f (n.rest f h))
        (either_in later (e ∷ []) (current ++ later) (λ f h. Contains-append_right current later f h) (cons_in e [] (current ++ later) (Contains-append_left current later e n.here) (λ f h. absurd (omega (arith, h.1))))))

    pub queue_rest : IsQueue value labels estimates (current ++ later) → IsQueue value labels estimates (current' ++ later)
    queue_rest q = queue_in (current ++ later) (current' ++ later) q (either_in current' later (current ++ later) (λ f h. Contains-append_left current later f (n.rest f h)) (λ f h. Contains-append_right current later f h))

    pub taken_within : (limit : C) (gs : List (Entry C)) (label : Label C) → HasLabel labels e.1 label → IsQueue value labels estimates (current ++ later) → StillWait value labels estimates gs (current ++ later) → value e.0 ≤ℤ value limit → IsTakenWithin value labels estimates e.1 label.cost limit gs (current' ++ later)
    taken_within limit gs label at q waits low =
        let l = q.labelled e (Contains-append_left current later e n.here) in
        let same = ap (λ (m : Label C). value m.cost) (label_is labels e.1 label l.0 at l.1) in
        record {
          label = label;
          at = at;
          same = refl;
          estimate = l.2;
          estimated = l.3;
          within = omega (arith, ints, same, l.4, low);
          left = λ k m a w.
              let v = waits k m a w in
              elim (Contains-append_cases current later v.0 v.1) as (λ _. (k ≡ e.1) ⊎ IsWaiting value estimates (current' ++ later) k m) [
                | inl i ↦
                    let u = n.left k m a (v.0, i, v.2, v.3) in
                    elim (Contains-cases current' e u.0 u.1) as (λ _. (k ≡ e.1) ⊎ IsWaiting value estimates (current' ++ later) k m) [
                      | inl s ↦ inl (sym (ap (λ (f : Entry C). f.1) s ∙ u.2))
                      | inr j ↦ inr (u.0, Contains-append_left current' later u.0 j, u.2, u.3)
                    ]
                | inr i ↦ inr (v.0, Contains-append_right current' later v.0 i, v.2, v.3)
              ];
        }

  -- ---- what holds of what still waits holds of what waited
  module _ (es fs : List (Entry C)) (waits : StillWait value labels estimates es fs) where
    pub nothing_before : NothingWaits value labels estimates fs → NothingWaits value labels estimates es
    nothing_before none = λ k l h w. none k l h (waits k l h w)

    pub below_before : (limit : C) → IsBelowWaiting value labels estimates fs limit → IsBelowWaiting value labels estimates es limit
    below_before limit below = λ k l c h w a. below k l c h (waits k l h w) a

    pub taken_before : (number : ℕ) (cost limit : C) (gs : List (Entry C)) → IsTakenWithin value labels estimates number cost limit fs gs → IsTakenWithin value labels estimates number cost limit es gs
    taken_before number cost limit gs t = record {
      label = t.label;
      at = t.at;
      same = t.same;
      estimate = t.estimate;
      estimated = t.estimated;
      within = t.within;
      left = λ k l h w. t.left k l h (waits k l h w);
    }

  -- ---- a round is over
  module _ (current current' later : List (Entry C)) (over : current' ≡ []) where
    pub none_more : (f : Entry C) → Contains (current' ++ later) f → Contains (current ++ later) f
    none_more f h = Contains-append_right current later f (subst (λ (xs : List (Entry C)). Contains (xs ++ later) f) over h)

    pub rest_waits : StillWait value labels estimates current [] → (gs : List (Entry C)) → StillWait value labels estimates gs (current ++ later) → StillWait value labels estimates gs (current' ++ later)
    rest_waits none gs waits = λ k l h w.
        let v = waits k l h w in
        elim (Contains-append_cases current later v.0 v.1) as (λ _. IsWaiting value estimates (current' ++ later) k l) [
          | inl i ↦ let u = none k l h (v.0, i, v.2, v.3) in let gone = u.1 in absurd (omega (arith, gone.1))
          | inr i ↦ (v.0, Contains-append_right current' later v.0 i, v.2, v.3)
        ]
