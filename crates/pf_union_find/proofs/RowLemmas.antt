-- Rows in one block.
use Rattle.std.proofs.Common.{ℕ, zero, suc, ◌+◌, ◌-◌, ◌<◌, ◌≤◌, ◌≡◌, ◌≢◌, refl, sym, subst, ◌∙◌, ap, arith, List, length, take, drop, set, get_or, length-take, length-drop, get_or-take, get_or-drop, get_or-set_same, get_or-set_other, Some, ◌⊎◌, inl, inr}
use Rattle.std.specs.Prelude.{slice_get, slice_index, Contains, ◌↔◌}
use Rattle.std.proofs.lemmas.List.{get_or_past}
use Rattle.std.proofs.lemmas.Option.{get_or_from_slice_get, same_Some}
use Rattle.std.proofs.lemmas.Bool.{cases_eq}
use Rattle.pf_base.proofs.ListLemmas.{get_set, at_place}
use Rattle.pf_union_find.specs.Rows.{AreStarts, AreRows, HasItem}

-- ---- rows that have no items yet

module _ (counts starts : List ℕ) (s : AreStarts counts starts) where
  pub starts_rise : (a b : ℕ) → a ≤ b → b < length starts → slice_index starts a ≤ slice_index starts b
  starts_rise a zero h l = let e : slice_index starts a ≡ slice_index starts 0 = ap (slice_index starts) (omega (arith, h)) in omega (arith, e)
  starts_rise a (suc b) h l = elim (cases_eq a (suc b)) [
    | inl e ↦ let k : slice_index starts a ≡ slice_index starts (suc b) = ap (slice_index starts) e in omega (arith, k)
    | inr n ↦
        let before = starts_rise a b (omega (arith, h, n)) (omega (arith, l)) in
        let step = s.steps b (omega (arith, l, s.wide)) in
        let next : slice_index starts (suc b) ≡ slice_index starts (b + 1) = ap (slice_index starts) (omega arith) in
        omega (arith, before, step, next)
  ]

  pub rows_of_starts : {T : Type 0} (ends : List ℕ) (places : List T) → ends ≡ take (length counts) starts → length places ≡ slice_index starts (length counts) → AreRows (starts, ends, places)
  rows_of_starts ends places e long =
      let wide : length ends ≡ length counts = let k = length-take (length counts) starts in omega (arith, ap length e, k, s.wide) in
      record {
        wide = omega (arith, s.wide, wide);
        held = λ row l.
            let same : slice_index ends row ≡ slice_index starts row = ap (λ xs. slice_index xs row) e ∙ get_or-take (length counts) starts row 0 (omega (arith, l, wide)) in
            let up = starts_rise row (row + 1) (omega arith) (omega (arith, l, wide, s.wide)) in
            (omega (arith, same), omega (arith, same, up));
        rises = starts_rise;
        within = λ a l. let up = starts_rise a (length counts) (omega (arith, l, s.wide)) (omega (arith, s.wide)) in omega (arith, up, long);
      }

-- ---- the items of a row

-- what stands in a part of a list
pub part_has : {T : Type 0} (xs : List T) (start end : ℕ) (x : T) → start ≤ end → end ≤ length xs
    → Contains (take (end - start) (drop start xs)) x ↔ ((place : ℕ) × (start ≤ place) × (place < end) × (slice_get xs place ≡ Some x))
part_has {T} xs start end x h l =
    let long : length (take (end - start) (drop start xs)) ≡ end - start = let a = length-take (end - start) (drop start xs) in let b = length-drop start xs in omega (arith, a, b, h, l) in
    let at : (k : ℕ) → k < end - start → get_or (take (end - start) (drop start xs)) k x ≡ get_or xs (start + k) x = λ k m. get_or-take (end - start) (drop start xs) k x m ∙ get_or-drop start xs k x in (
      λ c.
          let inside : c.0 < end - start = omega (arith, c.1, long) in
          (start + c.0, omega arith, omega (arith, inside), at_place xs (start + c.0) x x (omega (arith, inside, l)) (sym (at c.0 inside) ∙ c.2)),
      λ p.
          let inside : p.0 - start < end - start = omega (arith, p.1, p.2) in
          let same : start + (p.0 - start) ≡ p.0 = omega (arith, p.1) in
          (p.0 - start, omega (arith, inside, long), at (p.0 - start) inside ∙ ap (λ k. get_or xs k x) same ∙ get_or_from_slice_get xs p.0 x x p.3),
    )

-- ---- one more item

module _ {T : Type 0} (starts ends : List ℕ) (places : List T) (r : AreRows (starts, ends, places)) (row : ℕ) (inside : row < length ends) (end : ℕ) (is : end ≡ slice_index ends row) (room : end < slice_index starts (row + 1)) (item : T) where
  within : end < length places
  within = let w = r.within (row + 1) (omega (arith, inside, r.wide)) in omega (arith, w, room)

  -- the items of another row stand elsewhere
  elsewhere : (other place : ℕ) → other ≢ row → slice_index starts other ≤ place → place < slice_index ends other → place ≢ end
  elsewhere other place apart low high same =
      let here = r.held row inside in
      let known : other < length ends = elim (below other (length ends)) [ inl l ↦ l | inr l ↦ let none = get_or_past ends other 0 l in absurd (omega (arith, none, high)) ] in
      let there = r.held other known in
      elim (below other row) [
        | inl l ↦ let up = r.rises (other + 1) row (omega (arith, l)) (omega (arith, inside, r.wide)) in omega (arith, up, there, here, high, is, same)
        | inr l ↦ let up = r.rises (row + 1) other (omega (arith, l, apart)) (omega (arith, known, r.wide)) in omega (arith, up, room, low, same)
      ]
    where
      below : (a b : ℕ) → (a < b) ⊎ (b ≤ a)
      below zero zero = inr (omega arith)
      below zero (suc b) = inl (omega arith)
      below (suc a) zero = inr (omega arith)
      below (suc a) (suc b) = elim (below a b) [ inl l ↦ inl (omega (arith, l)) | inr l ↦ inr (omega (arith, l)) ]

  abbrev later : List ℕ × List ℕ × List T
  later = (starts, set ends row (end + 1), set places end item)

  pub one_more : (other : ℕ) (x : T) → HasItem later other x ↔ (HasItem (starts, ends, places) other x ⊎ ((other ≡ row) × (x ≡ item)))
  one_more other x = (
    λ h. elim (get_set places end h.0 item within) [
      | inl e ↦ elim (cases_eq other row) [
        | inl same ↦ inr (same, same_Some x item (sym h.3 ∙ e.1))
        | inr apart ↦ absurd (elsewhere other h.0 apart h.1 (subst (λ n. h.0 < n) (get_or-set_other ends row other (end + 1) 0 apart) h.2) e.0)
      ]
      | inr e ↦ elim (cases_eq other row) [
        | inl same ↦
            let now : slice_index (set ends row (end + 1)) other ≡ end + 1 = ap (slice_index (set ends row (end + 1))) same ∙ get_or-set_same ends row (end + 1) 0 inside in
            let was : slice_index ends other ≡ end = ap (slice_index ends) same ∙ sym is in
            inl (h.0, h.1, omega (arith, h.2, now, was, e.0), sym e.1 ∙ h.3)
        | inr apart ↦ inl (h.0, h.1, subst (λ n. h.0 < n) (get_or-set_other ends row other (end + 1) 0 apart) h.2, sym e.1 ∙ h.3)
      ]
    ],
    λ h. elim h [
      | inl k ↦ elim (cases_eq other row) [
        | inl same ↦
            let now : slice_index (set ends row (end + 1)) other ≡ end + 1 = ap (slice_index (set ends row (end + 1))) same ∙ get_or-set_same ends row (end + 1) 0 inside in
            let was : slice_index ends other ≡ end = ap (slice_index ends) same ∙ sym is in
            (k.0, k.1, omega (arith, k.2, now, was), kept k.0 (omega (arith, k.2, was)) ∙ k.3)
        | inr apart ↦ (k.0, k.1, subst (λ n. k.0 < n) (sym (get_or-set_other ends row other (end + 1) 0 apart)) k.2, kept k.0 (elsewhere other k.0 apart k.1 k.2) ∙ k.3)
      ]
      | inr k ↦
          let low = (r.held row inside).0 in
          let start : slice_index starts other ≡ slice_index starts row = ap (slice_index starts) k.0 in
          let now : slice_index (set ends row (end + 1)) other ≡ end + 1 = ap (slice_index (set ends row (end + 1))) k.0 ∙ get_or-set_same ends row (end + 1) 0 inside in
          (end, omega (arith, low, is, start), omega (arith, now), put ∙ ap (λ y. Some y) (sym k.1))
    ],
  )
    where
      kept : (place : ℕ) → place ≢ end → slice_get (set places end item) place ≡ slice_get places place
      kept place apart = elim (get_set places end place item within) [ inl e ↦ absurd (apart e.0) | inr e ↦ e.1 ]

      put : slice_get (set places end item) end ≡ Some item
      put = elim (get_set places end end item within) [ inl e ↦ e.1 | inr e ↦ absurd (e.0 refl) ]
