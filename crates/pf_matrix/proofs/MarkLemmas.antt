-- Positions that are marked in a table, and the set of them.
use Rattle.std.proofs.Common.{◌≡◌, ℕ, zero, suc, ◌+◌, ◌*◌, ◌/◌, ◌%◌, ◌<◌, ◌∙◌, refl, sym, ap, subst, arith, Bool, true, false, true≢false, Option, Some, None, List, [], ◌∷◌, ◌++◌, length, get_or, take, inl, inr}
use Rattle.std.specs.Prelude.{◌↔◌, ◌⊎◌, Contains, if◌then◌else◌, slice_get, slice_set}
use Rattle.std.specs.List.{filter_map, zip}
use Rattle.std.specs.BTreeSet.{BTreeSet, IsFromIterResult}
use Rattle.std.proofs.lemmas.Nat.{mul-add-lt, div-add-mod', same_from_place}
use Rattle.std.proofs.lemmas.List.{get_or-set_other, get_or-set_same, take_more}
use Rattle.std.proofs.Math.Nat.{mod-lt, div-lt_iff_lt-mul, mul_comm}
use Rattle.std.proofs.lemmas.Option.{slice_get-get_or, slice_get_within, get_or_from_slice_get}
use Rattle.pf_base.proofs.ListLemmas.{get-append, get_at_end, get_push, none_in}
use Rattle.pf_base.proofs.Tables.{pair_refl, pair_exact}
use Rattle.pf_matrix.specs.Floods.{same_position}
use Rattle.pf_matrix.specs.Internal.Flooding.{Has}
use Rattle.pf_matrix.specs.Internal.PositionOrder.{position_cmp}
use Rattle.pf_matrix.specs.Tables.{Table, IsMatrix, HasPosition, value_at}
use Rattle.pf_matrix.specs.Positions.{positions, items_of}
use Rattle.pf_matrix.proofs.FloodLemmas.{has_head, made_of, has_contained, contained_has}
use Rattle.pf_matrix.proofs.PositionLemmas.{length-positions, position_at, get_or-positions, wide_at}

-- the first of a pair, if the second is true
abbrev pub kept : (ℕ × ℕ) × Bool → Option (ℕ × ℕ)
kept i = if i.1 then Some i.0 else None

abbrev Marked : List (ℕ × ℕ) → List Bool → ℕ × ℕ → Type 0
Marked ps vs p = (k : ℕ) × (slice_get ps k ≡ Some p) × (slice_get vs k ≡ Some true)

kept_marked : (ps : List (ℕ × ℕ)) (vs : List Bool) (p : ℕ × ℕ) → Has (filter_map kept (zip ps vs)) p → Marked ps vs p
kept_marked [] vs p h = absurd (none_in h.0 p h.1)
kept_marked (q ∷ ps) [] p h = absurd (none_in h.0 p h.1)
kept_marked (q ∷ ps) (true ∷ vs) p h = elim (has_head (filter_map kept (zip ps vs)) q p h) as (λ _. Marked (q ∷ ps) (true ∷ vs) p) [
  | inl e ↦ (0, ap Some e, refl)
  | inr m ↦ let r = kept_marked ps vs p m in (suc r.0, r.1, r.2)
]
kept_marked (q ∷ ps) (false ∷ vs) p h = let r = kept_marked ps vs p h in (suc r.0, r.1, r.2)

marked_kept : (ps : List (ℕ × ℕ)) (vs : List Bool) (p : ℕ × ℕ) (k : ℕ) → slice_get ps k ≡ Some p → slice_get vs k ≡ Some true → Has (filter_map kept (zip ps vs)) p
marked_kept [] vs p k h t = absurd (none_in k p h)
marked_kept (q ∷ ps) [] p k h t = absurd (none_in k true t)
marked_kept (q ∷ ps) (true ∷ vs) p zero h t = (0, h)
marked_kept (q ∷ ps) (false ∷ vs) p zero h t = absurd (let e : Some false ≡ Some true = t in cc)
marked_kept (q ∷ ps) (true ∷ vs) p (suc k) h t = let r = marked_kept ps vs p k h t in (suc r.0, r.1)
marked_kept (q ∷ ps) (false ∷ vs) p (suc k) h t = marked_kept ps vs p k h t

-- the set of the positions at which a table has true, where it has it at those of a list
module _ (m : Table Bool) (ok : IsMatrix m) (ps : List (ℕ × ℕ)) (inside : (p : ℕ × ℕ) → Has ps p → HasPosition m p.0 p.1) (marks : (p : ℕ × ℕ) → HasPosition m p.0 p.1 → (value_at m p.0 p.1 false ≡ true) ↔ Has ps p) where
  listed : (p : ℕ × ℕ) → Marked (positions m.rows m.columns) m.values p → Has ps p
  listed p h =
      let w = m.columns in
      let k = h.0 in
      let below : h.0 < m.rows * m.columns = omega (arith, length-positions m.rows m.columns, slice_get_within (positions m.rows m.columns) h.0 p h.1) in
      let is : (h.0 / m.columns, h.0 % m.columns) ≡ p = sym (position_at m.rows w k p below) ∙ get_or_from_slice_get (positions m.rows w) k p p h.1 in
      let row : h.0 / m.columns < m.rows = (div-lt_iff_lt-mul (wide_at m.rows w k below)).1 (omega arith) in
      let column : h.0 % m.columns < m.columns = mod-lt k (wide_at m.rows w k below) in
      let here : value_at m (h.0 / m.columns) (h.0 % m.columns) false ≡ true = ap (λ i. get_or m.values i false) (div-add-mod' k w) ∙ get_or_from_slice_get m.values k true false h.2 in
      subst (Has ps) is ((marks (k / w, k % w) (row, column)).0 here)

  shown : (p : ℕ × ℕ) → Has ps p → Has (filter_map kept (items_of m)) p
  shown p h =
      let at = inside p h in
      let k = p.0 * m.columns + p.1 in
      let below : p.0 * m.columns + p.1 < m.rows * m.columns = omega (arith, mul-add-lt p.0 m.columns p.1 m.rows at.0 at.1, mul_comm m.rows m.columns) in
      marked_kept (positions m.rows m.columns) m.values p k
      (slice_get-get_or (positions m.rows m.columns) k p (omega (arith, below, length-positions m.rows m.columns)) ∙ ap Some (get_or-positions m.rows m.columns p.0 p.1 p at.0 at.1))
      (slice_get-get_or m.values k false (omega (arith, below, ok.sized)) ∙ ap Some ((marks p at).1 h))

  pub set_of_marks : (s : BTreeSet (ℕ × ℕ)) → IsFromIterResult position_cmp (filter_map kept (items_of m)) s → (p : ℕ × ℕ) → Contains s.keys p ↔ Has ps p
  set_of_marks s made p =
      let c = made_of (filter_map kept (items_of m)) s made p in (
        λ h. listed p (kept_marked (positions m.rows m.columns) m.values p (has_contained (filter_map kept (items_of m)) p (c.0 h))),
        λ h. c.1 (contained_has (filter_map kept (items_of m)) p (shown p h)),
      )

-- ---- one mark after another

-- a table of these sizes has true at the positions of a list, and nowhere else
pub record IsMarked (first now : Table Bool) (ps : List (ℕ × ℕ)) : Type 0 where
  pub rows : now.rows ≡ first.rows
  pub columns : now.columns ≡ first.columns
  pub marks : (p : ℕ × ℕ) → HasPosition first p.0 p.1 → (value_at now p.0 p.1 false ≡ true) ↔ Has ps p

has_pushed : (ps : List (ℕ × ℕ)) (q p : ℕ × ℕ) → Has (ps ++ q ∷ []) p → Has ps p ⊎ (q ≡ p)
has_pushed ps q p h = elim (get_push ps q h.0 p h.1) as (λ _. Has ps p ⊎ (q ≡ p)) [ inl m ↦ inl (h.0, m) | inr e ↦ inr e.1 ]

pub marked_none : (first now : Table Bool) → now.rows ≡ first.rows → now.columns ≡ first.columns → ((k : ℕ) → get_or now.values k false ≡ false) → IsMarked first now []
marked_none first now rows columns cleared = record {
  rows = rows;
  columns = columns;
  marks = λ p h. (λ e. absurd (true≢false (sym e ∙ cleared (p.0 * now.columns + p.1))), λ h. absurd (none_in h.0 p h.1));
}

module _ (first now now' : Table Bool) (ps : List (ℕ × ℕ)) (i : ℕ) (q d : ℕ × ℕ) (f : IsMarked first now (take i ps)) (l : i < length ps) (is : get_or ps i d ≡ q) (at : HasPosition first q.0 q.1)
    (below : q.0 * now.columns + q.1 < length now.values) (set : now' ≡ record { rows = now.rows; columns = now.columns; values = slice_set now.values (q.0 * now.columns + q.1) true }) where
  more : take (i + 1) ps ≡ take i ps ++ q ∷ []
  more = take_more ps i d l ∙ ap (λ z. take i ps ++ z ∷ []) is

  at_it : value_at now' q.0 q.1 false ≡ true
  at_it = ap (λ (t : Table Bool). value_at t q.0 q.1 false) set ∙ get_or-set_same now.values (q.0 * now.columns + q.1) true false below

  elsewhere : (p : ℕ × ℕ) → HasPosition first p.0 p.1 → (p ≡ q → ⊥) → value_at now' p.0 p.1 false ≡ value_at now p.0 p.1 false
  elsewhere p h n =
      ap (λ (t : Table Bool). value_at t p.0 p.1 false) set ∙ get_or-set_other now.values (q.0 * now.columns + q.1) (p.0 * now.columns + p.1) true false (λ e.
      let s = same_from_place p.0 p.1 q.0 q.1 now.columns (rw f.columns h.1) (rw f.columns at.1) e in n (λ j. (s.0 j, s.1 j)))

  it_or_not : (p : ℕ × ℕ) → (p ≡ q) ⊎ (p ≡ q → ⊥)
  it_or_not p = by (same_position p q) refl
    where
      by : (b : Bool) → same_position p q ≡ b → (p ≡ q) ⊎ (p ≡ q → ⊥)
      by true e = inl (pair_exact p q e)
      by false e = inr (λ g. absurd (true≢false (sym (subst (λ z. same_position p z ≡ true) g (pair_refl p)) ∙ e)))

  marked : (p : ℕ × ℕ) → HasPosition first p.0 p.1 → value_at now' p.0 p.1 false ≡ true → Has (take (i + 1) ps) p
  marked p h e = subst (λ qs. Has qs p) (sym more) (elim (it_or_not p) as (λ _. Has (take i ps ++ q ∷ []) p) [
    | inl g ↦ subst (Has (take i ps ++ q ∷ [])) (sym g) (length (take i ps), get_at_end (take i ps) q)
    | inr n ↦ let m = (f.marks p h).0 (sym (elsewhere p h n) ∙ e) in (m.0, get-append (take i ps) (q ∷ []) m.0 p m.1)
  ])

  in_list : (p : ℕ × ℕ) → HasPosition first p.0 p.1 → Has (take (i + 1) ps) p → value_at now' p.0 p.1 false ≡ true
  in_list p h m = elim (it_or_not p) as (λ _. value_at now' p.0 p.1 false ≡ true) [
    | inl g ↦ ap (λ z. value_at now' z.0 z.1 false) g ∙ at_it
    | inr n ↦ elim (has_pushed (take i ps) q p (subst (λ qs. Has qs p) more m)) as (λ _. value_at now' p.0 p.1 false ≡ true) [
      | inl o ↦ elsewhere p h n ∙ (f.marks p h).1 o
      | inr g ↦ absurd (n (sym g))
    ]
  ]

  pub marked_more : IsMarked first now' (take (i + 1) ps)
  marked_more = record {
    rows = ap (λ (t : Table Bool). t.rows) set ∙ f.rows;
    columns = ap (λ (t : Table Bool). t.columns) set ∙ f.columns;
    marks = λ p h. (marked p h, in_list p h);
  }
