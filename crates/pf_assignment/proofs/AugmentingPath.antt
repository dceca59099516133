-- How an augmenting path is flipped.
use Rattle.std.proofs.Common.{ℕ, ◌+◌, ◌<◌, ◌≤◌, ◌≡◌, ◌≢◌, refl, sym, ◌∙◌, ap, subst, arith, inl, inr, Option, Some, None}
use Rattle.std.specs.Prelude.{◌⊎◌}
use Rattle.std.proofs.lemmas.Bool.{cases_eq}
use Rattle.pf_assignment.specs.Internal.AssignmentSteps.{IsMatching, IsAlternatingTree, IsOnTree, IsFlipped}
use Rattle.pf_assignment.proofs.MatchingNumbers.{below_or_last}

pub flip_begins : (n columns count c : ℕ) (col : ℕ → ℕ) (held : ℕ → Option ℕ) (rows place : ℕ → ℕ) → IsMatching n columns col held → c < columns → held c ≡ None → IsFlipped n columns count c col held rows place col held c
flip_begins n columns count c col held rows place m inside free = record {
  inside = m.inside;
  back = m.back;
  apart = λ i h e. absurd (let f : Some i ≡ None = sym (m.back i h) ∙ ap held e ∙ free in cc);
  from = λ i j h l. m.from i j h;
  new = λ i h. inl refl;
  free = λ j h. h;
  within = inside;
  on_tree = inl refl;
}

module _ (n columns count c : ℕ) (col : ℕ → ℕ) (held : ℕ → Option ℕ) (rows place : ℕ → ℕ) (rooted : IsAlternatingTree n columns count col rows place) (col' : ℕ → ℕ) (held' : ℕ → Option ℕ) (left : ℕ) (so : IsFlipped n columns count c col held rows place col' held' left) (positive : 0 < place left) (before : (p : ℕ) → 0 < p → p ≤ place left → col' (rows p) ≡ col (rows p)) (col'' : ℕ → ℕ) (held'' : ℕ → Option ℕ) (set_col : col'' (rows (place left)) ≡ left) (keep_col : (i : ℕ) → i ≢ rows (place left) → col'' i ≡ col' i) (set_held : held'' left ≡ Some (rows (place left))) (keep_held : (j : ℕ) → j ≢ left → held'' j ≡ held' j) where
  r : ℕ
  r = rows (place left)

  small : place left < count
  small = rooted.inside left so.within

  own : rows (place left) < n
  own = rooted.row (place left) positive small

  same_row : (i : ℕ) → i < n → col' i ≡ col' (rows (place left)) → i ≡ rows (place left)
  same_row i h e =
      let f : Some i ≡ Some (rows (place left)) = sym (so.back i h) ∙ ap held' e ∙ so.back (rows (place left)) own in cc

  pub flip_more : IsFlipped n columns count c col held rows place col'' held'' (col' (rows (place left)))
  flip_more = record {
    inside = λ i h. elim (cases_eq i (rows (place left))) as (λ _. col'' i < columns) [
      | inl e ↦ subst (λ (k : ℕ). k < columns) (sym (ap col'' e ∙ set_col)) so.within
      | inr d ↦ subst (λ (k : ℕ). k < columns) (sym (keep_col i d)) (so.inside i h)
    ];
    back = λ i h. elim (cases_eq i (rows (place left))) as (λ _. held'' (col'' i) ≡ Some i) [
      | inl e ↦ ap held'' (ap col'' e ∙ set_col) ∙ set_held ∙ ap Some (sym e)
      | inr d ↦ ap held'' (keep_col i d) ∙ keep_held (col' i) (so.apart i h) ∙ so.back i h
    ];
    apart = λ i h. elim (cases_eq i (rows (place left))) as (λ _. col'' i ≢ col' (rows (place left))) [
      | inl e ↦ (λ f. so.apart (rows (place left)) own (sym f ∙ ap col'' e ∙ set_col))
      | inr d ↦ (λ f. d (same_row i h (sym (keep_col i d) ∙ f)))
    ];
    from = λ i j h d. elim (cases_eq j left) as (λ _. (i < n) × (col'' i ≡ j)) [
      | inl e ↦ (
          let f : Some (rows (place left)) ≡ Some i = sym set_held ∙ ap held'' (sym e) ∙ h in
          let g : rows (place left) ≡ i = cc in
          (subst (λ (k : ℕ). k < n) g own, ap col'' (sym g) ∙ set_col ∙ sym e)
          )
      | inr l ↦ (
          let o = so.from i j (sym (keep_held j l) ∙ h) l in
          (o.0, keep_col i (λ e. d (sym o.1 ∙ ap col' e)) ∙ o.1)
          )
    ];
    new = λ i h. elim (cases_eq i (rows (place left))) as (λ _. (col'' i ≡ col i) ⊎ ((rows (place (col'' i)) ≡ i) × IsOnTree count col rows c (col'' i))) [
      | inl e ↦ (
          let f : col'' i ≡ left = ap col'' e ∙ set_col in
          inr (ap (λ k. rows (place k)) f ∙ sym e, subst (λ k. IsOnTree count col rows c k) (sym f) so.on_tree)
          )
      | inr d ↦ subst (λ k. (k ≡ col i) ⊎ ((rows (place k) ≡ i) × IsOnTree count col rows c k)) (sym (keep_col i d)) (so.new i h)
    ];
    free = λ j h. elim (cases_eq j left) as (λ _. held j ≡ None) [
      | inl e ↦ absurd (let f : Some (rows (place left)) ≡ None = sym set_held ∙ ap held'' (sym e) ∙ h in cc)
      | inr d ↦ so.free j (sym (keep_held j d) ∙ h)
    ];
    within = so.inside (rows (place left)) own;
    on_tree = inr (place left, positive, small, sym (before (place left) positive (omega arith)));
  }

  -- the place before
  pub flip_less : place (col' (rows (place left))) < place left
  flip_less = subst (λ k. place k < place left) (sym (before (place left) positive (omega arith))) (rooted.before (place left) positive small)

  pub flip_before : (p : ℕ) → 0 < p → p ≤ place (col' (rows (place left))) → col'' (rows p) ≡ col (rows p)
  flip_before p h l =
      let m = flip_less in
      let k : p < place left = omega (arith, l, m) in
      let q : p < count = omega (arith, k, small) in
      keep_col (rows p) (λ e. let f = rooted.once p (place left) q small e in omega (arith, f, k)) ∙ before p h (omega (arith, k))

-- the root takes the column that is left
pub flip_ends : (n columns count c : ℕ) (col : ℕ → ℕ) (held : ℕ → Option ℕ) (rows place : ℕ → ℕ) (col' : ℕ → ℕ) (held' : ℕ → Option ℕ) (left : ℕ) (so : IsFlipped n columns count c col held rows place col' held' left) (col'' : ℕ → ℕ) (held'' : ℕ → Option ℕ) → col'' n ≡ left → ((i : ℕ) → i < n → col'' i ≡ col' i) → held'' left ≡ Some n → ((j : ℕ) → j ≢ left → held'' j ≡ held' j) → IsMatching (n + 1) columns col'' held''
flip_ends n columns count c col held rows place col' held' left so col'' held'' set_col keep_col set_held keep_held = record {
  inside = λ i h. elim (below_or_last i n h) as (λ _. col'' i < columns) [
    | inl l ↦ subst (λ (k : ℕ). k < columns) (sym (keep_col i l)) (so.inside i l)
    | inr e ↦ subst (λ (k : ℕ). k < columns) (sym (ap col'' e ∙ set_col)) so.within
  ];
  back = λ i h. elim (below_or_last i n h) as (λ _. held'' (col'' i) ≡ Some i) [
    | inl l ↦ ap held'' (keep_col i l) ∙ keep_held (col' i) (so.apart i l) ∙ so.back i l
    | inr e ↦ ap held'' (ap col'' e ∙ set_col) ∙ set_held ∙ ap Some (sym e)
  ];
  from = λ i j h. elim (cases_eq j left) as (λ _. (i < n + 1) × (col'' i ≡ j)) [
    | inl e ↦ (
        let f : Some n ≡ Some i = sym set_held ∙ ap held'' (sym e) ∙ h in
        let g : n ≡ i = cc in
        ((let l : i < n + 1 = omega (arith, g) in l), ap col'' (sym g) ∙ set_col ∙ sym e)
        )
    | inr d ↦ (
        let o = so.from i j (sym (keep_held j d) ∙ h) d in
        let o0 = o.0 in
        ((let l : i < n + 1 = omega (arith, o0) in l), keep_col i o.0 ∙ o.1)
        )
  ];
}
