-- Potentials that are exact at the matched pairs prove the assignment best.
use Rattle.std.proofs.Common.{ℕ, zero, suc, ◌+◌, ◌*◌, ◌<◌, ◌≡◌, ◌≢◌, refl, sym, ◌∙◌, ap, subst, arith, inl, inr, ℤ, List, length, Option, Some, None}
use Rattle.std.specs.Prelude.{◌⊎◌, ◌≤ℤ◌, ◌+ℤ◌, pos, neg_ℤ, slice_index}
use Rattle.std.proofs.lemmas.Int.{ints}
use Rattle.std.proofs.lemmas.Bool.{cases_eq}
use Rattle.pf_base.specs.Places.{number}
use Rattle.pf_assignment.specs.Assignments.{NumberTable, IsAssignment, assignment_total, IsBestAssignment, IsLeastAssignment, IsNegatedTable, IsGreatestWeight, WeightsFit}
use Rattle.pf_base.specs.Sums.{sum_to}
use Rattle.pf_assignment.specs.Internal.AssignmentSteps.{holder, IsMatching, IsPotential, IsMatched}
use Rattle.pf_assignment.proofs.MatchingNumbers.{below_or_last}
use Rattle.pf_assignment.proofs.MatchingWeights.{IsInterval, room, sum_to-bound}

pub sum_to-le : (f g : ℕ → ℤ) (n : ℕ) → ((r : ℕ) → r < n → f r ≤ℤ g r) → sum_to f n ≤ℤ sum_to g n
sum_to-le f g zero h = omega (arith, ints)
sum_to-le f g (suc n) h =
    let i = sum_to-le f g n (λ r l. h r (omega (arith, l))) in
    let k = h n (omega arith) in
    omega (arith, ints, i, k)

pub sum_to-same : (f g : ℕ → ℤ) (n : ℕ) → ((r : ℕ) → r < n → f r ≡ g r) → sum_to f n ≡ sum_to g n
sum_to-same f g zero h = refl
sum_to-same f g (suc n) h =
    let i = sum_to-same f g n (λ r l. h r (omega (arith, l))) in
    let k = h n (omega arith) in
    omega (arith, ints, i, k)

pub sum_to-add : (f g : ℕ → ℤ) (n : ℕ) → sum_to (λ r. f r +ℤ g r) n ≡ sum_to f n +ℤ sum_to g n
sum_to-add f g zero = refl
sum_to-add f g (suc n) = let i = sum_to-add f g n in omega (arith, ints, i)

pub sum_to-negated : (f g : ℕ → ℤ) (n : ℕ) → ((r : ℕ) → r < n → f r ≡ neg_ℤ (g r)) → sum_to f n ≡ neg_ℤ (sum_to g n)
sum_to-negated f g zero h = refl
sum_to-negated f g (suc n) h =
    let i = sum_to-negated f g n (λ r l. h r (omega (arith, l))) in
    let k = h n (omega arith) in
    omega (arith, ints, i, k)

-- v with 0 at k
without : (ℕ → ℤ) → ℕ → ℕ → ℤ
without v k j = elim (cases_eq j k) as (λ _. ℤ) [ inl e ↦ pos 0 | inr d ↦ v j ]

without_is : (v : ℕ → ℤ) (k j : ℕ) → ((j ≡ k) × (without v k j ≡ pos 0)) ⊎ ((j ≢ k) × (without v k j ≡ v j))
unfolding without
without_is v k j = elim (cases_eq j k) as (λ s. ((j ≡ k) × (elim s as (λ _. ℤ) [ inl e ↦ pos 0 | inr d ↦ v j ] ≡ pos 0)) ⊎ ((j ≢ k) × (elim s as (λ _. ℤ) [ inl e ↦ pos 0 | inr d ↦ v j ] ≡ v j))) [ inl e ↦ inl (e, refl) | inr d ↦ inr (d, refl) ]

without_same : (v : ℕ → ℤ) (k j : ℕ) → j ≢ k → without v k j ≡ v j
without_same v k j d = elim (without_is v k j) as (λ _. without v k j ≡ v j) [ inl e ↦ absurd (d e.0) | inr e ↦ e.1 ]

without_zero : (v : ℕ → ℤ) (k j : ℕ) → j ≡ k → without v k j ≡ pos 0
without_zero v k j e = elim (without_is v k j) as (λ _. without v k j ≡ pos 0) [ inl f ↦ f.1 | inr f ↦ absurd (f.0 e) ]

without_non_negative : (v : ℕ → ℤ) (k j : ℕ) → pos 0 ≤ℤ v j → pos 0 ≤ℤ without v k j
without_non_negative v k j h = elim (without_is v k j) as (λ _. pos 0 ≤ℤ without v k j) [ inl e ↦ (let f = e.1 in omega (arith, ints, f)) | inr e ↦ (let f = e.1 in omega (arith, ints, f, h)) ]

sum_without : (v : ℕ → ℤ) (k m : ℕ) → k < m → sum_to (without v k) m +ℤ v k ≡ sum_to v m
sum_without v k zero h = absurd (omega (arith, h))
sum_without v k (suc m) h = elim (cases_eq k m) as (λ _. sum_to (without v k) m +ℤ without v k m +ℤ v k ≡ sum_to v m +ℤ v m) [
  | inl e ↦ (
      let z = without_zero v k m (sym e) in
      let s = sum_to-same (without v k) v m (λ j l. without_same v k j (λ f. omega (arith, f, l, e))) in
      let q = ap v e in
      omega (arith, ints, z, s, q)
      )
  | inr d ↦ (
      let s = sum_without v k m (omega (arith, h, d)) in
      let z = without_same v k m (λ e. d (sym e)) in
      omega (arith, ints, s, z)
      )
]

-- numbers from 0 up, chosen at places of which no two are equal, have at most the whole sum
chosen_within : (m n : ℕ) (v : ℕ → ℤ) (f : ℕ → ℕ) → ((j : ℕ) → j < m → pos 0 ≤ℤ v j) → ((r : ℕ) → r < n → f r < m) → ((r s : ℕ) → r < n → s < n → f r ≡ f s → r ≡ s) → sum_to (λ r. v (f r)) n ≤ℤ sum_to v m
chosen_within m zero v f non_negative inside once = sum_non_negative m v non_negative
  where
    sum_non_negative : (m : ℕ) (v : ℕ → ℤ) → ((j : ℕ) → j < m → pos 0 ≤ℤ v j) → pos 0 ≤ℤ sum_to v m
    sum_non_negative zero v h = omega (arith, ints)
    sum_non_negative (suc m) v h = let i = sum_non_negative m v (λ j l. h j (omega (arith, l))) in let k = h m (omega arith) in omega (arith, ints, i, k)
chosen_within m (suc n) v f non_negative inside once =
    let k = f n in
    let i = chosen_within m n (without v (f n)) f (λ j l. without_non_negative v (f n) j (non_negative j l)) (λ r l. inside r (omega (arith, l))) (λ r s l o. once r s (omega (arith, l)) (omega (arith, o))) in
    let e = sum_to-same (λ r. without v (f n) (f r)) (λ r. v (f r)) n (λ r l. without_same v (f n) (f r) (λ o. let p = once r n (omega (arith, l)) (omega arith) o in omega (arith, p, l))) in
    let w = sum_without v (f n) m (inside n (omega arith)) in
    omega (arith, ints, i, e, w)

-- where every number but those at chosen places is 0, the whole sum is at most theirs
all_within : (m n : ℕ) (v : ℕ → ℤ) (f : ℕ → ℕ) → ((j : ℕ) → j < m → pos 0 ≤ℤ v j) → ((r : ℕ) → r < n → f r < m) → ((j : ℕ) → j < m → (v j ≡ pos 0) ⊎ ((r : ℕ) × (r < n) × (f r ≡ j))) → sum_to v m ≤ℤ sum_to (λ r. v (f r)) n
all_within m zero v f non_negative inside covered = zeros m v (λ j l. elim (covered j l) as (λ _. v j ≡ pos 0) [ inl e ↦ e | inr r ↦ absurd (let h = r.1 in omega (arith, h)) ])
  where
    zeros : (m : ℕ) (v : ℕ → ℤ) → ((j : ℕ) → j < m → v j ≡ pos 0) → sum_to v m ≤ℤ pos 0
    zeros zero v h = omega (arith, ints)
    zeros (suc m) v h = let i = zeros m v (λ j l. h j (omega (arith, l))) in let k = h m (omega arith) in omega (arith, ints, i, k)
all_within m (suc n) v f non_negative inside covered =
    let i = all_within m n (without v (f n)) f (λ j l. without_non_negative v (f n) j (non_negative j l)) (λ r l. inside r (omega (arith, l)))
    (λ j l. elim (without_is v (f n) j) as (λ _. (without v (f n) j ≡ pos 0) ⊎ ((r : ℕ) × (r < n) × (f r ≡ j))) [
      | inl e ↦ inl e.1
      | inr e ↦ elim (covered j l) as (λ _. (without v (f n) j ≡ pos 0) ⊎ ((r : ℕ) × (r < n) × (f r ≡ j))) [
        | inl z ↦ inl (e.1 ∙ z)
        | inr r ↦ elim (below_or_last r.0 n (let h = r.1 in omega (arith, h))) as (λ _. (without v (f n) j ≡ pos 0) ⊎ ((r : ℕ) × (r < n) × (f r ≡ j))) [
          | inl o ↦ inr (r.0, o, r.2)
          | inr o ↦ absurd (e.0 (sym r.2 ∙ ap f o))
        ]
      ]
    ]) in
    let e = sum_to-le (λ r. without v (f n) (f r)) (λ r. v (f r)) n (λ r l. less r (inside r (omega (arith, l)))) in
    let w = sum_without v (f n) m (inside n (omega arith)) in
    omega (arith, ints, i, e, w)
  where
    less : (r : ℕ) → f r < m → without v (f n) (f r) ≤ℤ v (f r)
    less r h = elim (without_is v (f n) (f r)) as (λ _. without v (f n) (f r) ≤ℤ v (f r)) [
      | inl e ↦ (let z = e.1 in let p = non_negative (f r) h in omega (arith, ints, z, p))
      | inr e ↦ (let z = e.1 in omega (arith, ints, z))
    ]

module _ (a : ℕ → ℕ → ℤ) (n columns : ℕ) (col : ℕ → ℕ) (held : ℕ → Option ℕ) (u v : ℕ → ℤ) (matching : IsMatching n columns col held) (potential : IsPotential a n columns col held u v) where
  covered : (j : ℕ) → j < columns → (v j ≡ pos 0) ⊎ ((r : ℕ) × (r < n) × (col r ≡ j))
  covered j h = by (held j) refl
    where
      by : (o : Option ℕ) → held j ≡ o → (v j ≡ pos 0) ⊎ ((r : ℕ) × (r < n) × (col r ≡ j))
      by None e = inl (potential.free j h e)
      by (Some i) e = let m = matching.from i j e in inr (i, m.0, m.1)

  pub none_more : (f : ℕ → ℕ) → ((r : ℕ) → r < n → f r < columns) → ((r s : ℕ) → r < n → s < n → f r ≡ f s → r ≡ s) → sum_to (λ r. a r (f r)) n ≤ℤ sum_to (λ r. a r (col r)) n
  none_more f inside once =
      let l = sum_to-le (λ r. a r (f r)) (λ r. u r +ℤ v (f r)) n (λ r h. potential.above r (f r) h (inside r h)) in
      let s = sum_to-add u (λ r. v (f r)) n in
      let c = chosen_within columns n v f potential.non_negative inside once in
      let d = all_within columns n v col potential.non_negative matching.inside covered in
      let t = sum_to-add u (λ r. v (col r)) n in
      let e = sum_to-same (λ r. u r +ℤ v (col r)) (λ r. a r (col r)) n potential.tight in
      omega (arith, ints, l, s, c, d, t, e)

module _ {C : Type 0} {value : C → ℤ} {t : NumberTable} {column_of : List ℕ} {row_of : List (Option ℕ)} {us vs : List C} (matched : IsMatched value t column_of row_of us vs) where
  -- all rows are matched
  pub assignment_of : length column_of ≡ t.rows → IsAssignment t.rows t.columns column_of
  assignment_of e = record {
    len = e;
    inside = λ r h. matched.matching.inside r (omega (arith, h, e));
    once = λ r s h g o.
        let f : Some r ≡ Some s = sym (matched.matching.back r (omega (arith, h, e))) ∙ ap (holder row_of) o ∙ matched.matching.back s (omega (arith, g, e)) in
        cc;
  }

  pub best_of : length column_of ≡ t.rows → IsBestAssignment t column_of
  best_of e = record {
    assignment = assignment_of e;
    best = λ g h.
        subst (λ n. sum_to (λ r. t.at r (slice_index g r)) n ≤ℤ sum_to (λ r. t.at r (slice_index column_of r)) n) e
        (none_more t.at (length column_of) t.columns (slice_index column_of) (holder row_of) (number value us) (number value vs) matched.matching matched.potential (slice_index g)
        (λ r l. h.inside r (omega (arith, l, e)))
        (λ r s l o. h.once r s (omega (arith, l, e)) (omega (arith, o, e))));
  }

-- the negated table
module _ (t n : NumberTable) (negated : IsNegatedTable t n) where
  pub greatest_negated : (w : ℕ) → IsGreatestWeight t w → IsGreatestWeight n w
  greatest_negated w g = record {
    bound = λ r c h l.
        let rows = negated.rows in
        let columns = negated.columns in
        let b = g.bound r c (omega (arith, h, rows)) (omega (arith, l, columns)) in
        let b0 = b.0 in
        let b1 = b.1 in
        let e = negated.negated r c (omega (arith, h, rows)) (omega (arith, l, columns)) in
        (omega (arith, ints, b0, b1, e), omega (arith, ints, b0, b1, e));
    reached = by g.reached;
  }
    where
      by : (w ≡ 0) ⊎ ((r : ℕ) × (c : ℕ) × (r < t.rows) × (c < t.columns) × ((t.at r c ≡ pos w) ⊎ (t.at r c ≡ neg_ℤ (pos w)))) → (w ≡ 0) ⊎ ((r : ℕ) × (c : ℕ) × (r < n.rows) × (c < n.columns) × ((n.at r c ≡ pos w) ⊎ (n.at r c ≡ neg_ℤ (pos w))))
      by (inl e) = inl e
      by (inr (r, c, h, l, inl e)) =
          let f = negated.negated r c h l in
          let rows = negated.rows in
          let columns = negated.columns in
          inr (r, c, (omega (arith, h, rows)), (omega (arith, l, columns)), inr (f ∙ ap neg_ℤ e))
      by (inr (r, c, h, l, inr e)) =
          let f = negated.negated r c h l in
          let rows = negated.rows in
          let columns = negated.columns in
          inr (r, c, (omega (arith, h, rows)), (omega (arith, l, columns)), inl (omega (arith, ints, f, e)))

  pub fit_negated : (fits : ℤ → Type 0) → WeightsFit fits t → WeightsFit fits n
  fit_negated fits f = record {
    greatest = f.greatest;
    is_greatest = greatest_negated f.greatest f.is_greatest;
    product = subst (λ r. fits (pos ((2 * r + 4) * f.greatest))) (sym negated.rows) f.product;
    negation = subst (λ r. fits (neg_ℤ (pos ((2 * r + 4) * f.greatest)))) (sym negated.rows) f.negation;
  }

  pub assignment_negated : (f : List ℕ) → IsAssignment n.rows n.columns f → IsAssignment t.rows t.columns f
  assignment_negated f h = subst (λ r. IsAssignment r t.columns f) negated.rows (subst (λ k. IsAssignment n.rows k f) negated.columns h)

  pub negated_assignment : (f : List ℕ) → IsAssignment t.rows t.columns f → IsAssignment n.rows n.columns f
  negated_assignment f h = subst (λ r. IsAssignment r n.columns f) (sym negated.rows) (subst (λ k. IsAssignment t.rows k f) (sym negated.columns) h)

  pub total_negated : (f : List ℕ) → IsAssignment t.rows t.columns f → assignment_total n f ≡ neg_ℤ (assignment_total t f)
  total_negated f h =
      ap (sum_to (λ r. n.at r (slice_index f r))) negated.rows ∙ sum_to-negated (λ r. n.at r (slice_index f r)) (λ r. t.at r (slice_index f r)) t.rows (λ r l. negated.negated r (slice_index f r) l (h.inside r l))

  pub least_of : (f : List ℕ) → IsBestAssignment n f → IsLeastAssignment t f
  least_of f b = record {
    assignment = assignment_negated f b.assignment;
    least = λ g h.
        let l = b.best g (negated_assignment g h) in
        let e = total_negated g h in
        let k = total_negated f (assignment_negated f b.assignment) in
        omega (arith, ints, l, e, k);
  }

-- totals fit, and so do the negations of the weights
pub total_fits : (fits : ℤ → Type 0) → IsInterval fits → (t : NumberTable) (fit : WeightsFit fits t) (f : List ℕ) → IsAssignment t.rows t.columns f → fits (assignment_total t f)
total_fits fits interval t fit f h =
    let b = sum_to-bound fit.greatest (λ r. t.at r (slice_index f r)) t.rows (λ r l. fit.is_greatest.bound r (slice_index f r) l (h.inside r l)) in
    room fits interval t fit t.rows (omega arith) _ b.0 b.1

pub negation_fits : (fits : ℤ → Type 0) → IsInterval fits → (t : NumberTable) (fit : WeightsFit fits t) (r c : ℕ) → r < t.rows → c < t.columns → fits (neg_ℤ (t.at r c))
negation_fits fits interval t fit r c h l =
    let b = fit.is_greatest.bound r c h l in
    let b0 = b.0 in
    let b1 = b.1 in
    room fits interval t fit 1 (omega arith) _ (omega (arith, ints, b1)) (omega (arith, ints, b0))

-- no row is matched yet
pub matched_none : {C : Type 0} (value : C → ℤ) (t : NumberTable) (column_of : List ℕ) (row_of : List (Option ℕ)) (us vs : List C) → length column_of ≡ 0 → length row_of ≡ t.columns → length vs ≡ t.columns → length us ≡ length column_of → ((j : ℕ) → holder row_of j ≡ None) → ((j : ℕ) → number value vs j ≡ pos 0) → IsMatched value t column_of row_of us vs
matched_none value t column_of row_of us vs none wide long rows free zero_at = record {
  matching = record {
    inside = λ i h. absurd (omega arith);
    back = λ i h. absurd (omega arith);
    from = λ i j e. absurd (none_some i (sym (free j) ∙ e));
  };
  potential = record {
    above = λ i j h l. absurd (omega arith);
    tight = λ i h. absurd (omega arith);
    non_negative = λ j h. let z = zero_at j in omega (arith, ints, z);
    free = λ j h e. zero_at j;
  };
  wide = wide;
  columns = long;
  rows = rows;
}
  where
    none_some : (i : ℕ) → None ≡ Some i → ⊥
    none_some i e = cc
