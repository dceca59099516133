-- How many rows and columns there are: numbers below a bound, no two equal.
use Rattle.std.proofs.Common.{ℕ, zero, suc, ◌<◌, ◌≤◌, ◌≡◌, ◌≢◌, refl, sym, ◌∙◌, ap, subst, arith, inl, inr, Option, Some, None}
use Rattle.std.specs.Prelude.{◌⊎◌}
use Rattle.std.proofs.lemmas.Bool.{cases_eq}
use Rattle.pf_assignment.specs.Internal.AssignmentSteps.{IsMatching}
use Rattle.pf_assignment.proofs.MatchingNumbers.{below_or_last}

-- y in place of x where x is m
patch : ℕ → ℕ → ℕ → ℕ
patch x m y = elim (cases_eq x m) as (λ _. ℕ) [ inl e ↦ y | inr d ↦ x ]

patched : (x m y : ℕ) → ((x ≡ m) × (patch x m y ≡ y)) ⊎ ((x ≢ m) × (patch x m y ≡ x))
unfolding patch
patched x m y = elim (cases_eq x m) as (λ s. ((x ≡ m) × (elim s as (λ _. ℕ) [ inl e ↦ y | inr d ↦ x ] ≡ y)) ⊎ ((x ≢ m) × (elim s as (λ _. ℕ) [ inl e ↦ y | inr d ↦ x ] ≡ x))) [ inl e ↦ inl (e, refl) | inr d ↦ inr (d, refl) ]

-- k numbers below n, no two equal, are at most n
pub injective_le : (n k : ℕ) (f : ℕ → ℕ) → ((p : ℕ) → p < k → f p < n) → ((p q : ℕ) → p < k → q < k → f p ≡ f q → p ≡ q) → k ≤ n
injective_le n zero f below once = omega arith
injective_le zero (suc k) f below once = absurd (let b = below 0 (omega arith) in omega (arith, b))
injective_le (suc m) (suc k) f below once =
    let g = λ (p : ℕ). patch (f p) m (f k) in
    let l = injective_le m k g
    (λ p h. elim (patched (f p) m (f k)) as (λ _. patch (f p) m (f k) < m) [
      | inl e ↦ (
          let e0 = e.0 in
          let e1 = e.1 in
          let b = below k (omega arith) in
          let d : f k ≢ m = (λ o. let s = once p k (omega (arith, h)) (omega arith) (e0 ∙ sym o) in omega (arith, s, h)) in
          omega (arith, e1, b, d)
          )
      | inr e ↦ (
          let e0 = e.0 in
          let e1 = e.1 in
          let b = below p (omega (arith, h)) in
          omega (arith, e0, e1, b)
          )
    ])
    (λ p q h i s. elim (patched (f p) m (f k)) as (λ _. p ≡ q) [
      | inl e ↦ elim (patched (f q) m (f k)) as (λ _. p ≡ q) [
        | inl o ↦ once p q (omega (arith, h)) (omega (arith, i)) (e.0 ∙ sym o.0)
        | inr o ↦ absurd (let w = once k q (omega arith) (omega (arith, i)) (sym e.1 ∙ s ∙ o.1) in omega (arith, w, i))
      ]
      | inr e ↦ elim (patched (f q) m (f k)) as (λ _. p ≡ q) [
        | inl o ↦ absurd (let w = once p k (omega (arith, h)) (omega arith) (sym e.1 ∙ s ∙ o.1) in omega (arith, w, h))
        | inr o ↦ once p q (omega (arith, h)) (omega (arith, i)) (sym e.1 ∙ s ∙ o.1)
      ]
    ]) in
    omega (arith, l)

-- either one of the columns below k is free, or each has a row
search_free : (held : ℕ → Option ℕ) (k : ℕ) → ((j : ℕ) × (j < k) × (held j ≡ None)) ⊎ ((j : ℕ) → j < k → (i : ℕ) × (held j ≡ Some i))
search_free held zero = inr (λ j h. absurd (omega (arith, h)))
search_free held (suc k) = elim (search_free held k) as (λ _. ((j : ℕ) × (j < suc k) × (held j ≡ None)) ⊎ ((j : ℕ) → j < suc k → (i : ℕ) × (held j ≡ Some i))) [
  | inl f ↦ inl (f.0, (let l = f.1 in let m : f.0 < suc k = omega (arith, l) in m), f.2)
  | inr all ↦ by (held k) refl all
]
  where
    by : (o : Option ℕ) → held k ≡ o → ((j : ℕ) → j < k → (i : ℕ) × (held j ≡ Some i)) → ((j : ℕ) × (j < suc k) × (held j ≡ None)) ⊎ ((j : ℕ) → j < suc k → (i : ℕ) × (held j ≡ Some i))
    by None e all = inl (k, omega arith, e)
    by (Some i) e all = inr (λ j h. elim (below_or_last j k (omega (arith, h))) as (λ _. (i : ℕ) × (held j ≡ Some i)) [ inl l ↦ all j l | inr f ↦ (i, ap held f ∙ e) ])

-- the row, or 0 where there is none
abbrev row_or : Option ℕ → ℕ
row_or None = 0
row_or (Some i) = i

-- fewer rows than columns leave a column free
pub free_column : (n columns : ℕ) (col : ℕ → ℕ) (held : ℕ → Option ℕ) → IsMatching n columns col held → n < columns → (j : ℕ) × (j < columns) × (held j ≡ None)
free_column n columns col held m less = elim (search_free held columns) as (λ _. (j : ℕ) × (j < columns) × (held j ≡ None)) [
  | inl f ↦ f
  | inr all ↦ absurd (by all)
]
  where
    row_is : (all : (j : ℕ) → j < columns → (i : ℕ) × (held j ≡ Some i)) (j : ℕ) → j < columns → held j ≡ Some (row_or (held j))
    row_is all j h = let a = all j h in subst (λ o. o ≡ Some (row_or o)) (sym a.1) refl

    by : ((j : ℕ) → j < columns → (i : ℕ) × (held j ≡ Some i)) → ⊥
    by all =
        let l = injective_le n columns (λ j. row_or (held j)) (λ j h. (m.from (row_or (held j)) j (row_is all j h)).0)
        (λ p q h i e. sym (m.from (row_or (held p)) p (row_is all p h)).1 ∙ ap col e ∙ (m.from (row_or (held q)) q (row_is all q i)).1) in
        omega (arith, l, less)
