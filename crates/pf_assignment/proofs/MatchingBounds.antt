-- All numbers of a search are within six times the greatest absolute weight.
use Rattle.std.proofs.Common.{ℕ, ◌*◌, ◌<◌, ◌≡◌, refl, sym, ◌∙◌, subst, arith, Bool, true, false, List, length, inl, inr, ℤ, Option, Some, None}
use Rattle.std.specs.Prelude.{◌≤ℤ◌, ◌+ℤ◌, ◌-ℤ◌, pos, neg_ℤ, slice_index}
use Rattle.std.proofs.lemmas.Int.{ints}
use Rattle.std.proofs.lemmas.Bool.{cases_Bool}
use Rattle.pf_base.specs.Costs.{LiesBetween}
use Rattle.pf_base.specs.Places.{number}
use Rattle.pf_assignment.specs.Assignments.{NumberTable}
use Rattle.pf_assignment.specs.Internal.AssignmentSteps.{holder, flag, IsNearest, IsNext, IsTreeOf}
use Rattle.pf_assignment.proofs.MatchingNumbers.{number-past}
use Rattle.pf_assignment.proofs.MatchingWeights.{IsInterval, room_six}
use Rattle.pf_assignment.proofs.MatchingCount.{free_column}

module _ {C : Type 0} {value : C → ℤ} {t : NumberTable} {column_of : List ℕ} {row_of : List (Option ℕ)} {us vs : List C} (fits : ℤ → Type 0) (interval : IsInterval fits) (next : IsNext value t column_of row_of us vs fits) where
  fitting : (z : ℤ) → neg_ℤ (pos (6 * next.fit.greatest)) ≤ℤ z → z ≤ℤ pos (6 * next.fit.greatest) → fits z
  fitting = room_six fits interval t next.fit (let l = next.left in omega (arith, l))

  pub free : (j : ℕ) × (j < t.columns) × (holder row_of j ≡ None)
  free = free_column (length column_of) t.columns (slice_index column_of) (holder row_of) next.matched.matching (let l = next.left in let s = next.shape in omega (arith, l, s))

  bounded : (r j : ℕ) → r < t.rows → j < t.columns → LiesBetween (neg_ℤ (pos next.fit.greatest)) (pos next.fit.greatest) (t.at r j)
  bounded = next.fit.is_greatest.bound

  earlier : (i : ℕ) → i < length column_of → i < t.rows
  earlier i h = let l = next.left in omega (arith, l, h)

  u_low : (i : ℕ) → i < length column_of → neg_ℤ (pos next.fit.greatest) ≤ℤ number value us i
  u_low i h =
      let f = free in
      let a = next.matched.potential.above i f.0 h f.1 in
      let z = next.matched.potential.free f.0 f.1 f.2 in
      let b = (bounded i f.0 (earlier i h) f.1).0 in
      omega (arith, ints, a, z, b)

  u_high : (i : ℕ) → i < length column_of → number value us i ≤ℤ pos next.fit.greatest
  u_high i h =
      let c = next.matched.matching.inside i h in
      let e = next.matched.potential.tight i h in
      let z = next.matched.potential.non_negative (slice_index column_of i) c in
      let b = (bounded i (slice_index column_of i) (earlier i h) c).1 in
      omega (arith, ints, e, z, b)

  v_low : (j : ℕ) → j < t.columns → pos 0 ≤ℤ number value vs j
  v_low = next.matched.potential.non_negative

  v_high : (j : ℕ) → j < t.columns → number value vs j ≤ℤ pos (2 * next.fit.greatest)
  v_high j h = by (holder row_of j) refl
    where
      by : (o : Option ℕ) → holder row_of j ≡ o → number value vs j ≤ℤ pos (2 * next.fit.greatest)
      by None e = let z = next.matched.potential.free j h e in omega (arith, ints, z)
      by (Some i) e =
          let m = next.matched.matching.from i j e in
          let m0 = m.0 in
          let tight = subst (λ k. number value us i +ℤ number value vs k ≡ t.at i k) m.1 (next.matched.potential.tight i m.0) in
          let l = u_low i m.0 in
          let b = (bounded i j (earlier i m.0) h).1 in
          omega (arith, ints, tight, l, b)

  -- a column of the table at the root
  root_bound : (j : ℕ) → j < t.columns → LiesBetween (neg_ℤ (pos next.fit.greatest)) (pos next.fit.greatest) (t.at (length column_of) j)
  root_bound j h = bounded (length column_of) j next.left h

  pub root_sum : (offset : ℤ) → offset ≡ pos 0 → (j : ℕ) → j < t.columns → fits (offset +ℤ number value vs j)
  root_sum offset e j h = let l = v_low j h in let m = v_high j h in fitting _ (omega (arith, ints, l, m, e)) (omega (arith, ints, l, m, e))

  pub root_difference : (offset : ℤ) → offset ≡ pos 0 → (j : ℕ) → j < t.columns → fits (offset +ℤ number value vs j -ℤ t.at (length column_of) j)
  root_difference offset e j h =
      let l = v_low j h in
      let m = v_high j h in
      let b = root_bound j h in
      let b0 = b.0 in
      let b1 = b.1 in
      fitting _ (omega (arith, ints, l, m, e, b0, b1)) (omega (arith, ints, l, m, e, b0, b1))

  module _ {rows : List ℕ} {visited : List Bool} {ds : List C} {places : List ℕ} (tree : IsTreeOf value t column_of row_of us vs rows visited ds places) where
    pub unvisited : (j : ℕ) → holder row_of j ≡ None → flag visited j ≡ false
    unvisited j e = elim (cases_Bool (flag visited j)) as (λ _. flag visited j ≡ false) [
      | inl g ↦ absurd (let m = tree.tree.matched j g in let f : Some m.0 ≡ None = sym m.1 ∙ e in cc)
      | inr g ↦ g
    ]

    d_low : (j : ℕ) → j < t.columns → neg_ℤ (pos next.fit.greatest) ≤ℤ number value ds j
    d_low = tree.tree.low next.fit.greatest (λ j h. (root_bound j h).1)

    free_high : number value ds free.0 ≤ℤ pos next.fit.greatest
    free_high =
        let f = free in
        let b = subst (λ (r : ℕ). (number value ds f.0 +ℤ t.at r f.0) ≤ℤ (pos 0 +ℤ number value us r +ℤ number value vs f.0)) tree.tree.first (tree.tree.below 0 f.0 tree.tree.rooted f.1) in
        let u = number-past value us (length column_of) next.matched.rows in
        let z = next.matched.potential.free f.0 f.1 f.2 in
        let r = (root_bound f.0 f.1).0 in
        omega (arith, ints, b, u, z, r)

    d_high : (j : ℕ) → j < t.columns → flag visited j ≡ true → number value ds j ≤ℤ pos next.fit.greatest
    d_high j h g = let l = free_high in let m = tree.tree.near j free.0 h free.1 g (unvisited free.0 free.2) in omega (arith, ints, l, m)

    module _ (c : ℕ) (nearest : IsNearest t.columns (flag visited) (number value ds) c) where
      c_high : number value ds c ≤ℤ pos next.fit.greatest
      c_high = let l = free_high in let m = nearest.least free.0 free.1 (unvisited free.0 free.2) in omega (arith, ints, l, m)

      pub row_sum : (i : ℕ) → i < length column_of → fits (number value ds c +ℤ number value us i)
      row_sum i h =
          let l = u_low i h in
          let m = u_high i h in
          let k = d_low c nearest.inside in
          let o = c_high in
          fitting _ (omega (arith, ints, l, m, k, o)) (omega (arith, ints, l, m, k, o))

      module _ (i : ℕ) (own : i < length column_of) (offset : ℤ) (sum : offset ≡ number value ds c +ℤ number value us i) where
        pub path_sum : (j : ℕ) → j < t.columns → fits (offset +ℤ number value vs j)
        path_sum j h =
            let l = u_low i own in
            let m = u_high i own in
            let k = d_low c nearest.inside in
            let o = c_high in
            let p = v_low j h in
            let q = v_high j h in
            fitting _ (omega (arith, ints, l, m, k, o, p, q, sum)) (omega (arith, ints, l, m, k, o, p, q, sum))

        pub path_difference : (j : ℕ) → j < t.columns → fits (offset +ℤ number value vs j -ℤ t.at i j)
        path_difference j h =
            let l = u_low i own in
            let m = u_high i own in
            let k = d_low c nearest.inside in
            let o = c_high in
            let p = v_low j h in
            let q = v_high j h in
            let b = bounded i j (earlier i own) h in
            let b0 = b.0 in
            let b1 = b.1 in
            fitting _ (omega (arith, ints, l, m, k, o, p, q, sum, b0, b1)) (omega (arith, ints, l, m, k, o, p, q, sum, b0, b1))

      pub depth_negation : fits (neg_ℤ (number value ds c))
      depth_negation = let k = d_low c nearest.inside in let o = c_high in fitting _ (omega (arith, ints, k, o)) (omega (arith, ints, k, o))

      pub step_difference : (j : ℕ) → j < t.columns → flag visited j ≡ true → fits (number value ds c -ℤ number value ds j)
      step_difference j h g =
          let k = d_low c nearest.inside in
          let o = c_high in
          let l = d_low j h in
          let m = d_high j h g in
          fitting _ (omega (arith, ints, k, o, l, m)) (omega (arith, ints, k, o, l, m))

      pub step_sum : (j : ℕ) → j < t.columns → flag visited j ≡ true → fits (number value vs j +ℤ (number value ds c -ℤ number value ds j))
      step_sum j h g =
          let k = d_low c nearest.inside in
          let o = c_high in
          let l = d_low j h in
          let m = d_high j h g in
          let p = v_low j h in
          let q = v_high j h in
          fitting _ (omega (arith, ints, k, o, l, m, p, q)) (omega (arith, ints, k, o, l, m, p, q))

      pub step_rest : (i j : ℕ) → i < length column_of → j < t.columns → flag visited j ≡ true → fits (number value us i -ℤ (number value ds c -ℤ number value ds j))
      step_rest i j s h g =
          let k = d_low c nearest.inside in
          let o = c_high in
          let l = d_low j h in
          let m = d_high j h g in
          let p = u_low i s in
          let q = u_high i s in
          fitting _ (omega (arith, ints, k, o, l, m, p, q)) (omega (arith, ints, k, o, l, m, p, q))
