-- The potentials after the tree was taken up are potentials again, for one more row.
use Rattle.std.proofs.Common.{List, length, get_or, ◌++◌, ◌∷◌, [], ℕ, zero, suc, ◌+◌, ◌<◌, ◌≡◌, ◌≢◌, refl, sym, ◌∙◌, ap, subst, arith, Bool, true, false, inl, inr, ℤ, Option, Some, None}
use Rattle.std.specs.Prelude.{◌≤ℤ◌, ◌+ℤ◌, ◌-ℤ◌, pos, neg_ℤ, slice_index, slice_set}
use Rattle.std.proofs.lemmas.Int.{ints}
use Rattle.std.proofs.lemmas.Bool.{cases_eq, cases_Bool}
use Rattle.std.proofs.lemmas.List.{get_or-set_same, get_or-set_other, get_or_push, get_or_append_left, length-append, length-set}
use Rattle.pf_base.specs.Places.{number}
use Rattle.pf_assignment.specs.Assignments.{NumberTable}
use Rattle.pf_assignment.specs.Internal.AssignmentSteps.{holder, flag, IsMatched, IsTreeOf, IsAlternatingTree, IsMatching, IsPotential, IsShortestPathTree, IsNearest, IsOnTree, IsFlipped, reach, raised}
use Rattle.pf_assignment.proofs.MatchingNumbers.{below_or_last, raised_true, raised_false, number-at, number-past, number-push_last, number-push_other}
use Rattle.pf_assignment.proofs.AugmentingPath.{flip_ends}

module _ (a : ℕ → ℕ → ℤ) (n columns : ℕ) (col : ℕ → ℕ) (held : ℕ → Option ℕ) (u v : ℕ → ℤ) (matching : IsMatching n columns col held) (potential : IsPotential a n columns col held u v) (root : u n ≡ pos 0) (count : ℕ) (rows : ℕ → ℕ) (visited : ℕ → Bool) (d : ℕ → ℤ) (place : ℕ → ℕ) (tree : IsShortestPathTree a n columns col held u v count rows visited d place) (c : ℕ) (nearest : IsNearest columns visited d c) (u' v' : ℕ → ℤ) (lowered : (i : ℕ) → i < n → u' i ≡ raised (visited (col i)) (u i) (neg_ℤ (d c -ℤ d (col i)))) (lowest : u' n ≡ neg_ℤ (d c)) (lifted : (j : ℕ) → j < columns → v' j ≡ raised (visited j) (v j) (d c -ℤ d j)) where
  tree_row : (p : ℕ) → p < count → u' (rows p) +ℤ d c ≡ u (rows p) +ℤ reach d col rows p
  tree_row zero h =
      let e = ap u' tree.first ∙ lowest in
      let f = ap u tree.first ∙ root in
      omega (arith, ints, e, f)
  tree_row (suc p) h =
      let r = tree.row (suc p) (omega arith) h in
      let e = lowered (rows (suc p)) r.0 ∙ raised_true (visited (col (rows (suc p)))) _ _ r.1 in
      omega (arith, ints, e)

  up : (j : ℕ) → j < columns → visited j ≡ true → v' j ≡ v j +ℤ (d c -ℤ d j)
  up j h t = lifted j h ∙ raised_true (visited j) _ _ t

  same : (j : ℕ) → j < columns → visited j ≡ false → v' j ≡ v j
  same j h f = lifted j h ∙ raised_false (visited j) _ _ f

  within : (j : ℕ) → j < columns → visited j ≡ true → d j ≤ℤ d c
  within j h t = tree.near j c h nearest.inside t nearest.outside

  -- the new potentials bound the weights of a row of the tree
  above_tree : (p j : ℕ) → p < count → j < columns → a (rows p) j ≤ℤ (u' (rows p) +ℤ v' j)
  above_tree p j h g =
      let b = tree.below p j h g in
      let r = tree_row p h in
      elim (cases_Bool (visited j)) as (λ _. a (rows p) j ≤ℤ (u' (rows p) +ℤ v' j)) [
        | inl t ↦ (let e = up j g t in omega (arith, ints, b, r, e))
        | inr f ↦ (let e = same j g f in let l = nearest.least j g f in omega (arith, ints, b, r, e, l))
      ]

  above_rest : (i j : ℕ) → i < n → j < columns → visited (col i) ≡ false → a i j ≤ℤ (u' i +ℤ v' j)
  above_rest i j h g s =
      let b = potential.above i j h g in
      let k = lowered i h ∙ raised_false (visited (col i)) _ _ s in
      elim (cases_Bool (visited j)) as (λ _. a i j ≤ℤ (u' i +ℤ v' j)) [
        | inl t ↦ (let e = up j g t in let l = within j g t in omega (arith, ints, b, k, e, l))
        | inr f ↦ (let e = same j g f in omega (arith, ints, b, k, e))
      ]

  pub above_raised : (i j : ℕ) → i < n + 1 → j < columns → a i j ≤ℤ (u' i +ℤ v' j)
  above_raised i j h g = elim (below_or_last i n h) as (λ _. a i j ≤ℤ (u' i +ℤ v' j)) [
    | inl l ↦ elim (cases_Bool (visited (col i))) as (λ _. a i j ≤ℤ (u' i +ℤ v' j)) [
      | inl t ↦ (let r = tree.reached i l t in subst (λ k. a k j ≤ℤ (u' k +ℤ v' j)) r.3 (above_tree r.0 j r.2 g))
      | inr f ↦ above_rest i j l g f
    ]
    | inr e ↦ subst (λ k. a k j ≤ℤ (u' k +ℤ v' j)) (tree.first ∙ sym e) (above_tree 0 j tree.rooted g)
  ]

  -- the pairs along the tree are exact
  along_raised : (j : ℕ) → j < columns → IsOnTree count col rows c j → u' (rows (place j)) +ℤ v' j ≡ a (rows (place j)) j
  along_raised j h o =
      let k = tree.along j h in
      let m = k.1 in
      let r = tree_row (place j) k.0 in
      let e = moved o in
      omega (arith, ints, m, r, e)
    where
      moved : IsOnTree count col rows c j → v' j ≡ v j +ℤ (d c -ℤ d j)
      moved (inl e) = let f = same j h (ap visited e ∙ nearest.outside) in let g = ap d e in omega (arith, ints, f, g)
      moved (inr (p, q, l, e)) = up j h (ap visited (sym e) ∙ (tree.row p q l).1)

  -- and so are the old pairs
  old_raised : (i : ℕ) → i < n → u' i +ℤ v' (col i) ≡ a i (col i)
  old_raised i h =
      let e = potential.tight i h in
      let l = lowered i h in
      let m = lifted (col i) (matching.inside i h) in
      elim (cases_Bool (visited (col i))) as (λ _. u' i +ℤ v' (col i) ≡ a i (col i)) [
        | inl t ↦ (let p = l ∙ raised_true (visited (col i)) _ _ t in let q = m ∙ raised_true (visited (col i)) _ _ t in omega (arith, ints, e, p, q))
        | inr f ↦ (let p = l ∙ raised_false (visited (col i)) _ _ f in let q = m ∙ raised_false (visited (col i)) _ _ f in omega (arith, ints, e, p, q))
      ]

  non_negative_raised : (j : ℕ) → j < columns → pos 0 ≤ℤ v' j
  non_negative_raised j h =
      let z = potential.non_negative j h in
      elim (cases_Bool (visited j)) as (λ _. pos 0 ≤ℤ v' j) [
        | inl t ↦ (let e = up j h t in let l = within j h t in omega (arith, ints, z, e, l))
        | inr f ↦ (let e = same j h f in omega (arith, ints, z, e))
      ]

  module _ (col' : ℕ → ℕ) (held' : ℕ → Option ℕ) (left : ℕ) (flipped : IsFlipped n columns count c col held rows place col' held' left) (last : place left ≡ 0) (col'' : ℕ → ℕ) (held'' : ℕ → Option ℕ) (set_col : col'' n ≡ left) (keep_col : (i : ℕ) → i < n → col'' i ≡ col' i) (set_held : held'' left ≡ Some n) (keep_held : (j : ℕ) → j ≢ left → held'' j ≡ held' j) where
    pub potential_raised : IsPotential a (n + 1) columns col'' held'' u' v'
    potential_raised = record {
      above = above_raised;
      tight = λ i h. elim (below_or_last i n h) as (λ _. u' i +ℤ v' (col'' i) ≡ a i (col'' i)) [
        | inl l ↦ subst (λ k. u' i +ℤ v' k ≡ a i k) (sym (keep_col i l)) (elim (flipped.new i l) as (λ _. u' i +ℤ v' (col' i) ≡ a i (col' i)) [
          | inl e ↦ subst (λ k. u' i +ℤ v' k ≡ a i k) (sym e) (old_raised i l)
          | inr e ↦ subst (λ r. u' r +ℤ v' (col' i) ≡ a r (col' i)) e.0 (along_raised (col' i) (flipped.inside i l) e.1)
        ])
        | inr e ↦ subst (λ k. u' i +ℤ v' k ≡ a i k) (sym (ap col'' e ∙ set_col)) (subst (λ r. u' r +ℤ v' left ≡ a r left) (ap rows last ∙ tree.first ∙ sym e) (along_raised left flipped.within flipped.on_tree))
      ];
      non_negative = non_negative_raised;
      free = λ j h e. elim (cases_eq j left) as (λ _. v' j ≡ pos 0) [
        | inl s ↦ absurd (let f : Some n ≡ None = sym set_held ∙ ap held'' (sym s) ∙ e in cc)
        | inr s ↦ (
            let o = flipped.free j (sym (keep_held j s) ∙ e) in
            elim (cases_Bool (visited j)) as (λ _. v' j ≡ pos 0) [
              | inl g ↦ absurd (let m = tree.matched j g in let f : Some m.0 ≡ None = sym m.1 ∙ o in cc)
              | inr g ↦ same j h g ∙ potential.free j h o
            ]
            )
      ];
    }

-- the distance of the nearest column, as it was read
pub nearest_number : {C : Type 0} {value : C → ℤ} {t : NumberTable} {column_of : List ℕ} {row_of : List (Option ℕ)} {us vs : List C} {rows : List ℕ} {visited : List Bool} {ds : List C} {places : List ℕ}
    → IsTreeOf value t column_of row_of us vs rows visited ds places → (c : ℕ) → IsNearest t.columns (flag visited) (number value ds) c → (x : C) → x ≡ get_or ds c x → number value ds c ≡ value x
nearest_number {value = value} {ds = ds} tree c nearest x e = let i = nearest.inside in let q = tree.distances_len in number-at value ds c x (omega (arith, i, q)) e

module _ {C : Type 0} {value : C → ℤ} {t : NumberTable} {column_of : List ℕ} {row_of : List (Option ℕ)} {us vs : List C} (matched : IsMatched value t column_of row_of us vs) {rows : List ℕ} {visited : List Bool} {ds : List C} {places : List ℕ} (tree : IsTreeOf value t column_of row_of us vs rows visited ds places) where
  pub rooted_of : IsAlternatingTree (length column_of) (length row_of) (length rows) (slice_index column_of) (slice_index rows) (slice_index places)
  rooted_of =
      let wide = matched.wide in record {
        rooted = tree.tree.rooted;
        row = λ p h g. (tree.tree.row p h g).0;
        once = tree.tree.once;
        inside = λ j h. (tree.tree.along j (omega (arith, h, wide))).0;
        before = tree.tree.before;
      }

  -- the lists after the tree was taken up and its root was matched
  pub augment_lists : (c : ℕ) → IsNearest t.columns (flag visited) (number value ds) c → (vs' us' : List C) (low : C) → value low ≡ neg_ℤ (number value ds c) → ((j : ℕ) → j < length vs → number value vs' j ≡ raised (flag visited j) (number value vs j) (number value ds c -ℤ number value ds j)) → length vs' ≡ length vs → ((i : ℕ) → i < length column_of → number value us' i ≡ raised (flag visited (slice_index column_of i)) (number value us i) (neg_ℤ (number value ds c -ℤ number value ds (slice_index column_of i)))) → length us' ≡ length us → (column_of' : List ℕ) (row_of' : List (Option ℕ)) (left : ℕ) → IsFlipped (length column_of) (length row_of) (length rows) c (slice_index column_of) (holder row_of) (slice_index rows) (slice_index places) (slice_index column_of') (holder row_of') left → slice_index places left ≡ 0 → length column_of' ≡ length column_of → length row_of' ≡ length row_of → IsMatched value t (column_of' ++ left ∷ []) (slice_set row_of' left (Some (length column_of))) (us' ++ low ∷ []) vs'
  augment_lists c nearest vs' us' low lowest lifted vs_len lowered us_len column_of' row_of' left flipped last column_len row_len =
      let n = length column_of in
      let wide = matched.wide in
      let vl = matched.columns in
      let ul = us_len ∙ matched.rows in
      let within = flipped.within in
      let so = subst (λ k. IsFlipped (length column_of) k (length rows) c (slice_index column_of) (holder row_of) (slice_index rows) (slice_index places) (slice_index column_of') (holder row_of') left) wide flipped in
      let set_col : slice_index (column_of' ++ left ∷ []) (length column_of) ≡ left = subst (λ (k : ℕ). slice_index (column_of' ++ left ∷ []) k ≡ left) column_len (get_or_push column_of' left 0 (length column_of') refl) in
      let keep_col = λ (i : ℕ) (h : i < length column_of). get_or_append_left column_of' (left ∷ []) 0 i (omega (arith, h, column_len)) in
      let set_held = get_or-set_same row_of' left (Some (length column_of)) None (omega (arith, within, row_len)) in
      let keep_held = λ (j : ℕ) (d : j ≢ left). get_or-set_other row_of' left j (Some (length column_of)) None d in
      let more : length (column_of' ++ left ∷ []) ≡ length column_of + 1 = length-append column_of' (left ∷ []) ∙ ap (λ k. k + 1) column_len in
      let matching = flip_ends (length column_of) t.columns (length rows) c (slice_index column_of) (holder row_of) (slice_index rows) (slice_index places) (slice_index column_of') (holder row_of') left so (slice_index (column_of' ++ left ∷ [])) (holder (slice_set row_of' left (Some (length column_of)))) set_col keep_col set_held keep_held in
      let potential = potential_raised t.at (length column_of) t.columns (slice_index column_of) (holder row_of) (number value us) (number value vs) matched.matching matched.potential (number-past value us (length column_of) matched.rows) (length rows) (slice_index rows) (flag visited) (number value ds) (slice_index places) tree.tree c nearest (number value (us' ++ low ∷ [])) (number value vs')
      (λ i h. number-push_other value us' low i (omega (arith, h, ul)) ∙ lowered i h)
      (subst (λ k. number value (us' ++ low ∷ []) k ≡ neg_ℤ (number value ds c)) ul (number-push_last value us' low ∙ lowest))
      (λ j h. lifted j (omega (arith, h, vl)))
      (slice_index column_of') (holder row_of') left so last (slice_index (column_of' ++ left ∷ [])) (holder (slice_set row_of' left (Some (length column_of)))) set_col keep_col set_held keep_held in
      record {
        matching = subst (λ k. IsMatching k t.columns (slice_index (column_of' ++ left ∷ [])) (holder (slice_set row_of' left (Some (length column_of))))) (sym more) matching;
        potential = subst (λ k. IsPotential t.at k t.columns (slice_index (column_of' ++ left ∷ [])) (holder (slice_set row_of' left (Some (length column_of)))) (number value (us' ++ low ∷ [])) (number value vs')) (sym more) potential;
        wide = length-set row_of' left (Some (length column_of)) ∙ row_len ∙ wide;
        columns = vs_len ∙ vl;
        rows = length-append us' (low ∷ []) ∙ ap (λ k. k + 1) ul ∙ sym more;
      }
