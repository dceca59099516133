-- How the tree of shortest augmenting paths begins and grows.
use Rattle.std.proofs.Common.{List, length, ◌++◌, ◌∷◌, [], ℕ, zero, suc, ◌+◌, ◌<◌, ◌≤◌, ◌≡◌, ◌≢◌, refl, sym, ◌∙◌, ap, subst, arith, Bool, true, false, inl, inr, ℤ, Option, Some, true≢false}
use Rattle.std.specs.Prelude.{◌⊎◌, ◌≤ℤ◌, ◌<ℤ◌, ◌+ℤ◌, ◌-ℤ◌, pos, neg_ℤ, slice_index, slice_set}
use Rattle.std.proofs.lemmas.Int.{ints}
use Rattle.std.proofs.lemmas.Bool.{cases_eq, cases_Bool}
use Rattle.std.proofs.lemmas.List.{get_or-set_same, get_or-set_other, get_or_push, get_or_append_left, length-append}
use Rattle.pf_base.specs.Places.{number}
use Rattle.pf_assignment.specs.Assignments.{NumberTable}
use Rattle.pf_assignment.specs.Internal.AssignmentSteps.{holder, flag, IsMatched, IsTreeOf, IsMatching, IsPotential, IsShortestPathTree, IsNearest, IsRelaxed, IsScanned, IsFresh, reach}
use Rattle.pf_assignment.proofs.MatchingCount.{injective_le}
use Rattle.pf_assignment.proofs.MatchingNumbers.{below_or_last, number-past}

pub reach-positive : (d : ℕ → ℤ) (col rows : ℕ → ℕ) (p : ℕ) → 0 < p → reach d col rows p ≡ d (col (rows p))
reach-positive d col rows zero h = absurd (omega (arith, h))
reach-positive d col rows (suc p) h = refl

no_flag : {P : Type 0} (b : Bool) → b ≡ true → b ≡ false → P
no_flag b h g = absurd (true≢false (sym h ∙ g))

-- what was relaxed is not farther
pub relaxed_less : (b : Bool) (through : ℤ) (by : ℕ) (d : ℤ) (p : ℕ) (d' : ℤ) (p' : ℕ) → IsRelaxed b through by d p d' p' → d' ≤ℤ d
relaxed_less b through by d p d' p' (inl h) = let e : d' ≡ d = h.0 in omega (arith, ints)
relaxed_less b through by d p d' p' (inr h) = let e : d' ≡ through = h.0 in let l : through <ℤ d = h.3 in omega (arith, ints)

-- what was visited stays
pub relaxed_kept : (b : Bool) (through : ℤ) (by : ℕ) (d : ℤ) (p : ℕ) (d' : ℤ) (p' : ℕ) → b ≡ true → IsRelaxed b through by d p d' p' → (d' ≡ d) × (p' ≡ p)
relaxed_kept b through by d p d' p' t (inl h) = (h.0, h.1)
relaxed_kept b through by d p d' p' t (inr h) = no_flag b t h.2

-- what was not visited is at most as far as over the row
pub relaxed_within : (b : Bool) (through : ℤ) (by : ℕ) (d : ℤ) (p : ℕ) (d' : ℤ) (p' : ℕ) → b ≡ false → IsRelaxed b through by d p d' p' → d' ≤ℤ through
relaxed_within b through by d p d' p' f (inl (h0, h1, inl t)) = no_flag b t f
relaxed_within b through by d p d' p' f (inl (h0, h1, inr l)) = omega (arith, ints, h0, l)
relaxed_within b through by d p d' p' f (inr h) = let e : d' ≡ through = h.0 in omega (arith, ints)

-- a number below both is below what was relaxed
pub relaxed_above : (z : ℤ) (b : Bool) (through : ℤ) (by : ℕ) (d : ℤ) (p : ℕ) (d' : ℤ) (p' : ℕ) → z ≤ℤ d → (b ≡ false → z ≤ℤ through) → IsRelaxed b through by d p d' p' → z ≤ℤ d'
relaxed_above z b through by d p d' p' l m (inl h) = let e : d' ≡ d = h.0 in omega (arith, ints)
relaxed_above z b through by d p d' p' l m (inr h) = let e : d' ≡ through = h.0 in let k : z ≤ℤ through = m h.2 in omega (arith, ints)

module _ (a : ℕ → ℕ → ℤ) (n columns : ℕ) (col : ℕ → ℕ) (held : ℕ → Option ℕ) (u v : ℕ → ℤ) (matching : IsMatching n columns col held) (potential : IsPotential a n columns col held u v) where
  -- the tree of the root alone
  module _ (rows : ℕ → ℕ) (first : rows 0 ≡ n) (root : u n ≡ pos 0) (top offset : ℤ) (none : offset ≡ pos 0) (far : (j : ℕ) → j < columns → (offset +ℤ v j -ℤ a n j) ≤ℤ top) (visited : ℕ → Bool) (d d' : ℕ → ℤ) (place place' : ℕ → ℕ) (fresh : IsFresh top columns visited d place) (scanned : IsScanned a columns n 0 offset v visited d place d' place') where
    exact : (j : ℕ) → j < columns → (d' j ≡ offset +ℤ v j -ℤ a n j) × (place' j ≡ 0)
    exact j h = by (scanned.relaxed j h)
      where
        by : IsRelaxed (visited j) (offset +ℤ v j -ℤ a n j) 0 (d j) (place j) (d' j) (place' j) → (d' j ≡ offset +ℤ v j -ℤ a n j) × (place' j ≡ 0)
        by (inl (e, p, inl t)) = no_flag (visited j) t (fresh.unvisited j)
        by (inl (e, p, inr l)) =
            let f = far j h in
            let t = fresh.far j h in
            (omega (arith, ints, e, l, f, t), p ∙ fresh.root j h)
        by (inr (e, p, f, l)) = (e, p)

    only : (p : ℕ) → p < 1 → p ≡ 0
    only p h = omega arith

    pub tree_begins : IsShortestPathTree a n columns col held u v 1 rows visited d' place'
    tree_begins = record {
      rooted = omega arith;
      first = first;
      row = λ p h g. absurd (omega (arith, h, g));
      once = λ p q h g e. only p h ∙ sym (only q g);
      reached = λ i h t. no_flag (visited (col i)) t (fresh.unvisited (col i));
      matched = λ j t. no_flag (visited j) t (fresh.unvisited j);
      below = λ p j h g.
          let e = (exact j g).0 in
          let z : p ≡ 0 = only p h in
          subst (λ (q : ℕ). (d' j +ℤ a (rows q) j) ≤ℤ (reach d' col rows q +ℤ u (rows q) +ℤ v j)) (sym z)
          (subst (λ (r : ℕ). (d' j +ℤ a r j) ≤ℤ (pos 0 +ℤ u r +ℤ v j)) (sym first) (omega (arith, ints, e, none, root)));
      along = λ j g.
          let e = (exact j g).0 in
          let z = (exact j g).1 in (
            let l : place' j < 1 = omega (arith, z) in l,
            subst (λ (q : ℕ). d' j +ℤ a (rows q) j ≡ reach d' col rows q +ℤ u (rows q) +ℤ v j) (sym z)
                (subst (λ (r : ℕ). d' j +ℤ a r j ≡ pos 0 +ℤ u r +ℤ v j) (sym first) (omega (arith, ints, e, none, root))),
          );
      before = λ p h g. absurd (omega (arith, h, g));
      near = λ i j h g t f. no_flag (visited i) t (fresh.unvisited i);
      low = λ w bound j g.
          let e = (exact j g).0 in
          let b = bound j g in
          let z = potential.non_negative j g in
          omega (arith, ints, e, b, z, none);
    }

  -- one more row
  module _ (count : ℕ) (rows rows' : ℕ → ℕ) (visited visited' : ℕ → Bool) (d d' : ℕ → ℤ) (place place' : ℕ → ℕ) (tree : IsShortestPathTree a n columns col held u v count rows visited d place) (c i : ℕ) (nearest : IsNearest columns visited d c) (has : held c ≡ Some i) (offset : ℤ) (sum : offset ≡ d c +ℤ u i) (new : visited' c ≡ true) (old : (j : ℕ) → j ≢ c → visited' j ≡ visited j) (last : rows' count ≡ i) (stay : (p : ℕ) → p < count → rows' p ≡ rows p) (scanned : IsScanned a columns i count offset v visited' d place d' place') where
    own : (i < n) × (col i ≡ c)
    own = matching.from i c has

    visited_one : (j : ℕ) → visited' j ≡ true → (j ≡ c) ⊎ (visited j ≡ true)
    visited_one j t = elim (cases_eq j c) as (λ _. (j ≡ c) ⊎ (visited j ≡ true)) [ inl e ↦ inl e | inr e ↦ inr (sym (old j e) ∙ t) ]

    visited_more : (j : ℕ) → visited j ≡ true → visited' j ≡ true
    visited_more j t = elim (cases_eq j c) as (λ _. visited' j ≡ true) [ inl e ↦ subst (λ k. visited' k ≡ true) (sym e) new | inr e ↦ old j e ∙ t ]

    outside_one : (j : ℕ) → visited' j ≡ false → visited j ≡ false
    outside_one j f = elim (cases_Bool (visited j)) as (λ _. visited j ≡ false) [ inl t ↦ no_flag (visited' j) (visited_more j t) f | inr g ↦ g ]

    kept : (j : ℕ) → j < columns → visited' j ≡ true → (d' j ≡ d j) × (place' j ≡ place j)
    kept j h t = relaxed_kept (visited' j) _ _ _ _ _ _ t (scanned.relaxed j h)

    -- the columns that were visited are no farther than c
    within : (j : ℕ) → j < columns → visited' j ≡ true → d j ≤ℤ d c
    within j h t = elim (visited_one j t) as (λ _. d j ≤ℤ d c) [
      | inl e ↦ subst (λ k. d k ≤ℤ d c) (sym e) (omega (arith, ints))
      | inr g ↦ tree.near j c h nearest.inside g nearest.outside
    ]

    -- a path over row i is no shorter than that to c
    beyond : (j : ℕ) → j < columns → d c ≤ℤ (offset +ℤ v j -ℤ a i j)
    beyond j h = let b = potential.above i j own.0 h in omega (arith, ints, b, sum)

    inner : (p : ℕ) → 0 < p → p < count → (col (rows p) < columns) × (visited' (col (rows p)) ≡ true)
    inner p h g = (matching.inside (rows p) (tree.row p h g).0, visited_more (col (rows p)) (tree.row p h g).1)

    same_reach : (p : ℕ) → p < count → reach d' col rows' p ≡ reach d col rows p
    same_reach zero h = refl
    same_reach (suc p) h =
        ap (λ r. d' (col r)) (stay (suc p) h) ∙ (let k = inner (suc p) (omega arith) h in (kept (col (rows (suc p))) k.0 k.1).0)

    last_reach : reach d' col rows' count ≡ d c
    last_reach =
        reach-positive d' col rows' count tree.rooted ∙ ap (λ r. d' (col r)) last ∙ ap d' own.1 ∙ (kept c nearest.inside new).0

    fewer : (p : ℕ) → p < count → rows p ≡ i → ⊥
    fewer zero h e = omega (arith, own.0, tree.first, e)
    fewer (suc p) h e =
        let t = (tree.row (suc p) (omega arith) h).1 in
        no_flag (visited c) (subst (λ k. visited k ≡ true) (ap col e ∙ own.1) t) nearest.outside

    pub tree_grows : IsShortestPathTree a n columns col held u v (count + 1) rows' visited' d' place'
    tree_grows = record {
      rooted = omega arith;
      first = stay 0 tree.rooted ∙ tree.first;
      row = λ p h g. elim (below_or_last p count g) as (λ _. (rows' p < n) × (visited' (col (rows' p)) ≡ true)) [
        | inl l ↦ subst (λ (r : ℕ). (r < n) × (visited' (col r) ≡ true)) (sym (stay p l)) ((tree.row p h l).0, (inner p h l).1)
        | inr e ↦ subst (λ (r : ℕ). (r < n) × (visited' (col r) ≡ true)) (sym (ap rows' e ∙ last)) (own.0, ap visited' own.1 ∙ new)
      ];
      once = λ p q h g e. elim (below_or_last p count h) as (λ _. p ≡ q) [
        | inl l ↦ elim (below_or_last q count g) as (λ _. p ≡ q) [
          | inl k ↦ tree.once p q l k (sym (stay p l) ∙ e ∙ stay q k)
          | inr k ↦ absurd (fewer p l (sym (stay p l) ∙ e ∙ ap rows' k ∙ last))
        ]
        | inr l ↦ elim (below_or_last q count g) as (λ _. p ≡ q) [
          | inl k ↦ absurd (fewer q k (sym (stay q k) ∙ sym e ∙ ap rows' l ∙ last))
          | inr k ↦ l ∙ sym k
        ]
      ];
      reached = λ k h t. elim (visited_one (col k) t) as (λ _. (p : ℕ) × (0 < p) × (p < count + 1) × (rows' p ≡ k)) [
        | inl e ↦ (
          count,
          tree.rooted,
          let l : count < count + 1 = omega arith in l,
          last ∙ (let both : Some i ≡ Some k = sym has ∙ ap held (sym e) ∙ matching.back k h in let r : i ≡ k = cc in r),
        )
        | inr g ↦ (let r = tree.reached k h g in (r.0, r.1, (let l = r.2 in let m : r.0 < count + 1 = omega arith in m), stay r.0 r.2 ∙ r.3))
      ];
      matched = λ j t. elim (visited_one j t) as (λ _. (k : ℕ) × (held j ≡ Some k)) [ inl e ↦ (i, ap held e ∙ has) | inr g ↦ tree.matched j g ];
      below = λ p j h g. elim (below_or_last p count h) as (λ _. (d' j +ℤ a (rows' p) j) ≤ℤ (reach d' col rows' p +ℤ u (rows' p) +ℤ v j)) [
        | inl l ↦ subst (λ (r : ℕ). (d' j +ℤ a r j) ≤ℤ (reach d' col rows' p +ℤ u r +ℤ v j)) (sym (stay p l))
            (subst (λ (z : ℤ). (d' j +ℤ a (rows p) j) ≤ℤ (z +ℤ u (rows p) +ℤ v j)) (sym (same_reach p l))
            (let b = tree.below p j l g in let k = relaxed_less (visited' j) _ _ _ _ _ _ (scanned.relaxed j g) in omega (arith, ints, b, k)))
        | inr l ↦ subst (λ (q : ℕ). (d' j +ℤ a (rows' q) j) ≤ℤ (reach d' col rows' q +ℤ u (rows' q) +ℤ v j)) (sym l)
            (subst (λ (r : ℕ). (d' j +ℤ a r j) ≤ℤ (reach d' col rows' count +ℤ u r +ℤ v j)) (sym last)
            (subst (λ (z : ℤ). (d' j +ℤ a i j) ≤ℤ (z +ℤ u i +ℤ v j)) (sym last_reach) (newest j g)))
      ];
      along = λ j g. follow j g (scanned.relaxed j g);
      before = λ p h g. elim (below_or_last p count g) as (λ _. place' (col (rows' p)) < p) [
        | inl l ↦ subst (λ (r : ℕ). place' (col r) < p) (sym (stay p l)) (let k = inner p h l in subst (λ (q : ℕ). q < p) (sym (kept (col (rows p)) k.0 k.1).1) (tree.before p h l))
        | inr e ↦ subst (λ (q : ℕ). place' (col (rows' q)) < q) (sym e) (subst (λ (r : ℕ). place' r < count) (sym (ap col last ∙ own.1)) (subst (λ (q : ℕ). q < count) (sym (kept c nearest.inside new).1) (tree.along c nearest.inside).0))
      ];
      near = λ j k h g t f.
          let e = (kept j h t).0 in
          let l = within j h t in
          let m = relaxed_above (d c) (visited' k) _ _ _ _ _ _ (nearest.least k g (outside_one k f)) (λ _. beyond k g) (scanned.relaxed k g) in
          omega (arith, ints, e, l, m);
      low = λ w bound j g.
          let l = tree.low w bound c nearest.inside in
          let m = beyond j g in
          relaxed_above (neg_ℤ (pos w)) (visited' j) _ _ _ _ _ _ (tree.low w bound j g) (λ _. omega (arith, ints, l, m)) (scanned.relaxed j g);
    }
      where
        newest : (j : ℕ) → j < columns → (d' j +ℤ a i j) ≤ℤ (d c +ℤ u i +ℤ v j)
        newest j g = elim (cases_Bool (visited' j)) as (λ _. (d' j +ℤ a i j) ≤ℤ (d c +ℤ u i +ℤ v j)) [
          | inl t ↦ (
              let e = (kept j g t).0 in
              let l = within j g t in
              let b = potential.above i j own.0 g in
              omega (arith, ints, e, l, b)
              )
          | inr f ↦ (let l = relaxed_within (visited' j) _ _ _ _ _ _ f (scanned.relaxed j g) in omega (arith, ints, l, sum))
        ]

        follow : (j : ℕ) → j < columns → IsRelaxed (visited' j) (offset +ℤ v j -ℤ a i j) count (d j) (place j) (d' j) (place' j) → (place' j < count + 1) × (d' j +ℤ a (rows' (place' j)) j ≡ reach d' col rows' (place' j) +ℤ u (rows' (place' j)) +ℤ v j)
        follow j g (inl (e, p, o)) =
            let k = tree.along j g in
            let l = k.0 in
            let m = k.1 in
            subst (λ (q : ℕ). (q < count + 1) × (d' j +ℤ a (rows' q) j ≡ reach d' col rows' q +ℤ u (rows' q) +ℤ v j)) (sym p) (
              (let less : place j < count + 1 = omega (arith, l) in less),
              subst (λ (r : ℕ). d' j +ℤ a r j ≡ reach d' col rows' (place j) +ℤ u r +ℤ v j) (sym (stay (place j) l))
                  (subst (λ (z : ℤ). d' j +ℤ a (rows (place j)) j ≡ z +ℤ u (rows (place j)) +ℤ v j) (sym (same_reach (place j) l))
                  (subst (λ (z : ℤ). z +ℤ a (rows (place j)) j ≡ reach d col rows (place j) +ℤ u (rows (place j)) +ℤ v j) (sym e) m)),
            )
        follow j g (inr (e, p, f, l)) =
            subst (λ (q : ℕ). (q < count + 1) × (d' j +ℤ a (rows' q) j ≡ reach d' col rows' q +ℤ u (rows' q) +ℤ v j)) (sym p) (
              (let less : count < count + 1 = omega arith in less),
              subst (λ (r : ℕ). d' j +ℤ a r j ≡ reach d' col rows' count +ℤ u r +ℤ v j) (sym last)
                  (subst (λ (z : ℤ). d' j +ℤ a i j ≡ z +ℤ u i +ℤ v j) (sym last_reach) (omega (arith, ints, e, sum))),
            )

module _ {C : Type 0} {value : C → ℤ} {t : NumberTable} {column_of : List ℕ} {row_of : List (Option ℕ)} {us vs : List C} (matched : IsMatched value t column_of row_of us vs) where
  -- the tree of the root alone, as lists
  pub tree_of_root : (rows : List ℕ) → rows ≡ length column_of ∷ [] → (top offset : ℤ) → offset ≡ pos 0 → ((j : ℕ) → j < t.columns → (offset +ℤ number value vs j -ℤ t.at (length column_of) j) ≤ℤ top) → (visited : List Bool) (ds ds' : List C) (places places' : List ℕ) → IsFresh top t.columns (flag visited) (number value ds) (slice_index places) → IsScanned t.at t.columns (length column_of) 0 offset (number value vs) (flag visited) (number value ds) (slice_index places) (number value ds') (slice_index places') → length visited ≡ t.columns → length ds' ≡ t.columns → length places' ≡ t.columns → IsTreeOf value t column_of row_of us vs rows visited ds' places'
  tree_of_root rows e top offset none far visited ds ds' places places' fresh scanned l m k =
      subst (λ xs. IsTreeOf value t column_of row_of us vs xs visited ds' places') (sym e) (record {
        tree = tree_begins t.at (length column_of) t.columns (slice_index column_of) (holder row_of) (number value us) (number value vs) matched.matching matched.potential (slice_index (length column_of ∷ [])) refl (number-past value us (length column_of) matched.rows) top offset none far (flag visited) (number value ds) (number value ds') (slice_index places) (slice_index places') fresh scanned;
        visited_len = l;
        distances_len = m;
        places_len = k;
      })

  -- one more row, as lists
  pub tree_of_more : (rows : List ℕ) (visited : List Bool) (ds : List C) (places : List ℕ) → IsTreeOf value t column_of row_of us vs rows visited ds places → (c i : ℕ) → IsNearest t.columns (flag visited) (number value ds) c → holder row_of c ≡ Some i → (offset : ℤ) → offset ≡ number value ds c +ℤ number value us i → (rows' : List ℕ) → rows' ≡ rows ++ i ∷ [] → (ds' : List C) (places' : List ℕ) → IsScanned t.at t.columns i (length rows) offset (number value vs) (flag (slice_set visited c true)) (number value ds) (slice_index places) (number value ds') (slice_index places') → length (slice_set visited c true) ≡ t.columns → length ds' ≡ t.columns → length places' ≡ t.columns → IsTreeOf value t column_of row_of us vs rows' (slice_set visited c true) ds' places'
  tree_of_more rows visited ds places tree c i nearest has offset sum rows' e ds' places' scanned l m k =
      subst (λ xs. IsTreeOf value t column_of row_of us vs xs (slice_set visited c true) ds' places') (sym e) (record {
        tree = subst (λ n. IsShortestPathTree t.at (length column_of) t.columns (slice_index column_of) (holder row_of) (number value us) (number value vs) n (slice_index (rows ++ i ∷ [])) (flag (slice_set visited c true)) (number value ds') (slice_index places')) (sym (length-append rows (i ∷ [])))
            (tree_grows t.at (length column_of) t.columns (slice_index column_of) (holder row_of) (number value us) (number value vs) matched.matching matched.potential (length rows) (slice_index rows) (slice_index (rows ++ i ∷ [])) (flag visited) (flag (slice_set visited c true)) (number value ds) (number value ds') (slice_index places) (slice_index places') tree.tree c i nearest has offset sum
            (get_or-set_same visited c true false (let h = nearest.inside in let g = tree.visited_len in omega (arith, h, g)))
            (λ j d. get_or-set_other visited c j true false d)
            (get_or_push rows i 0 (length rows) refl)
            (λ p h. get_or_append_left rows (i ∷ []) 0 p h)
            scanned);
        visited_len = l;
        distances_len = m;
        places_len = k;
      })

  -- a tree has at most the root and the rows that are matched
  pub tree_count : {rows : List ℕ} {visited : List Bool} {ds : List C} {places : List ℕ} → IsTreeOf value t column_of row_of us vs rows visited ds places → length rows ≤ length column_of + 1
  tree_count {rows} tree = injective_le (length column_of + 1) (length rows) (slice_index rows) below tree.tree.once
    where
      below : (p : ℕ) → p < length rows → slice_index rows p < length column_of + 1
      below zero h = let f = tree.tree.first in omega (arith, f)
      below (suc p) h = let r = (tree.tree.row (suc p) (omega arith) h).0 in omega (arith, r)
