-- Arcs between vertices, and the search by depth first for a path over them.
use Rattle.std.proofs.Common.{◌≡◌, ◌≢◌, ◌∙◌, inl, inr, sym, ap, subst, ◌<◌, ◌≤◌, ◌+◌, ◌-◌, ℕ, suc, pos, arith, List, [], ◌∷◌, ◌++◌, length, replicate, length-append}
use Rattle.std.specs.Prelude.{◌<ℤ◌, Some, slice_get, slice_index, slice_set}
use Rattle.std.proofs.lemmas.Bool.{cases_eq}
use Rattle.std.proofs.lemmas.List.{get_or-replicate, get_or-set_same, get_or-set_other, length-set, length-replicate}
use Rattle.pf_base.proofs.ListLemmas.{none_in, get_push}
use Rattle.pf_residual.specs.Networks.{Network}
use Rattle.pf_residual.specs.Internal.Levels.{AreLevels, IsTreePath, IsAdmissiblePath}
use Rattle.pf_residual.specs.Internal.CurrentArcs.{AreArcs, IsSinkPath, IsPartialPath, arcs_left, work_left}
use Rattle.pf_residual.proofs.LevelLemmas.{count_less}
use Rattle.pf_residual.proofs.PathLemmas.{only_source, path_of_tree}

-- no arc from any vertex
pub no_arcs : {n : ℕ} {targets : List (ℕ × ℕ)} {places ends : List ℕ} → targets ≡ [] → places ≡ replicate n 0 → ends ≡ replicate n 0 → AreArcs n targets places ends
no_arcs {n} {targets} {places} {ends} t p e = record {
  places_len = ap length p ∙ length-replicate n 0;
  ends_len = ap length e ∙ length-replicate n 0;
  inside = λ k arc h. absurd (none_in k arc (subst (λ (xs : List (ℕ × ℕ)). slice_get xs k ≡ Some arc) t h));
  within = λ a h. let z : slice_index ends a ≡ 0 = ap (λ xs. slice_index xs a) e ∙ get_or-replicate n a 0 0 h in omega (arith, z);
}

module _ {n : ℕ} {targets : List (ℕ × ℕ)} {places ends : List ℕ} (w : AreArcs n targets places ends) where
  -- the first place of a vertex is another
  pub placed : (from place : ℕ) → AreArcs n targets (slice_set places from place) ends
  placed from place = record {
    places_len = length-set places from place ∙ w.places_len;
    ends_len = w.ends_len;
    inside = w.inside;
    within = w.within;
  }

  -- a target more
  pub targeted : (arc : ℕ × ℕ) → arc.0 < n → AreArcs n (targets ++ arc ∷ []) places ends
  targeted arc i = record {
    places_len = w.places_len;
    ends_len = w.ends_len;
    inside = λ k x h. elim (get_push targets arc k x h) as (λ _. x.0 < n) [ inl e ↦ w.inside k x e | inr e ↦ subst (λ (y : ℕ × ℕ). y.0 < n) e.1 i ];
    within = λ a h. let b = w.within a h in let m = len_more in omega (arith, b, m);
  }
    where
      len_more : length (targets ++ arc ∷ []) ≡ suc (length targets)
      len_more = grind (arith, length-append)

  -- the end of the row of a vertex is another
  pub ended : (from end : ℕ) → from < n → end ≤ length targets → AreArcs n targets places (slice_set ends from end)
  ended from end i l = record {
    places_len = w.places_len;
    ends_len = length-set ends from end ∙ w.ends_len;
    inside = w.inside;
    within = λ a h. elim (cases_eq a from) as (λ _. slice_index (slice_set ends from end) a ≤ length targets) [
      | inl e ↦ (let z : slice_index (slice_set ends from end) a ≡ end = ap (slice_index (slice_set ends from end)) e ∙ get_or-set_same ends from end 0 (let m = w.ends_len in omega (arith, i, m)) in omega (arith, z, l))
      | inr e ↦ (let z : slice_index (slice_set ends from end) a ≡ slice_index ends a = get_or-set_other ends from a end 0 e in let b = w.within a h in omega (arith, z, b))
    ];
  }

  -- where an arc is retired, one less is left
  pub passed : (from : ℕ) → from < n → slice_index places from < slice_index ends from → suc (arcs_left n (slice_set places from (slice_index places from + 1)) ends) ≡ arcs_left n places ends
  passed from i l = count_less (λ a. slice_index ends a - slice_index places a) (λ a. slice_index ends a - slice_index (slice_set places from (slice_index places from + 1)) a) n from i
      (let z : slice_index (slice_set places from (slice_index places from + 1)) from ≡ slice_index places from + 1 = get_or-set_same places from (slice_index places from + 1) 0 (let m = w.places_len in omega (arith, i, m)) in omega (arith, z, l))
      (λ a h e. ap (λ p. slice_index ends a - p) (get_or-set_other places from a (slice_index places from + 1) 0 e))

-- the search begins at the source
pub path_begun : {N : Network} {levels : List ℕ} {targets : List (ℕ × ℕ)} {places ends : List ℕ} (path : List ℕ) → N.source < N.vertices → slice_index levels N.source ≡ 0 → 0 < slice_index levels N.sink → slice_index levels N.sink < N.vertices → length levels ≡ N.vertices → length path ≡ N.vertices → AreArcs N.vertices targets places ends → IsPartialPath N levels targets places ends (slice_set path 0 N.source) 0
path_begun {N} {levels} {targets} {places} {ends} path s z a r l m w = record {
  admissible = record {
    first = first;
    inside = λ k h. subst (λ v. v < N.vertices) (sym (at k h)) s;
    level = λ k h. ap (slice_index levels) (at k h) ∙ z ∙ sym (zero_of k h);
    left = λ k h. absurd (omega (arith, h));
  };
  arcs = w;
  ahead = λ k h. absurd (omega (arith, h));
  low = omega arith;
  last = λ e. absurd (omega (arith, e, a));
  reached = r;
  levels_len = l;
  path_len = length-set path 0 N.source ∙ m;
}
  where
    first : slice_index (slice_set path 0 N.source) 0 ≡ N.source
    first = get_or-set_same path 0 N.source 0 (omega (arith, m, s))

    zero_of : (k : ℕ) → k ≤ 0 → k ≡ 0
    zero_of k h = omega (arith, h)

    at : (k : ℕ) → k ≤ 0 → slice_index (slice_set path 0 N.source) k ≡ N.source
    at k h = ap (slice_index (slice_set path 0 N.source)) (zero_of k h) ∙ first

module _ {N : Network} {levels : List ℕ} {targets : List (ℕ × ℕ)} {places ends path : List ℕ} {depth : ℕ} (w : IsPartialPath N levels targets places ends path depth) where
  -- vertices at two places of the path are two
  apart : (j k : ℕ) → j ≤ depth → k ≤ depth → j ≢ k → slice_index path j ≢ slice_index path k
  apart j k h m n e = n (sym (w.admissible.level j h) ∙ ap (slice_index levels) e ∙ w.admissible.level k m)

  -- an arc is retired at a place of the path, which ends there
  module _ (from at : ℕ) (h : at ≤ depth) (l : at < slice_index levels N.sink) (e : from ≡ slice_index path at) (m : slice_index places from < slice_index ends from) where
    pub path_past : IsPartialPath N levels targets (slice_set places from (slice_index places from + 1)) ends path at
    path_past = record {
      admissible = record {
        first = w.admissible.first;
        inside = λ k g. w.admissible.inside k (omega (arith, g, h));
        level = λ k g. w.admissible.level k (omega (arith, g, h));
        left = λ k g. w.admissible.left k (omega (arith, g, h));
      };
      arcs = placed w.arcs from (slice_index places from + 1);
      ahead = λ k g.
          let z : slice_index (slice_set places from (slice_index places from + 1)) (slice_index path k) ≡ slice_index places (slice_index path k) = get_or-set_other places from (slice_index path k) (slice_index places from + 1) 0 (λ q. apart k at (omega (arith, g, h)) h (omega (arith, g)) (q ∙ e)) in
          let a = w.ahead k (omega (arith, g, h)) in
          omega (arith, z, a);
      low = omega (arith, l);
      last = λ q. absurd (omega (arith, q, l));
      reached = w.reached;
      levels_len = w.levels_len;
      path_len = w.path_len;
    }

    pub work_past : depth ≤ at + 1 → work_left N levels (slice_set places from (slice_index places from + 1)) ends at < work_left N levels places ends depth
    work_past k =
        let i : from < N.vertices = subst (λ v. v < N.vertices) (sym e) (w.admissible.inside at h) in
        let s = passed w.arcs from i m in
        let b = w.low in
        omega (arith, s, b, k, h, l)

    -- the same of the lists that are made so
    module _ {after : List (ℕ × ℕ)} {rows tops : List ℕ} (t : after ≡ targets) (p : rows ≡ slice_set places from (slice_index places from + 1)) (q : tops ≡ ends) where
      pub path_passed : IsPartialPath N levels after rows tops path at
      path_passed =
          subst (λ xs. IsPartialPath N levels xs rows tops path at) (sym t)
          (subst (λ xs. IsPartialPath N levels targets xs tops path at) (sym p)
          (subst (λ xs. IsPartialPath N levels targets (slice_set places from (slice_index places from + 1)) xs path at) (sym q) path_past))

      pub work_passed : depth ≤ at + 1 → work_left N levels rows tops at < work_left N levels places ends depth
      work_passed k =
          subst (λ xs. work_left N levels xs tops at < work_left N levels places ends depth) (sym p)
          (subst (λ xs. work_left N levels (slice_set places from (slice_index places from + 1)) xs at < work_left N levels places ends depth) (sym q) (work_past k))

  -- one level up
  module _ (to : ℕ) (i : to < N.vertices) (h : depth < slice_index levels N.sink) (e : slice_index levels to ≡ depth + 1) (r : pos 0 <ℤ N.residual (slice_index path depth) to) (z : depth + 1 ≡ slice_index levels N.sink → to ≡ N.sink) (m : slice_index places (slice_index path depth) < slice_index ends (slice_index path depth)) where
    abbrev up : List ℕ
    up = slice_set path (depth + 1) to

    top : slice_index up (depth + 1) ≡ to
    top = get_or-set_same path (depth + 1) to 0 (let b = w.reached in let l = w.path_len in omega (arith, h, b, l))

    below : (k : ℕ) → k ≤ depth → slice_index up k ≡ slice_index path k
    below k g = get_or-set_other path (depth + 1) k to 0 (λ q. omega (arith, q, g))

    or_top : (P : ℕ → ℕ → Type 0) → ((k : ℕ) → k ≤ depth → P k (slice_index path k)) → P (depth + 1) to → (k : ℕ) → k ≤ depth + 1 → P k (slice_index up k)
    or_top P low high k g = elim (cases_eq k (depth + 1)) as (λ _. P k (slice_index up k)) [
      | inl q ↦ subst (λ k. P k (slice_index up k)) (sym q) (subst (P (depth + 1)) (sym top) high)
      | inr q ↦ (let l : k ≤ depth = omega (arith, g, q) in subst (P k) (sym (below k l)) (low k l))
    ]

    pub path_advanced : IsPartialPath N levels targets places ends (slice_set path (depth + 1) to) (depth + 1)
    path_advanced = record {
      admissible = record {
        first = below 0 (omega arith) ∙ w.admissible.first;
        inside = or_top (λ k v. v < N.vertices) w.admissible.inside i;
        level = or_top (λ k v. slice_index levels v ≡ k) w.admissible.level e;
        left = λ k g. elim (cases_eq k depth) as (λ _. pos 0 <ℤ N.residual (slice_index up k) (slice_index up (k + 1))) [
          | inl q ↦ subst (λ k. pos 0 <ℤ N.residual (slice_index up k) (slice_index up (k + 1))) (sym q)
              (subst (λ v. pos 0 <ℤ N.residual v (slice_index up (depth + 1))) (sym (below depth (omega arith)))
              (subst (λ v. pos 0 <ℤ N.residual (slice_index path depth) v) (sym top) r))
          | inr q ↦ (let l : k < depth = omega (arith, g, q) in
              subst (λ v. pos 0 <ℤ N.residual v (slice_index up (k + 1))) (sym (below k (omega (arith, l))))
              (subst (λ v. pos 0 <ℤ N.residual (slice_index path k) v) (sym (below (k + 1) (omega (arith, l)))) (w.admissible.left k l)))
        ];
      };
      arcs = w.arcs;
      ahead = λ k g. subst (λ v. slice_index places v < slice_index ends v) (sym (below k (omega (arith, g)))) (elim (cases_eq k depth) as (λ _. slice_index places (slice_index path k) < slice_index ends (slice_index path k)) [
        | inl q ↦ subst (λ k. slice_index places (slice_index path k) < slice_index ends (slice_index path k)) (sym q) m
        | inr q ↦ w.ahead k (omega (arith, g, q))
      ]);
      low = omega (arith, h);
      last = λ q. top ∙ z q;
      reached = w.reached;
      levels_len = w.levels_len;
      path_len = length-set path (depth + 1) to ∙ w.path_len;
    }

  -- the path that was found
  pub path_found : slice_index levels N.sink ≤ depth → IsSinkPath N (slice_index levels) path
  path_found h =
      let e : depth ≡ slice_index levels N.sink = (let l = w.low in omega (arith, h, l)) in
      record {
        admissible = subst (IsAdmissiblePath N (slice_index levels) path) e w.admissible;
        last = subst (λ k. slice_index path k ≡ N.sink) e (w.last e);
      }

-- a sink that is not the source is above it
pub sink_above : {N : Network} {d parent : ℕ → ℕ} → AreLevels N d parent → d N.sink < N.vertices → N.sink < N.vertices → N.source ≢ N.sink → 0 < d N.sink
sink_above {N} {d} w r i n = elim (cases_eq (d N.sink) 0) as (λ _. 0 < d N.sink) [
  | inl e ↦ absurd (n (sym (only_source w.parents N.sink i r e)))
  | inr e ↦ omega (arith, e)
]

-- the path by which the sink was reached
pub sink_path : {N : Network} {levels parents path : List ℕ} → AreLevels N (slice_index levels) (slice_index parents) → slice_index levels N.sink < N.vertices → length levels ≡ N.vertices → length parents ≡ N.vertices → (to : ℕ) → to ≡ N.sink → IsTreePath levels parents to path 0 → IsSinkPath N (slice_index levels) path
sink_path {N} {levels} {parents} {path} w r l p to e t =
    let s = subst (λ v. IsTreePath levels parents v path 0) e t in
    record { admissible = path_of_tree w l p N.sink r s; last = s.last }
