-- Paths from the source.
use Rattle.std.proofs.Common.{◌≡◌, ◌≢◌, ◌∙◌, inl, inr, sym, ap, subst, ◌<◌, ◌≤◌, ◌+◌, ◌-◌, ℕ, zero, suc, pos, arith, List, length, take, length-take}
use Rattle.std.specs.Prelude.{◌<ℤ◌, slice_index}
use Rattle.std.proofs.lemmas.Bool.{cases_eq}
use Rattle.std.proofs.lemmas.List.{get_or-take}
use Rattle.pf_residual.specs.Networks.{Network}
use Rattle.pf_residual.specs.Internal.AugmentingPaths.{IsAugmentingPath, IsLevelPath, IsLabelling}
use Rattle.pf_residual.specs.Internal.Levels.{HasParents, AreLevels, IsTree, IsTreePath, IsAdmissiblePath}

-- only the source is at level 0
pub only_source : {N : Network} {d parent : ℕ → ℕ} → HasParents N d parent → (a : ℕ) → a < N.vertices → d a < N.vertices → d a ≡ 0 → a ≡ N.source
only_source {N} w a i r e = elim (cases_eq a N.source) as (λ _. a ≡ N.source) [ inl f ↦ f | inr f ↦ absurd (let b = w.below a i r f in omega (arith, b, e)) ]

not_source : {N : Network} {d parent : ℕ → ℕ} → AreLevels N d parent → (a : ℕ) → 0 < d a → a ≢ N.source
not_source {d = d} w a l e = let f = ap d e in let g = w.labelling.start in omega (arith, f, g, l)

module _ {N : Network} {levels parents : List ℕ} (w : AreLevels N (slice_index levels) (slice_index parents)) (len : length levels ≡ N.vertices) (wide : length parents ≡ N.vertices) where
  pub tree_of : IsTree levels parents
  tree_of = record {
    len = wide ∙ sym len;
    inside = λ a i l r. let k = w.parents.inside a (omega (arith, i, len)) (omega (arith, r, len)) (not_source w a l) in omega (arith, k, len);
    below = λ a i l r. w.parents.below a (omega (arith, i, len)) (omega (arith, r, len)) (not_source w a l);
  }

  -- the path to a vertex that was reached
  pub path_of_tree : {path : List ℕ} (to : ℕ) → slice_index levels to < N.vertices → IsTreePath levels parents to path 0 → IsAdmissiblePath N (slice_index levels) path (slice_index levels to)
  path_of_tree {path} to r p = record {
    first = only_source w.parents (slice_index path 0) (let i = p.inside 0 (omega arith) (omega arith) in omega (arith, i, len)) (let e = p.level 0 (omega arith) (omega arith) in omega (arith, e, r)) (p.level 0 (omega arith) (omega arith));
    inside = λ k h. let i = p.inside k (omega arith) h in omega (arith, i, len);
    level = λ k h. p.level k (omega arith) h;
    left = λ k h.
        let e = p.level (k + 1) (omega arith) (omega (arith, h)) in
        let i = p.inside (k + 1) (omega arith) (omega (arith, h)) in
        subst (λ v. pos 0 <ℤ N.residual v (slice_index path (k + 1))) (sym (p.before k (omega arith) h))
        (w.parents.left (slice_index path (k + 1)) (omega (arith, i, len)) (omega (arith, e, h, r)) (not_source w (slice_index path (k + 1)) (omega (arith, e))));
  }

module _ {N : Network} {d : ℕ → ℕ} {path : List ℕ} {depth : ℕ} (w : IsAdmissiblePath N d path depth) (wide : depth < length path) where
  front_len : length (take (depth + 1) path) ≡ depth + 1
  front_len = grind (arith, length-take)

  front_at : (k : ℕ) → k ≤ depth → slice_index (take (depth + 1) path) k ≡ slice_index path k
  front_at k h = get_or-take (depth + 1) path k 0 (omega (arith, h))

  pub level_path : IsLevelPath d (take (depth + 1) path)
  level_path = record {
    up = λ k h.
        let l = front_len in
        let e = w.level k (omega (arith, h, l)) in
        let f = w.level (k + 1) (omega (arith, h, l)) in
        let g = ap d (front_at k (omega (arith, h, l))) in
        let i = ap d (front_at (k + 1) (omega (arith, h, l))) in
        omega (arith, e, f, g, i);
  }

  pub augmenting_path : slice_index path depth ≡ N.sink → N.source ≢ N.sink → IsAugmentingPath N (take (depth + 1) path)
  augmenting_path last apart =
      let l = front_len in
      let up : 0 < depth = elim (cases_eq depth 0) as (λ _. 0 < depth) [ inl e ↦ absurd (apart (sym w.first ∙ ap (slice_index path) (sym e) ∙ last)) | inr e ↦ omega (arith, e) ] in
      record {
        long = omega (arith, l, up);
        first = front_at 0 (omega arith) ∙ w.first;
        last = ap (slice_index (take (depth + 1) path)) (let e : length (take (depth + 1) path) - 1 ≡ depth = omega (arith, l) in e) ∙ front_at depth (omega arith) ∙ last;
        inside = λ k h. subst (λ v. v < N.vertices) (sym (front_at k (omega (arith, h, l)))) (w.inside k (omega (arith, h, l)));
        once = λ j k h m e. sym (w.level j (omega (arith, h, l))) ∙ ap d (sym (front_at j (omega (arith, h, l))) ∙ e ∙ front_at k (omega (arith, m, l))) ∙ w.level k (omega (arith, m, l));
        left = λ k h. subst (λ v. pos 0 <ℤ N.residual v (slice_index (take (depth + 1) path) (k + 1))) (sym (front_at k (omega (arith, h, l))))
            (subst (λ v. pos 0 <ℤ N.residual (slice_index path k) v) (sym (front_at (k + 1) (omega (arith, h, l)))) (w.left k (omega (arith, h, l))));
      }

-- levels that are found anew are nowhere below a labelling
pub levels_least : {N : Network} {d e parent : ℕ → ℕ} → IsLabelling N.vertices N.source N.residual d → AreLevels N e parent → (a : ℕ) → a < N.vertices → d a ≤ e a
levels_least {N} {d} {e} {parent} w v a i = elim (cases_eq (e a) N.vertices) as (λ _. d a ≤ e a) [
  | inl q ↦ (let t = w.top a i in omega (arith, q, t))
  | inr q ↦ (let t = v.labelling.top a i in up_to (suc (e a)) a i (omega (arith, q, t)) (omega arith))
]
  where
    up_to : (n a : ℕ) → a < N.vertices → e a < N.vertices → e a < n → d a ≤ e a
    up_to zero a i r l = absurd (omega (arith, l))
    up_to (suc n) a i r l = elim (cases_eq a N.source) as (λ _. d a ≤ e a) [
      | inl q ↦ (let f = ap d q in let s = w.start in omega (arith, f, s))
      | inr q ↦ (let b = v.parents.below a i r q in
          let j = v.parents.inside a i r q in
          let u = up_to n (parent a) j (omega (arith, b, r)) (omega (arith, b, l)) in
          let s = w.step (parent a) a j i (v.parents.left a i r q) in
          omega (arith, b, u, s))
    ]
