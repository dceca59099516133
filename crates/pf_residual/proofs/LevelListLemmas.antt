-- The lists of a search by breadth first.
use Rattle.std.proofs.Common.{length-append, ◌≡◌, ◌≢◌, ◌∙◌, inl, inr, refl, sym, ap, subst, ◌<◌, ◌≤◌, ◌+◌, ℕ, zero, suc, pos, arith, List, [], ◌∷◌, ◌++◌, length, replicate, nat_eq}
use Rattle.std.specs.Prelude.{◌<ℤ◌, slice_index, slice_set}
use Rattle.std.proofs.lemmas.Bool.{cases_eq}
use Rattle.std.proofs.lemmas.List.{get_or-replicate, get_or-set_same, get_or-set_other, length-set}
use Rattle.std.proofs.Math.ListN.{get_or-append}
use Rattle.std.proofs.Math.Seq.{get_or-append_seam}
use Rattle.pf_residual.specs.Flows.{count_to}
use Rattle.pf_residual.specs.Networks.{Network}
use Rattle.pf_residual.specs.Internal.Levels.{IsSearch, HasFound}
use Rattle.pf_residual.proofs.LevelLemmas.{count_less, one_if, mark_true, mark_false, search_more, level_kept, level_followed, next_level, search_next}

all_ones : (n : ℕ) → count_to (λ a. 1) n ≡ n
all_ones zero = refl
all_ones (suc n) = let e = all_ones n in omega (arith, e)

-- only the source is reached
pub search_begun : (N : Network) (d parent queue : ℕ → ℕ) → N.source < N.vertices → d N.source ≡ 0 → ((a : ℕ) → a < N.vertices → a ≢ N.source → d a ≡ N.vertices) → queue 0 ≡ N.source → IsSearch N d parent queue 1 0
search_begun N d parent queue s here other first = record {
  start = here;
  top = λ a l. elim (cases_eq a N.source) as (λ _. d a ≤ N.vertices) [ inl e ↦ (let f = ap d e in omega (arith, f, here)) | inr e ↦ (let f = other a l e in omega (arith, f)) ];
  parents = record {
    inside = λ a l h n. absurd (let f = other a l n in omega (arith, f, h));
    below = λ a l h n. absurd (let f = other a l n in omega (arith, f, h));
    left = λ a l h n. absurd (let f = other a l n in omega (arith, f, h));
  };
  count =
      let e = count_less (λ a. 1) (λ a. one_if (nat_eq (d a) N.vertices)) N.vertices N.source s (ap suc (mark_false (d N.source) N.vertices (λ e. omega (arith, e, here, s)))) (λ a l n. mark_true (d a) N.vertices (other a l n)) in
      let f = all_ones N.vertices in
      omega (arith, e, f);
  inside = λ j h. subst (λ q. q < N.vertices) (sym (ap queue (zero_of j h) ∙ first)) s;
  place = λ j h. let e = level j h in omega (arith, e);
  queued = λ a l h. elim (cases_eq a N.source) as (λ _. (j : ℕ) × (j < 1) × (queue j ≡ a)) [ inl e ↦ (0, omega arith, first ∙ sym e) | inr e ↦ absurd (let f = other a l e in omega (arith, f, h)) ];
  rising = λ i j h k. let e = level i (omega (arith, h, k)) in omega (arith, e);
  near = λ i j h k l. let e = level j l in omega (arith, e);
  followed = λ j b h. absurd (omega (arith, h));
}
  where
    zero_of : (j : ℕ) → j < 1 → j ≡ 0
    zero_of j h = omega (arith, h)

    level : (j : ℕ) → j < 1 → d (queue j) ≡ 0
    level j h = ap d (ap queue (zero_of j h) ∙ first) ∙ here

pub found_begun : (N : Network) (levels parents queue : List ℕ) → N.source < N.vertices → levels ≡ slice_set (replicate N.vertices N.vertices) N.source 0 → length levels ≡ N.vertices → length parents ≡ N.vertices → queue ≡ N.source ∷ [] → HasFound N levels parents queue 0
found_begun N levels parents queue s e k l q = record {
  search = subst (λ m. IsSearch N (slice_index levels) (slice_index parents) (slice_index queue) m 0) (sym (ap length q))
      (search_begun N (slice_index levels) (slice_index parents) (slice_index queue) s
      (ap (λ xs. slice_index xs N.source) e ∙ get_or-set_same (replicate N.vertices N.vertices) N.source 0 0 (let f : length (replicate N.vertices N.vertices) ≡ N.vertices = sym (length-set (replicate N.vertices N.vertices) N.source 0) ∙ sym (ap length e) ∙ k in omega (arith, f, s)))
      (λ a h n. ap (λ xs. slice_index xs a) e ∙ get_or-set_other (replicate N.vertices N.vertices) N.source a 0 0 n ∙ get_or-replicate N.vertices a N.vertices 0 h)
      (ap (λ xs. slice_index xs 0) q));
  levels_len = k;
  parents_len = l;
}

module _ {N : Network} {levels parents queue : List ℕ} {at : ℕ} (w : HasFound N levels parents queue at) (l : at < length queue) (to : ℕ) (i : to < N.vertices) (new : slice_index levels to ≡ N.vertices) (left : pos 0 <ℤ N.residual (slice_index queue at) to) (from level : ℕ) (e : slice_index queue at ≡ from) (f : slice_index levels from ≡ level) where
  to_level : to < length levels
  to_level = let h = w.levels_len in omega (arith, h, i)

  to_parent : to < length parents
  to_parent = let h = w.parents_len in omega (arith, h, i)

  from_level : slice_index levels (slice_index queue at) ≡ level
  from_level = ap (slice_index levels) e ∙ f

  pub to_reached : slice_index (slice_set levels to (level + 1)) to ≡ level + 1
  to_reached = get_or-set_same levels to (level + 1) 0 to_level

  here : slice_index (slice_set levels to (level + 1)) to ≡ suc (slice_index levels (slice_index queue at))
  here = get_or-set_same levels to (level + 1) 0 to_level ∙ (let g = from_level in omega (arith, g))

  other : (a : ℕ) → a ≢ to → slice_index (slice_set levels to (level + 1)) a ≡ slice_index levels a
  other a n = get_or-set_other levels to a (level + 1) 0 n

  pub fits_level : level + 1 < N.vertices
  fits_level = let h = next_level w.search l to i new left in let g = from_level in omega (arith, h, g)

  pub found_more : HasFound N (slice_set levels to (level + 1)) (slice_set parents to from) (queue ++ to ∷ []) at
  found_more = record {
    search = subst (λ m. IsSearch N (slice_index (slice_set levels to (level + 1))) (slice_index (slice_set parents to from)) (slice_index (queue ++ to ∷ [])) m at) (sym len_more)
        (search_more w.search l to i new left (slice_index (slice_set levels to (level + 1))) (slice_index (slice_set parents to from)) (slice_index (queue ++ to ∷ [])) here other
        (get_or-set_same parents to from 0 to_parent ∙ sym e) (λ a n. get_or-set_other parents to a from 0 n)
        (get_or-append_seam queue to [] 0) (λ j h. get_or-append queue (to ∷ []) 0 j h));
    levels_len = length-set levels to (level + 1) ∙ w.levels_len;
    parents_len = length-set parents to from ∙ w.parents_len;
  }
    where
      len_more : length (queue ++ to ∷ []) ≡ suc (length queue)
      len_more = grind (arith, length-append)

  -- the levels of other vertices do not rise, and that of the vertex that is followed stays
  pub levels_kept : (a : ℕ) → slice_index (slice_set levels to (level + 1)) a ≤ slice_index levels a
  levels_kept a = level_kept w.search l to i new left (slice_index (slice_set levels to (level + 1))) (slice_index (slice_set parents to from)) (slice_index (queue ++ to ∷ [])) here other
      (get_or-set_same parents to from 0 to_parent ∙ sym e) (λ a n. get_or-set_other parents to a from 0 n)
      (get_or-append_seam queue to [] 0) (λ j h. get_or-append queue (to ∷ []) 0 j h) a

  pub from_kept : slice_index (slice_set levels to (level + 1)) from ≡ level
  from_kept = ap (slice_index (slice_set levels to (level + 1))) (sym e ∙ sym (get_or-append queue (to ∷ []) 0 at l)) ∙ level_followed w.search l to i new left (slice_index (slice_set levels to (level + 1))) (slice_index (slice_set parents to from)) (slice_index (queue ++ to ∷ [])) here other
      (get_or-set_same parents to from 0 to_parent ∙ sym e) (λ a n. get_or-set_other parents to a from 0 n)
      (get_or-append_seam queue to [] 0) (λ j h. get_or-append queue (to ∷ []) 0 j h) ∙ from_level

-- a vertex that was reached is at most one level above the vertex that is followed
pub known_level : {N : Network} {levels parents queue : List ℕ} {at : ℕ} → HasFound N levels parents queue at → at < length queue → (to from level : ℕ) → to < N.vertices → slice_index levels to ≢ N.vertices → slice_index queue at ≡ from → slice_index levels from ≡ level → slice_index levels to ≤ level + 1
known_level {N} {levels} {parents} {queue} {at} w l to from level i n e f =
    let t = w.search.top to i in
    let q = w.search.queued to i (omega (arith, t, n)) in
    let r = w.search.near at q.0 (omega arith) l q.1 in
    let g = ap (slice_index levels) e in
    let h = ap (slice_index levels) q.2 in
    omega (arith, r, g, h, f)

-- the vertex at the place was followed
pub found_next : {N : Network} {levels parents queue : List ℕ} {at : ℕ} → HasFound N levels parents queue at → at < length queue → (from level : ℕ) → slice_index queue at ≡ from → slice_index levels from ≡ level → ((b : ℕ) → b < N.vertices → pos 0 <ℤ N.residual from b → slice_index levels b ≤ level + 1) → HasFound N levels parents queue (at + 1)
found_next {N} {levels} {parents} {queue} {at} w l from level e f h = record {
  search = subst (IsSearch N (slice_index levels) (slice_index parents) (slice_index queue) (length queue)) (sym add_one)
      (search_next w.search l (λ b i r. let k = h b i (subst (λ v. pos 0 <ℤ N.residual v b) e r) in let g = ap (slice_index levels) e in omega (arith, k, g, f)));
  levels_len = w.levels_len;
  parents_len = w.parents_len;
}
  where
    add_one : at + 1 ≡ suc at
    add_one = omega arith
