use Rattle.std.proofs.Common.{◌≡◌, ◌≢◌, ◌∙◌, inl, inr, ◌<◌, ◌≤◌, ◌+◌, ◌-◌, ℕ, suc, List, length, sym, ap, subst, arith}
use Rattle.std.specs.Prelude.{slice_index, slice_set}
use Rattle.std.proofs.lemmas.Bool.{cases_eq}
use Rattle.std.proofs.lemmas.List.{get_or_read, get_or-set_same, get_or-set_other, length-set}
use Rattle.pf_residual.specs.Internal.Levels.{IsTree, IsTreePath}
use Rattle.pf_flow.proofs.levels.Levels.write_path.Goals as goal

module _ (levels parents : List ℕ) (to : ℕ) (path : List ℕ) where
  -- the vertex itself is written
  begun : (place : ℕ) → place ≡ slice_index levels to → to < length levels → place < length path → IsTreePath levels parents to (slice_set path place to) place
  begun place l t p =
      let new = slice_set path place to in
      let here : slice_index new place ≡ to = get_or-set_same path place to 0 p in
      let only : (k : ℕ) → place ≤ k → k ≤ slice_index levels to → k ≡ place = λ k a b. omega (arith, l) in
      record {
        last = ap (slice_index new) (sym l) ∙ here;
        inside = λ k a b. subst (λ v. v < length levels) (sym (ap (slice_index new) (only k a b) ∙ here)) t;
        level = λ k a b. ap (slice_index levels) (ap (slice_index new) (only k a b) ∙ here) ∙ sym l ∙ sym (only k a b);
        before = λ k a b. absurd (omega (arith, l));
      }

  -- the vertex before is written
  module _ (tree : IsTree levels parents) (reached : slice_index levels to < length levels) (place : ℕ) (some : 0 < place) (low : place ≤ slice_index levels to) (w : IsTreePath levels parents to path place) where
    abbrev at : ℕ
    at = slice_index path place

    at_inside : at < length levels
    at_inside = w.inside place (omega arith) low

    at_level : slice_index levels at ≡ place
    at_level = w.level place (omega arith) low

    before_inside : slice_index parents at < length levels
    before_inside = tree.inside at at_inside (omega (arith, at_level, some)) (omega (arith, at_level, low, reached))

    before_level : suc (slice_index levels (slice_index parents at)) ≡ place
    before_level = tree.below at at_inside (omega (arith, at_level, some)) (omega (arith, at_level, low, reached)) ∙ at_level

    more : place < length path → IsTreePath levels parents to (slice_set path (place - 1) (slice_index parents at)) (place - 1)
    more long =
        let before = slice_index parents at in
        let new = slice_set path (place - 1) before in
        let here : slice_index new (place - 1) ≡ before = get_or-set_same path (place - 1) before 0 (omega (arith, long)) in
        let other : (k : ℕ) → k ≢ place - 1 → slice_index new k ≡ slice_index path k = λ k ne. get_or-set_other path (place - 1) k before 0 ne in
        let above : (k : ℕ) → place - 1 ≤ k → k ≢ place - 1 → place ≤ k = λ k a ne. omega arith in
        record {
          last = other (slice_index levels to) (omega (arith, some, low)) ∙ w.last;
          inside = λ k a b. elim (cases_eq k (place - 1)) as (λ _. slice_index new k < length levels) [
            | inl e ↦ subst (λ v. v < length levels) (sym (ap (slice_index new) e ∙ here)) before_inside
            | inr e ↦ subst (λ v. v < length levels) (sym (other k e)) (w.inside k (above k a e) b)
          ];
          level = λ k a b. elim (cases_eq k (place - 1)) as (λ _. slice_index levels (slice_index new k) ≡ k) [
            | inl e ↦ ap (slice_index levels) (ap (slice_index new) e ∙ here) ∙ (let l = before_level in omega (arith, l, e))
            | inr e ↦ ap (slice_index levels) (other k e) ∙ w.level k (above k a e) b
          ];
          before = λ k a b. elim (cases_eq k (place - 1)) as (λ _. slice_index new k ≡ slice_index parents (slice_index new (k + 1))) [
            | inl e ↦ (let next : k + 1 ≡ place = omega (arith, e, some) in
                ap (slice_index new) e ∙ here ∙ ap (slice_index parents) (sym (ap (slice_index new) next ∙ other place (omega (arith, some)))))
            | inr e ↦ other k e ∙ w.before k (above k a e) b ∙ ap (slice_index parents) (sym (other (k + 1) (omega (arith, a))))
          ];
        }

pub index-place-requires : goal.index-place-requires
index-place-requires g c = omega (arith, c.requires.to, c.args.self.now.levels.ok)

pub offset_bounds-path-place : goal.offset_bounds-path-place
offset_bounds-path-place g c =
    let l = get_or_read c.args.self.now.levels.items c.args.to c.index-place.result.now c.requires.to c.index-place.ensures 0 in
    omega (arith, l, c.requires.reached, c.requires.len)

pub bounds-path-place : goal.bounds-path-place
bounds-path-place g c =
    let l = get_or_read c.args.self.now.levels.items c.args.to c.index-place.result.now c.requires.to c.index-place.ensures 0 in
    omega (arith, l, c.requires.reached, c.requires.len)

pub loop-place-init : goal.loop-place-init
loop-place-init g c =
    let l = get_or_read c.args.self.now.levels.items c.args.to c.index-place.result.now c.requires.to c.index-place.ensures 0 in
    record {
      path = begun c.args.self.now.levels.items c.args.self.now.parents.items c.args.to c.args.path.now c.index-place.result.now l c.requires.to (omega (arith, l, c.requires.reached, c.requires.len));
      place = omega (arith, l);
    }

pub offset_bounds-path-place-in-loop-place : goal.offset_bounds-path-place-in-loop-place
offset_bounds-path-place-in-loop-place g c =
    let long_path = c.loop-place.auto.path ∙ length-set c.args.path.now c.index-place.result.now c.args.to in
    omega (arith, c.loop-place.invariant.place, long_path, c.requires.reached, c.requires.len)

pub bounds-path-place-in-loop-place : goal.bounds-path-place-in-loop-place
bounds-path-place-in-loop-place g c =
    let long_path = c.loop-place.auto.path ∙ length-set c.args.path.now c.index-place.result.now c.args.to in
    omega (arith, c.loop-place.invariant.place, long_path, c.requires.reached, c.requires.len)

pub index-before-requires : goal.index-before-requires
index-before-requires g c =
    let i = c.loop-place.invariant.path.inside c.loop-place.place (omega arith) c.loop-place.invariant.place in
    omega (arith, i, c.requires.tree.len, c.args.self.now.parents.ok)

pub offset_bounds-path-place-in-loop-place-2 : goal.offset_bounds-path-place-in-loop-place-2
offset_bounds-path-place-in-loop-place-2 g c =
    let long_path = c.loop-place.auto.path ∙ length-set c.args.path.now c.index-place.result.now c.args.to in
    omega (arith, c.loop-place.invariant.place, long_path, c.requires.reached, c.requires.len)

pub bounds-path-place-in-loop-place-2 : goal.bounds-path-place-in-loop-place-2
bounds-path-place-in-loop-place-2 g c =
    let long_path = c.loop-place.auto.path ∙ length-set c.args.path.now c.index-place.result.now c.args.to in
    omega (arith, c.loop-place.invariant.place, long_path, c.requires.reached, c.requires.len)

pub overflow_sub-place : goal.overflow_sub-place
overflow_sub-place g c = omega (arith, c.loop-place-test.true)

pub loop-place-smaller : goal.loop-place-smaller
loop-place-smaller g c = omega (arith, c.loop-place-test.true)

pub loop-place-preserved : goal.loop-place-preserved
loop-place-preserved g c =
    let levels = c.args.self.now.levels.items in
    let parents = c.args.self.now.parents.items in
    let path = c.loop-place.path in
    let place = c.loop-place.place in
    let i = c.loop-place.invariant in
    let inside = i.path.inside place (omega arith) i.place in
    let long_path = c.loop-place.auto.path ∙ length-set c.args.path.now c.index-place.result.now c.args.to in
    let read = get_or_read parents (slice_index path place) c.index-before.result.now (omega (arith, inside, c.requires.tree.len)) c.index-before.ensures 0 in
    record {
      path = subst (λ v. IsTreePath levels parents c.args.to (slice_set path (place - 1) v) (place - 1)) (sym read)
          (more levels parents c.args.to path c.requires.tree c.requires.reached place c.loop-place-test.true i.place i.path (omega (arith, i.place, long_path, c.requires.reached, c.requires.len)));
      place = omega (arith, i.place);
    }

pub returns : goal.returns
returns g c =
    let done : c.loop-place.place ≡ 0 = omega (arith, c.loop-place-test.false) in
    subst (IsTreePath c.args.self.now.levels.items c.args.self.now.parents.items c.args.to c.loop-place.path) done c.loop-place.invariant.path
