use Rattle.std.proofs.Common.{length-append, refl, zero, suc, get_or, map, ◌≡◌, ◌<◌, ◌≤◌, ◌+◌, ℕ, List, [], ◌∷◌, ◌++◌, inl, inr, ap, sym, subst, ◌∙◌, length, arith}
use Rattle.std.specs.Prelude.{slice_set, slice_get, slice_index, ◌<ℤ◌, pos, Option, Some, None}
use Rattle.std.proofs.lemmas.Bool.{cases_eq}
use Rattle.std.proofs.lemmas.List.{get_or_read}
use Rattle.std.proofs.lemmas.Option.{slice_get-get_or, slice_get-map, slice_get_within}
use Rattle.std.specs.Option.{option_map}
use Rattle.std.proofs.lemmas.Result.{IfOk-from_err}
use Rattle.std.proofs.Math.ListN.{get_or-append}
use Rattle.pf_residual.specs.Networks.{Network}
use Rattle.pf_base.proofs.ListLemmas.{none_in}
use Rattle.pf_residual.specs.Listings.{ListsVertices}
use Rattle.pf_residual.specs.Internal.Levels.{HasFound, Reaches}
use Rattle.pf_residual.specs.Internal.CurrentArcs.{AreArcs}
use Rattle.pf_residual.proofs.LevelListLemmas.{found_more, found_next, known_level, to_reached, levels_kept, from_kept}
use Rattle.pf_base.proofs.Outcomes.{on_any, on_ok, refused_as}
use Rattle.pf_flow.proofs.levels.Levels.follow.Goals as goal

module _ (N : Network) (at from level : ℕ) (ends : List (ℕ × ℕ)) where
  -- what the loop keeps
  abbrev Kept : ℕ → List ℕ → List ℕ → List ℕ → Type 0
  Kept k levels parents queue =
      HasFound N levels parents queue at × (at < length queue) × (slice_index queue at ≡ from) × (slice_index levels from ≡ level)
      × ((i : ℕ) (end : ℕ × ℕ) → i < k → slice_get ends i ≡ Some end → slice_index levels end.0 ≤ level + 1)

  module _ (k to place : ℕ) (levels parents queue : List ℕ) (there : slice_get ends k ≡ Some (to, place)) where
    abbrev first_of : Option (ℕ × ℕ) → ℕ
    first_of None = 0
    first_of (Some e) = e.0

    same_to : (end : ℕ × ℕ) → slice_get ends k ≡ Some end → end.0 ≡ to
    same_to end e = ap first_of (sym e ∙ there)

    -- an end that was reached before
    known : Kept k levels parents queue → slice_index levels to ≤ level + 1 → Kept (k + 1) levels parents queue
    known w l = (
      w.0,
      w.1,
      w.2,
      w.3,
      λ i end h e. elim (cases_eq i k) as (λ _. slice_index levels end.0 ≤ level + 1) [
        | inl f ↦ (let g = ap (slice_index levels) (same_to end (ap (slice_get ends) (sym f) ∙ e)) in omega (arith, g, l))
        | inr f ↦ w.4 i end (omega (arith, h, f)) e
      ],
    )

    -- an end that is new
    fresh : Kept k levels parents queue → to < N.vertices → slice_index levels to ≡ N.vertices → pos 0 <ℤ N.residual from to → Kept (k + 1) (slice_set levels to (level + 1)) (slice_set parents to from) (queue ++ to ∷ [])
    fresh w i n r =
        let left = subst (λ v. pos 0 <ℤ N.residual v to) (sym w.2) r in
        let kept = levels_kept w.0 w.1 to i n left from level w.2 w.3 in
        let more : at < length (queue ++ to ∷ []) = (let l = w.1 in grind (arith, length-append)) in (
          found_more w.0 w.1 to i n left from level w.2 w.3,
          more,
          get_or-append queue (to ∷ []) 0 at w.1 ∙ w.2,
          from_kept w.0 w.1 to i n left from level w.2 w.3,
          λ j end h e. elim (cases_eq end.0 to) as (λ _. slice_index (slice_set levels to (level + 1)) end.0 ≤ level + 1) [
            | inl f ↦ (let g = ap (slice_index (slice_set levels to (level + 1))) f in let o = to_reached w.0 w.1 to i n left from level w.2 w.3 in omega (arith, g, o))
            | inr f ↦ (let g = kept end.0 in let o = w.4 j end (elim (cases_eq j k) as (λ _. j < k) [ inl q ↦ absurd (f (same_to end (ap (slice_get ends) (sym q) ∙ e))) | inr q ↦ omega (arith, h, q) ]) e in omega (arith, g, o))
          ],
        )

    -- an end, reached before or now
    met : {levels_after parents_after queue_after : List ℕ} → Reaches from level to levels parents queue levels_after parents_after queue_after → Kept k levels parents queue → to < N.vertices → pos 0 <ℤ N.residual from to → Kept (k + 1) levels_after parents_after queue_after
    met {levels_after} {parents_after} {queue_after} r w i left =
        let len = w.0.levels_len in
        elim (cases_eq (slice_index levels to) N.vertices) as (λ _. Kept (k + 1) levels_after parents_after queue_after) [
          | inl e ↦ (let q = r.new (e ∙ sym len) in
              subst (λ xs. Kept (k + 1) xs parents_after queue_after) (sym q.0)
              (subst (λ xs. Kept (k + 1) (slice_set levels to (level + 1)) xs queue_after) (sym q.1)
              (subst (Kept (k + 1) (slice_set levels to (level + 1)) (slice_set parents to from)) (sym q.2) (fresh w i e left))))
          | inr n ↦ (let q = r.known (λ e. n (e ∙ len)) in
              subst (λ xs. Kept (k + 1) xs parents_after queue_after) (sym q.0)
              (subst (λ xs. Kept (k + 1) levels xs queue_after) (sym q.1)
              (subst (Kept (k + 1) levels parents) (sym q.2) (known w (known_level w.0 w.1 to from level i n w.2 w.3)))))
        ]

-- what is listed
module _ (N : Network) (from : ℕ) (ends : List (ℕ × ℕ)) (listed : ListsVertices N.vertices (λ to. pos 0 <ℤ N.residual from to) (map (λ end. end.0) ends)) where
  end_in : (i : ℕ) (end : ℕ × ℕ) → slice_get ends i ≡ Some end → (end.0 < N.vertices) × (pos 0 <ℤ N.residual from end.0)
  end_in i end h = listed.sound i end.0 (slice_get-map (λ end. end.0) ends i ∙ ap (option_map (λ (end : ℕ × ℕ). end.0)) h)

  end_of : (b : ℕ) → b < N.vertices → pos 0 <ℤ N.residual from b → (i : ℕ) × (end : ℕ × ℕ) × (slice_get ends i ≡ Some end) × (end.0 ≡ b)
  end_of b l r = let q = listed.complete b l r in let e = mapped_from ends q.0 b q.1 in (q.0, e.0, e.1, e.2)
    where
      mapped_from : (xs : List (ℕ × ℕ)) (i a : ℕ) → slice_get (map (λ end. end.0) xs) i ≡ Some a → (end : ℕ × ℕ) × (slice_get xs i ≡ Some end) × (end.0 ≡ a)
      mapped_from [] i a h = absurd (none_in i a h)
      mapped_from (x ∷ xs) zero a h = (x, refl, cc)
      mapped_from (x ∷ xs) (suc i) a h = mapped_from xs i a h

pub loop-end-preserved : goal.loop-end-preserved
loop-end-preserved g c =
    let N = g.S.FlowStore.network c.args.store.now in
    let i = c.loop-end.invariant in
    let ends = c.as_slice-end-items.result.now in
    let end = get_or ends c.loop-end.end-index (0, 0) in
    let there : slice_get ends c.loop-end.end-index ≡ Some end = slice_get-get_or ends c.loop-end.end-index (0, 0) c.loop-end-test.true in
    let s = end_in N c.index-from.result.now c.list_residual.new.ends.items c.in_ok-list_residual.ensures.listed c.loop-end.end-index end (ap (λ xs. slice_get xs c.loop-end.end-index) (sym c.as_slice-end-items.ensures.value) ∙ there) in
    let old = c.loop-end.self in
    let new = c.reach.new.self in
    let after = met N c.args.at c.index-from.result.now c.index-level.result.now ends c.loop-end.end-index end.0 end.1 old.levels.items old.parents.items old.queue.items there
    c.in_ok-reach.ensures.reached (i.found, i.more, i.from, i.level, i.followed) s.0 s.1 in
    record {
      found = after.0;
      more = after.1;
      from = after.2;
      level = after.3;
      followed = after.4;
      arcs = subst (λ t. AreArcs N.vertices t.targets.items t.places.items t.ends.items) (sym c.reach.ensures.arcs) i.arcs;
    }

pub index-from-requires : goal.index-from-requires
index-from-requires g c = omega (arith, c.requires.at, c.args.self.now.queue.ok)

pub index-level-requires : goal.index-level-requires
index-level-requires g c =
    let found = c.requires.found in
    let from = get_or_read c.args.self.now.queue.items c.args.at c.index-from.result.now c.requires.at c.index-from.ensures 0 in
    let inside = subst (λ v. v < (g.S.FlowStore.network c.args.store.now).vertices) (sym from) (found.search.inside c.args.at c.requires.at) in
    omega (arith, inside, found.levels_len, c.args.self.now.levels.ok)

pub list_residual-requires : goal.list_residual-requires
list_residual-requires g c =
    let found = c.requires.found in
    let from = get_or_read c.args.self.now.queue.items c.args.at c.index-from.result.now c.requires.at c.index-from.ensures 0 in
    let inside = subst (λ v. v < (g.S.FlowStore.network c.args.store.now).vertices) (sym from) (found.search.inside c.args.at c.requires.at) in
    inside

pub loop-end-init : goal.loop-end-init
loop-end-init g c =
    let found = c.requires.found in
    let from = get_or_read c.args.self.now.queue.items c.args.at c.index-from.result.now c.requires.at c.index-from.ensures 0 in
    let inside = found.search.inside c.args.at c.requires.at in
    record {
      found = found;
      more = c.requires.at;
      from = sym from;
      level = sym (get_or_read c.args.self.now.levels.items c.index-from.result.now c.index-level.result.now (omega (arith, inside, from, found.levels_len)) c.index-level.ensures 0);
      followed = λ i end l. absurd (omega (arith, l));
      arcs = c.requires.arcs;
    }

pub bounds-end-items-end-index : goal.bounds-end-items-end-index
bounds-end-items-end-index g c = c.loop-end-test.true

pub loop-end-smaller : goal.loop-end-smaller
loop-end-smaller g c = omega (arith, c.loop-end-test.true)

pub reach-requires-clause-low : goal.reach-requires-clause-low
reach-requires-clause-low g c =
    let i = c.loop-end.invariant in
    let low = i.found.search.place c.args.at i.more in
    let level = sym i.level ∙ ap (slice_index c.loop-end.self.levels.items) (sym i.from) in
    let all = i.found.search.count in
    omega (arith, low, level, i.more, i.found.levels_len, all)

pub reach-requires-clause-to : goal.reach-requires-clause-to
reach-requires-clause-to g c =
    let N = g.S.FlowStore.network c.args.store.now in
    let i = c.loop-end.invariant in
    let ends = c.as_slice-end-items.result.now in
    let end = get_or ends c.loop-end.end-index (0, 0) in
    let there : slice_get ends c.loop-end.end-index ≡ Some end = slice_get-get_or ends c.loop-end.end-index (0, 0) c.loop-end-test.true in
    let s = end_in N c.index-from.result.now c.list_residual.new.ends.items c.in_ok-list_residual.ensures.listed c.loop-end.end-index end (ap (λ xs. slice_get xs c.loop-end.end-index) (sym c.as_slice-end-items.ensures.value) ∙ there) in
    let inside = s.0 in
    omega (arith, inside, i.found.levels_len)

pub reach-requires-clause-wide : goal.reach-requires-clause-wide
reach-requires-clause-wide g c = c.loop-end.invariant.found.parents_len ∙ sym c.loop-end.invariant.found.levels_len

pub add_row-requires-clause-arcs : goal.add_row-requires-clause-arcs
add_row-requires-clause-arcs g c =
    let i = c.loop-end.invariant in
    let arcs = c.loop-end.self.arcs in
    subst (λ n. AreArcs n arcs.targets.items arcs.places.items arcs.ends.items) (sym (ap length c.deref.ensures.value ∙ i.found.levels_len)) i.arcs

pub add_row-requires-clause-from : goal.add_row-requires-clause-from
add_row-requires-clause-from g c =
    let i = c.loop-end.invariant in
    let inside = i.found.search.inside c.args.at i.more in
    omega (arith, inside, i.from, ap length c.deref.ensures.value, i.found.levels_len)

pub add_row-requires-clause-inside : goal.add_row-requires-clause-inside
add_row-requires-clause-inside g c =
    λ k end h.
    let N = g.S.FlowStore.network c.args.store.now in
    let s = end_in N c.index-from.result.now c.list_residual.new.ends.items c.in_ok-list_residual.ensures.listed k end (ap (λ xs. slice_get xs k) (sym c.as_slice.ensures.value) ∙ h) in
    let inside = s.0 in
    let wide = c.loop-end.invariant.found.levels_len in
    let len = ap length c.deref.ensures.value in
    omega (arith, inside, wide, len)

pub returns : goal.returns
returns g c = record {
  found =
      let N = g.S.FlowStore.network c.args.store.now in
      let i = c.loop-end.invariant in
      let ends = c.as_slice-end-items.result.now in
      on_any c.add_row.result (found_next i.found i.more c.index-from.result.now c.index-level.result.now i.from i.level
      (λ b l r. let q = end_of N c.index-from.result.now c.list_residual.new.ends.items c.in_ok-list_residual.ensures.listed b l r in
      let there : slice_get ends q.0 ≡ Some q.1 = ap (λ xs. slice_get xs q.0) c.as_slice-end-items.ensures.value ∙ q.2 in
      let inside = slice_get_within ends q.0 q.1 there in
      let done = c.loop-end-test.false in
      let followed = i.followed q.0 q.1 (omega (arith, inside, done)) there in
      let same = ap (slice_index c.loop-end.self.levels.items) q.3 in
      omega (arith, followed, same)));
  arcs =
      let arcs = c.add_row.new.self in
      on_ok c.add_row.result c.add_row.ensures.arcs (subst (λ n. AreArcs n arcs.targets.items arcs.places.items arcs.ends.items) (ap length c.deref.ensures.value ∙ c.loop-end.invariant.found.levels_len));
  refused = c.add_row.ensures.refused;
}

pub returns-in_err-list_residual : goal.returns-in_err-list_residual
returns-in_err-list_residual g c = record {
  found = IfOk-from_err _ _ c.from_residual.ensures.0;
  arcs = IfOk-from_err _ _ c.from_residual.ensures.0;
  refused = refused_as _ c.from_residual.result _ c.from_residual.ensures.1 c.in_err-list_residual.ensures.refused;
}

pub returns-in_err-reach : goal.returns-in_err-reach
returns-in_err-reach g c = record {
  found = IfOk-from_err _ _ c.from_residual-in_err-reach.ensures.0;
  arcs = IfOk-from_err _ _ c.from_residual-in_err-reach.ensures.0;
  refused = refused_as _ c.from_residual-in_err-reach.result _ c.from_residual-in_err-reach.ensures.1 c.in_err-reach.ensures.refused;
}
