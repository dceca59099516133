use Rattle.std.proofs.Common.{◌≡◌, ◌<◌, ◌+◌, inl, inr, arith, ap, subst, sym, ℕ}
use Rattle.std.specs.Prelude.{◌≤ℤ◌, ◌<ℤ◌, ℤ, slice_index}
use Rattle.std.proofs.lemmas.Int.{ints}
use Rattle.std.proofs.lemmas.Bool.{cases_eq}
use Rattle.pf_residual.proofs.paths.least_residual.Goals as goal
use Rattle.pf_residual.proofs.paths.least_residual.Goals.{then-is_below, else-is_below}

below_one : (k : ℕ) → k < 1 → k ≡ 0
below_one k l = omega (arith, l)

module _ (r : ℕ → ℤ) where
  abbrev IsLeastTo : ℕ → ℤ → Type 0
  IsLeastTo n z = ((k : ℕ) → k < n → z ≤ℤ r k) × ((k : ℕ) × (k < n) × (z ≡ r k))

  lower : (n : ℕ) (z here : ℤ) → IsLeastTo n z → here ≡ r n → here <ℤ z → IsLeastTo (n + 1) here
  lower n z here h e l = (
    λ k m. elim (cases_eq k n) as (λ _. here ≤ℤ r k) [
      | inl f ↦ (let q = ap r f in omega (arith, ints, e, q))
      | inr f ↦ (let q = h.0 k (omega (arith, m, f)) in omega (arith, ints, l, q))
    ],
    (n, omega arith, e),
  )

  not_lower : (n : ℕ) (z here : ℤ) → IsLeastTo n z → here ≡ r n → z ≤ℤ here → IsLeastTo (n + 1) z
  not_lower n z here h e l = (
    λ k m. elim (cases_eq k n) as (λ _. z ≤ℤ r k) [
      | inl f ↦ (let q = ap r f in omega (arith, ints, e, q, l))
      | inr f ↦ h.0 k (omega (arith, m, f))
    ],
    (let t = h.1.1 in (h.1.0, omega (arith, t), h.1.2)),
  )

  least_first : (z : ℤ) → z ≡ r 0 → IsLeastTo 1 z
  least_first z e = (λ k m. (let q = ap r (below_one k m) in omega (arith, ints, e, q)), (0, omega arith, e))

pub loop-place-preserved : goal.loop-place-preserved
loop-place-preserved g c =
    let r = λ (k : ℕ). (g.S.FlowStore.network c.args.store.now).residual (slice_index c.args.path.now k) (slice_index c.args.path.now (k + 1)) in
    let before : IsLeastTo r c.loop-place.place (g.C.Number.value c.loop-place.least) = (c.loop-place.invariant.least, c.loop-place.invariant.reached) in
    let after : IsLeastTo r (c.loop-place.place + 1) (g.C.Number.value c.if-is_below.least) = elim c.if-is_below.branch [
      | then-is_below w ↦ (let k : g.C.Number.value c.residual_capacity_near-here.result <ℤ g.C.Number.value c.loop-place.least = w.if-is_below.ensures in
          subst (λ x. IsLeastTo r (c.loop-place.place + 1) (g.C.Number.value x)) (sym w.least-is) (lower r c.loop-place.place (g.C.Number.value c.loop-place.least) (g.C.Number.value c.residual_capacity_near-here.result) before c.residual_capacity_near-here.ensures k))
      | else-is_below w ↦ (let k : g.C.Number.value c.loop-place.least ≤ℤ g.C.Number.value c.residual_capacity_near-here.result = w.if-is_below.ensures in
          subst (λ x. IsLeastTo r (c.loop-place.place + 1) (g.C.Number.value x)) (sym w.least-is) (not_lower r c.loop-place.place (g.C.Number.value c.loop-place.least) (g.C.Number.value c.residual_capacity_near-here.result) before c.residual_capacity_near-here.ensures k))
    ] in
    record { least = after.0; reached = after.1 }

pub bounds-path-0 : goal.bounds-path-0
bounds-path-0 g c = omega (arith, c.requires.path.long)

pub bounds-path-1 : goal.bounds-path-1
bounds-path-1 g c = omega (arith, c.requires.path.long)

pub residual_capacity_near-least-requires-clause-from : goal.residual_capacity_near-least-requires-clause-from
residual_capacity_near-least-requires-clause-from g c = c.requires.path.inside 0 (omega (arith, c.requires.path.long))

pub residual_capacity_near-least-requires-clause-to : goal.residual_capacity_near-least-requires-clause-to
residual_capacity_near-least-requires-clause-to g c = c.requires.path.inside 1 (omega (arith, c.requires.path.long))

pub overflow_sub-place-end : goal.overflow_sub-place-end
overflow_sub-place-end g c = omega (arith, c.requires.path.long)

pub loop-place-init : goal.loop-place-init
loop-place-init g c =
    let r = λ (k : ℕ). (g.S.FlowStore.network c.args.store.now).residual (slice_index c.args.path.now k) (slice_index c.args.path.now (k + 1)) in
    let first : IsLeastTo r 1 (g.C.Number.value c.residual_capacity_near-least.result) = least_first r _ c.residual_capacity_near-least.ensures in
    record { least = first.0; reached = first.1 }

pub offset_bounds-path-place : goal.offset_bounds-path-place
offset_bounds-path-place g c = omega (arith, c.loop-place-test.true)

pub bounds-path-place : goal.bounds-path-place
bounds-path-place g c = omega (arith, c.loop-place-test.true)

pub overflow_add-place : goal.overflow_add-place
overflow_add-place g c = omega (arith, c.loop-place-test.true)

pub offset_bounds-path-place-in-loop-place : goal.offset_bounds-path-place-in-loop-place
offset_bounds-path-place-in-loop-place g c = omega (arith, c.loop-place-test.true)

pub bounds-path-place-in-loop-place : goal.bounds-path-place-in-loop-place
bounds-path-place-in-loop-place g c = omega (arith, c.loop-place-test.true)

pub residual_capacity_near-here-requires-clause-from : goal.residual_capacity_near-here-requires-clause-from
residual_capacity_near-here-requires-clause-from g c = c.requires.path.inside c.loop-place.place (omega (arith, c.loop-place-test.true))

pub residual_capacity_near-here-requires-clause-to : goal.residual_capacity_near-here-requires-clause-to
residual_capacity_near-here-requires-clause-to g c = c.requires.path.inside (c.loop-place.place + 1) (omega (arith, c.loop-place-test.true))

pub loop-place-smaller : goal.loop-place-smaller
loop-place-smaller g c = omega (arith, c.loop-place-test.true)

pub returns-clause-least : goal.returns-clause-least
returns-clause-least g c = λ k m. c.loop-place.invariant.least k (omega (arith, m, c.requires.path.long, c.loop-place-test.false))

pub returns-clause-reached : goal.returns-clause-reached
returns-clause-reached g c =
    let o = c.loop-place.invariant.reached in
    let l = o.1 in
    (o.0, omega (arith, l, c.requires.path.long, c.loop-place.auto.place), o.2)
