use Rattle.std.proofs.Common.{ℕ, ◌≡◌, ◌<◌, ◌∙◌, sym, refl, arith, length, List, inl, inr, true, Bool, ◌⊎◌}
use Rattle.std.specs.Prelude.{◌≤ℤ◌, ◌<ℤ◌, ℤ, pos}
use Rattle.std.proofs.lemmas.Int.{ints}
use Rattle.std.proofs.lemmas.Option.{slice_get_read}
use Rattle.std.proofs.lemmas.Result.{err_from_is_err_and}
use Rattle.pf_estimated_graphs.specs.EstimatesInTables.{IsSoundAt, IsFaultOfNode, estimate_at}
use Rattle.pf_estimated_graphs.specs.declared.error.EstimateError.{EstimateError}
use Rattle.pf_estimated_graphs.specs.declared.error.EstimateError.TheVariants.{NegativeEstimate, EstimateAtGoal}
use Rattle.pf_estimated_graphs.proofs.EstimateLemmas.{estimate_is, one_more}
use Rattle.pf_estimated_graphs.proofs.checks.check_nodes.Goals as goal

module _ {C : Type 0} (value : C → ℤ) (passes : ℕ → Bool) (estimates : List C) (node : ℕ) (estimate : C) (at_goal : Bool) (is : estimate_at value estimates node ≡ value estimate) (at : at_goal ≡ passes node) where
  sound_here : (pos 0 ≤ℤ value estimate) × (at_goal ≡ true → value estimate ≡ pos 0) → IsSoundAt value passes estimates node
  sound_here h = record { from_zero = omega (arith, ints, is, h.0); at_goal = λ p. is ∙ h.1 (at ∙ p) }

  fault_here : (e : EstimateError) → node < length estimates → ((k : ℕ) → k < node → IsSoundAt value passes estimates k)
      → ((value estimate <ℤ pos 0) × (e ≡ NegativeEstimate node)) ⊎ ((at_goal ≡ true) × (pos 0 <ℤ value estimate) × (e ≡ EstimateAtGoal node)) → IsFaultOfNode value passes estimates e
  fault_here e inside before (inl h) = rw h.1 (inside, omega (arith, ints, is, h.0), before)
  fault_here e inside before (inr h) = rw h.2 (inside, sym at ∙ h.0, omega (arith, ints, is, h.1), before)

pub loop-node-init : goal.loop-node-init
loop-node-init g c = λ k l. absurd (omega (arith, l))

pub offset_bounds-estimates-node : goal.offset_bounds-estimates-node
offset_bounds-estimates-node g c = omega (arith, c.loop-node-test.true)

pub bounds-estimates-node : goal.bounds-estimates-node
bounds-estimates-node g c = c.loop-node-test.true

pub returns-in_err-check_node : goal.returns-in_err-check_node
returns-in_err-check_node g c =
    let value = g.C.Number.value in
    let xs = c.args.estimates.now in
    let is = estimate_is value xs c.loop-node.node c.index-estimates-node.result (slice_get_read xs (length xs) c.loop-node.node _ refl c.loop-node-test.true c.index-estimates-node.is) in
    let p = err_from_is_err_and c.from_residual.result c.from_residual.ensures.1 in
    rw (p.1, p.2) (fault_here value (g.T.Goals.passes c.args.goals.now) xs c.loop-node.node c.index-estimates-node.result c.is_goal.result is c.is_goal.ensures _ c.loop-node-test.true c.loop-node.invariant c.in_err-check_node.ensures)

pub loop-node-smaller : goal.loop-node-smaller
loop-node-smaller g c = omega (arith, c.loop-node-test.true)

pub loop-node-preserved : goal.loop-node-preserved
loop-node-preserved g c =
    let value = g.C.Number.value in
    let xs = c.args.estimates.now in
    let passes = g.T.Goals.passes c.args.goals.now in
    let is = estimate_is value xs c.loop-node.node c.index-estimates-node.result (slice_get_read xs (length xs) c.loop-node.node _ refl c.loop-node-test.true c.index-estimates-node.is) in
    one_more (IsSoundAt value passes xs) c.loop-node.node (sound_here value passes xs c.loop-node.node c.index-estimates-node.result c.is_goal.result is c.is_goal.ensures c.in_ok-check_node.ensures) c.loop-node.invariant

pub returns : goal.returns
returns g c = λ node l. c.loop-node.invariant node (omega (arith, l, c.loop-node-test.false))
