use Rattle.std.proofs.Common.{◌<◌, Bool, true, false, List, length, ◌≡◌, sym, ◌∙◌, ap, subst, arith, pos, ℤ, Some, None}
use Rattle.std.specs.Prelude.{◌+ℤ◌, ◌<ℤ◌, ◌≤ℤ◌, MatchBool}
use Rattle.std.specs.Ordering.{is_some_and, is_lt}
use Rattle.std.proofs.lemmas.Int.{ints}
use Rattle.std.proofs.lemmas.Option.{same_Some}
use Rattle.pf_graph.specs.Internal.Spanning.SpanningSteps.{values_sum}
use Rattle.pf_graph.proofs.Spanning.SumLemmas.{Rises-sorted, Rises-taken, sum_taken, below_zero, past_range}
use Rattle.std.proofs.lemmas.List.{length_push}
use Rattle.pf_graph.specs.Internal.Spanning.SpanningSteps.{IsTaken}
use Rattle.pf_graph.proofs.undirected.exact_sum.exact_sum.Goals as goal

-- fewer weights are left
taken_fewer : {C : Type 0} (last : Bool) (w : C) (rest ws : List C) → IsTaken last w rest ws → length rest < length ws
taken_fewer true w rest ws e = omega (arith, ap length e, length_push rest w)
taken_fewer false w rest ws e = omega (arith, ap length e)

pub weights-init : goal.weights-init
weights-init g c =
    let zero : g.C.Number.value c.zero-sum.result ≡ pos 0 = ap g.C.Number.value c.zero-sum.ensures ∙ g.met.C.Zero.zero_law g.met.C.Integral.exact_law in
    record {
      fits = c.known.ensures;
      rises = Rises-sorted g.C.Number.value g.met.C.Ord.total (λ x y. same_Some _ _ (sym (g.met.C.Ord.matches_partial_cmp x y) ∙ g.met.C.Number.order_law x y g.met.C.Integral.exact_law)) c.args.weights.now c.requires;
      whole = omega (arith, ints, zero);
    }

pub weights-preserved : goal.weights-preserved
weights-preserved g c =
    let value = g.C.Number.value in
    let i = c.weights.invariant in
    let added = g.met.C.CheckedAdd.checked_add_law c.weights.sum c.in-Some.taken.0 (Some c.in_ok-sum.sum) c.in_ok-sum.ensures in
    let parts = sum_taken value c.lt.result c.in-Some.taken.0 c.in-Some.taken.1.now c.weights.left.now c.in-Some.ensures in
    record {
      fits = c.known-in-Some-2.ensures;
      rises = Rises-taken value c.lt.result c.in-Some.taken.0 c.in-Some.taken.1.now c.weights.left.now c.in-Some.ensures i.rises;
      whole = omega (arith, ints, added.1, parts, i.whole);
    }

pub returns-in_err-sum : goal.returns-in_err-sum
returns-in_err-sum g c =
    let value = g.C.Number.value in
    let i = c.weights.invariant in
    let zero : value c.zero.result ≡ pos 0 = ap value c.zero.ensures ∙ g.met.C.Zero.zero_law g.met.C.Integral.exact_law in
    let side = below_zero value (value c.weights.sum) (value c.zero.result) c.lt.result (c.lt.ensures ∙ ap (is_some_and is_lt) (g.met.C.Number.order_law c.weights.sum c.zero.result g.met.C.Integral.exact_law)) in
    let side' = subst (λ (z : ℤ). MatchBool c.lt.result (value c.weights.sum <ℤ z) (z ≤ℤ value c.weights.sum)) zero side in
    let past = g.met.C.CheckedAdd.checked_add_law c.weights.sum c.in-Some.taken.0 None c.in_err-sum.ensures in
    rw c.from_residual.ensures (past_range value g.C.Number.fits (λ x y z. g.C.Number.between_law x y z g.met.C.Integral.exact_law) c.lt.result c.in-Some.taken.0 c.in-Some.taken.1.now c.weights.left.now (value c.weights.sum) (values_sum value c.args.weights.now)
    c.in-Some.ensures i.rises side' i.fits c.known-in-Some.ensures i.whole past)

pub returns : goal.returns
returns g c =
    let value = g.C.Number.value in
    let whole = subst (λ xs. (value c.weights.sum +ℤ values_sum value xs) ≡ values_sum value c.args.weights.now) c.in_default.ensures c.weights.invariant.whole in
    omega (arith, ints, whole)

pub weights-smaller : goal.weights-smaller
weights-smaller g c = taken_fewer c.lt.result c.in-Some.taken.0 c.in-Some.taken.1.now c.weights.left.now c.in-Some.ensures
