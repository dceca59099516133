use Rattle.std.proofs.Common.{◌<◌, ◌+◌, arith, subst}
use Rattle.std.proofs.lemmas.Int.{ints}
use Rattle.pf_residual.proofs.ChangeSums.{sum_more, part_fits}
use Rattle.pf_residual.proofs.NetworkLemmas.{balanced_of}
use Rattle.pf_residual.proofs.sums.add_row.Goals as goal

pub plus-sum-requires : goal.plus-sum-requires
plus-sum-requires g c =
    let N = g.S.FlowStore.network c.args.store.now in
    let row = N.residual c.args.from in
    let inside : c.ends.to < N.vertices = omega (arith, c.size-to-end.ensures, c.ends-test.true) in
    let fit = part_fits (balanced_of c.requires.network) (λ x y z. g.C.Number.between_law x y z g.met.C.Integral.exact_law) g.met.C.SignedCost.negation_law c.args.from (c.ends.to + 1) c.requires.from (omega (arith, inside)) in
    let more = sum_more row c.ends.to in
    let e = c.ends.invariant in
    let b = c.requires.before in
    let r = c.residual_capacity.ensures in
    subst g.C.Number.fits (omega (arith, ints, more, e, b, r)) fit

pub ends-preserved : goal.ends-preserved
ends-preserved g c =
    let N = g.S.FlowStore.network c.args.store.now in
    let more = sum_more (N.residual c.args.from) c.ends.to in
    let e = c.ends.invariant in
    let r = c.residual_capacity.ensures in
    let s = c.plus-sum.ensures in
    omega (arith, ints, more, e, r, s)
