use Rattle.std.proofs.Common.{ℤ, arith, subst}
use Rattle.std.proofs.lemmas.Int.{ints}
use Rattle.pf_residual.proofs.NetworkLemmas.{balanced_of, capacity_fits}
use Rattle.pf_flow.proofs.changes.capacity_of.Goals as goal

pub plus-requires : goal.plus-requires
plus-requires g c =
    let between = λ (x y z : ℤ). g.C.Number.between_law x y z g.met.C.Integral.exact_law in
    let fit = capacity_fits between g.met.C.SignedCost.negation_law (balanced_of c.requires.network) c.args.from c.args.to c.requires.from c.requires.to in
    let left = c.residual_capacity.ensures in
    let flow = c.flow.ensures in
    subst g.C.Number.fits (omega (arith, ints, left, flow)) fit
