use Rattle.std.proofs.Common.{arith, None}
use Rattle.std.specs.Prelude.{pos, ◌+ℤ◌}
use Rattle.std.proofs.lemmas.Int.{ints}
use Rattle.pf_assignment.proofs.kuhn_munkres.weights.two_more.Goals as goal

pub returns-in-None : goal.returns-in-None
returns-in-None g c =
    let value = g.C.Number.value in
    let exact = g.met.C.Integral.exact_law in
    let total = c.requires.total in
    let weight = c.requires.weight in
    let past = g.met.C.CheckedAdd.checked_add_law c.args.total c.args.weight None c.in-None.ensures in
    λ f. past (g.C.Number.between_law (pos 0) (value c.args.total +ℤ value c.args.weight) _ exact (g.met.C.Zero.zero_fits_law exact) f (omega (arith, ints, total, weight)) (omega (arith, ints, weight)))
