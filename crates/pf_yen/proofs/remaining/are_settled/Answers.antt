use Rattle.std.proofs.Common.{arith}
use Rattle.std.proofs.lemmas.Option.{slice_get_within}
use Rattle.pf_yen.proofs.RemainingLemmas.{settled_more}
use Rattle.pf_yen.proofs.remaining.are_settled.Goals as goal

pub numbers-init : goal.numbers-init
numbers-init g c = λ a here h. absurd (omega (arith, h))

pub numbers-preserved : goal.numbers-preserved
numbers-preserved g c = settled_more g.C.Number.value g.C.Number.fits c.args.adjacency.now c.args.costs.now c.numbers.number c.index-costs-number.result c.in-Some.least c.index-costs-number.is (omega (arith, c.numbers-test.true, c.len-number-end.ensures, c.requires)) (c.is_within.ensures c.if-not-is_within.false) (rw c.in-Some.is at c.least_from.ensures) c.numbers.invariant

pub returns : goal.returns
returns g c = λ _. record {
  wide = c.requires;
  least = λ a here h. c.numbers.invariant a here (omega (arith, slice_get_within c.args.costs.now a here h, c.numbers-test.false, c.len-number-end.ensures, c.requires)) h;
}
