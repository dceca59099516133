use Rattle.std.proofs.Common.{arith, inl}
use Rattle.std.proofs.lemmas.Int.{ints}
use Rattle.pf_deepening.proofs.CutOffLemmas.{cut_lower}
use Rattle.pf_deepening.proofs.cut_off.CutOff.put.Goals as goal

pub returns-then-is_below-clause-kept : goal.returns-then-is_below-clause-kept
returns-then-is_below-clause-kept g c = cut_lower g.C.Number.value g.C.Number.fits c.args.self.now.least c.args.self.now.past c.args.sum c.if-is_below.ensures

pub returns-else-is_below-clause-covered : goal.returns-else-is_below-clause-covered
returns-else-is_below-clause-covered g c = λ u low. let b = c.if-is_below.ensures in inl (b.0, b.1, omega (arith, ints, b.2, low))
