use Rattle.std.proofs.Common.{arith}
use Rattle.pf_grid.proofs.words.first_held.Goals as goal

pub first_one_of-requires : goal.first_one_of-requires
first_one_of-requires c = c.loop-word.invariant.from

pub loop-word-smaller : goal.loop-word-smaller
loop-word-smaller c = omega (arith, c.loop-word-test.true)
