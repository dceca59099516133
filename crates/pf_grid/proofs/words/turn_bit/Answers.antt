use Rattle.std.proofs.Common.{arith}
use Rattle.pf_grid.proofs.WordLemmas.{bit_after_turn}
use Rattle.pf_grid.proofs.words.turn_bit.Goals as goal

pub returns : goal.returns
returns c = record { bits = bit_after_turn c.args.words.now c.args.per_row c.args.x c.args.y (omega arith) (omega arith) }
