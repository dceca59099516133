use Rattle.std.proofs.Common.{rules, ◌-◌, ◌%◌, ◌^◌, pos, w64, to_z, of_z, unsigned_abs}
use Rattle.pf_utils.proofs.RemainderLemmas.{congruent_remainder}
use Rattle.pf_utils.proofs.remainder.constrain.Goals as goal

pub returns-then-value-lt0-clause-congruent : goal.returns-then-value-lt0-clause-congruent
returns-then-value-lt0-clause-congruent c = congruent_remainder c.args.value (pos (c.args.upper - 1 - unsigned_abs (to_z w64 (2 ^ 64 - 1 - of_z w64 c.args.value)) % c.args.upper)) c.args.upper c.requires.above_zero (search rules)

pub returns-else-value-lt0-clause-congruent : goal.returns-else-value-lt0-clause-congruent
returns-else-value-lt0-clause-congruent c = congruent_remainder c.args.value (pos (unsigned_abs (to_z w64 (of_z w64 c.args.value)) % c.args.upper)) c.args.upper c.requires.above_zero (search rules)
