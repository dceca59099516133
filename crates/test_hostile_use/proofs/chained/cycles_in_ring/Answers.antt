use Rattle.std.proofs.Common.{rules}
use Rattle.pf_cycles.proofs.StepCallers.{nat_step}
use Rattle.test_hostile_use.specs.Chains.{next_lower}
use Rattle.test_hostile_use.proofs.chained.cycles_in_ring.Goals as goal

pub cycles_by-requires-clause-steps : goal.cycles_by-requires-clause-steps
cycles_by-requires-clause-steps c = (next_lower c.args.back, nat_step (next_lower c.args.back) c.args.start (λ x. Unit {0}) tt (λ x j. tt) (λ x j. search rules) (λ x r j p. search rules))
