use Rattle.std.proofs.Common.{rules, ◌+◌, ◌*◌, ◌%◌, ◌^◌, ℕ}
use Rattle.std.specs.Prelude.{⊤}
use Rattle.pf_cycles.proofs.StepCallers.{nat_step}
use Rattle.pf_bench.proofs.jobs.network.CycleJob.cycle.Goals as goal

pub brent-requires-clause-steps : goal.brent-requires-clause-steps
brent-requires-clause-steps c =
    let next : ℕ → ℕ = λ x. (x * x % 2 ^ 64 + 1) % 2 ^ 64 % c.args.modulus in (
      next,
      nat_step next 1 (λ x. ⊤) tt (λ x j. tt) (λ x j. search rules) (λ x r j p. search rules),
    )

pub floyd-requires-clause-steps : goal.floyd-requires-clause-steps
floyd-requires-clause-steps c =
    let next : ℕ → ℕ = λ x. (x * x % 2 ^ 64 + 1) % 2 ^ 64 % c.args.modulus in (
      next,
      nat_step next 1 (λ x. ⊤) tt (λ x j. tt) (λ x j. search rules) (λ x r j p. search rules),
    )
