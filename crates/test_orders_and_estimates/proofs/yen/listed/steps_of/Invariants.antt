use Rattle.std.proofs.Common.{ℕ, ℤ, Bool, List, nat_eq, pos}
use Rattle.std.specs.Int.{FitsUnsignedBits}
use Rattle.pf_yen.specs.Walk.{IsPathWalk}
use Rattle.test_orders_and_estimates.proofs.yen.listed.steps_of.Given as goal

abbrev pub invariant-calls : goal.invariant-calls
invariant-calls g l =
    (edges : ℕ → List (ℕ × ℤ)) × (start : ℕ) × (test : ℕ → Bool)
    × IsPathWalk nat_eq (λ z. pos z) edges start test (FitsUnsignedBits 8) g.F.EdgeFunction.answers g.T.NodeTest.answers l.walk
