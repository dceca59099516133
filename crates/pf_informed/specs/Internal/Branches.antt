-- Ways on that a walk back from goals has still to try.
use Rattle.std.specs.Prelude.{ℕ, List, map}
use Rattle.pf_informed.specs.declared.branch.Branch.{Branch}

-- branches to these numbers at one depth
abbrev pub branches_at : ℕ → List ℕ → List Branch
branches_at depth numbers = map (λ (n : ℕ). record { number = n; depth = depth }) numbers
