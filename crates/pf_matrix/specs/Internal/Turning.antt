-- A turn in two steps: rows and columns are exchanged where the number of quarter turns is odd, and then this is done.
use Rattle.std.specs.Prelude.{ℕ, zero, suc}
use Rattle.pf_matrix.specs.Tables.{Table}
use Rattle.pf_matrix.specs.Arrange.{itself, IsCopied, IsFlippedLr, IsFlippedUd, IsTurnedTwice}

-- the second step of as many quarter turns to the right, below four
abbrev pub IsFlippedFor : {C : Type 0} → Table C → Table C → ℕ → Type 0
IsFlippedFor m n zero = IsCopied itself m n
IsFlippedFor m n (suc zero) = IsFlippedLr itself m n
IsFlippedFor m n (suc (suc zero)) = IsTurnedTwice itself m n
IsFlippedFor m n (suc (suc (suc k))) = IsFlippedUd itself m n
