-- What is known of rows is a proposition.
use Rattle.std.proofs.Common.{ℕ, suc, List, [], ◌∷◌}
use Rattle.std.proofs.Props.{props}
use Rattle.pf_residual.specs.Internal.RowChanges.{Rises}

pub Rises-prop : (low : ℕ) (xs : List ℕ) → IsProp (Rises low xs)
Rises-prop low [] = hlevel props
Rises-prop low (x ∷ xs) = hlevel (props, Rises-prop (suc x) xs)
