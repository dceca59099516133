-- What holds of a result that is known.
use Rattle.std.proofs.Common.{Ok, Err, Result}
use Rattle.std.specs.Prelude.{OnErr}

-- what holds where there is an error
pub on_error : {X E : Type 0} (P : Type 0) (r : Result X E) → P → OnErr r P
on_error P (Ok x) p = tt
on_error P (Err e) p = p
