-- A walk over a table goes on as the one over a function that it holds.
use Rattle.std.proofs.Common.{Option, Some, None}
use Rattle.std.specs.Iterator.{Count, MakesProgress}

pub goes_on : {S W A : Type 0} {can : W → Type 0} {can' : S → Type 0} {left : W → Count} (walk : S → W) (s : S) (r : Option A) (t : S) → can' t → MakesProgress can left (walk s) r (walk t) → MakesProgress can' (λ q. left (walk q)) s r t
goes_on walk s None t c h = record { on = λ f. tt; keeps = tt; rests = h.rests }
goes_on walk s (Some x) t c h = record { on = λ f. (c, (h.on f).1, (h.on f).2); keeps = c; rests = λ f. tt }
