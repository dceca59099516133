use Rattle.std.proofs.Common.{◌≡◌, ℕ, ◌<◌, Option, Some}
use Rattle.std.specs.Prelude.{slice_get}
use Rattle.pf_yen.specs.Internal.Remaining.{IsLeastFrom}
use Rattle.pf_yen.proofs.remaining.are_settled.Given as goal

abbrev pub invariant-numbers : goal.invariant-numbers
invariant-numbers g l = (a : ℕ) (here : Option g.row.C.Denot) → a < l.number → slice_get l.costs a ≡ Some here → IsLeastFrom g.C.Number.value g.C.Number.fits l.adjacency l.costs a here
