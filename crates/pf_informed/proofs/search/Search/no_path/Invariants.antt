use Rattle.std.proofs.Common.{take}
use Rattle.std.specs.Prelude.{All, IsSome}
use Rattle.pf_informed.proofs.search.Search.no_path.Given as goal

abbrev pub invariant-slots : goal.invariant-slots
invariant-slots g l = All (λ o. IsSome o) (take l.slot-index l.slot-items)
