use Rattle.std.proofs.Common.{◌≡◌, ℕ, Bool, List, length, take}
use Rattle.std.specs.Prelude.{◌+ℤ◌}
use Rattle.pf_residual.specs.declared.cancelling.arcs.Arc.{Arc}
use Rattle.pf_residual.specs.Internal.Cancelling.{IsTakenOff, net_of, gained}
use Rattle.pf_residual.proofs.cancelling.cycle.take_off.Given as goal

abbrev pub invariant-arcs : goal.invariant-arcs
invariant-arcs g l = record {
  taken : IsTakenOff g.C.Number.value (g.C.Number.value l.amount) (take l.number-index l.cycle) l.fn.amounts l.amounts;
  balance : (side : ℕ → Bool) (ends : List Arc) → length l.fn.amounts ≡ length ends
      → net_of g.C.Number.value side ends l.amounts +ℤ gained side (g.C.Number.value l.amount) ends (take l.number-index l.cycle) ≡ net_of g.C.Number.value side ends l.fn.amounts;
}
