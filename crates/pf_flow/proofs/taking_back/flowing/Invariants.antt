use Rattle.std.proofs.Common.{◌≡◌, take, map}
use Rattle.std.specs.Prelude.{ℕ}
use Rattle.pf_residual.specs.Internal.Settled.{arc_of}
use Rattle.pf_flow.proofs.taking_back.flowing.Given as goal

abbrev pub invariant-flows : goal.invariant-flows
invariant-flows g l = record {
  ends : l.ends.items ≡ map arc_of (take l.flow-index l.flow-items);
  amounts : l.amounts.items ≡ map (λ (f : (ℕ × ℕ) × g.row.C.Denot). f.1) (take l.flow-index l.flow-items);
}
