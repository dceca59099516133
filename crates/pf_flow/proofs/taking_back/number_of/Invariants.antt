use Rattle.std.proofs.Common.{◌≡◌, ◌≤◌, ◌-◌, ℕ, Some, length}
use Rattle.std.specs.Prelude.{slice_get}
use Rattle.pf_residual.specs.declared.cancelling.arcs.Arc.{Arc}
use Rattle.pf_flow.proofs.taking_back.number_of.Given as goal

abbrev pub invariant-arcs : goal.invariant-arcs
invariant-arcs l = (k : ℕ) × (e : Arc) × (l.number ≤ k) × (slice_get l.ends k ≡ Some e) × (e.from ≡ l.from) × (e.to ≡ l.to)

abbrev pub decreases-arcs : goal.decreases-arcs
decreases-arcs l = length l.ends - l.number
