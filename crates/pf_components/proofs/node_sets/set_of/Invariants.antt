use Rattle.std.proofs.Common.{◌≡◌, take, true}
use Rattle.std.specs.Prelude.{◌↔◌, Contains}
use Rattle.std.specs.Borrow.{Bor}
use Rattle.std.specs.HashSet.{contains}
use Rattle.pf_components.proofs.node_sets.set_of.Given as goal

-- the set has the nodes so far
abbrev pub invariant-loop-node : goal.invariant-loop-node
invariant-loop-node g l = (x : g.row.N.Denot) → (contains g.N.PartialEq.eq l.set x ≡ true) ↔ ((m : Bor g.row.N.Denot) × Contains (take l.node-index l.nodes) m × (g.N.PartialEq.eq m.now x ≡ true))
