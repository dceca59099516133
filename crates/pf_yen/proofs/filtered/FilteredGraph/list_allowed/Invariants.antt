use Rattle.std.proofs.Common.{ℕ, take}
use Rattle.std.specs.Prelude.{filter}
use Rattle.pf_yen.specs.Internal.Filtered.{allows}
use Rattle.pf_yen.proofs.filtered.FilteredGraph.list_allowed.Given as goal

abbrev pub invariant-steps : goal.invariant-steps
invariant-steps g l = g.R.Row.holds l.row (filter (λ (e : ℕ × g.row.C.Denot). allows (record { adjacency = l.self.adjacency.now; onward = l.self.onward.items; spur = l.self.spur; banned = l.self.banned }) l.node e.0) (take l.next-index l.steps))
