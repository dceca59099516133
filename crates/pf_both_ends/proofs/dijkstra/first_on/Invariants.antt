use Rattle.std.proofs.Common.{ℕ, take, pos}
use Rattle.std.specs.Prelude.{◌+ℤ◌, Contains}
use Rattle.pf_both_ends.specs.Internal.BothEnds.{NoneBelowAt}
use Rattle.pf_both_ends.proofs.dijkstra.first_on.Given as goal

abbrev pub invariant-numbers : goal.invariant-numbers
invariant-numbers g l = (k : ℕ) → Contains (take l.place l.numbers) k → NoneBelowAt g.N.PartialEq.eq g.C.Number.value (g.M.Numbering.keys l.nodes) (g.M.Numbering.keys l.other_nodes) l.search.labels.items l.other_search.labels.items (g.C.Number.value l.cost +ℤ pos 1) k
