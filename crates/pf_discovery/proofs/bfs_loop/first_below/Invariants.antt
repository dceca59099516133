use Rattle.std.proofs.Common.{ℕ, take, ◌≤◌}
use Rattle.std.specs.Prelude.{Contains}
use Rattle.pf_discovery.proofs.bfs_loop.first_below.Given as goal

abbrev pub invariant-steps : goal.invariant-steps
invariant-steps g l = (j : ℕ) (c : g.row.C.Denot) → Contains (take l.number-index l.row) (j, c) → l.limit ≤ j
