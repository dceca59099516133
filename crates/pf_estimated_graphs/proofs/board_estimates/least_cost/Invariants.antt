use Rattle.pf_estimated_graphs.proofs.BoardEstimateLemmas.{IsLeastSoFar}
use Rattle.pf_estimated_graphs.proofs.board_estimates.least_cost.Given as goal

-- the least cost of an open cell so far
abbrev pub invariant-loop-number : goal.invariant-loop-number
invariant-loop-number g l = IsLeastSoFar g.C.Number.value l.cells l.number l.least
