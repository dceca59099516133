use Rattle.std.proofs.Common.{ℕ, ◌<◌, arith}
use Rattle.std.proofs.lemmas.Result.{err_from_is_err_and}
use Rattle.pf_estimated_graphs.specs.EstimatesInTables.{FallsAt}
use Rattle.pf_estimated_graphs.proofs.EstimateLemmas.{one_more}
use Rattle.pf_estimated_graphs.proofs.checks.check_edges.Goals as goal

pub loop-node-init : goal.loop-node-init
loop-node-init g c = λ n place l. absurd (omega (arith, l))

pub check_row-requires-clause-inside : goal.check_row-requires-clause-inside
check_row-requires-clause-inside g c = omega (arith, c.loop-node-test.true, c.len-node-end.ensures)

pub check_row-requires-clause-complete : goal.check_row-requires-clause-complete
check_row-requires-clause-complete g c = c.requires.complete

pub check_row-requires-clause-from_zero : goal.check_row-requires-clause-from_zero
check_row-requires-clause-from_zero g c = c.requires.from_zero

pub returns-in_err-check_row : goal.returns-in_err-check_row
returns-in_err-check_row g c =
    let p = err_from_is_err_and c.from_residual.result c.from_residual.ensures.1 in
    rw (p.1, p.2) (c.loop-node.node, omega (arith, c.loop-node-test.true, c.len-node-end.ensures), c.in_err-check_row.ensures, c.loop-node.invariant)

pub loop-node-smaller : goal.loop-node-smaller
loop-node-smaller g c = omega (arith, c.loop-node-test.true)

pub loop-node-preserved : goal.loop-node-preserved
loop-node-preserved g c = λ n place l.
    let falls = FallsAt g.C.Number.value (g.G.Graph.places c.args.graph.now) c.args.estimates.now in
    one_more (λ k. (p : ℕ) → falls k p) c.loop-node.node c.in_ok-check_row.ensures (λ k m p. c.loop-node.invariant k p m) n l place

pub returns : goal.returns
returns g c = λ node place l. c.loop-node.invariant node place (omega (arith, l, c.loop-node-test.false, c.len-node-end.ensures))
