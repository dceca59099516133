use Rattle.pf_residual.proofs.SparseRowLemmas.{found, stands}
use Rattle.pf_residual.proofs.sparse_row.find_near.Goals as goal

pub returns-then-row-near-clause-place : goal.returns-then-row-near-clause-place
returns-then-row-near-clause-place g c = stands 0 c.args.row.now c.args.to c.args.near c.index-row-near.result c.requires c.if-near-row.true c.if-row-near.true

pub returns-then-row-near-clause-found : goal.returns-then-row-near-clause-found
returns-then-row-near-clause-found g c = found c.args.row.now c.args.to c.args.near c.index-row-near.result c.if-near-row.true c.if-row-near.true
