use Rattle.pf_yen.proofs.adjacency.Adjacency.reduced.Goals as goal

pub returns-in_err-guide : goal.returns-in_err-guide
returns-in_err-guide g c = rw c.from_residual.ensures tt

pub returns-in_err-rows : goal.returns-in_err-rows
returns-in_err-rows g c = rw c.from_residual-in_err-rows.ensures tt
