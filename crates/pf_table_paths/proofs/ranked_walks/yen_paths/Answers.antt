use Rattle.pf_table_paths.proofs.ranked_walks.yen_paths.Goals as goal

pub returns-clause-graph : goal.returns-clause-graph
returns-clause-graph g c = c.in_ok-walk.ensures.graph

pub invariant_of-result : goal.invariant_of-result
invariant_of-result g c = returns-clause-graph g c
