use Rattle.std.proofs.Common.{ap, sym, refl}
use Rattle.pf_tables.specs.Graphs.{successors_of}
use Rattle.pf_table_searches.proofs.walks.bfs_reach.Goals as goal

pub returns-clause-graph : goal.returns-clause-graph
returns-clause-graph g c =
    let next = successors_of g.C.Number.value (g.G.Graph.size c.args.graph.now) (g.G.Graph.places c.args.graph.now) in
    c.over-walk.ensures.graph next (ap (λ t. successors_of g.C.Number.value (g.G.Graph.size t) (g.G.Graph.places t)) (sym c.new.ensures))

pub invariant_of-result : goal.invariant_of-result
invariant_of-result g c = returns-clause-graph g c

pub over-walk-requires : goal.over-walk-requires
over-walk-requires g c = record { empty = c.new-nodes.ensures }

pub returns-clause-begins : goal.returns-clause-begins
returns-clause-begins g c = rw (c.over-walk.ensures.begins, c.new.ensures) refl
