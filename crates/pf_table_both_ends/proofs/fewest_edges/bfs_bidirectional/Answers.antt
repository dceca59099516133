use Rattle.std.proofs.Common.{sym, subst, ◌∷◌, [], ◌-◌, ◌==◌, length, nat_eq}
use Rattle.std.specs.Prelude.{ℕ, List, Option, IfOk}
use Rattle.pf_base.specs.Successors.{IsFewestEdgesOrNone}
use Rattle.pf_tables.specs.Graphs.{between, filled, graph_of, successors_of}
use Rattle.pf_table_functions.proofs.TableExplores.{table_hops, one_distinct, same_nodes}
use Rattle.pf_adjacency.specs.declared.adjacency_list.AdjacencyList.{AdjacencyList}
use Rattle.pf_adjacency.specs.Reverses.{IsTurnedRound}
use Rattle.pf_table_both_ends.proofs.TurnedTables.{mirror, only_goal}
use Rattle.pf_table_both_ends.proofs.fewest_edges.bfs_bidirectional.Goals as goal

pub fewest_edges_path-requires-clause-graph : goal.fewest_edges_path-requires-clause-graph
fewest_edges_path-requires-clause-graph g c =
    let value = g.C.Number.value in
    let forth = c.forth-forth.result.now in
    let back = c.back-back.result.now in
    let size_back = λ (t : AdjacencyList g.row.C.Denot g.row.B.Denot). length t.0 - 1 in
    let places_back : AdjacencyList g.row.C.Denot g.row.B.Denot → ℕ → List (Option (ℕ × g.row.C.Denot)) = λ t n. filled (between t.0 t.1 n) in
    let starts = c.args.from ∷ [] in
    let ends = c.args.to ∷ [] in (
      successors_of value (g.G.Graph.size forth) (g.G.Graph.places forth),
      successors_of value (size_back back) (places_back back),
      starts,
      ends,
      rw (c.hop_discovery.ensures, c.in_ok-nodes.ensures.one) (table_hops value g.G.Graph.size g.G.Graph.places forth starts starts (one_distinct c.args.from) (same_nodes starts)),
      rw (c.hop_discovery-2.ensures, c.in_ok-nodes_back.ensures.one) (table_hops value size_back places_back back ends ends (one_distinct c.args.to) (same_nodes ends)),
    )

pub returns-clause-best : goal.returns-clause-best
unfolding fewest_edges_path-requires-clause-graph
returns-clause-best g c =
    let p = fewest_edges_path-requires-clause-graph g c.before.before.before.before.before.before.before in
    let value = g.C.Number.value in
    let result = c.fewest_edges_path.result in
    let starts = c.args.from ∷ [] in
    let ends = c.args.to ∷ [] in
    let back = c.back-back.result.now in
    let size_back = length back.0 - 1 in
    let places_back : ℕ → List (Option (ℕ × g.row.C.Denot)) = λ n. filled (between back.0 back.1 n) in
    let edges = λ (t : g.row.G.Denot). graph_of value (g.G.Graph.size t) (g.G.Graph.places t) in
    let turned : IsTurnedRound (edges c.forth-forth.result.now) (graph_of value size_back places_back) =
    subst (λ (t : g.row.G.Denot). IsTurnedRound (edges t) (graph_of value size_back places_back)) (sym c.forth-forth.ensures) c.back-back.ensures.mirror in
    let best = c.fewest_edges_path.ensures.best p.0 p.1 starts ends p.4 p.5 (rw (c.hop_discovery.ensures, c.in_ok-nodes.ensures.one) (same_nodes starts)) (rw (c.hop_discovery-2.ensures, c.in_ok-nodes_back.ensures.one) (same_nodes ends))
    (mirror (edges c.forth-forth.result.now) (graph_of value size_back places_back) turned starts ends) in
    subst (λ (t : g.row.G.Denot). IfOk result (IsFewestEdgesOrNone nat_eq (successors_of value (g.G.Graph.size t) (g.G.Graph.places t)) starts (λ n. n == c.args.to))) c.forth-forth.ensures
    (subst (λ test. IfOk result (IsFewestEdgesOrNone nat_eq p.0 starts test)) (only_goal c.args.to) best)
