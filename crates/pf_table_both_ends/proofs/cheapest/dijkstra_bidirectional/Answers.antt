use Rattle.std.proofs.Common.{sym, subst, ◌∷◌, [], ◌-◌, ◌==◌, length, nat_eq}
use Rattle.std.specs.Prelude.{ℕ, List, Option, IfOk}
use Rattle.pf_base.specs.Edges.{CostOverflows, IsCheapestOrNone}
use Rattle.pf_tables.specs.Graphs.{between, filled, graph_of}
use Rattle.pf_tables.proofs.GraphLemmas.{no_negative_cost}
use Rattle.pf_table_functions.proofs.TableExplores.{table_edges, one_distinct, same_nodes, first_stands}
use Rattle.pf_adjacency.specs.declared.adjacency_list.AdjacencyList.{AdjacencyList}
use Rattle.pf_adjacency.specs.Reverses.{IsTurnedRound}
use Rattle.pf_table_both_ends.proofs.TurnedTables.{cost_mirror, same_goal}
use Rattle.pf_table_both_ends.proofs.cheapest.dijkstra_bidirectional.Goals as goal

pub cheapest_path-requires-clause-ends : goal.cheapest_path-requires-clause-ends
cheapest_path-requires-clause-ends g c =
    let value = g.C.Number.value in
    let forth = c.forth-forth.result.now in
    let back = c.back-back.result.now in
    let size_back = λ (t : AdjacencyList g.row.C.Denot g.row.B.Denot). length t.0 - 1 in
    let places_back : AdjacencyList g.row.C.Denot g.row.B.Denot → ℕ → List (Option (ℕ × g.row.C.Denot)) = λ t n. filled (between t.0 t.1 n) in
    let edges = λ (t : g.row.G.Denot). graph_of value (g.G.Graph.size t) (g.G.Graph.places t) in
    let previous = graph_of value (size_back back) (places_back back) in
    let turned : IsTurnedRound (edges forth) previous = subst (λ (t : g.row.G.Denot). IsTurnedRound (edges t) previous) (sym c.forth-forth.ensures) c.back-back.ensures.mirror in
    let starts = c.args.from ∷ [] in
    let ends = c.args.to ∷ [] in (
      edges forth,
      previous,
      c.args.from,
      c.args.to,
      rw (c.edge_discovery.ensures, c.in_ok-nodes.ensures.one) (table_edges value g.G.Graph.size g.G.Graph.places forth starts starts (one_distinct c.args.from) (same_nodes starts)),
      rw (c.edge_discovery-2.ensures, c.in_ok-nodes_back.ensures.one) (table_edges value size_back places_back back ends ends (one_distinct c.args.to) (same_nodes ends)),
      rw (c.edge_discovery.ensures, c.edge_discovery-2.ensures, c.in_ok-nodes.ensures.one, c.in_ok-nodes_back.ensures.one)
          (record {
            begins = first_stands c.args.from;
            begins_back = first_stands c.args.to;
            mirror = cost_mirror (edges forth) previous turned c.args.from c.args.to;
            costs = no_negative_cost value (g.G.Graph.size forth) (g.G.Graph.places forth) c.known.ensures starts;
            costs_back = no_negative_cost value (size_back back) (places_back back) c.known-2.ensures ends;
          }),
    )

pub returns-clause-best : goal.returns-clause-best
unfolding cheapest_path-requires-clause-ends
returns-clause-best g c =
    let p = cheapest_path-requires-clause-ends g c.before.before.before.before.before.before.before in
    let value = g.C.Number.value in
    let result = c.cheapest_path.result in
    subst (λ (t : g.row.G.Denot). IfOk result (IsCheapestOrNone nat_eq (graph_of value (g.G.Graph.size t) (g.G.Graph.places t)) (c.args.from ∷ []) (λ n. n == c.args.to) value)) c.forth-forth.ensures
    (subst (λ test. IfOk result (IsCheapestOrNone nat_eq p.0 (c.args.from ∷ []) test value)) (same_goal c.args.to) (c.cheapest_path.ensures.best p.0 p.1 p.2 p.3 p.4 p.5 p.6).0)

pub returns-clause-overflow : goal.returns-clause-overflow
unfolding cheapest_path-requires-clause-ends
returns-clause-overflow g c = λ told.
    let p = cheapest_path-requires-clause-ends g c.before.before.before.before.before.before.before in
    let value = g.C.Number.value in
    subst (λ (t : g.row.G.Denot). CostOverflows nat_eq (graph_of value (g.G.Graph.size t) (g.G.Graph.places t)) (c.args.from ∷ []) (λ n. n == c.args.to) g.C.Number.fits) c.forth-forth.ensures
    (subst (λ test. CostOverflows nat_eq p.0 (c.args.from ∷ []) test g.C.Number.fits) (same_goal c.args.to) ((c.cheapest_path.ensures.best p.0 p.1 p.2 p.3 p.4 p.5 p.6).1 told))
