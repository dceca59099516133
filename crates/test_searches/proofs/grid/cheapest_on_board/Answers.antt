use Rattle.std.proofs.Common.{rules, ap, pos, ◌∷◌, []}
use Rattle.std.specs.List.{filter_map}
use Rattle.pf_base.proofs.Callers.{test_of}
use Rattle.pf_base.proofs.Reach.{unsigned_cost}
use Rattle.pf_base.proofs.Tables.{grid_graph, pair_refl, pair_exact}
use Rattle.test_searches.specs.Grid.{entered, four_directions, same_cell, steps_from}
use Rattle.test_searches.proofs.grid.cheapest_on_board.Goals as goal

pub dijkstra-requires-clause-graph : goal.dijkstra-requires-clause-graph
dijkstra-requires-clause-graph c =
    let step = entered c.args.heights.now c.args.dimensions c.args.bound in (
      steps_from c.args.heights.now c.args.dimensions c.args.bound,
      (λ cell. same_cell cell c.args.to),
      record {
        edges_answered = grid_graph (λ z. pos z) four_directions step pair_refl pair_exact (λ x. search rules) (λ x r t k. (search rules, search rules, λ d. search rules, λ d o q l. (search rules, search rules)));
        test_answered = test_of (λ cell. same_cell cell c.args.to) (λ x y w e. ap (λ cell. same_cell cell c.args.to) (pair_exact x y e)) (λ x w. search rules) (λ x r t w k. (search rules, search rules));
        costs = unsigned_cost same_cell (λ cell. filter_map (step cell) four_directions) (c.args.from ∷ []);
      },
    )

pub returns : goal.returns
unfolding dijkstra-requires-clause-graph
returns c =
    let p = dijkstra-requires-clause-graph c.before in
    let e = c.dijkstra.ensures in
    record { best = e.best p.0 p.1 p.2; overflow = e.overflow p.0 p.1 p.2; errors = e.errors }
