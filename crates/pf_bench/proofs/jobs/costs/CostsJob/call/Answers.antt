use Rattle.std.proofs.Common.{rules, arith, ap, ◌≡◌, ℕ, true, sym, subst, pos, ◌∷◌, []}
use Rattle.std.specs.List.{filter_map}
use Rattle.pf_base.proofs.Reach.{unsigned_cost}
use Rattle.pf_base.proofs.Tables.{pair_refl, pair_exact}
use Rattle.pf_informed.proofs.Callers.{estimate_of}
use Rattle.pf_bench.specs.Steps.{crossed, crossings_from, entered, four_directions, same_cell, steps_between, steps_from}
use Rattle.pf_bench.proofs.BoardEstimate.{board_admissible}
use Rattle.pf_bench.proofs.CrossMirror.{crossings_mirror}
use Rattle.pf_bench.proofs.Shown.{goal_test, shown_graph}
use Rattle.pf_bench.proofs.jobs.costs.CostsJob.call.Goals as goal

pub dijkstra-requires-clause-graph : goal.dijkstra-requires-clause-graph
dijkstra-requires-clause-graph c =
    let board = c.args.board.now in
    let listed = λ (cell : ℕ × ℕ). filter_map (entered board.heights.items board.size cell) four_directions in
    let last = c.last_cell-goal.result in (
      steps_from board.heights.items board.size,
      (λ cell. same_cell cell last),
      record {
        edges_answered = shown_graph pair_refl pair_exact (λ z. pos z) listed (λ x w. search rules) (λ x r t w k. (search rules, λ it b. (search rules, search rules, search rules)));
        test_answered = goal_test last (λ x. search rules) (λ x r t k. (search rules, search rules));
        costs = unsigned_cost same_cell listed ((0, 0) ∷ []);
      },
    )

pub dijkstra_all-requires-clause-graph : goal.dijkstra_all-requires-clause-graph
dijkstra_all-requires-clause-graph c =
    let board = c.args.board.now in
    let listed = λ (cell : ℕ × ℕ). filter_map (entered board.heights.items board.size cell) four_directions in (
      steps_from board.heights.items board.size,
      shown_graph pair_refl pair_exact (λ z. pos z) listed (λ x w. search rules) (λ x r t w k. (search rules, λ it b. (search rules, search rules, search rules))),
      unsigned_cost same_cell listed ((0, 0) ∷ []),
    )

pub walk_costs_of-requires : goal.walk_costs_of-requires
walk_costs_of-requires c =
    let board = c.args.board.now in
    let listed = λ (cell : ℕ × ℕ). filter_map (entered board.heights.items board.size cell) four_directions in
    let edges = steps_from board.heights.items board.size in
    let walk = c.in_ok-walk-in-DijkstraReach.ensures.graph edges
    (shown_graph pair_refl pair_exact (λ z. pos z) listed (λ x w. search rules) (λ x r t w k. (search rules, λ it b. (search rules, search rules, search rules))))
    (unsigned_cost same_cell listed ((0, 0) ∷ [])) in
    ((λ x y e. let is : y ≡ x = search rules in subst (λ z. same_cell x z ≡ true) (sym is) (pair_refl x)), (edges, (0, 0), walk))

pub dijkstra_bidirectional-requires-clause-graph : goal.dijkstra_bidirectional-requires-clause-graph
dijkstra_bidirectional-requires-clause-graph c =
    let heights = c.args.board.now.heights.items in
    let size = c.args.board.now.size in
    let last = c.last_cell-goal.result in
    let listed = λ (cell : ℕ × ℕ). filter_map (crossed heights size cell) four_directions in (
      crossings_from heights size,
      crossings_from heights size,
      record {
        edges_answered = shown_graph pair_refl pair_exact (λ z. pos z) listed (λ x w. search rules) (λ x r t w k. (search rules, λ it b. (search rules, search rules, search rules)));
        previous_answered = shown_graph pair_refl pair_exact (λ z. pos z) listed (λ x w. search rules) (λ x r t w k. (search rules, λ it b. (search rules, search rules, search rules)));
        mirror = crossings_mirror heights size (omega arith) (0, 0) last ((omega arith, omega arith)) ((omega arith, omega arith));
        costs = unsigned_cost same_cell listed ((0, 0) ∷ []);
        costs_back = unsigned_cost same_cell listed (last ∷ []);
      },
    )

pub astar-requires-clause-graph : goal.astar-requires-clause-graph
astar-requires-clause-graph c =
    let board = c.args.board.now in
    let listed = λ (cell : ℕ × ℕ). filter_map (entered board.heights.items board.size cell) four_directions in
    let last = c.last_cell-goal.result in (
      steps_from board.heights.items board.size,
      (λ cell. same_cell cell last),
      (λ cell. pos (steps_between cell last)),
      record {
        weighted = record {
          edges_answered = shown_graph pair_refl pair_exact (λ z. pos z) listed (λ x w. search rules) (λ x r t w k. (search rules, λ it b. (search rules, search rules, search rules)));
          test_answered = goal_test last (λ x. search rules) (λ x r t k. (search rules, search rules));
          costs = unsigned_cost same_cell listed ((0, 0) ∷ []);
        };
        estimate_answered = estimate_of (λ cell. steps_between cell last) (λ x y w e. ap (λ cell. steps_between cell last) (pair_exact x y e)) (λ x w. search rules) (λ x r t w k. (search rules, search rules));
        admissible = board_admissible board.size (omega arith) board.heights.items board.square board.raised (0, 0) last ((omega arith, omega arith));
      },
    )

pub fringe-requires-clause-graph : goal.fringe-requires-clause-graph
fringe-requires-clause-graph c =
    let board = c.args.board.now in
    let listed = λ (cell : ℕ × ℕ). filter_map (entered board.heights.items board.size cell) four_directions in
    let last = c.last_cell-goal.result in (
      steps_from board.heights.items board.size,
      (λ cell. same_cell cell last),
      (λ cell. pos (steps_between cell last)),
      record {
        weighted = record {
          edges_answered = shown_graph pair_refl pair_exact (λ z. pos z) listed (λ x w. search rules) (λ x r t w k. (search rules, λ it b. (search rules, search rules, search rules)));
          test_answered = goal_test last (λ x. search rules) (λ x r t k. (search rules, search rules));
          costs = unsigned_cost same_cell listed ((0, 0) ∷ []);
        };
        estimate_answered = estimate_of (λ cell. steps_between cell last) (λ x y w e. ap (λ cell. steps_between cell last) (pair_exact x y e)) (λ x w. search rules) (λ x r t w k. (search rules, search rules));
        admissible = board_admissible board.size (omega arith) board.heights.items board.square board.raised (0, 0) last ((omega arith, omega arith));
      },
    )

pub astar_bag-requires-clause-graph : goal.astar_bag-requires-clause-graph
astar_bag-requires-clause-graph c =
    let board = c.args.board.now in
    let listed = λ (cell : ℕ × ℕ). filter_map (entered board.heights.items board.size cell) four_directions in
    let last = c.last_cell-goal.result in (
      steps_from board.heights.items board.size,
      (λ cell. same_cell cell last),
      (λ cell. pos (steps_between cell last)),
      record {
        weighted = record {
          edges_answered = shown_graph pair_refl pair_exact (λ z. pos z) listed (λ x w. search rules) (λ x r t w k. (search rules, λ it b. (search rules, search rules, search rules)));
          test_answered = goal_test last (λ x. search rules) (λ x r t k. (search rules, search rules));
          costs = unsigned_cost same_cell listed ((0, 0) ∷ []);
        };
        estimate_answered = estimate_of (λ cell. steps_between cell last) (λ x y w e. ap (λ cell. steps_between cell last) (pair_exact x y e)) (λ x w. search rules) (λ x r t w k. (search rules, search rules));
        admissible = board_admissible board.size (omega arith) board.heights.items board.square board.raised (0, 0) last ((omega arith, omega arith));
      },
    )
