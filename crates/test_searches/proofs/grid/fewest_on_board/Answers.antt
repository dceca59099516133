use Rattle.std.proofs.Common.{rules, ap}
use Rattle.pf_base.proofs.Callers.{test_of}
use Rattle.pf_base.proofs.Tables.{grid_successors, pair_refl, pair_exact}
use Rattle.test_searches.specs.Grid.{cells_from, entered_cell, four_directions, same_cell}
use Rattle.test_searches.proofs.grid.fewest_on_board.Goals as goal

pub bfs-requires-clause-graph : goal.bfs-requires-clause-graph
bfs-requires-clause-graph c =
    let step = entered_cell c.args.heights.now c.args.dimensions c.args.bound in (
      cells_from c.args.heights.now c.args.dimensions c.args.bound,
      (λ cell. same_cell cell c.args.to),
      record {
        successors_answered = grid_successors four_directions step pair_refl pair_exact (λ x. search rules) (λ x r t k. (search rules, search rules, λ d. search rules, λ d o q l. (search rules, search rules)));
        test_answered = test_of (λ cell. same_cell cell c.args.to) (λ x y w e. ap (λ cell. same_cell cell c.args.to) (pair_exact x y e)) (λ x w. search rules) (λ x r t w k. (search rules, search rules));
      },
    )

pub returns : goal.returns
unfolding bfs-requires-clause-graph
returns c =
    let p = bfs-requires-clause-graph c.before in
    let e = c.bfs.ensures in
    record { best = e.best p.0 p.1 p.2; errors = e.errors }
