use Rattle.std.proofs.Common.{rules, arith, ap, ℕ, List, pos, ◌∷◌, []}
use Rattle.std.specs.List.{filter_map}
use Rattle.pf_base.proofs.Callers.{test_of}
use Rattle.pf_base.proofs.Reach.{unsigned_cost}
use Rattle.pf_informed.proofs.Callers.{estimate_of}
use Rattle.pf_bench.specs.Tiles.{distance_below, four_moves, moves_from, same_tiles, slid, solved_tiles}
use Rattle.pf_bench.proofs.Shown.{shown_graph}
use Rattle.pf_bench.proofs.TileEstimate.{clones_same, tiles_admissible, tiles_exact, tiles_refl}
use Rattle.pf_bench.proofs.jobs.puzzle.PuzzleJob.call.Goals as goal

pub astar-requires-clause-clones : goal.astar-requires-clause-clones
astar-requires-clause-clones c = λ x y h. clones_same x y h.whole

pub astar-requires-clause-graph : goal.astar-requires-clause-graph
astar-requires-clause-graph c =
    let start = c.args.start.now in
    let listed = λ (x : List ℕ). filter_map (slid x) four_moves in (
      moves_from,
      (λ x. same_tiles x solved_tiles),
      (λ x. pos (distance_below x 16)),
      record {
        weighted = record {
          edges_answered = shown_graph tiles_refl tiles_exact (λ z. pos z) listed (λ x w. search rules) (λ x r t w k. (search rules, λ it b. (search rules, search rules, search rules)));
          test_answered = test_of (λ x. same_tiles x solved_tiles) (λ x y w e. ap (λ x. same_tiles x solved_tiles) (tiles_exact x y e)) (λ x w. search rules) (λ x r t w k. (search rules, search rules));
          costs = unsigned_cost same_tiles listed (start ∷ []);
        };
        estimate_answered = estimate_of (λ x. distance_below x 16) (λ x y w e. ap (λ x. distance_below x 16) (tiles_exact x y e)) (λ x w. search rules) (λ x r t w k. (search rules, search rules));
        admissible = tiles_admissible start (omega arith);
      },
    )

pub idastar-requires-clause-clones : goal.idastar-requires-clause-clones
idastar-requires-clause-clones c = λ x y h. clones_same x y h.whole

pub idastar-requires-clause-graph : goal.idastar-requires-clause-graph
idastar-requires-clause-graph c =
    let start = c.args.start.now in
    let listed = λ (x : List ℕ). filter_map (slid x) four_moves in (
      moves_from,
      (λ x. same_tiles x solved_tiles),
      (λ x. pos (distance_below x 16)),
      record {
        weighted = record {
          edges_answered = shown_graph tiles_refl tiles_exact (λ z. pos z) listed (λ x w. search rules) (λ x r t w k. (search rules, λ it b. (search rules, search rules, search rules)));
          test_answered = test_of (λ x. same_tiles x solved_tiles) (λ x y w e. ap (λ x. same_tiles x solved_tiles) (tiles_exact x y e)) (λ x w. search rules) (λ x r t w k. (search rules, search rules));
          costs = unsigned_cost same_tiles listed (start ∷ []);
        };
        estimate_answered = estimate_of (λ x. distance_below x 16) (λ x y w e. ap (λ x. distance_below x 16) (tiles_exact x y e)) (λ x w. search rules) (λ x r t w k. (search rules, search rules));
        admissible = tiles_admissible start (omega arith);
      },
    )
