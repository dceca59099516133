use Rattle.std.proofs.Common.{rules, arith, ◌≡◌, true, sym, subst, [], ◌∷◌}
use Rattle.pf_base.proofs.Tables.{pair_refl, pair_exact}
use Rattle.pf_bench.specs.Steps.{cells_from, same_cell}
use Rattle.pf_bench.proofs.BoardMirror.{cells_mirror}
use Rattle.pf_bench.proofs.Shown.{goal_test, shown_successors}
use Rattle.pf_bench.proofs.jobs.steps.StepsJob.call.Goals as goal

pub bfs-requires-clause-graph : goal.bfs-requires-clause-graph
bfs-requires-clause-graph c =
    let next = cells_from c.args.board.now.size in
    let last = c.last_cell-goal.result in (
      next,
      (λ cell. same_cell cell last),
      record {
        successors_answered = shown_successors pair_refl pair_exact next (λ x w. search rules) (λ x r t w k. (search rules, λ it b. (search rules, search rules, search rules)));
        test_answered = goal_test last (λ x. search rules) (λ x r t k. (search rules, search rules));
      },
    )

pub nodes_of-requires : goal.nodes_of-requires
nodes_of-requires c =
    let next = cells_from c.args.board.now.size in
    let walk = c.in_ok-breadth-in-BfsReach.ensures.graph next (shown_successors pair_refl pair_exact next (λ x w. search rules) (λ x r t w k. (search rules, λ it b. (search rules, search rules, search rules)))) in
    ((λ x y e. let is : y ≡ x = search rules in subst (λ z. same_cell x z ≡ true) (sym is) (pair_refl x)), (next, (0, 0), walk))

pub bfs_bidirectional-requires-clause-graph : goal.bfs_bidirectional-requires-clause-graph
bfs_bidirectional-requires-clause-graph c =
    let size = c.args.board.now.size in
    let last = c.last_cell-goal.result in (
      cells_from size,
      cells_from size,
      record {
        successors_answered = shown_successors pair_refl pair_exact (cells_from size) (λ x w. search rules) (λ x r t w k. (search rules, λ it b. (search rules, search rules, search rules)));
        predecessors_answered = shown_successors pair_refl pair_exact (cells_from size) (λ x w. search rules) (λ x r t w k. (search rules, λ it b. (search rules, search rules, search rules)));
        mirror = rw c.in_ok-starts-in-BfsBidirectional.ensures.one (rw c.in_ok-ends-in-BfsBidirectional.ensures.one (cells_mirror size (omega arith) ((0, 0) ∷ []) (last ∷ []) (((omega arith, omega arith), tt)) (((omega arith, omega arith), tt))));
      },
    )

pub nodes_of-requires-in-DfsReach : goal.nodes_of-requires-in-DfsReach
nodes_of-requires-in-DfsReach c =
    let next = cells_from c.args.board.now.size in
    let walk = c.in_ok-depth-in-DfsReach.ensures.graph next (shown_successors pair_refl pair_exact next (λ x w. search rules) (λ x r t w k. (search rules, λ it b. (search rules, search rules, search rules)))) in
    ((λ x y e. let is : y ≡ x = search rules in subst (λ z. same_cell x z ≡ true) (sym is) (pair_refl x)), (next, (0, 0), [], walk))

pub iddfs-requires : goal.iddfs-requires
iddfs-requires c =
    let next = cells_from c.args.board.now.size in
    let last = c.last_cell-goal.result in
    record {
      graph = (
        next,
        (λ cell. same_cell cell last),
        record {
          successors_answered = shown_successors pair_refl pair_exact next (λ x w. search rules) (λ x r t w k. (search rules, λ it b. (search rules, search rules, search rules)));
          test_answered = goal_test last (λ x. search rules) (λ x r t k. (search rules, search rules));
        },
      );
    }
