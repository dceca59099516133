use Rattle.std.proofs.Common.{rules, ◌≡◌, ◌∙◌, ◌==◌}
use Rattle.pf_base.proofs.Sources.{gives_chain, YieldsList-from_array}
use Rattle.test_searches.specs.Moves.{moves_from}
use Rattle.pf_base.proofs.Callers.{exact_successors, exact_test}
use Rattle.test_searches.proofs.jugs.fewest_moves.Goals as goal

pub bfs-requires-clause-graph : goal.bfs-requires-clause-graph
bfs-requires-clause-graph c = (
  moves_from,
  (λ s. s.five == c.args.litres),
  record {
    successors_answered = exact_successors (λ x. search rules) (λ x y e. search rules) moves_from (λ x w. search rules)
        (λ x r t w k. let is : r ≡ moves_from x.now = search rules in (search rules, gives_chain (λ it b. (tt, tt, YieldsList-from_array (moves_from x.now) (b.0 ∙ is)))));
    test_answered = exact_test (λ x. search rules) (λ x y e. search rules) (λ s. s.five == c.args.litres) (λ x w. search rules) (λ x r t w k. (search rules, search rules));
  },
)

pub returns-clause-best : goal.returns-clause-best
unfolding bfs-requires-clause-graph
returns-clause-best c =
    let p = bfs-requires-clause-graph c.before.before in
    rw (← c.in_ok-starts.ensures.one) (c.bfs.ensures.best p.0 p.1 p.2)
