use Rattle.std.proofs.Common.{rules, arith, ℕ, pos, ◌<◌, ◌==◌, List, ◌∷◌, [], length, filter, nat_lt, nat_eq, Bor}
use borrow.Author.Tests.{tests}
use Rattle.std.proofs.lemmas.Iterator.{YieldsList-from_slice}
use Rattle.std.proofs.lemmas.Iterator.Consumers.{YieldsList-from_copied, YieldsList-from_filter}
use Rattle.pf_base.proofs.Callers.{nat_graph, nat_test, valued}
use Rattle.pf_base.proofs.Sources.{gives_chain}
use Rattle.pf_base.proofs.Reach.{nat_reach_keeps, row_at, row_at-index, row_all, filter_all, unsigned_cost}
use Rattle.test_searches.proofs.tests.kinds.by_filter.Goals as goal

pub dijkstra-requires-clause-graph : goal.dijkstra-requires-clause-graph
dijkstra-requires-clause-graph c =
    let rows : List (Bor (List (ℕ × ℕ))) = c.args.rows.now in
    let row : ℕ → List (ℕ × ℕ) = row_at (λ (row : Bor (List (ℕ × ℕ))). row.now) rows in
    let cheap : ℕ × ℕ → _ = λ e. nat_lt e.1 c.args.limit in
    let listed : ℕ → List (ℕ × ℕ) = λ n. filter cheap (row n) in
    let below = nat_reach_keeps (λ z. pos z) listed (λ n. n < length rows) 0 c.requires.inside (λ n p. filter_all (λ (e : ℕ × ℕ). e.0 < length rows) cheap (row n) (row_all (λ (e : ℕ × ℕ). e.0 < length rows) (λ (row : Bor (List (ℕ × ℕ))). row.now) rows c.requires.in_range n)) in (
      (λ n. valued (λ z. pos z) (listed n)),
      (λ n. n == 2),
      record {
        edges_answered = nat_graph listed (λ x w. let l = below x.now w in search rules) (λ x r t w k. let l = below x.now w in (search rules, gives_chain (λ it b. (search rules, search rules, YieldsList-from_filter _ cheap {f = record { 0 = c.args.limit }} (YieldsList-from_copied (YieldsList-from_slice (row x.now) (grind (arith, row_at-index)))) (cc) (λ e o q m. search (rules, tests))))));
        test_answered = nat_test (λ n. n == 2) (λ x w. search rules) (λ x r t w k. (search rules, search rules));
        costs = unsigned_cost nat_eq listed (0 ∷ []);
      },
    )
