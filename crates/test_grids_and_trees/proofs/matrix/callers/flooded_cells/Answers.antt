use Rattle.std.proofs.Common.{◌≡◌, ℕ, Bool, nat_eq, rules}
use Rattle.std.proofs.lemmas.Result.{MatchResult-weaker}
use Rattle.pf_matrix.specs.Tables.{value_at}
use Rattle.pf_matrix.proofs.CallLemmas.{callable_at_positions, given_at_positions}
use Rattle.test_grids_and_trees.proofs.matrix.callers.flooded_cells.Goals as goal

pub bfs_reachable-requires : goal.bfs_reachable-requires
bfs_reachable-requires g c = callable_at_positions _ _ _ (λ p y f k. search rules) (λ r k a b. search rules)

pub returns : goal.returns
returns g c =
    let m = c.args.board.now in
    MatchResult-weaker c.bfs_reachable.result c.bfs_reachable.ensures.reached
    (λ reached given. (
      given.0,
      given.2,
      λ r k p q. given_at_positions (λ (p : ℕ × ℕ) (y : Bool). (v : ℕ) × (v ≡ value_at m p.0 p.1 v) × (y ≡ nat_eq v 0)) given.1 (λ p y f k. (search rules, search rules)) r k _ p q,
    ))
    (λ e t. tt)
