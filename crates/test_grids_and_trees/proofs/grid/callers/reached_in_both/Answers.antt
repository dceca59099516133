use Rattle.std.proofs.Common.{◌≡◌, ℕ, Bool, false, rules}
use Rattle.std.proofs.lemmas.Result.{MatchResult-weaker}
use Rattle.pf_grid.specs.GridPositions.{has}
use Rattle.pf_matrix.proofs.CallLemmas.{callable_at_positions, given_at_positions}
use Rattle.test_grids_and_trees.proofs.grid.callers.reached_in_both.Goals as goal

pub bfs_reachable-requires : goal.bfs_reachable-requires
bfs_reachable-requires g c = callable_at_positions _ _ _ (λ p y f k. search rules) (λ x y a b. search rules)

pub returns : goal.returns
returns g c =
    let other = c.args.other.now in
    MatchResult-weaker c.bfs_reachable.result c.bfs_reachable.ensures.reached
    (λ reached given.
    let flood = given c.requires in (
      flood.0,
      flood.2,
      λ x y p q. given_at_positions (λ (at : ℕ × ℕ) (b : Bool). b ≡ has other at.0 at.1) flood.1 (λ at b f k. (search rules, search rules)) x y false p q,
    ))
    (λ e t. tt)
