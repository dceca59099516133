use Rattle.std.proofs.Common.{◌≡◌, ℕ, ◌/◌, rules}
use Rattle.std.proofs.lemmas.Result.{MatchResult-weaker}
use Rattle.std.proofs.lemmas.Slice.Zip.{AllZip-map}
use Rattle.pf_matrix.proofs.CallLemmas.{callable_at_each, given_at_each}
use Rattle.test_grids_and_trees.proofs.matrix.callers.hundred_divided.Goals as goal

pub map-requires : goal.map-requires
map-requires g c = callable_at_each _ _ (λ x y f k. search rules) (λ k d h. search rules)

pub returns-clause-values : goal.returns-clause-values
returns-clause-values g c =
    MatchResult-weaker c.map.result c.map.ensures.values
    (λ divided given. AllZip-map (λ (x : ℕ). 100 / x) _ _ (given_at_each (λ (x y : ℕ). y ≡ 100 / x) given (λ x y f k. search rules))) (λ e t. tt)
