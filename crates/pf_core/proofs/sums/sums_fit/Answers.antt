use Rattle.std.proofs.Common.{rules, inr, ℕ}
use Rattle.std.proofs.lemmas.List.Sorted.{IsNonDecreasingBy-from_sort_by_key, Contains-permutation, IsPermutation-sym}
use Rattle.pf_core.proofs.sums.sums_fit.Goals as goal

pub returns-then-all_fit-clause-reached : goal.returns-then-all_fit-clause-reached
returns-then-all_fit-clause-reached g c = λ j p h. inr (p, h, c.if-all_fit.ensures j p h)

pub ends_reached-requires : goal.ends_reached-requires
ends_reached-requires g c = IsNonDecreasingBy-from_sort_by_key (λ (x : ℕ × g.row.C.Denot). x.0) c.sort_unstable_by_key.new.self c.sort_unstable_by_key.ensures.sorted (λ a r f k. (search rules, search rules))

pub returns-clause-same : goal.returns-clause-same
returns-clause-same g c =
    let p = c.sort_unstable_by_key.ensures.permutation in
    λ x. (λ h. Contains-permutation c.sort_unstable_by_key.new.self c.args.row.now x (IsPermutation-sym _ _ p) h, λ h. Contains-permutation c.args.row.now c.sort_unstable_by_key.new.self x p h)
