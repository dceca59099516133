use Rattle.std.proofs.Common.{rules, ℕ, List, ◌-◌, refl}
use Rattle.std.specs.List.{range_with_len}
use Rattle.std.proofs.lemmas.Iterator.{YieldsList-from_range}
use Rattle.pf_base.proofs.Sources.{gives_chain}
use Rattle.pf_base.proofs.Tables.{nat_successors}
use Rattle.test_hostile_use.proofs.chained.sets_in_chain.Goals as goal

pub connected_components-requires-clause-graph : goal.connected_components-requires-clause-graph
connected_components-requires-clause-graph c =
    let listed : ℕ → List ℕ = λ n. range_with_len (n - 1) (n - (n - 1)) in
    (listed, nat_successors listed (λ x w. search rules) (λ x r t w k. (search rules, gives_chain (λ it b. (search rules, search rules, YieldsList-from_range (x.now - 1) x.now (x.now - (x.now - 1)) (cc) refl)))))
