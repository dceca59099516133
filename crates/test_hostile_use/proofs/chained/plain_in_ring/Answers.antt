use Rattle.std.proofs.Common.{rules, ◌≡◌, ◌∙◌, ℕ, List, ◌∷◌, [], nat_eq}
use Rattle.pf_base.proofs.Callers.{nat_test}
use Rattle.pf_base.proofs.Sources.{gives_chain, YieldsList-from_array}
use Rattle.pf_base.proofs.Tables.{nat_successors}
use Rattle.test_hostile_use.specs.Chains.{next_lower}
use Rattle.test_hostile_use.proofs.chained.plain_in_ring.Goals as goal

pub plain-requires-clause-graph : goal.plain-requires-clause-graph
plain-requires-clause-graph c =
    let next : ℕ → List ℕ = λ n. next_lower c.args.back n ∷ [] in (
      next,
      (λ n. nat_eq n 0),
      record {
        successors_answered = nat_successors next (λ x w. search rules)
            (λ x r t w k. let is : r ≡ next x.now = search rules in (search rules, gives_chain (λ it b. (tt, tt, YieldsList-from_array (next x.now) (b.0 ∙ is)))));
        test_answered = nat_test (λ n. nat_eq n 0) (λ x w. search rules) (λ x r t w k. search rules);
      },
    )
