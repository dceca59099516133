use Rattle.std.proofs.Common.{rules, ◌≡◌, ◌∙◌, ℕ, List, ◌∷◌, []}
use Rattle.pf_base.proofs.Sources.{gives_chain, YieldsList-from_array}
use Rattle.pf_base.proofs.Tables.{nat_successors}
use Rattle.test_hostile_use.specs.Chains.{next_lower, next_higher}
use Rattle.test_hostile_use.proofs.ChainLemmas.{ring_mirror}
use Rattle.test_hostile_use.proofs.chained.fewest_between_in_ring.Goals as goal

pub bfs_bidirectional-requires-clause-graph : goal.bfs_bidirectional-requires-clause-graph
bfs_bidirectional-requires-clause-graph c =
    let next : ℕ → List ℕ = λ n. next_lower c.args.last n ∷ [] in
    let previous : ℕ → List ℕ = λ n. next_higher c.args.last n ∷ [] in (
      next,
      previous,
      record {
        successors_answered = nat_successors next (λ x w. search rules)
            (λ x r t w k. let is : r ≡ next x.now = search rules in (search rules, gives_chain (λ it b. (tt, tt, YieldsList-from_array (next x.now) (b.0 ∙ is)))));
        predecessors_answered = nat_successors previous (λ x w. search rules)
            (λ x r t w k. let is : r ≡ previous x.now = search rules in (search rules, gives_chain (λ it b. (tt, tt, YieldsList-from_array (previous x.now) (b.0 ∙ is)))));
        mirror = ring_mirror c.args.last _ _ c.in_ok-starts.ensures.one c.in_ok-ends.ensures.one;
      },
    )
