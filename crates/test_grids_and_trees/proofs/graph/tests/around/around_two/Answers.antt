use Rattle.std.proofs.Common.{rules, ◌≡◌, ◌∙◌, subst, ℕ, ◌==◌, ◌%◌, List, ◌∷◌, [], nat_eq, if◌then◌else◌}
use Rattle.pf_base.specs.Answers.{SameNodes}
use Rattle.pf_base.proofs.Callers.{successors_by, SameNodes-refl, nat_refl, nat_same}
use Rattle.pf_base.proofs.Sources.{gives_chain, YieldsList-from_array}
use Rattle.test_grids_and_trees.proofs.graph.tests.around.around_two.Goals as goal

-- what the function lists
abbrev listed : ℕ → List ℕ
listed n = if n % 2 == 0 then 2 ∷ 4 ∷ 6 ∷ 8 ∷ [] else 1 ∷ 3 ∷ 5 ∷ 7 ∷ []

pub connected_components-requires-clause-graph : goal.connected_components-requires-clause-graph
connected_components-requires-clause-graph c = (
  listed,
  successors_by listed listed (λ s. Unit {0}) tt
      (λ x w. SameNodes-refl nat_eq nat_refl (listed x))
      (λ x y w e. subst (λ xs. SameNodes nat_eq (listed x) xs) (nat_same listed x y e) (SameNodes-refl nat_eq nat_refl (listed x)))
      (λ s x j w. search rules)
      (λ s x r t j w k. let is : r ≡ listed x.now = search rules in (tt, gives_chain (λ it b. (tt, tt, YieldsList-from_array (listed x.now) (b.0 ∙ is))))),
)
