use Rattle.std.proofs.Common.{rules, ◌≡◌, ◌∙◌, ℕ, ◌+◌, ◌%◌, ◌^◌, List, ◌∷◌, [], subst, sym, true, nat_eq}
use Rattle.std.proofs.lemmas.Result.{IfOk-weaker}
use Rattle.pf_base.specs.Answers.{SameNodes}
use Rattle.pf_base.proofs.Callers.{SameNodes-refl, nat_refl, nat_same, successors_by}
use Rattle.pf_base.proofs.Sources.{gives_chain, YieldsList-from_array}
use Rattle.test_searches.proofs.walks.walked.Goals as goal

pub last_of-requires : goal.last_of-requires
last_of-requires c =
    let listed : ℕ → List ℕ = λ n. ((n + 1) % 2 ^ 64) ∷ [] in
    IfOk-weaker c.bfs_reach-walk.result _ _ (λ w h. (
      (λ x y e. subst (λ z. nat_eq x z ≡ true) (sym e) (nat_refl x)),
      (
        listed,
        0,
        h listed (successors_by listed listed (λ _. Unit {0}) tt
            (λ x w. SameNodes-refl nat_eq nat_refl (listed x))
            (λ x y w e. subst (λ xs. SameNodes nat_eq (listed x) xs) (nat_same listed x y e) (SameNodes-refl nat_eq nat_refl (listed x)))
            (λ s x j w. tt)
            (λ s x r t j w k. let is : r ≡ listed x.now = search rules in (tt, gives_chain (λ it b. (tt, tt, YieldsList-from_array (listed x.now) (b.0 ∙ is)))))),
      ),
    )) c.bfs_reach-walk.ensures.graph
