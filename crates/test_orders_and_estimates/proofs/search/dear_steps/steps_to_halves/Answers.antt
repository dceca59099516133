use Rattle.std.proofs.Common.{rules, ◌≡◌, ◌∙◌, ◌/◌, ℕ, ℤ, pos, List, ◌∷◌, [], subst, sym, true, nat_eq}
use Rattle.pf_base.proofs.Callers.{nat_graph, nat_refl, valued}
use Rattle.pf_base.proofs.Reach.{unsigned_cost}
use Rattle.pf_base.proofs.Sources.{gives_chain, YieldsList-from_array}
use Rattle.test_orders_and_estimates.proofs.search.dear_steps.steps_to_halves.Goals as goal

pub next-requires : goal.next-requires
next-requires c =
    let listed : ℕ → List (ℕ × ℕ) = λ n. (n / 2, 9223372036854775809) ∷ (n / 2, 9223372036854775808) ∷ [] in
    let edges : ℕ → List (ℕ × ℤ) = λ n. valued (λ z. pos z) (listed n) in
    let walk = c.in_ok-walk.ensures.graph edges
    (nat_graph listed (λ x w. search rules) (λ x r t w k. let is : r ≡ listed x.now = search rules in (search rules, gives_chain (λ it b. (tt, tt, YieldsList-from_array (listed x.now) (b.0 ∙ is))))))
    (unsigned_cost nat_eq listed (9 ∷ [])) in
    ((λ x y e. subst (λ z. nat_eq x z ≡ true) (sym e) (nat_refl x)), (edges, 9, walk))
