use Rattle.std.proofs.Common.{rules, refl, ◌≡◌, ◌∙◌, ℕ, ℤ, pos, List, ◌∷◌, [], subst, sym, true, nat_eq}
use Rattle.std.proofs.lemmas.Cmp.{nat_eq_equiv}
use Rattle.std.proofs.lemmas.Iterator.{YieldsList-from_range}
use Rattle.pf_base.proofs.Callers.{nat_graph, nat_refl, valued}
use Rattle.pf_base.proofs.Reach.{unsigned_cost}
use Rattle.pf_base.proofs.Sources.{gives_chain, YieldsList-from_array}
use Rattle.pf_base.proofs.Tables.{nat_successors}
use Rattle.test_edge_lists.proofs.Callers.{nodes_after_answered}
use Rattle.test_edge_lists.specs.Pairs.{nodes_after}
use Rattle.test_searches.proofs.tests.walks.Walk.gathered.Goals as goal

-- the nodes 1 to 5
abbrev five : ℕ → List ℕ
five _ = 1 ∷ 2 ∷ 3 ∷ 4 ∷ 5 ∷ []

-- the edges of each number to the next one and to the fifth one behind it, up to 10
abbrev by_one_and_five : List (ℕ × ℕ)
by_one_and_five = (0, 1) ∷ (0, 5) ∷ (1, 2) ∷ (1, 6) ∷ (2, 3) ∷ (2, 7) ∷ (3, 4) ∷ (3, 8) ∷ (4, 5) ∷ (4, 9) ∷ (5, 6) ∷ (5, 10) ∷ (6, 7) ∷ (7, 8) ∷ (8, 9) ∷ (9, 10) ∷ []

-- the edges of each number to its double and its triple, up to 14
abbrev doubles_and_triples : List (ℕ × ℕ)
doubles_and_triples = (1, 2) ∷ (1, 3) ∷ (2, 4) ∷ (2, 6) ∷ (3, 6) ∷ (3, 9) ∷ (4, 8) ∷ (4, 12) ∷ (6, 12) ∷ []

same : (x y : ℕ) → y ≡ x → nat_eq x y ≡ true
same x y e = subst (λ z. nat_eq x z ≡ true) (sym e) (nat_refl x)

pub gather-requires : goal.gather-requires
gather-requires g c =
    let walk = c.in_ok-walk-in-Breadth.ensures.graph five (nat_successors five (λ x w. search rules) (λ x r t w k. (search rules, gives_chain (λ it b. (search rules, search rules, YieldsList-from_range 1 6 5 (cc) refl))))) in
    (same, (five, 3, walk))

pub gather-requires-in-Preorder : goal.gather-requires-in-Preorder
gather-requires-in-Preorder g c =
    let walk = c.in_ok-walk-in-Preorder.ensures.graph five (nat_successors five (λ x w. search rules) (λ x r t w k. (search rules, gives_chain (λ it b. (search rules, search rules, YieldsList-from_range 1 6 5 (cc) refl))))) in
    (same, (five, 3, [], walk))

pub gather-requires-in-Ok : goal.gather-requires-in-Ok
gather-requires-in-Ok g c =
    let listed : ℕ → List (ℕ × ℕ) = λ _. (1, 2) ∷ (4, 7) ∷ (5, 4) ∷ [] in
    let edges : ℕ → List (ℕ × ℤ) = λ n. valued (λ z. pos z) (listed n) in
    let walk = c.in-Ok.ensures.graph edges
    (nat_graph listed (λ x w. search rules) (λ x r t w k. let is : r ≡ listed x.now = search rules in (search rules, gives_chain (λ it b. (tt, tt, YieldsList-from_array (listed x.now) (b.0 ∙ is))))))
    (unsigned_cost nat_eq listed (3 ∷ [])) in
    (same, (edges, 3, walk))

pub gather-requires-in-PreorderByOneAndFive : goal.gather-requires-in-PreorderByOneAndFive
gather-requires-in-PreorderByOneAndFive g c =
    let next = nodes_after nat_eq by_one_and_five in
    let walk = c.in_ok-walk-in-PreorderByOneAndFive.ensures.graph next (nodes_after_answered nat_eq_equiv by_one_and_five (λ x w. search rules) (λ x r t w k. (search rules, λ it b. (search rules, search rules, search rules)))) in
    (same, (next, 0, [], walk))

pub gather-requires-in-BreadthByDoublesAndTriples : goal.gather-requires-in-BreadthByDoublesAndTriples
gather-requires-in-BreadthByDoublesAndTriples g c =
    let next = nodes_after nat_eq doubles_and_triples in
    let walk = c.in_ok-walk-in-BreadthByDoublesAndTriples.ensures.graph next (nodes_after_answered nat_eq_equiv doubles_and_triples (λ x w. search rules) (λ x r t w k. (search rules, λ it b. (search rules, search rules, search rules)))) in
    (same, (next, 1, walk))
