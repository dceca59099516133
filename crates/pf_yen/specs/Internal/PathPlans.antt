-- What a walk over clean paths learned and planned so far.
use Rattle.std.specs.Prelude.{ℕ, Bool, not, ◌&&◌, List, length, Option, nat_eq, refl, ◌++◌}
use Rattle.std.specs.Coded.{Coded, code_by, coded×, coded_bool, coded_ℕ, coded_list, coded_option}
use Rattle.std.specs.BinaryHeap.{heap_items}
use Rattle.pf_yen.specs.declared.candidates.Candidates.{Candidates}
use Rattle.pf_yen.specs.Internal.Adjacency.{AdjacencyLists, adjacency_code}
use Rattle.pf_yen.specs.Internal.Classes.{Plan}
use Rattle.pf_yen.specs.Internal.Candidates.{waiting_plans, chosen_plan, as_list}

-- the nodes found so far, of which each stands for its place; what was learned of them; whether a path was looked for; the plans that wait, and the chosen one, where there is one; and whether the path of the chosen one was given
pub record PathPlans (N C : Type 0) : Type 0 where
  pub nodes : List N
  pub adjacency : AdjacencyLists C
  pub has_begun : Bool
  pub waiting : List (Plan C)
  pub chosen : Option (Plan C)
  pub is_given : Bool

abbrev pub plan_code : {C : Type 0} → Coded C → Coded (Plan C)
plan_code {C} c = code_by (List ℕ × (C × (ℕ × List ℕ))) (coded× (coded_list coded_ℕ) (coded× c (coded× coded_ℕ (coded_list coded_ℕ)))) (λ p. (p.path, (p.cost, (p.spur, p.banned)))) (λ p. record { path = p.0; cost = p.1.0; spur = p.1.1.0; banned = p.1.1.1 }) (λ _. refl)

abbrev pub path_plans_code : {N C : Type 0} → Coded N → Coded C → Coded (PathPlans N C)
path_plans_code {N} {C} n c = code_by (List N × (AdjacencyLists C × (Bool × (List (Plan C) × (Option (Plan C) × Bool))))) (coded× (coded_list n) (coded× (adjacency_code c) (coded× coded_bool (coded× (coded_list (plan_code c)) (coded× (coded_option (plan_code c)) coded_bool)))))
    (λ w. (w.nodes, (w.adjacency, (w.has_begun, (w.waiting, (w.chosen, w.is_given)))))) (λ p. record { nodes = p.0; adjacency = p.1.0; has_begun = p.1.1.0; waiting = p.1.1.1.0; chosen = p.1.1.1.1.0; is_given = p.1.1.1.1.1 }) (λ _. refl)

-- what the found nodes, what was learned of them, and the candidates are seen as
abbrev pub path_plans : {N C A : Type 0} → List N → AdjacencyLists C → Candidates C A → PathPlans N C
path_plans nodes adjacency plans = record { nodes = nodes; adjacency = adjacency; has_begun = plans.has_begun; waiting = waiting_plans (heap_items plans.waiting); chosen = chosen_plan plans.chosen; is_given = plans.is_given }

-- whether a path was looked for, and no plan is left
abbrev pub has_ended : {N C : Type 0} → PathPlans N C → Bool
has_ended plans = plans.has_begun && (not plans.is_given && nat_eq (length (as_list plans.chosen ++ plans.waiting)) 0)
