-- The estimates of a graph in a table are admissible, and a search of it begins at one node.
use Rattle.std.proofs.Common.{◌≡◌, ℕ, refl, arith, Bool, true, List, [], ◌∷◌, Option, nat_eq}
use Rattle.std.specs.Prelude.{◌≤ℤ◌, ◌+ℤ◌, ℤ, pos}
use Rattle.std.proofs.lemmas.Int.{ints}
use Rattle.pf_base.specs.Edges.{HasEdge}
use Rattle.pf_base.proofs.Callers.{nat_same}
use Rattle.pf_base.proofs.ListLemmas.{none_in}
use Rattle.pf_discovery.specs.Sources.{AnswersEdges}
use Rattle.pf_informed.specs.Estimates.{IsAdmissible}
use Rattle.pf_informed.specs.Internal.Led.{IsLed}
use Rattle.pf_informed.proofs.Callers.{consistent}
use Rattle.pf_tables.specs.Graphs.{IsGraph, graph_of}
use Rattle.pf_tables.proofs.GraphLemmas.{each_edge, listed, no_negative_cost}
use Rattle.pf_table_functions.specs.TableFunctions.{GoalsTest, TableListsEdges}
use Rattle.pf_table_functions.proofs.TableExplores.{one_distinct, same_nodes, table_edges}
use Rattle.pf_estimated_graphs.specs.EstimatedGraphs.{IsConsistent}
use Rattle.pf_table_estimates.specs.Guides.{EstimatesOf}

module _ {C : Type 0} (value : C → ℤ) (size : ℕ) (places : ℕ → List (Option (ℕ × C))) (passes : ℕ → Bool) (estimate : ℕ → ℤ) (is : IsConsistent value size places passes estimate) where
  falls : (a b : ℕ) (z : ℤ) → HasEdge nat_eq (graph_of value size places a) b z → estimate a ≤ℤ (z +ℤ estimate b)
  falls a b z m =
      let l = listed value size places a b z m in
      each_edge value (λ x y. estimate a ≤ℤ (y +ℤ estimate x)) (places a) (λ k e s. is.falls a k e l.0 s) b z l.1

  at_goal : (node : ℕ) → passes node ≡ true → estimate node ≤ℤ pos 0
  at_goal node g = let e = is.at_goal node g in omega (arith, ints, e)

  -- consistent estimates are never above what remains
  pub consistent_admissible : (starts : List ℕ) → IsAdmissible nat_eq (graph_of value size places) starts passes estimate
  consistent_admissible starts = consistent nat_eq (graph_of value size places) starts passes estimate (λ x y e. nat_same estimate x y e) is.from_zero at_goal falls

-- a search of an estimated graph that begins at one node
module _ {C E : Type 0} (value : C → ℤ) (size : E → ℕ) (places : E → ℕ → List (Option (ℕ × C))) (passes : E → ℕ → Bool) (estimates : E → ℕ → ℤ) (given : E) (from : ℕ) where
  pub table_led : IsGraph value (size given) (places given) → IsConsistent value (size given) (places given) (passes given) (estimates given)
      → IsLed (λ (nodes : List ℕ). nodes) nat_eq value (AnswersEdges nat_eq (TableListsEdges value size places)) (GoalsTest passes) (EstimatesOf estimates)
      (record { starts = from ∷ []; edges = graph_of value (size given) (places given) }) (passes given) (estimates given)
      (record { discovery = record { nodes = from ∷ []; source = record { function = given } }; success = given }) given []
  table_led known is = record {
    explores = table_edges value size places given (from ∷ []) (from ∷ []) (one_distinct from) (same_nodes (from ∷ []));
    tested = refl;
    same_test = λ x y w e. nat_same (passes given) x y e;
    asked = refl;
    same_estimate = λ x y w e. nat_same (estimates given) x y e;
    estimated = λ k x c i j. absurd (none_in k c j);
    admissible = consistent_admissible value (size given) (places given) (passes given) (estimates given) is (from ∷ []);
    costs = no_negative_cost value (size given) (places given) known (from ∷ []);
  }
