-- What searches answer of the table of a graph, said of the graph of its rows, which is the same.
use Rattle.std.proofs.Common.{ℕ, ℤ, pos, List, [], ◌∷◌, Bool, Option, nat_eq, refl, subst}
use Rattle.std.specs.Prelude.{MatchOption}
use Rattle.std.specs.Int.{FitsUnsignedBits}
use Rattle.pf_base.specs.Walks.{HasNoGoalWalk}
use Rattle.pf_base.specs.Edges.{IsSuccessor, IsCheapestGoalPath, CostOverflows}
use Rattle.pf_base.specs.Successors.{IsFewestEdgesGoalPath}
use Rattle.pf_tables.specs.Graphs.{filled, graph_of}
use Rattle.pf_yen.specs.CleanPaths.{PathOverflows}
use Rattle.pf_yen.specs.KCheapest.{IsKCheapest}
use Rattle.pf_routes.specs.Internal.Graph.{row_of, node_count}
use Rattle.pf_routes.specs.Internal.Numbers.{numbered_edges}
use Rattle.pf_routes.proofs.Costless.{targets_of, Leads, answer_costed}
use Rattle.pf_routes.proofs.GraphRows.{same_graph}

module _ (graph : List ℕ × List (ℕ × ℕ)) (from to : ℕ) (test : ℕ → Bool) where
  abbrev table : ℕ → List (ℕ × ℤ)
  table = graph_of pos (node_count graph) (λ n. filled (row_of graph n))

  abbrev numbered : ℕ → List (ℕ × ℤ)
  numbered = numbered_edges graph from to

  pub cheapest_answer : {V : Type 0} (items : V → List ℕ) (cost : V → ℤ) (o : Option V)
      → MatchOption o (HasNoGoalWalk nat_eq (IsSuccessor nat_eq table) (from ∷ []) test) (λ v. IsCheapestGoalPath nat_eq table (from ∷ []) test (items v) (cost v))
      → MatchOption o (HasNoGoalWalk nat_eq (IsSuccessor nat_eq numbered) (from ∷ []) test) (λ v. IsCheapestGoalPath nat_eq numbered (from ∷ []) test (items v) (cost v))
  cheapest_answer items cost o h =
      subst (λ es. MatchOption o (HasNoGoalWalk nat_eq (IsSuccessor nat_eq es) (from ∷ []) test) (λ v. IsCheapestGoalPath nat_eq es (from ∷ []) test (items v) (cost v))) (same_graph graph from to) h

  pub fewest_answer : {V : Type 0} (items : V → List ℕ) (o : Option V)
      → MatchOption o (HasNoGoalWalk nat_eq (Leads nat_eq table) (from ∷ []) test) (λ v. IsFewestEdgesGoalPath nat_eq (λ a. targets_of (table a)) (from ∷ []) test (items v))
      → MatchOption o (HasNoGoalWalk nat_eq (IsSuccessor nat_eq numbered) (from ∷ []) test) (λ v. IsFewestEdgesGoalPath nat_eq (λ a. targets_of (numbered a)) (from ∷ []) test (items v))
  fewest_answer items o h =
      subst (λ es. MatchOption o (HasNoGoalWalk nat_eq (IsSuccessor nat_eq es) (from ∷ []) test) (λ v. IsFewestEdgesGoalPath nat_eq (λ a. targets_of (es a)) (from ∷ []) test (items v))) (same_graph graph from to)
      (answer_costed nat_eq table items (from ∷ []) (from ∷ []) test o refl h)

  pub past_answer : CostOverflows nat_eq table (from ∷ []) test (FitsUnsignedBits 64) → CostOverflows nat_eq numbered (from ∷ []) test (FitsUnsignedBits 64)
  past_answer h = subst (λ es. CostOverflows nat_eq es (from ∷ []) test (FitsUnsignedBits 64)) (same_graph graph from to) h

  pub ranked_answer : (count : ℕ) (paths : List (List ℕ × ℕ)) → IsKCheapest nat_eq table from test (λ cost. pos cost) count paths → IsKCheapest nat_eq numbered from test (λ cost. pos cost) count paths
  ranked_answer count paths h = subst (λ es. IsKCheapest nat_eq es from test (λ cost. pos cost) count paths) (same_graph graph from to) h

  pub past_path : PathOverflows nat_eq table from test (FitsUnsignedBits 64) → PathOverflows nat_eq numbered from test (FitsUnsignedBits 64)
  past_path h = subst (λ es. PathOverflows nat_eq es from test (FitsUnsignedBits 64)) (same_graph graph from to) h
