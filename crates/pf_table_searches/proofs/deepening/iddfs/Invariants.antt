use Rattle.std.proofs.Common.{◌≡◌, ◌<◌, ℕ, true, List, [], ◌∷◌, Some, length, nat_eq}
use Rattle.std.specs.Prelude.{slice_get}
use Rattle.pf_base.specs.Walks.{IsGoalPath}
use Rattle.pf_base.specs.Successors.{HasSuccessor}
use Rattle.pf_tables.specs.Graphs.{successors_of}
use Rattle.pf_table_searches.proofs.deepening.iddfs.Given as goal

abbrev pub invariant-limits : goal.invariant-limits
invariant-limits g l =
    let next = successors_of g.C.Number.value (g.G.Graph.size l.graph) (g.G.Graph.places l.graph) in
    record {
      begins : l.entries.items ≡ [];
      wide : length l.marked.items ≡ g.G.Graph.size l.graph;
      clear : (x : ℕ) → ¬ (slice_get l.marked.items x ≡ Some true);
      none : (w : List ℕ) → length w < l.limit → ¬ (IsGoalPath nat_eq (HasSuccessor nat_eq next) (l.from ∷ []) (g.T.Goals.passes l.goals) (l.from ∷ w));
    }
