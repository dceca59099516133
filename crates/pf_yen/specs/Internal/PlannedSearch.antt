-- That what a walk over clean paths learned and planned so far is so.
use Rattle.std.specs.Prelude.{◌≡◌, ◌≤ℤ◌, ◌≤◌, ◌<◌, ◌^◌, ◌↔◌, ◌++◌, ℕ, ℤ, Bool, true, false, List, [], ◌∷◌, length, Contains, Option, None}
use Rattle.std.specs.List.{AllZip}
use Rattle.pf_core.specs.Nodes.{StandsFor, IsStep}
use Rattle.pf_yen.specs.Internal.Adjacency.{AdjacencyLists}
use Rattle.pf_yen.specs.Internal.Classes.{Plan, IsCleanNumbers, IsPartition}
use Rattle.pf_yen.specs.Internal.Learned.{IsLearned}
use Rattle.pf_yen.specs.Internal.Candidates.{as_list, last_given, IsFirst}
use Rattle.pf_yen.specs.Internal.PathPlans.{PathPlans, has_ended}

-- The plans that are left and the paths before the chosen one share out the clean paths, these are the given ones, and no given one costs more than a plan.
pub record IsPlanned {N C : Type 0} (eq : N → N → Bool) (value : C → ℤ) (nodes : List N) (adjacency : AdjacencyLists C) (given : List (List N × C)) (waiting : List (Plan C)) (chosen : Option (Plan C)) (is_given : Bool) : Type 0 where
  pub before : List (List ℕ)
  pub partition : IsPartition value adjacency (as_list chosen ++ waiting) before
  pub given_are : AllZip (λ (p : List ℕ) (g : List N × C). AllZip (StandsFor eq nodes) p g.0 × IsCleanNumbers value adjacency p (value g.1)) (before ++ last_given is_given chosen) given
  pub rising : (g : List N × C) (c : Plan C) → Contains given g → Contains (as_list chosen ++ waiting) c → value g.1 ≤ℤ value c.cost
  pub first : IsFirst value is_given chosen waiting

module _ {N C : Type 0} (eq : N → N → Bool) (value : C → ℤ) where
  -- whether all is planned, or nothing was begun
  abbrev pub IsUnderWay : List (List N × C) → PathPlans N C → Bool → Type 0
  IsUnderWay given plans false = (given ≡ []) × (plans.waiting ≡ []) × (plans.chosen ≡ None) × (plans.is_given ≡ false)
  IsUnderWay given plans true = (length plans.nodes ≤ length plans.adjacency.rows) × (length plans.adjacency.rows < 2 ^ 64) × IsPlanned eq value plans.nodes plans.adjacency given plans.waiting plans.chosen plans.is_given

  -- What was learned and planned is so, of this graph from this start: the first node stands for the start, what is known of the graph is true of it, the given paths are those that were planned, and the walk is noted as ended where a path was looked for and no plan is left.
  pub record IsPlannedSearch (edges : N → List (N × ℤ)) (start : N) (test : N → Bool) (given : List (List N × C)) (ended : Bool) (plans : PathPlans N C) : Type 0 where
    pub begins : (x : N) → StandsFor eq plans.nodes 0 x ↔ (eq start x ≡ true)
    pub learned : IsLearned value (IsStep eq (record { starts = start ∷ []; edges = edges })) test (StandsFor eq plans.nodes) (length plans.nodes) plans.adjacency
    pub under_way : IsUnderWay given plans plans.has_begun
    pub ends : ended ≡ has_ended plans
