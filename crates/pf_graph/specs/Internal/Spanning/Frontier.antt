-- What a tree that grows over numbered nodes keeps: chains of edges, marks of covered nodes, and the steps that wait.
use Rattle.std.specs.Prelude.{◌≡◌, ◌≢◌, ◌⊎◌, ◌↔◌, ◌≤◌, ℕ, Bool, true, false, List, ◌∷◌, ◌++◌, Some, Contains, length, slice_get}
use Rattle.std.specs.Borrow.{Bor}
use Rattle.std.specs.List.{IsDistinct}
use Rattle.std.specs.Cmp.{IsTotalOrder, on_total, then_total}
use Rattle.std.specs.declared.cmp.Ordering.{Ordering}
use Rattle.std.specs.declared.cmp.Ordering.TheVariants.{Greater}
use Rattle.std.specs.declared.cmp.Reverse.{Reverse}
use Rattle.pf_graph.specs.declared.undirected.chains.Chains.{Chains}
use Rattle.pf_graph.specs.declared.undirected.chains.End.{End}
use Rattle.pf_graph.specs.declared.undirected.steps.Step.{Step}
use Rattle.pf_union_find.specs.Nodes.{StandsFor}
use Rattle.pf_graph.specs.GrownTree.{RunsBetween, Covers, LeavesByLeast, AreChosenEitherWay, edge_order}
use Rattle.pf_graph.specs.Internal.Spanning.Chained.{AreLinked}

-- an edge, written the other way round
abbrev pub turned : {N C : Type 0} → (N × N × C) → N × N × C
turned e = (e.1, e.0, e.2)

-- an edge as it is taken: as it is written, or the other way round
abbrev pub taken : {N C : Type 0} → Bool → (N × N × C) → N × N × C
taken true e = e
taken false e = turned e

-- the edge that a step takes, from the end that it comes from to the end that it leads to
abbrev pub edge_of : {N C : Type 0} → Step N C → N × N × C
edge_of s = taken s.onward s.edge.now

-- steps in order of weight, then of the ends that they come from, then of the ends that they lead to
abbrev pub step_order : {N C : Type 0} → (N → N → Ordering) → (C → C → Ordering) → Step N C → Step N C → Ordering
step_order node_cmp cmp s t = edge_order node_cmp cmp (edge_of s) (edge_of t)

-- steps have a total order where nodes and weights have one
pub step_order_total : {N C : Type 0} {node_cmp : N → N → Ordering} {cmp : C → C → Ordering} → IsTotalOrder node_cmp → IsTotalOrder cmp → IsTotalOrder (step_order node_cmp cmp)
step_order_total nodes weights = on_total edge_of (then_total (on_total (λ e. e.2) weights) (then_total (on_total (λ e. e.0) nodes) (on_total (λ e. e.1) nodes)))

-- the least step comes first
abbrev pub waiting_order : {N C : Type 0} → (N → N → Ordering) → (C → C → Ordering) → Reverse (Step N C) → Reverse (Step N C) → Ordering
waiting_order node_cmp cmp r t = step_order node_cmp cmp t.0 r.0

-- s takes the edge e, which leads to the number n
abbrev pub Leads : {N C : Type 0} → Step N C → (N × N × C) → ℕ → Type 0
Leads s e n = (edge_of s ≡ e) × (s.number ≡ n)

-- the edges are as many as their ends, and these are linked
pub record AreChained {N C A : Type 0} (chains : Chains N C A) : Type 0 where
  pub long : length chains.edges.now ≡ length chains.ends.items
  pub linked : AreLinked chains.ends.items chains.lasts.items

-- the edge f with the ends d runs from number k to number n, as it is written or the other way round, and e is the edge as it is taken so
abbrev pub RunsAlong : {N C : Type 0} → (N × N × C) → (End × End) → ℕ → (N × N × C) → ℕ → Type 0
RunsAlong f d k e n = ((k ≡ d.0.number) × (e ≡ f) × (n ≡ d.1.number)) ⊎ ((k ≡ d.1.number) × (e ≡ turned f) × (n ≡ d.0.number))

-- the edge at place p, taken as e, runs from number k to number n
pub record RunsAt {N C A : Type 0} (chains : Chains N C A) (p k : ℕ) (e : N × N × C) (n : ℕ) : Type 0 where
  pub written : N × N × C
  pub ends : End × End
  pub edge_at : slice_get chains.edges.now p ≡ Some written
  pub ends_at : slice_get chains.ends.items p ≡ Some ends
  pub along : RunsAlong written ends k e n

-- an edge, taken as e, runs from number k to number n
abbrev pub Runs : {N C A : Type 0} → Chains N C A → ℕ → (N × N × C) → ℕ → Type 0
Runs chains k e n = (p : ℕ) × RunsAt chains p k e n

-- s takes the edge at place p from number k, and so does no other step but one that leads back to k
pub record IsStepAt {N C A : Type 0} (chains : Chains N C A) (p k : ℕ) (s : Step N C) : Type 0 where
  pub runs : RunsAt chains p k (edge_of s) s.number
  pub only : (e : N × N × C) (n : ℕ) → RunsAt chains p k e n → Leads s e n ⊎ (n ≡ k)

-- the nodes are apart, and both directions of the edges, and nothing else, run between their numbers
pub record RunsAsWritten {N C A : Type 0} (eq : N → N → Bool) (nodes : List (Bor N)) (edges : List (N × N × C)) (chains : Chains N C A) : Type 0 where
  pub apart : IsDistinct (λ (p q : Bor N). eq p.now q.now) nodes
  pub len : length chains.lasts.items ≡ length nodes
  pub from : (k n : ℕ) (e : N × N × C) → Runs chains k e n → StandsFor eq nodes k e.0 × StandsFor eq nodes n e.1 × RunsBetween edges e.0 e.1 e.2
  pub all : (x y : N) (w : C) → RunsBetween edges x y w → (k : ℕ) × (n : ℕ) × Runs chains k (x, y, w) n

-- number k is marked as covered, or as not covered
abbrev pub IsMarked : Bool → List Bool → ℕ → Type 0
IsMarked b covered k = slice_get covered k ≡ Some b

abbrev pub waiting : {N C : Type 0} → Step N C → Reverse (Step N C)
waiting s = record { 0 = s }

-- a step waits that takes the edge e to number n
abbrev pub HasWaiting : {N C : Type 0} → List (Reverse (Step N C)) → (N × N × C) → ℕ → Type 0
HasWaiting {N} {C} queue e n = (s : Step N C) × Contains queue (waiting s) × Leads s e n

-- The steps that wait come from covered numbers, and all those that lead from covered numbers to numbers that are not covered wait, save those to the number m.
pub record WaitsSave {N C A : Type 0} (chains : Chains N C A) (covered : List Bool) (m : ℕ) (queue : List (Reverse (Step N C))) : Type 0 where
  pub from : (r : Reverse (Step N C)) → Contains queue r → (k : ℕ) × IsMarked true covered k × Runs chains k (edge_of r.0) r.0.number
  pub all : (k n : ℕ) (e : N × N × C) → IsMarked true covered k → Runs chains k e n → IsMarked false covered n → n ≢ m → HasWaiting queue e n

-- The steps that wait come from covered numbers, and all those that lead from covered numbers to numbers that are not covered wait.
pub record Waits {N C A : Type 0} (chains : Chains N C A) (covered : List Bool) (queue : List (Reverse (Step N C))) : Type 0 where
  pub from : (r : Reverse (Step N C)) → Contains queue r → (k : ℕ) × IsMarked true covered k × Runs chains k (edge_of r.0) r.0.number
  pub all : (k n : ℕ) (e : N × N × C) → IsMarked true covered k → Runs chains k e n → IsMarked false covered n → HasWaiting queue e n

-- the steps from number k over the edges from the place `first` on that lead to numbers that are not covered wait now, beside those that waited before
pub record Gains {N C A : Type 0} (chains : Chains N C A) (k first : ℕ) (covered : List Bool) (queue queue' : List (Reverse (Step N C))) : Type 0 where
  pub from : (r : Reverse (Step N C)) → Contains queue' r → Contains queue r ⊎ Runs chains k (edge_of r.0) r.0.number
  pub kept : (r : Reverse (Step N C)) → Contains queue r → Contains queue' r
  pub all : (p n : ℕ) (e : N × N × C) → first ≤ p → RunsAt chains p k e n → IsMarked false covered n → HasWaiting queue' e n

-- s was a least one of the waiting steps to numbers that are not covered, and those to other such numbers still wait
pub record TakesLeast {N C : Type 0} (node_cmp : N → N → Ordering) (cmp : C → C → Ordering) (covered : List Bool) (queue queue' : List (Reverse (Step N C))) (s : Step N C) : Type 0 where
  pub waited : Contains queue (waiting s)
  pub new : IsMarked false covered s.number
  pub least : (r : Reverse (Step N C)) → Contains queue r → IsMarked false covered r.0.number → step_order node_cmp cmp s r.0 ≢ Greater
  pub from : (r : Reverse (Step N C)) → Contains queue' r → Contains queue r
  pub kept : (r : Reverse (Step N C)) → Contains queue r → IsMarked false covered r.0.number → r.0.number ≢ s.number → Contains queue' r

-- no step that waits leads to a number that is not covered
abbrev pub NoneLeaves : {N C : Type 0} → List Bool → List (Reverse (Step N C)) → Type 0
NoneLeaves {N} {C} covered queue = (r : Reverse (Step N C)) → Contains queue r → ¬ (IsMarked false covered r.0.number)

-- The numbers marked as covered are those of the nodes that the tree covers, and each of its edges is the least that leaves what those before it cover.
pub record IsGrown {N C : Type 0} (eq : N → N → Bool) (node_cmp : N → N → Ordering) (cmp : C → C → Ordering) (is_clone : C → C → Type 0) (nodes : List (Bor N)) (edges : List (N × N × C)) (start : N) (covered : List Bool) (tree : List (N × N × C)) : Type 0 where
  pub marked : (k : ℕ) (x : N) → StandsFor eq nodes k x → IsMarked true covered k ↔ Covers eq start tree x
  pub each : (before after : List (N × N × C)) (e : N × N × C) → tree ≡ before ++ e ∷ after → LeavesByLeast eq node_cmp cmp edges start before e
  pub written : AreChosenEitherWay is_clone edges tree
