-- What a search led by estimates knows of its graph, and what opening a number leaves.
use Rattle.std.specs.Prelude.{◌≡◌, ◌⊎◌, ℕ, ℤ, Bool, true, List, [], ◌∷◌, slice_get, length}
use Rattle.pf_base.specs.Edges.{InReach, HasNoNegativeCost}
use Rattle.pf_core.specs.declared.labels.Label.{Label}
use Rattle.pf_discovery.specs.declared.tested.TestedBy.{TestedBy}
use Rattle.pf_core.specs.Labels.{Labels, HasLabel}
use Rattle.pf_core.specs.Nodes.{NodeGraph, StandsFor, IsStep, Explores}
use Rattle.pf_core.specs.Numbered.{Grows}
use Rattle.pf_informed.specs.Estimates.{IsAdmissible}
use Rattle.pf_informed.specs.Internal.Estimated.{IsEstimated}
use Rattle.pf_informed.specs.Internal.Informed.{IsInformed}
use Rattle.pf_informed.specs.Internal.Waiting.{Entry, IsWaiting, IsSound}
use Rattle.pf_informed.specs.declared.search.Search.{Search}

-- What is asked answers a graph, a test and an estimate, and each estimate that is kept is right. No estimate is above the cost of a walk to a goal, and no edge in reach costs less than 0.
module _ {M N C S T H : Type 0} (keys_of : M → List N) (eq : N → N → Bool) (value : C → ℤ) (edge_answers : S → List N → (N → List (N × ℤ)) → Type 0) (test_answers : T → (N → Type 0) → (N → Bool) → Type 0) (estimate_answers : H → (N → Type 0) → (N → ℤ) → Type 0) where
  pub record IsLed (g : NodeGraph N) (test : N → Bool) (least : N → ℤ) (graph : TestedBy M S T) (estimate : H) (kept : List C) : Type 0 where
    pub explores : Explores eq edge_answers g (keys_of graph.discovery.nodes) graph.discovery.source
    pub tested : test_answers graph.success (InReach eq g.edges g.starts) test
    pub same_test : (x y : N) → InReach eq g.edges g.starts x → eq x y ≡ true → test x ≡ test y
    pub asked : estimate_answers estimate (InReach eq g.edges g.starts) least
    pub same_estimate : (x y : N) → InReach eq g.edges g.starts x → eq x y ≡ true → least x ≡ least y
    pub estimated : IsEstimated value least (slice_get (keys_of graph.discovery.nodes)) kept
    pub admissible : IsAdmissible eq g.edges g.starts test least
    pub costs : HasNoNegativeCost eq g.edges g.starts

  -- What is answered from the start that stands at number 0.
  module _ (graph : TestedBy M S T) (estimate : H) (kept : List C) where
    -- some start stands first, and some edges, test and estimate from it are answered
    abbrev pub AnswersLedSearch : Type 0
    AnswersLedSearch = (start : N) × (edges : N → List (N × ℤ)) × (test : N → Bool) × (least : N → ℤ) × StandsFor eq (keys_of graph.discovery.nodes) 0 start × IsLed (record { starts = start ∷ []; edges = edges }) test least graph estimate kept

    -- of whatever start stands first, and whatever edges, test and estimate from it are answered, P holds
    abbrev pub OfLedSearch : (N → (N → List (N × ℤ)) → (N → Bool) → (N → ℤ) → Type 0) → Type 0
    OfLedSearch P = (start : N) (edges : N → List (N × ℤ)) (test : N → Bool) (least : N → ℤ) → StandsFor eq (keys_of graph.discovery.nodes) 0 start → IsLed (record { starts = start ∷ []; edges = edges }) test least graph estimate kept → P start edges test least

-- nothing is known of the labels and the estimates, and nothing waits
pub record IsNew {C Z : Type 0} (search : Search C Z) : Type 0 where
  pub unlabelled : search.labels.items ≡ []
  pub unasked : search.estimates.items ≡ []
  pub nothing_waits : search.queue.entries ≡ []

-- what is so of a search between its turns, where so many nodes were found: each has an estimate and a place for its label
pub record IsReady {C Z : Type 0} (value : C → ℤ) (fits : ℤ → Type 0) (found : ℕ) (search : Search C Z) : Type 0 where
  pub sound : IsSound value fits search.labels.items search.estimates.items search.queue.entries
  pub wide : length search.labels.items ≡ found
  pub asked : length search.estimates.items ≡ found

-- the numbers of a graph stand for what they stood for, and more numbers may stand
abbrev pub FindsMore : {M N S T : Type 0} → (M → List N) → (N → N → Bool) → TestedBy M S T → TestedBy M S T → Type 0
FindsMore keys_of eq graph graph' = Grows (length (keys_of graph.discovery.nodes)) (length (keys_of graph'.discovery.nodes)) (StandsFor eq (keys_of graph.discovery.nodes)) (StandsFor eq (keys_of graph'.discovery.nodes))

-- what the search knows of the graph, where these entries wait
abbrev pub IsInformedOn : {M N C S T Z : Type 0} → (M → List N) → (N → N → Bool) → (C → ℤ) → (ℤ → Type 0) → NodeGraph N → (N → Bool) → TestedBy M S T → Search C Z → List (Entry C) → Type 0
IsInformedOn keys_of eq value fits g passes graph search entries = IsInformed value fits search.estimates.items (IsStep eq g) passes (StandsFor eq (keys_of graph.discovery.nodes)) search.labels.items entries (length (keys_of graph.discovery.nodes))

-- each label that waited waits on, but for that of this number
abbrev pub OthersWait : {C : Type 0} → (C → ℤ) → Labels C → List C → ℕ → List (Entry C) → List (Entry C) → Type 0
OthersWait {C} value labels estimates number entries entries' = (k : ℕ) (l : Label C) → HasLabel labels k l → IsWaiting value estimates entries k l → (k ≡ number) ⊎ IsWaiting value estimates entries' k l
