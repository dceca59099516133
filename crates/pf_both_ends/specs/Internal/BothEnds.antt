-- What contracts of private functions say of a search by rising cost from both ends.
use Rattle.std.specs.Prelude.{◌≡◌, ◌⊎◌, ◌↔◌, ◌≤ℤ◌, ◌<ℤ◌, ◌+ℤ◌, ℕ, ℤ, pos, Bool, true, false, List, [], ◌∷◌, Option, Some, None, MatchOption, MatchBool, nat_eq, length, slice_get, take, Contains}
use Rattle.pf_base.specs.Walks.{end_of}
use Rattle.pf_base.specs.Edges.{InReach, HasNoNegativeCost}
use Rattle.pf_base.specs.Answers.{ListsEdges}
use Rattle.pf_discovery.specs.declared.discovery.DiscoveryBy.{DiscoveryBy}
use Rattle.pf_core.specs.declared.labels.Label.{Label}
use Rattle.pf_core.specs.declared.search.Search.{Search}
use Rattle.pf_two_sided.specs.declared.two_sided.TwoSided.{TwoSided}
use Rattle.pf_core.specs.Labels.{Labels, HasLabel, IsTree, IsChain, by_cost}
use Rattle.pf_core.specs.Nodes.{NodeGraph, StandsFor, IsStep, Explores}
use Rattle.pf_queue.specs.Entries.{Entries}
use Rattle.pf_core.specs.Search.{IsSearch, IsSound}
use Rattle.pf_core.specs.Steps.{GoesAlong}
use Rattle.pf_both_ends.specs.declared.dijkstra.Meeting.{Meeting}
use Rattle.pf_both_ends.specs.BothEnds.{IsCostMirror}

-- the graph with these edges, which is searched from one node
abbrev pub from_one : {N : Type 0} → N → (N → List (N × ℤ)) → NodeGraph N
from_one start edges = record { starts = start ∷ []; edges = edges }

-- what is asked answers these edges from the node on, and the nodes found are in reach
abbrev pub ExploresFrom : {N M S : Type 0} → (N → N → Bool) → (M → List N) → (S → List N → (N → List (N × ℤ)) → Type 0) → N → (N → List (N × ℤ)) → DiscoveryBy M S → Type 0
ExploresFrom eq keys answers start edges discovery = Explores eq answers (from_one start edges) (keys discovery.nodes) discovery.source

-- no two numbers stand for one node
abbrev pub AreNumberedOnce : {N : Type 0} → (N → N → Bool) → List N → Type 0
AreNumberedOnce {N} eq keys = (i j : ℕ) (x : N) → StandsFor eq keys i x → StandsFor eq keys j x → i ≡ j

-- what no walk from end to end undercuts: the cost of the best meeting, or, before there is one, one more than the greatest cost
abbrev pub bound : {C : Type 0} → (C → ℤ) → ℤ → Option (Meeting C) → ℤ
bound value greatest None = greatest +ℤ pos 1
bound value greatest (Some m) = value m.cost

-- whether there is a meeting that costs no more than t
abbrev pub TellsAtMost : {C : Type 0} → (C → ℤ) → Option (Meeting C) → ℤ → Bool → Type 0
TellsAtMost value best t answer = MatchOption best (answer ≡ false) (λ m. MatchBool answer (value m.cost ≤ℤ t) (t <ℤ value m.cost))

-- Without the graphs: both searches are sound, and have a slot for each number that was found.
pub record AreSound {N C : Type 0} (value : C → ℤ) (keys others : List N) (labels labels' : Labels C) (entries entries' : Entries C) : Type 0 where
  pub forth : IsSound value labels entries
  pub back : IsSound value labels' entries'
  pub wide_forth : length labels ≡ length keys
  pub wide_back : length labels' ≡ length others

module _ {N C : Type 0} (eq : N → N → Bool) (value : C → ℤ) where
  -- the two numbers stand for one node, and its labels on both sides sum to no more than the cost
  pub record IsMeeting (keys others : List N) (labels labels' : Labels C) (m : Meeting C) : Type 0 where
    pub node : N
    pub stands_here : StandsFor eq keys m.here node
    pub stands_across : StandsFor eq others m.across node
    pub here : Label C
    pub labelled_here : HasLabel labels m.here here
    pub across : Label C
    pub labelled_across : HasLabel labels' m.across across
    pub sum : (value here.cost +ℤ value across.cost) ≤ℤ value m.cost

  -- the labels that both sides have for the node of the number sum to t at least
  abbrev pub NoneBelowAt : (keys others : List N) (labels labels' : Labels C) → ℤ → ℕ → Type 0
  NoneBelowAt keys others labels labels' t j = (k : ℕ) (l m : Label C) (x : N) → StandsFor eq keys j x → StandsFor eq others k x → HasLabel labels j l → HasLabel labels' k m → pos 0 ≤ℤ value l.cost → pos 0 ≤ℤ value m.cost → t ≤ℤ (value l.cost +ℤ value m.cost)

  -- the labels of each node that is settled on one side and labelled on the other sum to t at least
  abbrev pub IsSeen : (keys others : List N) (labels labels' : Labels C) → ℤ → Type 0
  IsSeen keys others labels labels' t = (j k : ℕ) (l m : Label C) (x : N) → StandsFor eq keys j x → StandsFor eq others k x → HasLabel labels j l → HasLabel labels' k m → (l.settled ≡ true) ⊎ (m.settled ≡ true) → t ≤ℤ (value l.cost +ℤ value m.cost)

  -- Two chains of numbers that lead to one node, whose labels sum to no more than the cost. The labels of no other node on the first of them do.
  pub record AreHalves (keys others : List N) (labels labels' : Labels C) (cost : ℤ) (numbers back_numbers : List ℕ) : Type 0 where
    pub meeting : Meeting C
    pub meets : IsMeeting keys others labels labels' meeting
    pub low : value meeting.cost ≤ℤ cost
    pub chain : IsChain labels meeting.here numbers
    pub chain_back : IsChain labels' meeting.across back_numbers
    pub first : (k : ℕ) → Contains numbers k → (k ≡ meeting.here) ⊎ NoneBelowAt keys others labels labels' (cost +ℤ pos 1) k

  module _ (fits : ℤ → Type 0) where
    -- One of the two searches: its labels are those of a search by rising cost from the node of number 0, which is its start.
    pub record IsHalf (edges : N → List (N × ℤ)) (start : N) (keys : List N) (labels : Labels C) : Type 0 where
      pub costs : HasNoNegativeCost eq edges (start ∷ [])
      pub alike : (x y : N) → InReach eq edges (start ∷ []) x → eq x y ≡ true → ListsEdges eq (λ z. z) (edges x) (edges y)
      pub one : AreNumberedOnce eq keys
      pub begins : (x : N) → StandsFor eq keys 0 x ↔ (eq start x ≡ true)
      pub search : IsSearch (by_cost value) (IsStep eq (from_one start edges)) (λ k. nat_eq k 0) (StandsFor eq keys) labels
      pub tree : IsTree labels
      pub fit : (k : ℕ) (l : Label C) → HasLabel labels k l → l.settled ≡ true → fits (value l.cost)

    module _ (edges previous : N → List (N × ℤ)) (start end : N) where
      -- Both searches, of which one mirrors the other, and no meeting is cheaper than t.
      pub record IsPair (keys others : List N) (labels labels' : Labels C) (t : ℤ) : Type 0 where
        pub forth : IsHalf edges start keys labels
        pub back : IsHalf previous end others labels'
        pub mirror : IsCostMirror eq edges previous start end
        pub seen : IsSeen keys others labels labels' t

  module _ (edges : N → List (N × ℤ)) (start end : N) where
    -- no walk leads from the start to the end
    abbrev pub NoWalkAcross : Type 0
    NoWalkAcross = (s : N) → eq start s ≡ true → (w : List N) (u : ℤ) → GoesAlong (IsStep eq (from_one start edges)) s w u → ¬ (eq end (end_of s w) ≡ true)

    -- no walk from the start to the end costs less than t
    abbrev pub NoWalkAcrossBelow : ℤ → Type 0
    NoWalkAcrossBelow t = (s : N) → eq start s ≡ true → (w : List N) (u : ℤ) → GoesAlong (IsStep eq (from_one start edges)) s w u → eq end (end_of s w) ≡ true → t ≤ℤ u

-- The number 0 stands for the end of the search on each side, each side mirrors the other, and no edge in reach costs less than 0.
module _ {N : Type 0} (eq : N → N → Bool) (edges previous : N → List (N × ℤ)) (start end : N) where
  pub record AreEnds (keys others : List N) : Type 0 where
    pub begins : (x : N) → StandsFor eq keys 0 x ↔ (eq start x ≡ true)
    pub begins_back : (x : N) → StandsFor eq others 0 x ↔ (eq end x ≡ true)
    pub mirror : IsCostMirror eq edges previous start end
    pub costs : HasNoNegativeCost eq edges (start ∷ [])
    pub costs_back : HasNoNegativeCost eq previous (end ∷ [])

-- What is said above of nodes and labels, said of two searches over these nodes.
module _ {N C Z : Type 0} (eq : N → N → Bool) (value : C → ℤ) (keys others : List N) (search other : Search C Z) where
  -- both have a label for the node of the meeting, and the two sum to no more than its cost
  abbrev pub IsMeetingOn : Meeting C → Type 0
  IsMeetingOn m = IsMeeting eq value keys others search.labels.items other.labels.items m

  -- the labels that both have for the node of the number sum to t at least
  abbrev pub NoneBelowOn : ℤ → ℕ → Type 0
  NoneBelowOn t j = NoneBelowAt eq value keys others search.labels.items other.labels.items t j

  -- at none of these numbers both sides meet at no more than this cost
  abbrev pub NoMeetingAmong : ℤ → List ℕ → Type 0
  NoMeetingAmong cost numbers = (k : ℕ) → Contains numbers k → NoneBelowOn (cost +ℤ pos 1) k

  -- the first of these numbers at which both sides meet at no more than this cost, by its place
  abbrev pub IsFirstMeeting : ℤ → List ℕ → ℕ × Meeting C → Type 0
  IsFirstMeeting cost numbers r = (slice_get numbers r.0 ≡ Some r.1.here) × IsMeetingOn r.1 × (value r.1.cost ≤ℤ cost) × NoMeetingAmong cost (take r.0 numbers)

-- What is said above of nodes and labels, said of a graph that is searched from both ends and of its two searches.
module _ {N M C S P Z : Type 0} (keys : M → List N) where
  -- both are sound, and have a slot for each number that was found
  abbrev pub AreSoundOn : (C → ℤ) → TwoSided M S P → Search C Z → Search C Z → Type 0
  AreSoundOn value graph forth back = AreSound value (keys graph.forth.nodes) (keys graph.back.nodes) forth.labels.items back.labels.items forth.queue.items back.queue.items

  -- the chains of numbers lead to one node, whose labels sum to no more than the cost, and which is the first of its chain with such labels
  abbrev pub AreHalvesOn : (N → N → Bool) → (C → ℤ) → TwoSided M S P → Search C Z → Search C Z → ℤ → List ℕ → List ℕ → Type 0
  AreHalvesOn eq value graph forth back cost numbers back_numbers = AreHalves eq value (keys graph.forth.nodes) (keys graph.back.nodes) forth.labels.items back.labels.items cost numbers back_numbers

  -- both are searches by rising cost, each mirrors the other, and no meeting is cheaper than t
  abbrev pub IsPairOn : (N → N → Bool) → (C → ℤ) → (ℤ → Type 0) → (N → List (N × ℤ)) → (N → List (N × ℤ)) → N → N → TwoSided M S P → Search C Z → Search C Z → ℤ → Type 0
  IsPairOn eq value fits edges previous start end graph forth back t = IsPair eq value fits edges previous start end (keys graph.forth.nodes) (keys graph.back.nodes) forth.labels.items back.labels.items t

-- What both sides of a graph answer, each in reach of its own end.
module _ {N M S P : Type 0} (eq : N → N → Bool) (keys : M → List N) (answers : S → List N → (N → List (N × ℤ)) → Type 0) (answers_back : P → List N → (N → List (N × ℤ)) → Type 0) (graph : TwoSided M S P) where
  -- they answer some edges from one node on and some edges back from another
  abbrev pub AnswersEnds : Type 0
  AnswersEnds = (edges previous : N → List (N × ℤ)) × (start end : N) × ExploresFrom eq keys answers start edges graph.forth × ExploresFrom eq keys answers_back end previous graph.back
      × AreEnds eq edges previous start end (keys graph.forth.nodes) (keys graph.back.nodes)

  -- of whatever edges, edges back and ends these are, Q holds
  abbrev pub OfEnds : ((N → List (N × ℤ)) → (N → List (N × ℤ)) → N → N → Type 0) → Type 0
  OfEnds Q = (edges previous : N → List (N × ℤ)) (start end : N) → ExploresFrom eq keys answers start edges graph.forth → ExploresFrom eq keys answers_back end previous graph.back
      → AreEnds eq edges previous start end (keys graph.forth.nodes) (keys graph.back.nodes) → Q edges previous start end

  module _ {C Z : Type 0} (value : C → ℤ) (fits : ℤ → Type 0) (forth back : Search C Z) (t : ℤ) where
    -- the same, where the two searches are from these nodes, and no meeting is cheaper than t
    abbrev pub AnswersPair : Type 0
    AnswersPair = (edges previous : N → List (N × ℤ)) × (start end : N) × ExploresFrom eq keys answers start edges graph.forth × ExploresFrom eq keys answers_back end previous graph.back
        × IsPairOn keys eq value fits edges previous start end graph forth back t

    -- of whatever edges, edges back and ends these are, Q holds
    abbrev pub OfPair : ((N → List (N × ℤ)) → (N → List (N × ℤ)) → N → N → Type 0) → Type 0
    OfPair Q = (edges previous : N → List (N × ℤ)) (start end : N) → ExploresFrom eq keys answers start edges graph.forth → ExploresFrom eq keys answers_back end previous graph.back
        → IsPairOn keys eq value fits edges previous start end graph forth back t → Q edges previous start end
