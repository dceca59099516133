-- Graphs with costs: `edges x` lists the edges of x, each as a node and the whole number that the edge costs.
use Rattle.std.specs.Prelude.{◌≡◌, ◌⊎◌, ◌≤ℤ◌, ◌+ℤ◌, ℤ, pos, Bool, true, List, [], ◌∷◌, Option, Vec, MatchOption, map}
use Rattle.pf_base.specs.Walks.{IsGoalWalk, IsGoalPath, IsReachable, HasNoGoalWalk}

-- one of the edges leads to x and costs z
abbrev pub HasEdge : {N : Type 0} → (N → N → Bool) → List (N × ℤ) → N → ℤ → Type 0
HasEdge eq [] x z = ⊥
HasEdge eq (e ∷ es) x z = ((eq e.0 x ≡ true) × (e.1 ≡ z)) ⊎ HasEdge eq es x z

-- the nodes that the edges of a node lead to, in order: the graph without costs
abbrev pub targets : {N : Type 0} → (N → List (N × ℤ)) → N → List N
targets {N} edges x = map (λ (e : N × ℤ). e.0) (edges x)

module _ {N : Type 0} (eq : N → N → Bool) (edges : N → List (N × ℤ)) where
  -- some edge leads from a to b
  abbrev pub IsSuccessor : N → N → Type 0
  IsSuccessor a b = (z : ℤ) × HasEdge eq (edges a) b z

  -- the step from a to b costs z: the cheapest of the parallel edges does
  pub record StepCosts (a b : N) (z : ℤ) : Type 0 where
    pub edge : HasEdge eq (edges a) b z
    pub cheapest : (y : ℤ) → HasEdge eq (edges a) b y → z ≤ℤ y

  -- the steps from a along w cost t in all
  abbrev pub StepsCost : N → List N → ℤ → Type 0
  StepsCost a [] t = t ≡ pos 0
  StepsCost a (b ∷ w) t = (z : ℤ) × (u : ℤ) × StepCosts a b z × StepsCost b w u × (t ≡ z +ℤ u)

  -- a walk costs the sum of its steps
  abbrev pub WalkCosts : List N → ℤ → Type 0
  WalkCosts [] t = ⊥
  WalkCosts (a ∷ w) t = StepsCost a w t

  module _ (starts : List N) where
    -- some walk leads from a start to x
    abbrev pub InReach : N → Type 0
    InReach = IsReachable eq IsSuccessor starts

    -- no edge of a node in reach costs less than 0
    pub record HasNoNegativeCost : Type 0 where
      pub from_zero : (a b : N) (z : ℤ) → InReach a → HasEdge eq (edges a) b z → pos 0 ≤ℤ z

    -- The functions that are handed in answer these edges and this test in reach of the starts, where no edge costs less than 0.
    pub record IsWeightedSearch (answers : (N → Type 0) → (N → List (N × ℤ)) → Type 0) (tests : (N → Type 0) → (N → Bool) → Type 0) (test : N → Bool) : Type 0 where
      pub edges_answered : answers InReach edges
      pub test_answered : tests InReach test
      pub costs : HasNoNegativeCost

    module _ (test : N → Bool) where
      -- no walk from a start to a node that passes the test costs less than t
      abbrev pub NoGoalWalkCostsLess : ℤ → Type 0
      NoGoalWalkCostsLess t = (walk : List N) (u : ℤ) → IsGoalWalk eq IsSuccessor starts test walk → WalkCosts walk u → t ≤ℤ u

      -- a path from a start to a node that passes the test, which costs t, and no walk from a start to such a node costs less
      pub record IsCheapestGoalPath (path : List N) (t : ℤ) : Type 0 where
        pub goes : IsGoalPath eq IsSuccessor starts test path
        pub costs : WalkCosts path t
        pub best : NoGoalWalkCostsLess t

      -- a cheapest path to a node that passes the test, with what it costs, or none exactly where no walk leads to such a node
      abbrev pub IsCheapestOrNone : {C A : Type 0} → (C → ℤ) → Option (Vec N A × C) → Type 0
      IsCheapestOrNone value answer = MatchOption answer (HasNoGoalWalk eq IsSuccessor starts test) (λ found. IsCheapestGoalPath found.0.items (value found.1))

  -- A cheapest path to some node and one step more do not fit, and no node that passes the test is cheaper than that node.
  pub record CostOverflows (starts : List N) (test : N → Bool) (fits : ℤ → Type 0) : Type 0 where
    pub node : N
    pub path : List N
    pub cost : ℤ
    pub cheapest : IsCheapestGoalPath starts (λ y. eq y node) path cost
    pub next : N
    pub price : ℤ
    pub step : StepCosts node next price
    pub past : ¬ (fits (cost +ℤ price))
    pub none_cheaper : NoGoalWalkCostsLess starts test cost

-- What functions that list edges and test nodes answer from the starts on, where no edge costs less than 0.
module _ {N : Type 0} (eq : N → N → Bool) (starts : List N) (answers : (N → Type 0) → (N → List (N × ℤ)) → Type 0) (tests : (N → Type 0) → (N → Bool) → Type 0) where
  -- they answer some edges and some test
  abbrev pub AnswersWeightedSearch : Type 0
  AnswersWeightedSearch = (edges : N → List (N × ℤ)) × (test : N → Bool) × IsWeightedSearch eq edges starts answers tests test

  -- of whatever edges and test they answer, P holds
  abbrev pub OfWeightedSearch : ((N → List (N × ℤ)) → (N → Bool) → Type 0) → Type 0
  OfWeightedSearch P = (edges : N → List (N × ℤ)) (test : N → Bool) → IsWeightedSearch eq edges starts answers tests test → P edges test

-- What a function that lists edges answers from the starts on, where no edge costs less than 0.
module _ {N : Type 0} (eq : N → N → Bool) (starts : List N) (answers : (N → Type 0) → (N → List (N × ℤ)) → Type 0) where
  -- it answers some edges
  abbrev pub AnswersWeightedGraph : Type 0
  AnswersWeightedGraph = (edges : N → List (N × ℤ)) × answers (InReach eq edges starts) edges × HasNoNegativeCost eq edges starts

  -- of whatever edges it answers, P holds
  abbrev pub OfWeightedGraph : ((N → List (N × ℤ)) → Type 0) → Type 0
  OfWeightedGraph P = (edges : N → List (N × ℤ)) → answers (InReach eq edges starts) edges → HasNoNegativeCost eq edges starts → P edges
