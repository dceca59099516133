-- What contracts say of a lazy walk by rising cost.
use Rattle.std.specs.Prelude.{◌≡◌, ◌⊎◌, ◌↔◌, ◌≤ℤ◌, ◌+ℤ◌, ℤ, pos, Bool, true, false, List, [], ◌∷◌, Option, Some, None, Result, Ok, Err, MatchOption, Contains, length, map, nat_eq, refl}
use Rattle.std.specs.Coded.{Coded, code_by, coded×, coded_bool, coded_list}
use Rattle.pf_base.specs.declared.error.PathError.{PathError}
use Rattle.pf_base.specs.Answers.{SameNodes}
use Rattle.pf_base.specs.Edges.{InReach, StepCosts, HasNoNegativeCost, NoGoalWalkCostsLess, IsCheapestGoalPath}
use Rattle.pf_core.specs.Labels.{by_cost}
use Rattle.pf_core.specs.Nodes.{StandsFor, IsStep, Explores}
use Rattle.pf_discovery.specs.Sources.{AnswersEdges}
use Rattle.pf_core.specs.Search.{IsSearch}
use Rattle.pf_search.specs.declared.directed.dijkstra_reach.DijkstraReachableItem.{DijkstraReachableItem}
use Rattle.pf_search.specs.Internal.CheapestSearch.{CheapestSearch, IsBarredSearch, KeepsSearch, cheapest_search_code, given_of}

-- what a caller sees of a walk: the nodes given so far, in the order in which they were found, each with the cost of a cheapest path to it; whether the last step was refused; the function that lists edges; and what the search keeps, of which a caller need know nothing
pub record CheapestWalk (N C F : Type 0) : Type 0 where
  pub given : List (N × C)
  pub refused : Bool
  pub successors : F
  pub search : CheapestSearch N C

abbrev pub cheapest_walk_code : {N C F : Type 0} → Coded N → Coded C → Coded F → Coded (CheapestWalk N C F)
cheapest_walk_code {N} {C} {F} n c f = code_by (List (N × C) × (Bool × (F × CheapestSearch N C))) (coded× (coded_list (coded× n c)) (coded× coded_bool (coded× f (cheapest_search_code n c)))) (λ w. (w.given, (w.refused, (w.successors, w.search))))
    (λ p. record { given = p.0; refused = p.1.0; successors = p.1.1.0; search = p.1.1.1 }) (λ _. refl)

-- the nodes given so far, without their costs
abbrev pub given_nodes : {N C F : Type 0} → CheapestWalk N C F → List N
given_nodes {N} {C} walk = map (λ (g : N × C). g.0) walk.given

module _ {N C F : Type 0} (eq : N → N → Bool) where
  -- a node that is the same as x was given, at this cost
  abbrev pub IsGiven : CheapestWalk N C F → N → C → Type 0
  IsGiven walk x cost = (g : N × C) × Contains walk.given g × (eq g.0 x ≡ true) × (g.1 ≡ cost)

  -- the node was not given
  abbrev pub IsNew : CheapestWalk N C F → N → Type 0
  IsNew walk x = (cost : C) → ¬ (IsGiven walk x cost)

  -- what was given later was given before
  abbrev pub GivesNoMore : CheapestWalk N C F → CheapestWalk N C F → Type 0
  GivesNoMore walk after = (x : N) (cost : C) → IsGiven after x cost ↔ IsGiven walk x cost

  -- what was given later was given before, or is this item
  abbrev pub GivesMore : CheapestWalk N C F → DijkstraReachableItem N C → CheapestWalk N C F → Type 0
  GivesMore walk item after = (x : N) (cost : C) → IsGiven after x cost ↔ (IsGiven walk x cost ⊎ ((eq item.node x ≡ true) × (item.total_cost ≡ cost)))

  module _ (value : C → ℤ) (edges : N → List (N × ℤ)) (start : N) where
    -- The walk is one of this graph from this start: its function answers the graph in reach, where no edge costs less than 0, the start was found first, each found node has a place for a label, the labels are those of a search by rising cost from the start, and the given nodes are those whose labels are settled.
    pub record IsCheapestWalk (answers : F → (N → Type 0) → (N → List (N × ℤ)) → Type 0) (walk : CheapestWalk N C F) : Type 0 where
      pub explored : Explores eq (AnswersEdges eq answers) (record { starts = start ∷ []; edges = edges }) walk.search.nodes (record { function = walk.successors })
      pub costs : HasNoNegativeCost eq edges (start ∷ [])
      pub begins : (x : N) → StandsFor eq walk.search.nodes 0 x ↔ (eq start x ≡ true)
      pub wide : length walk.search.labels ≡ length walk.search.nodes
      pub search : IsSearch (by_cost value) (IsStep eq (record { starts = start ∷ []; edges = edges })) (λ k. nat_eq k 0) (StandsFor eq walk.search.nodes) walk.search.labels
      pub given : walk.given ≡ given_of walk.search.nodes walk.search.labels

    -- no walk to a node that was not given costs less than t
    abbrev pub NoNewNodeBelow : CheapestWalk N C F → ℤ → Type 0
    NoNewNodeBelow walk t = (x : N) → IsNew walk x → NoGoalWalkCostsLess eq edges (start ∷ []) (λ y. eq y x) t

    -- the parent was given, and its cost and one step to the node, by the cheapest parallel edge, sum to t
    pub record IsBehind (walk : CheapestWalk N C F) (parent node : N) (t : ℤ) : Type 0 where
      pub cost : C
      pub given : IsGiven walk parent cost
      pub price : ℤ
      pub step : StepCosts eq edges parent node price
      pub sum : t ≡ value cost +ℤ price

    -- The next node by rising cost: it was not given, its cost is that of a cheapest path, no given node costs more, and no other node that was not given costs less; the start costs nothing and has no parent, and each other node has one.
    pub record IsNextByCost (walk : CheapestWalk N C F) (item : DijkstraReachableItem N C) : Type 0 where
      pub new : IsNew walk item.node
      pub path : List N
      pub cheapest : IsCheapestGoalPath eq edges (start ∷ []) (λ y. eq y item.node) path (value item.total_cost)
      pub rising : (x : N) (cost : C) → IsGiven walk x cost → value cost ≤ℤ value item.total_cost
      pub none_cheaper : NoNewNodeBelow walk (value item.total_cost)
      pub behind : MatchOption item.parent ((eq start item.node ≡ true) × (value item.total_cost ≡ pos 0)) (λ parent. IsBehind walk parent item.node (value item.total_cost))

    -- A cheapest path to a cheapest node that was not given, and one step more, by the cheapest parallel edge, do not fit.
    pub record NextOverflows (fits : ℤ → Type 0) (walk : CheapestWalk N C F) : Type 0 where
      pub node : N
      pub new : IsNew walk node
      pub path : List N
      pub cost : ℤ
      pub cheapest : IsCheapestGoalPath eq edges (start ∷ []) (λ y. eq y node) path cost
      pub none_cheaper : NoNewNodeBelow walk cost
      pub next : N
      pub price : ℤ
      pub step : StepCosts eq edges node next price
      pub past : ¬ (fits (cost +ℤ price))

    -- the walk stands before a step that does not fit, and each try of it is refused: a caller is given this by one call and hands it to the next
    abbrev pub IsBarred : (ℤ → Type 0) → CheapestWalk N C F → Type 0
    IsBarred fits walk = IsBarredSearch eq value edges start fits walk.search

    -- each node in reach was given
    abbrev pub AllGiven : CheapestWalk N C F → Type 0
    AllGiven walk = (x : N) → InReach eq edges (start ∷ []) x → (cost : C) × IsGiven walk x cost

    -- some node in reach was not given
    abbrev pub IsLeft : CheapestWalk N C F → Type 0
    IsLeft walk = (x : N) × InReach eq edges (start ∷ []) x × IsNew walk x

    -- why a step may be refused: for want of memory, or since a cost does not fit
    abbrev pub RefusedFor : (ℤ → Type 0) → CheapestWalk N C F → PathError → Type 0
    RefusedFor fits walk refusal = (refusal ≡ PathError.OutOfMemory) ⊎ ((refusal ≡ PathError.CostOverflow) × NextOverflows fits walk)

    -- a step that does not fit is refused again: where the walk stands before one, a call of `next` gives no item, and the end only where the last step was refused; a call that is refused leaves the walk before it
    abbrev pub StepKeepsBar : (ℤ → Type 0) → CheapestWalk N C F → Option (Result (DijkstraReachableItem N C) PathError) → CheapestWalk N C F → Type 0
    StepKeepsBar fits walk (Some (Ok item)) after = ¬ (IsBarred fits walk)
    StepKeepsBar fits walk None after = IsBarred fits walk → walk.refused ≡ true
    StepKeepsBar fits walk (Some (Err refusal)) after = ((refusal ≡ PathError.CostOverflow) ⊎ IsBarred fits walk) → IsBarred fits after

    -- What a call of `next` gives, and how it leaves the walk.
    -- an item: the next by rising cost, which is one of the given ones from then on
    -- no item: the last step was refused, or each node in reach was given; the walk stays as it was
    -- a refusal, which can come only where a node is left to give: the given nodes stay as they were, place by place, and so does what the search keeps
    abbrev pub CheapestStep : (ℤ → Type 0) → CheapestWalk N C F → Option (Result (DijkstraReachableItem N C) PathError) → CheapestWalk N C F → Type 0
    CheapestStep fits walk (Some (Ok item)) after = (walk.refused ≡ false) × (after.refused ≡ false) × IsNextByCost walk item × GivesMore walk item after
    CheapestStep fits walk None after = ((walk.refused ≡ true) ⊎ AllGiven walk) × (after ≡ walk)
    CheapestStep fits walk (Some (Err refusal)) after = (walk.refused ≡ false) × (after.refused ≡ true) × RefusedFor fits walk refusal × IsLeft walk × GivesNoMore walk after × SameNodes eq (given_nodes after) (given_nodes walk) × KeepsSearch eq walk.search after.search

module _ {N C F : Type 0} (eq : N → N → Bool) (value : C → ℤ) (answers : F → (N → Type 0) → (N → List (N × ℤ)) → Type 0) (walk : CheapestWalk N C F) where
  -- the walk is one of some graph from some start
  abbrev pub IsSomeCheapestWalk : Type 0
  IsSomeCheapestWalk = (edges : N → List (N × ℤ)) × (start : N) × IsCheapestWalk eq value edges start answers walk

  -- of whatever graph and start the walk is one, P holds
  abbrev pub OfCheapestWalk : ((N → List (N × ℤ)) → N → Type 0) → Type 0
  OfCheapestWalk P = (edges : N → List (N × ℤ)) (start : N) → IsCheapestWalk eq value edges start answers walk → P edges start
