-- What the laws of the searches are about: graphs with costs and graphs without them, orders and walks.
use Rattle.std.specs.Prelude.{◌≡◌, Bool, true, List, [], ◌∷◌, Option, Some, None, MatchOption, ℤ}
use Rattle.pf_base.specs.Walks.{IsReachable}
use Rattle.pf_base.specs.Successors.{HasSuccessor}
use Rattle.pf_base.specs.Edges.{InReach}
use Rattle.pf_base.specs.Answers.{SameNodes, ListsEdges}
use Rattle.pf_base.specs.Orders.{IsBreadthOrder, IsPreorder}
use Rattle.pf_search.specs.CheapestFirst.{CheapestWalk, IsCheapestWalk}

-- equal nodes in reach of the start have the same successors, place by place
abbrev pub HasEqualSuccessors : {N : Type 0} → (N → N → Bool) → (N → List N) → N → Type 0
HasEqualSuccessors {N} eq next start = (x y : N) → IsReachable eq (HasSuccessor eq next) (start ∷ []) x → eq x y ≡ true → SameNodes eq (next x) (next y)

-- equal nodes in reach of the start have the same edges at the same costs, place by place
abbrev pub HasEqualEdges : {N : Type 0} → (N → N → Bool) → (N → List (N × ℤ)) → N → Type 0
HasEqualEdges {N} eq edges start = (x y : N) → InReach eq edges (start ∷ []) x → eq x y ≡ true → ListsEdges eq (λ z. z) (edges x) (edges y)

-- of each beginning of a preorder, P holds
abbrev pub OfPreorder : {N : Type 0} → (N → N → Bool) → ((N → List N) → N → List (List N) → Type 0) → Type 0
OfPreorder {N} eq P = (next : N → List N) (start : N) (paths : List (List N)) → IsPreorder eq next start paths → P next start paths

-- of each beginning of a breadth order, in a graph in which equal nodes in reach have the same successors, P holds
abbrev pub OfBreadthOrder : {N : Type 0} → (N → N → Bool) → ((N → List N) → N → List N → Type 0) → Type 0
OfBreadthOrder {N} eq P = (next : N → List N) (start : N) (given : List N) → HasEqualSuccessors eq next start → IsBreadthOrder eq next start given → P next start given

-- of each walk by rising cost, P holds
abbrev pub OfEachCheapestWalk : {N C F : Type 0} → (N → N → Bool) → (C → ℤ) → (F → (N → Type 0) → (N → List (N × ℤ)) → Type 0) → ((N → List (N × ℤ)) → N → CheapestWalk N C F → Type 0) → Type 0
OfEachCheapestWalk {N} {C} {F} eq value answers P = (edges : N → List (N × ℤ)) (start : N) (walk : CheapestWalk N C F) → IsCheapestWalk eq value edges start answers walk → P edges start walk

-- none is answered by both, or by neither, and what is answered compares so
abbrev pub Agree : {X Y : Type 0} → (X → Y → Type 0) → Option X → Option Y → Type 0
Agree compare None other = other ≡ None
Agree compare (Some answer) other = MatchOption other ⊥ (compare answer)
