-- The path that a search to a growing depth stands on, and what is ahead of it.
use Rattle.std.specs.Prelude.{◌≡◌, ◌⊎◌, ◌<◌, ◌≤◌, ◌+◌, ◌^◌, ◌++◌, ℕ, Bool, true, false, List, [], ◌∷◌, Option, Some, length, map, nat_eq, slice_get}
use Rattle.pf_base.specs.Walks.{HasNode, IsGoalPath}
use Rattle.pf_base.specs.Successors.{HasSuccessor}
use Rattle.pf_tables.specs.Graphs.{HasEdgeAt}
use Rattle.pf_table_searches.specs.declared.deepening.Deepened.{Deepened}
use Rattle.pf_table_searches.specs.declared.deepening.Deepened.TheVariants.{Found, Missed}

-- each node of a path, with the place of the edge at which a search goes on from it: the nodes
abbrev pub nodes_along : List (ℕ × ℕ) → List ℕ
nodes_along entries = map (λ (e : ℕ × ℕ). e.0) entries

-- those of the entries, and the node above them
abbrev pub nodes_to : List (ℕ × ℕ) → ℕ → List ℕ
nodes_to below node = nodes_along below ++ node ∷ []

-- exactly these nodes are marked
pub record IsMarking (nodes : List ℕ) (marked : List Bool) : Type 0 where
  pub on : (x : ℕ) → HasNode nat_eq nodes x → slice_get marked x ≡ Some true
  pub back : (x : ℕ) → slice_get marked x ≡ Some true → HasNode nat_eq nodes x

-- the edges at the places of a node, from one on and before another, lead to marked nodes
abbrev pub AreAllMarked : {C : Type 0} → List (Option (ℕ × C)) → List Bool → ℕ → ℕ → Type 0
AreAllMarked {C} places marked first last = (q : ℕ) (e : ℕ × C) → first ≤ q → q < last → HasEdgeAt places q e → slice_get marked e.0 ≡ Some true

-- the first edge from a place on that leads to a node without a mark, and the place behind it
pub record IsNextEnd {C : Type 0} (size : ℕ) (places : List (Option (ℕ × C))) (marked : List Bool) (first end after : ℕ) : Type 0 where
  pub place : ℕ
  pub cost : C
  pub behind : after ≡ place + 1
  pub from_first : first ≤ place
  pub fits : after < 2 ^ 64
  pub edge : HasEdgeAt places place (end, cost)
  pub inside : end < size
  pub free : slice_get marked end ≡ Some false
  pub before : AreAllMarked places marked first place

module _ {C : Type 0} (places : ℕ → List (Option (ℕ × C))) where
  -- these nodes go on from a node by an edge at this place or a later one
  abbrev pub GoesOn : ℕ → ℕ → List ℕ → Type 0
  GoesOn node place [] = ⊥
  GoesOn node place (y ∷ w) = (q : ℕ) × (c : C) × (place ≤ q) × HasEdgeAt (places node) q (y, c)

  -- a path goes along the entries up to one of them, and goes on from there by a place that was not looked at
  abbrev pub IsAhead : List (ℕ × ℕ) → List ℕ → Type 0
  IsAhead [] path = ⊥
  IsAhead (e ∷ es) [] = ⊥
  IsAhead (e ∷ es) (x ∷ w) = (e.0 ≡ x) × (GoesOn e.0 e.1 w ⊎ IsAhead es w)

module _ (next : ℕ → List ℕ) (from : ℕ) where
  -- a path from the start
  abbrev pub IsPathFrom : List ℕ → Type 0
  IsPathFrom = IsGoalPath nat_eq (HasSuccessor nat_eq next) (from ∷ []) (λ _. true)

  module _ (test : ℕ → Bool) where
    -- no path from the start to a goal has at most so many edges, and none has more where no path was cut off
    abbrev pub HasNoGoalWithin : Bool → ℕ → Type 0
    HasNoGoalWithin cut limit = (w : List ℕ) → (cut ≡ true → length w ≤ limit) → ¬ (IsGoalPath nat_eq (HasSuccessor nat_eq next) (from ∷ []) test (from ∷ w))

    -- what is known once a search up to so many edges has ended
    abbrev pub Deepens : ℕ → ℕ → Deepened → List (ℕ × ℕ) → List Bool → Type 0
    Deepens size limit Found entries marked = IsGoalPath nat_eq (HasSuccessor nat_eq next) (from ∷ []) test (nodes_along entries) × (length entries ≤ limit + 1)
    Deepens size limit (Missed cut) entries marked = (entries ≡ []) × (length marked ≡ size) × ((x : ℕ) → ¬ (slice_get marked x ≡ Some true)) × HasNoGoalWithin cut limit

    module _ {C : Type 0} (places : ℕ → List (Option (ℕ × C))) (size limit : ℕ) where
      -- what is known while a search stands at a node, at the end of a path, with a place from which it goes on
      pub record IsSearchedTo (cut : Bool) (below : List (ℕ × ℕ)) (node place : ℕ) (marked : List Bool) : Type 0 where
        pub path : IsPathFrom (nodes_to below node)
        pub marks : IsMarking (nodes_to below node) marked
        pub wide : length marked ≡ size
        pub short : length below < limit
        pub ahead : (w : List ℕ) → (cut ≡ true → length w ≤ limit) → IsGoalPath nat_eq (HasSuccessor nat_eq next) (from ∷ []) test (from ∷ w) → IsAhead places (below ++ (node, place) ∷ []) (from ∷ w)
