-- The orders in which walks give the nodes of a graph without costs.
use Rattle.std.specs.Prelude.{◌≡◌, ◌≤◌, ◌++◌, ℕ, Bool, true, List, [], ◌∷◌, Some, slice_get, length, take, Contains, ⊤}
use Rattle.indexmap.specs.IndexSet.{insert_all}
use Rattle.pf_base.specs.Walks.{HasNode, end_of}

-- the last node of each path
abbrev pub last_nodes : {N : Type 0} → List (List N) → List N
last_nodes [] = []
last_nodes ([] ∷ paths) = last_nodes paths
last_nodes ((x ∷ w) ∷ paths) = end_of x w ∷ last_nodes paths

module _ {N : Type 0} (eq : N → N → Bool) (successors : N → List N) where
  -- the successors of the nodes, in turn
  abbrev pub successors_of : List N → List N
  successors_of [] = []
  successors_of (x ∷ xs) = successors x ++ successors_of xs

  -- the start and the successors of the given nodes, in turn, each once, where it is first met
  abbrev pub found_from : N → List N → List N
  found_from start given = insert_all eq [] (start ∷ successors_of given)

  module _ (start : N) where
    -- x is the next node in breadth order behind the given ones: of the nodes found from these, the first that is not among them
    abbrev pub IsNextInBreadth : List N → N → Type 0
    IsNextInBreadth given x = (y : N) × (slice_get (found_from start given) (length given) ≡ Some y) × (eq y x ≡ true)

    -- the given nodes are a beginning of the breadth order
    abbrev pub IsBreadthOrder : List N → Type 0
    IsBreadthOrder given = (k : ℕ) (x : N) → slice_get given k ≡ Some x → IsNextInBreadth (take k given) x

    -- all that is found from the given nodes was given
    abbrev pub AllGiven : List N → Type 0
    AllGiven given = length (found_from start given) ≤ length given

  -- The next tree path in preorder: it follows the last path up to its deepest node that has a successor which was not given, and goes on to the first such successor.
  pub record IsNextPath (given path path' : List N) : Type 0 where
    pub front : List N
    pub here : N
    pub back : List N
    pub next : N
    pub from : path ≡ front ++ here ∷ back
    pub to : path' ≡ front ++ here ∷ next ∷ []
    pub passed : (x : N) → Contains back x → (y : N) → HasNode eq (successors x) y → HasNode eq given y
    pub before : List N
    pub first : N
    pub after : List N
    pub answer : successors here ≡ before ++ first ∷ after
    pub same : eq first next ≡ true
    pub earlier : (y : N) → HasNode eq before y → HasNode eq given y
    pub new : ¬ (HasNode eq given next)

  -- no node of the path has a successor that was not given
  abbrev pub IsLastPath : List N → List N → Type 0
  IsLastPath given path = (x : N) → Contains path x → (y : N) → HasNode eq (successors x) y → HasNode eq given y

  module _ (start : N) where
    -- the next tree path behind the given nodes and the last path: the start alone, where there was none
    abbrev pub IsNextTreePath : List N → List N → List N → Type 0
    IsNextTreePath given [] path' = path' ≡ start ∷ []
    IsNextTreePath given (x ∷ w) path' = IsNextPath given (x ∷ w) path'

    -- the paths go on in preorder, one behind the other
    abbrev pub GoesOnInPreorder : List N → List N → List (List N) → Type 0
    GoesOnInPreorder given path [] = ⊤
    GoesOnInPreorder given path (next ∷ paths) = IsNextTreePath given path next × GoesOnInPreorder (given ++ last_nodes (next ∷ [])) next paths

    -- the tree paths are a beginning of the preorder
    abbrev pub IsPreorder : List (List N) → Type 0
    IsPreorder paths = GoesOnInPreorder [] [] paths

  -- the preorder ends with these tree paths
  abbrev pub IsWholePreorder : List (List N) → Type 0
  IsWholePreorder [] = ⊥
  IsWholePreorder (path ∷ paths) = IsLastPath (last_nodes (path ∷ paths)) (end_of path paths)
