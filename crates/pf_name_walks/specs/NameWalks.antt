-- What contracts say of lazy walks over lists of edges, by name.
use Rattle.std.specs.Prelude.{◌≡◌, ℕ, ℤ, Bool, List, Option, Result, Some, None, Ok, Err, get_or, if◌then◌else◌, length, map, nat_eq}
use Rattle.std.specs.Borrow.{Bor}
use Rattle.std.specs.Option.{option_map}
use Rattle.pf_base.specs.declared.error.PathError.{PathError}
use Rattle.pf_base.specs.Answers.{SameNodes}
use Rattle.pf_base.specs.Orders.{IsPreorder, found_from, last_nodes}
use Rattle.pf_edge_lists.specs.EdgeLists.{NamesAndEdges, edges_from, names_of, places_of, targets_from}
use Rattle.pf_search.specs.Breadth.{BreadthWalk, IsBreadthWalk, BreadthStep}
use Rattle.pf_search.specs.CheapestFirst.{CheapestWalk, IsCheapestWalk, IsBarred, CheapestStep, StepKeepsBar}
use Rattle.pf_search.specs.DepthWalks.{DepthWalk, DepthStep}
use Rattle.pf_search.specs.declared.directed.dijkstra_reach.DijkstraReachableItem.{DijkstraReachableItem}
use Rattle.pf_table_searches.specs.TableWalks.{TableWalk, IsPreorderWalkAlong}

-- what a caller sees of a walk over a list: the list, the name that it begins at, and the walk in names, as one over a function, in the place of which the list stands
pub record NameWalk (N C W : Type 0) : Type 0 where
  pub list : NamesAndEdges N C
  pub from : N
  pub walk : W

-- a result with the name that it refers to
abbrev pub named_result : {N : Type 0} → Option (Result (Bor N) PathError) → Option (Result N PathError)
named_result None = None
named_result (Some (Ok name)) = Some (Ok name.now)
named_result (Some (Err refusal)) = Some (Err refusal)

module _ {N C : Type 0} (eq : N → N → Bool) where
  -- a result with the name of its number: of a number that the list does not have, the other name
  abbrev pub result_by_name : NamesAndEdges N C → N → Option (Result ℕ PathError) → Option (Result N PathError)
  result_by_name list other None = None
  result_by_name list other (Some (Ok number)) = Some (Ok (get_or (names_of eq list) number other))
  result_by_name list other (Some (Err refusal)) = Some (Err refusal)

  -- the successors are those of the list, at each name
  abbrev pub ListsTargets : NamesAndEdges N C → (N → Type 0) → (N → List N) → Type 0
  ListsTargets list within next = next ≡ targets_from eq list

  -- the walk in breadth order is one of the graph of its list, from the name that it begins at
  abbrev pub IsBreadthWalkByName : NameWalk N C (BreadthWalk N (NamesAndEdges N C)) → Type 0
  IsBreadthWalkByName s = IsBreadthWalk eq ListsTargets (targets_from eq s.list) s.from s.walk

  -- what a call of `next` gives, in the graph of the list from the name that the walk begins at, and how it leaves the walk: over this list, from this name
  abbrev pub BreadthStepByName : NameWalk N C (BreadthWalk N (NamesAndEdges N C)) → Option (Result (Bor N) PathError) → NameWalk N C (BreadthWalk N (NamesAndEdges N C)) → Type 0
  BreadthStepByName s result t = (t.list ≡ s.list) × (t.from ≡ s.from) × IsBreadthWalkByName t × BreadthStep eq (targets_from eq s.list) s.from s.walk (named_result result) t.walk

  -- a walk over the numbers of a list, in names: of a number that the list does not have the name is the one that the walk begins at
  abbrev pub breadth_by_name : {G : Type 0} → NamesAndEdges N C → N → BreadthWalk ℕ G → NameWalk N C (BreadthWalk N (NamesAndEdges N C))
  breadth_by_name list from walk = record {
    list = list;
    from = from;
    walk = record {
      given = map (λ number. get_or (names_of eq list) number from) walk.given;
      waiting = map (λ number. get_or (names_of eq list) number from) walk.waiting;
      refused = walk.refused;
      successors = list;
    };
  }

-- a walk in preorder over the numbers of a list
abbrev pub NumberedWalk : (N C : Type 0) → Type 0
NumberedWalk N C = TableWalk (NamesAndEdges N C) (DepthWalk ℕ (NamesAndEdges N C))

module _ {N C : Type 0} (eq : N → N → Bool) where
  -- a walk in preorder over the numbers of a list, in names: of a number that the list does not have the name is the one that the walk begins at; the walk over numbers stands in the place of the function that lists successors
  abbrev pub preorder_by_name : NamesAndEdges N C → N → NumberedWalk N C → NameWalk N C (DepthWalk N (NumberedWalk N C))
  preorder_by_name list from numbers = record {
    list = list;
    from = from;
    walk = record {
      given = map (λ number. get_or (names_of eq list) number from) numbers.walk.given;
      found = map (λ number. get_or (names_of eq list) number from) numbers.walk.found;
      refused = numbers.walk.refused;
      successors = numbers;
      stack = numbers.walk.stack;
    };
  }

  -- the name of a number on a tree path: of the number that the walk begins at, the name that was handed in
  abbrev pub tree_name : NamesAndEdges N C → N → ℕ → ℕ → N
  tree_name list from start number = if nat_eq number start then from else get_or (names_of eq list) number from

  module _ (value : C → ℤ) where
    -- The walk has gone along these tree paths of the graph of its list and no further: the given names are their last names, and what was found is the name that it begins at and the targets of the given names, each once. The walk over numbers, of which a caller need know nothing, has gone along the numbers of these paths.
    pub record HasGoneAlong (list : NamesAndEdges N C) (from : N) (paths : List (List N)) (walk : DepthWalk N (NumberedWalk N C)) : Type 0 where
      pub preorder : IsPreorder eq (targets_from eq list) from paths
      pub given : SameNodes eq walk.given (last_nodes paths)
      pub found : SameNodes eq walk.found (found_from eq (targets_from eq list) from (last_nodes paths))
      pub numbers : List (List ℕ)
      pub along : IsPreorderWalkAlong value (λ l. length (names_of eq l)) (places_of eq) numbers walk.successors
      pub named : paths ≡ map (map (tree_name list from walk.successors.start)) numbers

    -- the walk in preorder has gone along these tree paths of the graph of its list, from the name that it begins at
    abbrev pub IsPreorderWalkAlongNames : List (List N) → NameWalk N C (DepthWalk N (NumberedWalk N C)) → Type 0
    IsPreorderWalkAlongNames paths s = HasGoneAlong s.list s.from paths s.walk

    -- the walk in preorder is one of the graph of its list, from the name that it begins at: it has gone along some tree paths
    abbrev pub IsPreorderWalkByName : NameWalk N C (DepthWalk N (NumberedWalk N C)) → Type 0
    IsPreorderWalkByName s = (paths : List (List N)) × IsPreorderWalkAlongNames paths s

    -- the walk has gone along some tree paths, and this is what a call of `next` gives behind whatever ones they are, and how it leaves the walk: over this list, from this name
    abbrev pub PreorderStepByName : NameWalk N C (DepthWalk N (NumberedWalk N C)) → Option (Result (Bor N) PathError) → NameWalk N C (DepthWalk N (NumberedWalk N C)) → Type 0
    PreorderStepByName s result t = (t.list ≡ s.list) × (t.from ≡ s.from) × IsPreorderWalkByName s × IsPreorderWalkByName t
        × ((paths : List (List N)) → IsPreorderWalkAlongNames paths s → DepthStep eq (targets_from eq s.list) s.from (HasGoneAlong s.list s.from) paths s.walk (named_result result) t.walk)

-- an item with the names that it refers to
abbrev pub named_item : {N C : Type 0} → DijkstraReachableItem (Bor N) C → DijkstraReachableItem N C
named_item {N} item = record { node = item.node.now; parent = option_map (λ (name : Bor N). name.now) item.parent; total_cost = item.total_cost }

-- a result with the names that it refers to
abbrev pub named_item_result : {N C : Type 0} → Option (Result (DijkstraReachableItem (Bor N) C) PathError) → Option (Result (DijkstraReachableItem N C) PathError)
named_item_result None = None
named_item_result (Some (Ok item)) = Some (Ok (named_item item))
named_item_result (Some (Err refusal)) = Some (Err refusal)

module _ {N C : Type 0} (eq : N → N → Bool) where
  -- an item of numbers in names: of a number that the list does not have, the other name
  abbrev pub item_by_name : NamesAndEdges N C → N → DijkstraReachableItem ℕ C → DijkstraReachableItem N C
  item_by_name list other item = record {
    node = get_or (names_of eq list) item.node other;
    parent = option_map (λ number. get_or (names_of eq list) number other) item.parent;
    total_cost = item.total_cost;
  }

  -- a result with the names of its numbers
  abbrev pub item_result_by_name : NamesAndEdges N C → N → Option (Result (DijkstraReachableItem ℕ C) PathError) → Option (Result (DijkstraReachableItem N C) PathError)
  item_result_by_name list other None = None
  item_result_by_name list other (Some (Ok item)) = Some (Ok (item_by_name list other item))
  item_result_by_name list other (Some (Err refusal)) = Some (Err refusal)

  -- a walk by rising cost over the numbers of a list, in names: of a number that the list does not have the name is the one that the walk begins at
  abbrev pub cheapest_by_name : {G : Type 0} → NamesAndEdges N C → N → CheapestWalk ℕ C G → NameWalk N C (CheapestWalk N C (NamesAndEdges N C))
  cheapest_by_name list from walk = record {
    list = list;
    from = from;
    walk = record {
      given = map (λ (item : ℕ × C). (get_or (names_of eq list) item.0 from, item.1)) walk.given;
      refused = walk.refused;
      successors = list;
      search = record {
        nodes = map (λ number. get_or (names_of eq list) number from) walk.search.nodes;
        labels = walk.search.labels;
        next = walk.search.next;
      };
    };
  }

  module _ (value : C → ℤ) where
    -- the edges are those of the list, at each name
    abbrev pub ListsEdgesOf : NamesAndEdges N C → (N → Type 0) → (N → List (N × ℤ)) → Type 0
    ListsEdgesOf list within edges = edges ≡ edges_from eq value list

    -- the walk by rising cost is one of the graph of its list, from the name that it begins at
    abbrev pub IsCheapestWalkByName : NameWalk N C (CheapestWalk N C (NamesAndEdges N C)) → Type 0
    IsCheapestWalkByName s = IsCheapestWalk eq value (edges_from eq value s.list) s.from ListsEdgesOf s.walk

    -- the walk stands before a step that does not fit, and each try of it is refused
    abbrev pub IsBarredByName : (ℤ → Type 0) → NameWalk N C (CheapestWalk N C (NamesAndEdges N C)) → Type 0
    IsBarredByName fits s = IsBarred eq value (edges_from eq value s.list) s.from fits s.walk

    -- what a call of `next` gives, in the graph of the list from the name that the walk begins at, and how it leaves the walk: over this list, from this name
    abbrev pub CheapestStepByName : (ℤ → Type 0) → NameWalk N C (CheapestWalk N C (NamesAndEdges N C)) → Option (Result (DijkstraReachableItem (Bor N) C) PathError) → NameWalk N C (CheapestWalk N C (NamesAndEdges N C)) → Type 0
    CheapestStepByName fits s result t = (t.list ≡ s.list) × (t.from ≡ s.from) × IsCheapestWalkByName t
        × CheapestStep eq value (edges_from eq value s.list) s.from fits s.walk (named_item_result result) t.walk × StepKeepsBar eq value (edges_from eq value s.list) s.from fits s.walk (named_item_result result) t.walk
