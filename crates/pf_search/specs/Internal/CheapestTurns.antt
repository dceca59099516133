-- What a step of a lazy walk by rising cost gives, which `next` hands on.
use Rattle.std.specs.Prelude.{◌≡◌, ◌⊎◌, ℤ, List, Option, Some, None, Result, Ok, Err, Bool}
use Rattle.pf_base.specs.declared.error.PathError.{PathError}
use Rattle.pf_base.specs.Answers.{SameNodes}
use Rattle.pf_search.specs.declared.directed.dijkstra_reach.DijkstraReachableItem.{DijkstraReachableItem}
use Rattle.pf_search.specs.CheapestFirst.{CheapestWalk, given_nodes, GivesMore, GivesNoMore, IsNextByCost, IsBarred, AllGiven, IsLeft, RefusedFor}
use Rattle.pf_search.specs.Internal.CheapestSearch.{KeepsSearch}

module _ {N C F : Type 0} (eq : N → N → Bool) (value : C → ℤ) (edges : N → List (N × ℤ)) (start : N) where
  -- what a step of a walk that was not refused before gives, and how it leaves the walk: an item, no item, or a refusal, after which the given nodes and what the search keeps are as before
  abbrev pub CheapestTurn : (ℤ → Type 0) → CheapestWalk N C F → Result (Option (DijkstraReachableItem N C)) PathError → CheapestWalk N C F → Type 0
  CheapestTurn fits walk (Ok (Some item)) after = IsNextByCost eq value edges start walk item × GivesMore eq walk item after
  CheapestTurn fits walk (Ok None) after = AllGiven eq value edges start walk × (after ≡ walk)
  CheapestTurn fits walk (Err refusal) after = RefusedFor eq value edges start fits walk refusal × IsLeft eq value edges start walk × GivesNoMore eq walk after × SameNodes eq (given_nodes after) (given_nodes walk) × KeepsSearch eq walk.search after.search

  -- a step that does not fit is refused again: where the walk stands before one, a step of a walk that was not refused before gives neither an item nor the end, and a step that is refused leaves the walk before it
  abbrev pub TurnKeepsBar : (ℤ → Type 0) → CheapestWalk N C F → Result (Option (DijkstraReachableItem N C)) PathError → CheapestWalk N C F → Type 0
  TurnKeepsBar fits walk (Ok given) after = ¬ (IsBarred eq value edges start fits walk)
  TurnKeepsBar fits walk (Err refusal) after = ((refusal ≡ PathError.CostOverflow) ⊎ IsBarred eq value edges start fits walk) → IsBarred eq value edges start fits after
