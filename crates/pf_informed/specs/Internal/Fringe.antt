-- What waits in a search by growing limits.
use Rattle.std.specs.Prelude.{◌≡◌, ◌≤ℤ◌, ◌+ℤ◌, ◌⊎◌, ◌++◌, ◌∷◌, ◌+◌, ◌≤◌, ℤ, ℕ, Bool, true, List, Contains, Some, slice_get, length}
use Rattle.pf_base.specs.Walks.{end_of}
use Rattle.pf_core.specs.declared.labels.Label.{Label}
use Rattle.pf_core.specs.Labels.{Labels, HasLabel}
use Rattle.pf_core.specs.Steps.{GoesAlong}
use Rattle.pf_informed.specs.declared.fringe_lists.FringeLists.{FringeLists}
use Rattle.pf_informed.specs.Internal.Waiting.{Entry, IsWaiting, IsQueue}

-- the entries of this round, and those that were put off
abbrev pub listed : {C A : Type 0} → FringeLists C A → List (Entry C)
listed lists = lists.current.items ++ lists.later.items

-- no walk along steps from a start to a goal costs less than the limit
abbrev pub IsBelowGoals : {X : Type 0} → (X → ℤ → X → Type 0) → (X → Bool) → (X → Type 0) → ℤ → Type 0
IsBelowGoals {X} step passes starts limit = (s : X) → starts s → (w : List X) (t : ℤ) → GoesAlong step s w t → passes (end_of s w) ≡ true → limit ≤ℤ t

module _ {C : Type 0} (value : C → ℤ) (labels : Labels C) (estimates : List C) where
  -- each number whose label waited waits on
  abbrev pub StillWait : List (Entry C) → List (Entry C) → Type 0
  StillWait entries entries' = (k : ℕ) (l : Label C) → HasLabel labels k l → IsWaiting value estimates entries k l → IsWaiting value estimates entries' k l

  -- no label waits
  abbrev pub NothingWaits : List (Entry C) → Type 0
  NothingWaits entries = (k : ℕ) (l : Label C) → HasLabel labels k l → ¬ (IsWaiting value estimates entries k l)

  -- the sum is no more than that of the number's label and estimate
  abbrev pub IsNewest : Entry C → Type 0
  IsNewest e = (l : Label C) (h : C) → HasLabel labels e.1 l → slice_get estimates e.1 ≡ Some h → value e.0 ≤ℤ (value l.cost +ℤ value h)

  -- the entry of a number's label was taken out, and nothing else but stale entries
  pub record IsNextEntry (e : Entry C) (entries entries' : List (Entry C)) : Type 0 where
    pub here : Contains entries e
    pub newest : IsNewest e
    pub rest : (f : Entry C) → Contains entries' f → Contains entries f
    pub left : StillWait entries (e ∷ entries')

  -- no label that waits costs, with the estimate of its node, less than the limit
  abbrev pub IsBelowWaiting : List (Entry C) → C → Type 0
  IsBelowWaiting entries limit = (k : ℕ) (l : Label C) (h : C) → HasLabel labels k l → IsWaiting value estimates entries k l → slice_get estimates k ≡ Some h → value limit ≤ℤ (value l.cost +ℤ value h)

  -- The number's label is one that was taken out, which is within the limit with the estimate, and what else waited still waits.
  pub record IsTakenWithin (number : ℕ) (cost limit : C) (entries entries' : List (Entry C)) : Type 0 where
    pub label : Label C
    pub at : HasLabel labels number label
    pub same : value label.cost ≡ value cost
    pub estimate : C
    pub estimated : slice_get estimates number ≡ Some estimate
    pub within : (value cost +ℤ value estimate) ≤ℤ value limit
    pub left : (k : ℕ) (l : Label C) → HasLabel labels k l → IsWaiting value estimates entries k l → (k ≡ number) ⊎ IsWaiting value estimates entries' k l

  -- While a round begins with what was put off: what waited waits on, as the entry of the least sum so far, as one of those that were looked at, or as one of the rest.
  pub record IsRaising (entries : List (Entry C)) (least : Entry C) (current later : List (Entry C)) : Type 0 where
    pub queue : IsQueue value labels estimates (least ∷ (current ++ later))
    pub newest : IsNewest least
    pub waits : StillWait entries (least ∷ (current ++ later))
    pub below : (f : Entry C) → Contains current f → value least.0 ≤ℤ value f.0
    pub fewer : length (current ++ later) + 1 ≤ length entries
