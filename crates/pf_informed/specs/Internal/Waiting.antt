-- What waits in a search by cost and estimate.
use Rattle.std.specs.Prelude.{◌≡◌, ◌≤◌, ◌<◌, ◌^◌, ◌≤ℤ◌, ◌+ℤ◌, ◌⊎◌, ◌++◌, ◌∷◌, ℤ, pos, ℕ, Bool, false, List, Contains, IsPermutation, Some, slice_get, length}
use Rattle.pf_core.specs.declared.labels.Label.{Label}
use Rattle.pf_core.specs.Labels.{Labels, HasLabel}
use Rattle.pf_informed.specs.Internal.Forest.{IsForest}

-- a label's cost and the estimate of its node together, and the number
abbrev pub Entry : Type 0 → Type 0
Entry C = C × ℕ

-- what waits in a queue, and for how much more there is room
pub record Queued (C : Type 0) : Type 0 where
  pub entries : List (Entry C)
  pub room : ℕ

module _ {C : Type 0} (value : C → ℤ) where
  -- each entry of a bucket has this sum, and none of the others a lesser one, unless some may be below it
  pub record IsBucket (bucket later : List (Entry C)) (sum : C) (is_below : Bool) : Type 0 where
    pub alike : (e : Entry C) → Contains bucket e → value e.0 ≡ value sum
    pub above : is_below ≡ false → (e : Entry C) → Contains later e → value sum ≤ℤ value e.0

  -- An entry of the least sum was taken out of a bucket and the entries behind it.
  pub record IsTakenOut (e : Entry C) (bucket later bucket' later' : List (Entry C)) : Type 0 where
    pub moved : IsPermutation (bucket ++ later) (e ∷ (bucket' ++ later'))
    pub least : (f : Entry C) → Contains (bucket' ++ later') f → value e.0 ≤ℤ value f.0
    pub kept : (f : Entry C) → Contains bucket' f → Contains bucket f
    pub behind : (f : Entry C) → Contains later' f → Contains later f

  -- the sum is that of this cost and the number's estimate
  abbrev pub IsSum : List C → ℕ → ℤ → C → Type 0
  IsSum estimates k t sum = (h : C) × (slice_get estimates k ≡ Some h) × (value sum ≡ t +ℤ value h)

  -- some entry has the number, at the sum of the label's cost and the estimate
  abbrev pub IsWaiting : List C → List (Entry C) → ℕ → Label C → Type 0
  IsWaiting estimates entries k l = (e : Entry C) × Contains entries e × (e.1 ≡ k) × IsSum estimates k (value l.cost) e.0

  -- each entry's number has a label and an estimate, which are no more together than the sum
  pub record IsQueue (labels : Labels C) (estimates : List C) (entries : List (Entry C)) : Type 0 where
    pub labelled : (e : Entry C) → Contains entries e → (l : Label C) × HasLabel labels e.1 l × (h : C) × (slice_get estimates e.1 ≡ Some h) × ((value l.cost +ℤ value h) ≤ℤ value e.0)

  -- the cost of each label and the number's estimate fit together
  abbrev pub SumsFit : (ℤ → Type 0) → Labels C → List C → Type 0
  SumsFit fits labels estimates = (k : ℕ) (l : Label C) (h : C) → HasLabel labels k l → slice_get estimates k ≡ Some h → fits (value l.cost +ℤ value h)

  -- What is so of a search that has begun: the labels form a tree, there are no more than the queue and the estimates have numbers for, their sums fit, and each entry is that of a label.
  pub record IsSound (fits : ℤ → Type 0) (labels : Labels C) (estimates : List C) (entries : List (Entry C)) : Type 0 where
    pub forest : IsForest value labels
    pub few : length labels ≤ 2 ^ 32
    pub estimated : length labels ≤ length estimates
    pub sums : SumsFit fits labels estimates
    pub queue : IsQueue labels estimates entries

  -- each step leads to one of so many numbers, at a cost from 0 up
  abbrev pub AreSteps : ℕ → List (ℕ × C) → Type 0
  AreSteps found row = (j : ℕ) (c : C) → Contains row (j, c) → (j < found) × (pos 0 ≤ℤ value c)

  -- The number's label is the one that was taken out of the queue, whose sum is the least, and what else waited still waits.
  pub record IsTaken (labels : Labels C) (estimates : List C) (number : ℕ) (cost : C) (entries entries' : List (Entry C)) : Type 0 where
    pub label : Label C
    pub at : HasLabel labels number label
    pub same : value label.cost ≡ value cost
    pub estimate : C
    pub estimated : slice_get estimates number ≡ Some estimate
    pub least : (e : Entry C) → Contains entries' e → (value cost +ℤ value estimate) ≤ℤ value e.0
    pub left : (k : ℕ) (l : Label C) → HasLabel labels k l → IsWaiting estimates entries k l → (k ≡ number) ⊎ IsWaiting estimates entries' k l

  module _ (fits : ℤ → Type 0) (estimates : List C) where
    -- this cost does not fit, alone or with the number's estimate
    abbrev pub SumOverflows : ℕ → ℤ → Type 0
    SumOverflows j t = ¬ (fits t) ⊎ ((h : C) × (slice_get estimates j ≡ Some h) × ¬ (fits (t +ℤ value h)))

    -- the number has a label of at most this cost, or this cost is too dear
    abbrev pub Covers : Labels C → ℕ → ℤ → Type 0
    Covers labels j t = ((m : Label C) × HasLabel labels j m × (value m.cost ≤ℤ t)) ⊎ SumOverflows j t

    -- The labels and entries after some steps from the number `parent`, whose label costs t.
    pub record Relaxed (parent : ℕ) (t : ℤ) (row : List (ℕ × C)) (labels labels' : Labels C) (entries entries' : List (Entry C)) : Type 0 where
      pub len : length labels' ≡ length labels
      pub lower : (k : ℕ) (l : Label C) → HasLabel labels k l → (m : Label C) × HasLabel labels' k m × (value m.cost ≤ℤ value l.cost)
      pub from : (k : ℕ) (m : Label C) → HasLabel labels' k m → HasLabel labels k m ⊎ ((c : C) × Contains row (k, c) × (m.parent ≡ parent) × (value m.cost ≡ t +ℤ value c) × IsWaiting estimates entries' k m)
      pub more : (e : Entry C) → Contains entries e → Contains entries' e
      pub own : (l : Label C) → HasLabel labels parent l → HasLabel labels' parent l
      pub covered : (j : ℕ) (c : C) → Contains row (j, c) → Covers labels' j (t +ℤ value c)
