-- What a search by cost and estimate knows of a graph.
use Rattle.std.specs.Prelude.{◌≡◌, ◌≤ℤ◌, ◌+ℤ◌, ◌+◌, ◌-◌, ◌*◌, ◌^◌, ◌<◌, ◌⊎◌, ℤ, ℕ, Bool, false, List, length}
use Rattle.pf_core.specs.declared.labels.Label.{Label}
use Rattle.pf_core.specs.Labels.{Labels, HasLabel, Widened}
use Rattle.pf_informed.specs.Internal.Forest.{total_room}
use Rattle.pf_informed.specs.Internal.Waiting.{Entry, IsWaiting, Covers, Relaxed}

-- how much lower all labels can get, those of 2^64 numbers, and how many entries are left
abbrev pub work_left : {C : Type 0} → (C → ℤ) → ℕ → Labels C → ℕ → ℕ
work_left value top labels waiting = 2 * (total_room value top labels + (2 ^ 64 - length labels) * (top + 1)) + waiting

module _ {C : Type 0} (value : C → ℤ) (fits : ℤ → Type 0) (estimates : List C) where
  -- the labels and entries after there was room made for labels, and the steps of a row were taken
  pub record Follows (number : ℕ) (l : Label C) (row : List (ℕ × C)) (labels labels' : Labels C) (entries entries' : List (Entry C)) : Type 0 where
    pub wider : Labels C
    pub wide : Widened (length estimates) labels wider
    pub relaxed : Relaxed value fits estimates number (value l.cost) row wider labels' entries entries'

  module _ {X : Type 0} (step : X → ℤ → X → Type 0) (passes : X → Bool) (stands : ℕ → X → Type 0) (labels : Labels C) (entries : List (Entry C)) where
    -- the node fails the test, and each step from it leads to a number with a label that is at most one step more, or is too dear
    pub record IsClosed (k : ℕ) (l : Label C) : Type 0 where
      pub fails : (x : X) → stands k x → passes x ≡ false
      pub along : (x : X) → stands k x → (z : ℤ) (y : X) → step x z y → (j : ℕ) × stands j y × Covers value fits estimates labels j (value l.cost +ℤ z)

    -- some step leads from a node that has a label to the node of this number
    pub record IsFoundFrom (j : ℕ) : Type 0 where
      pub node : X
      pub here : stands j node
      pub before : ℕ
      pub label : Label C
      pub at : HasLabel labels before label
      pub source : X
      pub there : stands before source
      pub price : ℤ
      pub edge : step source price node

    pub record IsInformed (found : ℕ) : Type 0 where
      pub cut : (k : ℕ) (l : Label C) → HasLabel labels k l → IsWaiting value estimates entries k l ⊎ IsClosed k l
      pub linked : (k : ℕ) (l m : Label C) → HasLabel labels k l → 0 < l.depth → HasLabel labels l.parent m → (x : X) → stands l.parent x → (y : X) × (z : ℤ) × step x z y × stands k y × ((value m.cost +ℤ z) ≤ℤ value l.cost)
      pub found_by : (j : ℕ) → j < found → ((l : Label C) × HasLabel labels j l) ⊎ IsFoundFrom j
