-- What a search by rising cost keeps.
use Rattle.std.specs.Prelude.{◌≡◌, ◌≤ℤ◌, ◌<◌, ◌≤◌, ◌+◌, ◌+ℤ◌, ◌⊎◌, ℤ, ℕ, pos, Bool, true, false}
use Rattle.pf_core.specs.declared.labels.Label.{Label}
use Rattle.pf_core.specs.Labels.{Labels, HasLabel, IsTree, cost_of, settled_count}
use Rattle.pf_core.specs.Frontier.{IsCut}
use Rattle.pf_core.specs.Queue.{IsQueue}
use Rattle.pf_queue.specs.Entries.{Entries}

-- Without a graph: labels form a tree, and what waits has each open label at its cost.
pub record IsSound {C : Type 0} (value : C → ℤ) (labels : Labels C) (entries : Entries C) : Type 0 where
  pub tree : IsTree labels
  pub queue : IsQueue value labels entries

module _ {C : Type 0} (measure : C → ℕ → ℤ) where
  abbrev pub SettledAt : Labels C → ℕ → ℤ → Type 0
  SettledAt labels k d = (l : Label C) × HasLabel labels k l × (l.settled ≡ true) × (cost_of measure l ≡ d)

  abbrev pub WaitingAt : Labels C → ℕ → ℤ → Type 0
  WaitingAt labels k d = (l : Label C) × HasLabel labels k l × (l.settled ≡ false) × (cost_of measure l ≡ d)

  -- no open label costs less than t
  abbrev pub IsLow : Labels C → ℤ → Type 0
  IsLow labels t = (j : ℕ) (m : Label C) → HasLabel labels j m → m.settled ≡ false → t ≤ℤ cost_of measure m

  -- the label of the number is open, and no open label costs less
  pub record IsLeast (labels : Labels C) (number : ℕ) (l : Label C) : Type 0 where
    pub at : HasLabel labels number l
    pub opened : l.settled ≡ false
    pub least : IsLow labels (cost_of measure l)

  -- Over a graph: the labels are those of a search by rising cost from the numbers that are roots.
  module _ {X : Type 0} (step : X → ℤ → X → Type 0) (root : ℕ → Bool) where
    pub record IsSearch (stands : ℕ → X → Type 0) (labels : Labels C) : Type 0 where
      pub start : (k : ℕ) → root k ≡ true → (l : Label C) × HasLabel labels k l × (cost_of measure l ≤ℤ pos 0)
      pub rooted : (k : ℕ) (l : Label C) → HasLabel labels k l → l.depth ≡ 0 → (root k ≡ true) × ((s : X) × stands k s) × (cost_of measure l ≡ pos 0)
      pub linked : (k : ℕ) (l m : Label C) → HasLabel labels k l → 0 < l.depth → HasLabel labels l.parent m → (x : X) → stands l.parent x → (y : X) × (z : ℤ) × step x z y × stands k y × (cost_of measure l ≡ cost_of measure m +ℤ z)
      pub cut : IsCut step stands (SettledAt labels) (WaitingAt labels)
      pub low : (k j : ℕ) (l m : Label C) → HasLabel labels k l → l.settled ≡ true → HasLabel labels j m → m.settled ≡ false → cost_of measure l ≤ℤ cost_of measure m

-- The label of one number more is settled, and what was settled is as it was.
pub record Turned {C : Type 0} (number : ℕ) (l : Label C) (labels labels' : Labels C) : Type 0 where
  pub done : HasLabel labels' number (record l { settled = true })
  pub kept : (j : ℕ) (m : Label C) → HasLabel labels j m → m.settled ≡ true → HasLabel labels' j m
  pub from : (j : ℕ) (m : Label C) → HasLabel labels' j m → m.settled ≡ true → ((j ≡ number) × (m ≡ record l { settled = true })) ⊎ HasLabel labels j m
  pub count : settled_count labels' ≡ settled_count labels + 1

-- what a root stands for
abbrev pub StandsRoot : {X : Type 0} → (ℕ → Bool) → (ℕ → X → Type 0) → X → Type 0
StandsRoot root stands x = (k : ℕ) × (root k ≡ true) × stands k x

-- some step leads from x to a node whose steps all cost more, with t, than fits
pub record StepOverflows {X : Type 0} (step : X → ℤ → X → Type 0) (fits : ℤ → Type 0) (x : X) (t : ℤ) : Type 0 where
  pub next : X
  pub price : ℤ
  pub edge : step x price next
  pub all_past : (z : ℤ) → step x z next → ¬ (fits (t +ℤ z))

module _ {X C : Type 0} (step : X → ℤ → X → Type 0) (stands : ℕ → X → Type 0) (labels : Labels C) (fits : ℤ → Type 0) (x : X) (t : ℤ) where
  -- Some step leads from x to a node that has no label yet, and all steps to that node cost more, with t, than fits.
  pub record HasBarredStep : Type 0 where
    pub next : X
    pub price : ℤ
    pub edge : step x price next
    pub new : (j : ℕ) → stands j next → (m : Label C) → ¬ (HasLabel labels j m)
    pub all_past : (z : ℤ) → step x z next → ¬ (fits (t +ℤ z))

  -- The node y has a label, or some step from x to a node of its number costs, with t, no more than fits.
  abbrev pub IsWithinRange : (ℕ → X → Type 0) → X → Type 0
  IsWithinRange stands' y = ((j : ℕ) × (m : Label C) × stands j y × HasLabel labels j m) ⊎ ((j : ℕ) × (z : ℤ) × (w : X) × stands' j y × stands' j w × step x z w × fits (t +ℤ z))
