-- The frontier of a search: what is closed, what is open, and that no walk passes by the open numbers.
use Rattle.std.specs.Prelude.{◌≡◌, ◌≤ℤ◌, ◌+ℤ◌, ◌⊎◌, ℤ, ℕ, List, ◌++◌}
use Rattle.pf_base.specs.Walks.{end_of}
use Rattle.pf_core.specs.Steps.{GoesAlong}

module _ {X : Type 0} (step : X → ℤ → X → Type 0) (stands : ℕ → X → Type 0) (settled waiting : ℕ → ℤ → Type 0) where
  -- the number j has the label e, settled or not
  abbrev pub IsFound : ℕ → ℤ → Type 0
  IsFound j e = settled j e ⊎ waiting j e

  -- each step from a settled number leads to a found one, whose label is at most one step more
  pub record IsCut : Type 0 where
    pub along : (k : ℕ) (d : ℤ) (x : X) → settled k d → stands k x → (z : ℤ) (y : X) → step x z y → (j : ℕ) × (e : ℤ) × IsFound j e × stands j y × (e ≤ℤ (d +ℤ z))

  -- the walk ends at a settled number, whose label is at most d and the cost of the walk
  pub record EndsSettled (a : X) (d : ℤ) (w : List X) (t : ℤ) : Type 0 where
    pub number : ℕ
    pub label : ℤ
    pub is_settled : settled number label
    pub here : stands number (end_of a w)
    pub low : label ≤ℤ (d +ℤ t)

  -- a waiting number stands on the walk, and its label is at most d and the cost up to it
  pub record MeetsWaiting (a : X) (d : ℤ) (w : List X) (t : ℤ) : Type 0 where
    pub before : List X
    pub after : List X
    pub is : w ≡ before ++ after
    pub up_to : ℤ
    pub rest : ℤ
    pub comes : GoesAlong step a before up_to
    pub goes_on : GoesAlong step (end_of a before) after rest
    pub sums : t ≡ up_to +ℤ rest
    pub number : ℕ
    pub label : ℤ
    pub is_waiting : waiting number label
    pub here : stands number (end_of a before)
    pub low : label ≤ℤ (d +ℤ up_to)
