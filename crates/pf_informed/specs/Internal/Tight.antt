-- The numbers before each number on cheapest ways.
use Rattle.std.specs.Prelude.{◌≡◌, ◌⊎◌, ◌≤ℤ◌, ◌+ℤ◌, ◌<◌, ◌∷◌, ℕ, ℤ, Bool, true, false, List, length, nat_eq}
use Rattle.pf_base.specs.Walks.{HasNode, NoRepeats}
use Rattle.pf_core.specs.declared.labels.Label.{Label}
use Rattle.pf_core.specs.Labels.{Labels, HasLabel}
use Rattle.pf_informed.specs.Internal.Chains.{before_in}

-- each of the numbers is below n
abbrev pub AllBelow : ℕ → List ℕ → Type 0
AllBelow n numbers = (k : ℕ) → HasNode nat_eq numbers k → k < n

-- No number stands twice, and each is below n, save that the first one may be n.
pub record IsUpTo (n : ℕ) (numbers : List ℕ) : Type 0 where
  pub once : NoRepeats nat_eq numbers
  pub low : AllBelow n numbers ⊎ ((rest : List ℕ) × (numbers ≡ n ∷ rest) × AllBelow n rest)

-- so many rows, in each of which no number stands twice, and each is below n, save that the first one may be n
pub record AreRows (n count : ℕ) (rows : List (List ℕ)) : Type 0 where
  pub wide : length rows ≡ count
  pub up_to : (j : ℕ) → IsUpTo n (before_in rows j)

module _ {C : Type 0} (value : C → ℤ) (labels : Labels C) where
  -- the label of number j costs s and the price
  abbrev pub IsTightStep : ℕ → ℤ → C → Type 0
  IsTightStep j s price = (m : Label C) × HasLabel labels j m × (value m.cost ≡ s +ℤ value price)

  module _ {X : Type 0} (step : X → ℤ → X → Type 0) (passes : X → Bool) (stands : ℕ → X → Type 0) (t : ℤ) where
    -- some step leads from a node of number k that fails the test to a node of number j, and costs as much as the labels differ
    pub record IsTightEdge (k j : ℕ) : Type 0 where
      pub label : Label C
      pub at : HasLabel labels k label
      pub next : Label C
      pub there : HasLabel labels j next
      pub along : (x : X) → stands k x → (passes x ≡ false) × ((z : ℤ) × (y : X) × step x z y × stands j y × (value next.cost ≡ value label.cost +ℤ z))

    -- Of the numbers below n: the goals whose labels cost at most t, and before each number those from which a tight step leads to it, where their labels cost at most t.
    pub record IsTight (n : ℕ) (goals : List ℕ) (before : ℕ → List ℕ) : Type 0 where
      pub goal : (k : ℕ) → HasNode nat_eq goals k → (l : Label C) × HasLabel labels k l × (value l.cost ≤ℤ t) × ((x : X) → stands k x → passes x ≡ true)
      pub every_goal : (k : ℕ) (l : Label C) (x : X) → k < n → HasLabel labels k l → value l.cost ≤ℤ t → stands k x → passes x ≡ true → HasNode nat_eq goals k
      pub goals_once : NoRepeats nat_eq goals
      pub goals_below : AllBelow n goals
      pub tight : (j k : ℕ) → HasNode nat_eq (before j) k → IsTightEdge k j
      pub every : (k j : ℕ) (l m : Label C) (x y : X) (z : ℤ) → k < n → HasLabel labels k l → value l.cost ≤ℤ t → stands k x → passes x ≡ false → step x z y → stands j y → HasLabel labels j m → value m.cost ≡ value l.cost +ℤ z → HasNode nat_eq (before j) k
      pub once : (j : ℕ) → NoRepeats nat_eq (before j)
      pub below : (j : ℕ) → AllBelow n (before j)
