-- What numbers say of a graph: the steps that a row lists, and that numbers stay.
use Rattle.std.specs.Prelude.{◌≡◌, ◌<◌, ◌≤◌, ◌+◌, ◌⊎◌, ℤ, ℕ, List, [], ◌∷◌, Contains}

module _ {X C : Type 0} (value : C → ℤ) (step : X → ℤ → X → Type 0) (stands : ℕ → X → Type 0) where
  -- the row lists the steps from x, each with the number that stands for its end
  pub record ListsSteps (x : X) (row : List (ℕ × C)) : Type 0 where
    pub numbered : (z : ℤ) (y : X) → step x z y → (j : ℕ) × stands j y
    pub complete : (z : ℤ) (y : X) (j : ℕ) → step x z y → stands j y → (c : C) × Contains row (j, c) × (value c ≡ z)
    pub sound : (j : ℕ) (c : C) → Contains row (j, c) → (y : X) × step x (value c) y × stands j y

-- nodes are only added: each number stands for what it stood for
pub record Grows {X : Type 0} (found found' : ℕ) (stands stands' : ℕ → X → Type 0) : Type 0 where
  pub more : found ≤ found'
  pub stays : (k : ℕ) (x : X) → stands k x → stands' k x
  pub back : (k : ℕ) (x : X) → k < found → stands' k x → stands k x

-- one of the first numbers stands for x
abbrev pub StandsBelow : {X : Type 0} → ℕ → (ℕ → X → Type 0) → X → Type 0
StandsBelow found stands x = (k : ℕ) × (k < found) × stands k x

-- Found nodes are numbered in order, where n were found before and n' are found in the end: each of the list is one of those found so far, or gets the next number.
abbrev pub NumbersInOrder : {X : Type 0} → (ℕ → X → Type 0) → ℕ → List X → ℕ → Type 0
NumbersInOrder stands n [] n' = n' ≡ n
NumbersInOrder stands n (y ∷ ys) n' = ((j : ℕ) × (j < n) × stands j y × NumbersInOrder stands n ys n') ⊎ (stands n y × NumbersInOrder stands (n + 1) ys n')
