-- What a search by rising cost from a number found, where it ends at its first goal or with all settled.
use Rattle.std.specs.Prelude.{◌≡◌, ◌≤ℤ◌, ℕ, ℤ, Bool, true, false, nat_eq, List, [], ◌∷◌, Option, Some, IfSome, Contains, ⊤}
use Rattle.pf_core.specs.declared.labels.Label.{Label}
use Rattle.pf_core.specs.Labels.{Labels, HasLabel, by_cost}
use Rattle.pf_core.specs.Search.{SettledAt, IsSearch}

-- numbers with costs: no cost is above one behind it
abbrev pub Rises : List (ℕ × ℤ) → Type 0
Rises [] = ⊤
Rises (e ∷ es) = ((f : ℕ × ℤ) → Contains es f → e.1 ≤ℤ f.1) × Rises es

-- the first of the numbers, or the goal where there are none
abbrev pub BeginsWith : ℕ → List (ℕ × ℤ) → Option ℕ → Type 0
BeginsWith start [] goal = goal ≡ Some start
BeginsWith start (e ∷ es) goal = e.0 ≡ start

module _ {C : Type 0} (value : C → ℤ) (labels : Labels C) where
  -- the settled numbers with their costs, in the order in which they were settled
  pub record IsOrder (order : List (ℕ × ℤ)) : Type 0 where
    pub all : (k : ℕ) (d : ℤ) → SettledAt (by_cost value) labels k d → Contains order (k, d)
    pub only : (k : ℕ) (d : ℤ) → Contains order (k, d) → SettledAt (by_cost value) labels k d
    pub rising : Rises order

-- no settled number stands for a goal
abbrev pub AreNoGoals : {X C : Type 0} → (X → Bool) → (ℕ → X → Type 0) → Labels C → Type 0
AreNoGoals {X} {C} passes stands labels = (k : ℕ) (l : Label C) (x : X) → HasLabel labels k l → l.settled ≡ true → stands k x → passes x ≡ false

module _ {X C : Type 0} (value : C → ℤ) (step : X → ℤ → X → Type 0) (passes : X → Bool) (stands : ℕ → X → Type 0) (labels : Labels C) (start : ℕ) (goal : Option ℕ) where
  -- a search from a number ended, at a goal or with no goal in reach
  pub record HasSearched : Type 0 where
    pub search : IsSearch (by_cost value) step (λ k. nat_eq k start) stands labels
    pub order : List (ℕ × ℤ)
    pub settled : IsOrder value labels order
    pub first : BeginsWith start order goal
    pub passed : AreNoGoals passes stands labels
    pub found : IfSome goal (λ k. (x : X) → stands k x → passes x ≡ true)
