-- What estimates of the nodes of a graph are as a function.
use Rattle.std.specs.Prelude.{◌≡◌, ℕ, ℤ}

-- the estimate is that of the graph, at each node
abbrev pub EstimatesOf : {E : Type 0} → (E → ℕ → ℤ) → E → (ℕ → Type 0) → (ℕ → ℤ) → Type 0
EstimatesOf estimates given within estimate = estimate ≡ estimates given
