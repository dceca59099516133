-- What the choice of spanning edges and the sum of their weights keep on the way.
use Rattle.std.specs.Prelude.{◌≡◌, ◌+ℤ◌, ℕ, ℤ, pos, Bool, true, false, List, [], ◌∷◌, ◌++◌, Contains, map}

-- the edges in some order, with clones of their weights
pub record HoldsCopies {N C : Type 0} (is_clone : C → C → Type 0) (edges copies : List (N × N × C)) : Type 0 where
  pub from : (e : N × N × C) → Contains copies e → (g : N × N × C) × Contains edges g × (g.0 ≡ e.0) × (g.1 ≡ e.1) × is_clone g.2 e.2
  pub all : (g : N × N × C) → Contains edges g → (e : N × N × C) × Contains copies e × (g.0 ≡ e.0) × (g.1 ≡ e.1) × is_clone g.2 e.2

-- the edges with vertices for the numbers that stand for them
abbrev pub placed : {V C : Type 0} → (V → ℕ) → List (V × V × C) → List (ℕ × ℕ × C)
placed vertex = map (λ e. (vertex e.0, vertex e.1, e.2))

-- the sum of the values of weights
abbrev pub values_sum : {C : Type 0} → (C → ℤ) → List C → ℤ
values_sum value [] = pos 0
values_sum value (w ∷ ws) = value w +ℤ values_sum value ws

-- weight and what else there is of some weights: their last one, or their first
abbrev pub IsTaken : {C : Type 0} → Bool → C → List C → List C → Type 0
IsTaken true weight rest weights = weights ≡ rest ++ weight ∷ []
IsTaken false weight rest weights = weights ≡ weight ∷ rest
