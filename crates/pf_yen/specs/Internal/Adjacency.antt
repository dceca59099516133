-- What was learned of a graph over numbers.
use Rattle.std.specs.Prelude.{◌≡◌, ℕ, ℤ, Bool, false, List, [], Contains, slice_index_or, refl}
use Rattle.std.specs.Coded.{Coded, code_by, coded×, coded_bool, coded_ℕ, coded_list}

-- the steps from each number, each as the number of its end and its cost, and which numbers are goals
pub record AdjacencyLists (C : Type 0) : Type 0 where
  pub rows : List (List (ℕ × C))
  pub goals : List Bool

abbrev pub adjacency_code : {C : Type 0} → Coded C → Coded (AdjacencyLists C)
adjacency_code {C} c = code_by (List (List (ℕ × C)) × List Bool) (coded× (coded_list (coded_list (coded× coded_ℕ c))) (coded_list coded_bool)) (λ k. (k.rows, k.goals)) (λ p. record { rows = p.0; goals = p.1 }) (λ _. refl)

module _ {C : Type 0} where
  -- the steps from a number; none, where nothing is known of it
  abbrev pub row_of : AdjacencyLists C → ℕ → List (ℕ × C)
  row_of k a = slice_index_or k.rows a []

  abbrev pub is_goal : AdjacencyLists C → ℕ → Bool
  is_goal k a = slice_index_or k.goals a false

  -- some step leads from a to b and costs z
  abbrev pub AdjacencyStep : (C → ℤ) → AdjacencyLists C → ℕ → ℤ → ℕ → Type 0
  AdjacencyStep value k a z b = (c : C) × Contains (row_of k a) (b, c) × (value c ≡ z)
