-- Edges between named vertices while a network is built of them, and answers while they are named.
use Rattle.std.specs.Prelude.{◌≡◌, ◌<◌, ℕ, ℤ, pos, Bool, List, Some, Vec, slice_get}
use Rattle.std.specs.Iterator.{Drains}
use Rattle.std.specs.List.{AllZip}
use Rattle.pf_residual.specs.Networks.{Network, HasCapacities}
use Rattle.pf_residual.specs.NamedNetworks.{IsNamed, given_capacities, AreAccepted, GivenEdges}

-- each edge runs between vertices below n
abbrev pub RunBelow : {C : Type 0} → ℕ → List ((ℕ × ℕ) × C) → Type 0
RunBelow {C} n edges = (i : ℕ) (e : (ℕ × ℕ) × C) → slice_get edges i ≡ Some e → (e.0.0 < n) × (e.0.1 < n)

-- flows, a total and a cut: the same with the names of the vertices
pub record IsNamedAnswer {N C A : Type 0} (names : List N) (answer : Vec ((ℕ × ℕ) × C) A × C × Vec ((ℕ × ℕ) × C) A) (named : Vec ((N × N) × C) A × C × Vec ((N × N) × C) A) : Type 0 where
  pub flows : AllZip (IsNamed names) answer.0.items named.0.items
  pub total : named.1 ≡ answer.1
  pub cut : AllZip (IsNamed names) answer.2.items named.2.items

module _ {N C : Type 0} (eq : N → N → Bool) (value : C → ℤ) (names : List N) (fits : ℤ → Type 0) where
  -- these edges are accepted in turn, and their capacities are those of the network
  pub record HoldsEdges (edges : List ((N × N) × C)) (M : Network) : Type 0 where
    pub accepted : AreAccepted eq value names fits (λ a b. pos 0) edges
    pub capacities : HasCapacities (given_capacities eq value names edges) M

module _ {N C : Type 0} (given : GivenEdges N C) where
  -- the edges were given to the end, and the network holds them
  abbrev pub HoldsGivenEdges : Network → Type 0
  HoldsGivenEdges M = (it : given.Edges) × (edges : List ((N × N) × C)) × given.becomes it × Drains given.steps it edges × HoldsEdges given.eq given.value given.names given.fits edges M
