-- Networks whose vertices have names.
use Rattle.std.specs.Prelude.{◌≡◌, ◌<◌, ◌≤ℤ◌, ◌<ℤ◌, ◌⊎◌, ◌++◌, ℕ, ℤ, pos, Bool, List, [], ◌∷◌, Option, Some, Vec, length, slice_get, fold, ⊤}
use Rattle.std.specs.Iterator.{Drains, Yields}
use Rattle.std.specs.List.{AllZip}
use Rattle.indexmap.specs.IndexSet.{insert_all}
use Rattle.pf_base.specs.declared.error.PathError.{PathError}
use Rattle.pf_base.specs.declared.error.PathError.TheVariants.{OutOfMemory, UnknownVertex, CostOverflow, NegativeCapacity}
use Rattle.pf_base.specs.Places.{number_of}
use Rattle.pf_residual.specs.Flows.{PairTable, pair_sum, replaced}
use Rattle.pf_residual.specs.Listings.{ListsFlows, ListsLeastCut}
use Rattle.pf_residual.specs.Networks.{Network, HasCapacities, HasCutOfTotal, IsNetwork}

-- f is e with the names of its vertices
pub record IsNamed {N C : Type 0} (names : List N) (e : (ℕ × ℕ) × C) (f : (N × N) × C) : Type 0 where
  pub from : slice_get names e.0.0 ≡ Some f.0.0
  pub to : slice_get names e.0.1 ≡ Some f.0.1
  pub same : f.1 ≡ e.1

-- the edges are numbered edges of which P holds, in their order, with the names of their vertices
abbrev pub AreNamed : {N C : Type 0} → List N → (List ((ℕ × ℕ) × C) → Type 0) → List ((N × N) × C) → Type 0
AreNamed {C = C} names P edges = (numbered : List ((ℕ × ℕ) × C)) × P numbered × AllZip (IsNamed names) numbered edges

module _ {N : Type 0} (eq : N → N → Bool) where
  -- the vertices, each once, in the order in which they first stand
  abbrev pub names_of : List N → List N
  names_of vertices = insert_all eq [] vertices

  -- one of the names is the same as x
  abbrev pub IsKnown : List N → N → Type 0
  IsKnown names x = number_of eq names x < length names

  module _ {C : Type 0} (value : C → ℤ) (names : List N) where
    -- the table with the capacity of an edge in the place of that of its pair of vertices
    abbrev pub with_capacity_of : PairTable → (N × N) × C → PairTable
    with_capacity_of t e = replaced t (number_of eq names e.0.0) (number_of eq names e.0.1) (value e.1)

    -- the capacities that edges give in turn: of each pair that of its last edge, and 0 where it has none
    abbrev pub given_capacities : List ((N × N) × C) → PairTable
    given_capacities edges = fold with_capacity_of (λ a b. pos 0) edges

    -- What is answered for the vertices of a network N: its capacities are those of the edges, its flow is a greatest one, and flows and cut are listed with names.
    pub record IsAnswer (fits : ℤ → Type 0) (from to : N) (edges carried : List ((N × N) × C)) (amount : ℤ) (leaving : List ((N × N) × C)) (M : Network) : Type 0 where
      pub vertices : M.vertices ≡ length names
      pub source : M.source ≡ number_of eq names from
      pub sink : M.sink ≡ number_of eq names to
      pub capacities : HasCapacities (given_capacities edges) M
      pub network : IsNetwork fits M
      pub worth : HasCutOfTotal M
      pub total : amount ≡ M.total
      pub flows : AreNamed names (ListsFlows value M) carried
      pub cut : AreNamed names (ListsLeastCut value M) leaving
      pub idle : M.source ≡ M.sink → (carried ≡ []) × (amount ≡ pos 0) × (leaving ≡ [])

    module _ (fits : ℤ → Type 0) where
      -- an edge between known vertices, whose capacity is not below 0, and with which the sum of all capacities fits
      pub record IsAccepted (t : PairTable) (e : (N × N) × C) : Type 0 where
        pub from : IsKnown names e.0.0
        pub to : IsKnown names e.0.1
        pub above : pos 0 ≤ℤ value e.1
        pub sum : fits (pair_sum (length names) (with_capacity_of t e))

      -- each edge in turn is such a one
      abbrev pub AreAccepted : PairTable → List ((N × N) × C) → Type 0
      AreAccepted t [] = ⊤
      AreAccepted t (e ∷ es) = IsAccepted t e × AreAccepted (with_capacity_of t e) es

      -- why an edge is refused: one of its vertices is not known, or else its capacity is below 0, or else the sum of all capacities with it does not fit
      abbrev pub IsEdgeRefused : PairTable → (N × N) × C → PathError → Type 0
      IsEdgeRefused t e r =
          ((r ≡ UnknownVertex) × ((¬ (IsKnown names e.0.0)) ⊎ (¬ (IsKnown names e.0.1))))
          ⊎ ((r ≡ NegativeCapacity) × IsKnown names e.0.0 × IsKnown names e.0.1 × (value e.1 <ℤ pos 0))
          ⊎ ((r ≡ CostOverflow) × IsKnown names e.0.0 × IsKnown names e.0.1 × (pos 0 ≤ℤ value e.1) × (¬ (fits (pair_sum (length names) (with_capacity_of t e)))))

      -- after these edges, which are accepted, this one is refused
      pub record IsFirstRefused (before : List ((N × N) × C)) (e : (N × N) × C) (r : PathError) : Type 0 where
        pub accepted : AreAccepted (λ a b. pos 0) before
        pub why : IsEdgeRefused (given_capacities before) e r

-- Edges between named vertices that are taken of an iterator, each with a capacity.
pub record GivenEdges (N C : Type 0) : Type 1 where
  -- which vertices are the same
  pub eq : N → N → Bool
  -- the number that a capacity is
  pub value : C → ℤ
  -- which numbers a capacity can be
  pub fits : ℤ → Type 0
  -- the vertices, each once
  pub names : List N
  -- the iterators over such edges
  pub Edges : Type 0
  -- which of them the edges are taken of
  pub becomes : Edges → Type 0
  -- what a call of one gives
  pub steps : Edges → Option ((N × N) × C) → Edges → Type 0

module _ {N C : Type 0} (given : GivenEdges N C) where
  -- some edges were given, of which the last is the first that is refused
  abbrev pub AreEdgesRefused : PathError → Type 0
  AreEdgesRefused r = (it : given.Edges) × (edges : List ((N × N) × C)) × (edge : (N × N) × C) × (left : given.Edges) × given.becomes it × Yields given.steps it (edges ++ edge ∷ []) left
      × IsFirstRefused given.eq given.value given.names given.fits edges edge r

  module _ (source sink : N) where
    -- the edges were given to the end, each was accepted, and this is the answer for them
    abbrev pub IsAnsweredFor : {A : Type 0} → Vec ((N × N) × C) A × C × Vec ((N × N) × C) A → Type 0
    IsAnsweredFor answer = (it : given.Edges) × (edges : List ((N × N) × C)) × given.becomes it × Drains given.steps it edges
        × AreAccepted given.eq given.value given.names given.fits (λ a b. pos 0) edges
        × ((M : Network) × IsAnswer given.eq given.value given.names given.fits source sink edges answer.0.items (given.value answer.1) answer.2.items M)

    -- why it is refused: for memory, or because source or sink is not known, or else for an edge
    abbrev pub IsRefusedFor : PathError → Type 0
    IsRefusedFor r =
        (r ≡ OutOfMemory)
        ⊎ ((r ≡ UnknownVertex) × ((¬ (IsKnown given.eq given.names source)) ⊎ (¬ (IsKnown given.eq given.names sink))))
        ⊎ (IsKnown given.eq given.names source × IsKnown given.eq given.names sink × AreEdgesRefused r)
