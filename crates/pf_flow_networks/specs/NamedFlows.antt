-- Networks whose vertices have names, and what is answered of them.
use Rattle.std.specs.Prelude.{◌≡◌, ◌⊎◌, ℕ, ℤ, pos, Bool, List, [], Vec}
use Rattle.pf_base.specs.declared.error.PathError.{PathError}
use Rattle.pf_base.specs.declared.error.PathError.TheVariants.{UnknownVertex}
use Rattle.pf_base.specs.Places.{number_of}
use Rattle.pf_residual.specs.Capacities.{IsChangeRefused}
use Rattle.pf_residual.specs.Listings.{ListsFlows, ListsLeastCut}
use Rattle.pf_residual.specs.NamedNetworks.{AreNamed, IsKnown}
use Rattle.pf_residual.specs.Networks.{Network, Agrees, ChangesCapacity, KeepsCapacities}

-- vertices with names, each once, and a network of their numbers: the place of a name is its number
pub record NamedNetwork (N : Type 0) : Type 0 where
  pub names : List N
  pub network : Network

-- these names, and this network
abbrev pub named : {N : Type 0} → List N → Network → NamedNetwork N
named names network = record { names = names; network = network }

module _ {N : Type 0} (eq : N → N → Bool) where
  -- the number of a vertex
  abbrev pub vertex_of : NamedNetwork N → N → ℕ
  vertex_of S x = number_of eq S.names x

  -- one of the vertices has this name
  abbrev pub IsVertex : NamedNetwork N → N → Type 0
  IsVertex S x = IsKnown eq S.names x

  -- both names are those of vertices
  abbrev pub AreVertices : NamedNetwork N → N → N → Type 0
  AreVertices S x y = IsVertex S x × IsVertex S y

  -- one of the names is that of no vertex
  abbrev pub IsUnknown : NamedNetwork N → N → N → Type 0
  IsUnknown S x y = (¬ (IsVertex S x)) ⊎ (¬ (IsVertex S y))

  -- the flow from one vertex to another
  abbrev pub flow_between : NamedNetwork N → N → N → ℤ
  flow_between S x y = S.network.flow (vertex_of S x) (vertex_of S y)

  -- what is left of the capacity from one vertex to another
  abbrev pub left_between : NamedNetwork N → N → N → ℤ
  left_between S x y = S.network.residual (vertex_of S x) (vertex_of S y)

  -- T has the names and capacities of S, but for one pair of vertices, which has this capacity
  pub record SetsCapacity (from to : N) (number : ℤ) (S T : NamedNetwork N) : Type 0 where
    pub names : T.names ≡ S.names
    pub changed : ChangesCapacity (vertex_of S from) (vertex_of S to) number S.network T.network

  -- why this capacity of a pair is refused: one of the names is that of no vertex, or else as for numbers
  abbrev pub IsSetRefused : (ℤ → Type 0) → NamedNetwork N → N → N → ℤ → PathError → Type 0
  IsSetRefused fits S from to number e =
      ((e ≡ UnknownVertex) × IsUnknown S from to)
      ⊎ (AreVertices S from to × IsChangeRefused fits S.network (vertex_of S from) (vertex_of S to) number e)

module _ {N : Type 0} where
  -- T is S, save that more pairs may have room
  pub record AgreesByName (S T : NamedNetwork N) : Type 0 where
    pub names : T.names ≡ S.names
    pub network : Agrees S.network T.network

  -- T has the names and the capacities of S
  pub record KeepsNamedCapacities (S T : NamedNetwork N) : Type 0 where
    pub names : T.names ≡ S.names
    pub capacities : KeepsCapacities S.network T.network

  module _ {C : Type 0} (value : C → ℤ) where
    -- these are the flows above 0, each with the names of its ends, by rising pair of numbers
    abbrev pub ListsNamedFlows : NamedNetwork N → List ((N × N) × C) → Type 0
    ListsNamedFlows S flows = AreNamed S.names (ListsFlows value S.network) flows

    -- the total, the flows above 0 and the edges of a least cut, with the names of the vertices; where source and sink are one, none of them
    pub record IsNamedFlowAnswer {A : Type 0} (S : NamedNetwork N) (answer : Vec ((N × N) × C) A × C × Vec ((N × N) × C) A) : Type 0 where
      pub total : value answer.1 ≡ S.network.total
      pub flows : ListsNamedFlows S answer.0.items
      pub cut : AreNamed S.names (ListsLeastCut value S.network) answer.2.items
      pub idle : S.network.source ≡ S.network.sink → (answer.0.items ≡ []) × (value answer.1 ≡ pos 0) × (answer.2.items ≡ [])
