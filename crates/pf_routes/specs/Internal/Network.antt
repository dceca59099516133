-- What a network stands for.
use Rattle.std.specs.Prelude.{◌≡◌, ℕ, ◌<◌, List, length, Ok}
use Rattle.std.specs.Borrow.{Bor}
use Rattle.std.specs.List.{IsDistinct}
use Rattle.std.specs.Str.{bytes_eq}
use Rattle.pf_routes.specs.EdgeText.{Edge, edge_text}
use Rattle.pf_routes.specs.Internal.Graph.{row_of, node_count}
use Rattle.pf_routes.specs.FlowText.{flow_names}
use Rattle.pf_routes.specs.Internal.Links.{bytes_of, name_at, edges_between, AllBelow, steps_from}
use Rattle.pf_routes.specs.Internal.NameTable.{HoldsNames}
use Rattle.pf_routes.specs.declared.routes.links.Link.{Link}
use Rattle.pf_routes.specs.declared.routes.network.Linked.{Linked}
use Rattle.pf_routes.specs.declared.routes.network.Network.{Network}

-- the links are the edges of the text, between the numbers of these names, which the table has
pub record LinksNames {A : Type 0} (linked : Linked A) (names : List (Bor (List ℕ))) (text : List ℕ) : Type 0 where
  pub kept : HoldsNames linked.names names
  pub spelled : edge_text text ≡ Ok (edges_between names linked.links.items)
  pub below : AllBelow (length names) linked.links.items
  pub distinct : IsDistinct (λ a b. bytes_eq a.now b.now) names

-- the links are these edges, between the numbers of names that the table has
pub record LinksEdges {A : Type 0} (linked : Linked A) (edges : List Edge) : Type 0 where
  pub names : List (Bor (List ℕ))
  pub kept : HoldsNames linked.names names
  pub spelled : edges ≡ edges_between names linked.links.items
  pub below : AllBelow (length names) linked.links.items
  pub distinct : IsDistinct (λ a b. bytes_eq a.now b.now) names

-- the links are these edges, between the numbers of names that the table has, and the two numbers are those of these names
pub record NumbersEdges {A : Type 0} (linked : Linked A) (first last : ℕ) (edges : List Edge) (from to : List ℕ) : Type 0 where
  pub names : List (Bor (List ℕ))
  pub kept : HoldsNames linked.names names
  pub spelled : edges ≡ edges_between names linked.links.items
  pub below : AllBelow (length names) linked.links.items
  pub distinct : IsDistinct (λ a b. bytes_eq a.now b.now) names
  pub from_within : first < length names
  pub to_within : last < length names
  pub from_named : name_at names first ≡ from
  pub to_named : name_at names last ≡ to
  pub in_turn : bytes_of names ≡ flow_names from to edges

-- the nodes of the network are numbers of names, its steps are these edges, and its two ends are these names
pub record IsNetworkOf {A : Type 0} (network : Network A) (edges : List Edge) (from to : List ℕ) : Type 0 where
  pub names : List (Bor (List ℕ))
  pub kept : HoldsNames network.names names
  pub links : List Link
  pub spelled : edges ≡ edges_between names links
  pub below : AllBelow (length names) links
  pub distinct : IsDistinct (λ a b. bytes_eq a.now b.now) names
  pub count : node_count network.graph ≡ length names
  pub rows : (n : ℕ) → n < length names → row_of network.graph n ≡ steps_from n links
  pub from_within : network.from < length names
  pub to_within : network.to < length names
  pub from_named : name_at names network.from ≡ from
  pub to_named : name_at names network.to ≡ to
