-- What the code's own types say, in the words of the text.
use Rattle.std.specs.Prelude.{◌≡◌, ℕ, List, ◌++◌, map, Option, Some, None, Ok, Err, ⊤}
use Rattle.std.specs.Borrow.{Bor}
use Rattle.std.specs.List.{flat_map}
use Rattle.std.specs.Str.{bytes_eq}
use Rattle.indexmap.specs.IndexSet.{insert_all}
use Rattle.pf_routes.specs.FlowText.{ends_of}
use Rattle.pf_routes.specs.Internal.Links.{bytes_of, edges_between, IsNumberOf}
use Rattle.pf_routes.specs.declared.routes.links.Link.{Link}
use Rattle.pf_routes.specs.declared.routes.links.Ends.{Ends}
use Rattle.pf_routes.specs.EdgeText.{Edge, Line, Blank, Holds, edge_text}
use Rattle.pf_route_io.specs.declared.error.RouteError.{RouteError}
use Rattle.pf_route_io.specs.declared.error.RouteError.TheVariants.{BadEdge, CostOverflow, OutOfMemory, ReadFailed, WriteFailed}
use Rattle.pf_routes.specs.declared.routes.edge_text.NamedEdge.{NamedEdge}
use Rattle.pf_routes.specs.declared.routes.edge_text.ReadLine.{ReadLine}

abbrev pub edge_read : NamedEdge → Edge
edge_read e = record { from = e.from.now; to = e.to.now; cost = e.cost }

abbrev pub line_holding : Option NamedEdge → Line
line_holding None = Blank
line_holding (Some e) = Holds (edge_read e)

abbrev pub line_read : ReadLine → Line
line_read r = line_holding r.edge

-- the numbers, where there are any, are those of the names of the edge
abbrev pub AreEndsOf : List (Bor (List ℕ)) → NamedEdge → Ends → Type 0
AreEndsOf names edge ends = IsNumberOf names edge.from.now ends.from × IsNumberOf names edge.to.now ends.to

-- the edges of the links, and behind them those that wait for the numbers of their names
abbrev pub edges_taken : List (Bor (List ℕ)) → List Link → List NamedEdge → List Edge
edges_taken names links waiting = edges_between names links ++ map edge_read waiting

-- the names, and behind them those of edges that wait for their numbers
abbrev pub names_taken : List (Bor (List ℕ)) → List NamedEdge → List (List ℕ)
names_taken names waiting = insert_all bytes_eq (bytes_of names) (flat_map ends_of (map edge_read waiting))

-- why a text gave no edges: its first bad line, or no memory
abbrev pub RefusesText : RouteError → List ℕ → Type 0
RefusesText (BadEdge line) text = edge_text text ≡ Err line
RefusesText OutOfMemory text = ⊤
RefusesText CostOverflow text = ⊥
RefusesText ReadFailed text = ⊥
RefusesText WriteFailed text = ⊥

-- why a text gave no answer: its first bad line, a sum of costs of its edges, or no memory
abbrev pub RefusesAnswer : (List Edge → Type 0) → RouteError → List ℕ → Type 0
RefusesAnswer overflows (BadEdge line) text = edge_text text ≡ Err line
RefusesAnswer overflows CostOverflow text = (edges : List Edge) × (edge_text text ≡ Ok edges) × overflows edges
RefusesAnswer overflows OutOfMemory text = ⊤
RefusesAnswer overflows ReadFailed text = ⊥
RefusesAnswer overflows WriteFailed text = ⊥

-- the text is some edges, of which the fact holds
abbrev pub HoldsOfEdges : List ℕ → (List Edge → Type 0) → Type 0
HoldsOfEdges text fact = (edges : List Edge) × (edge_text text ≡ Ok edges) × fact edges
