-- A filtered graph that is searched at reduced costs.
use Rattle.std.specs.Prelude.{◌≡◌, ⊤, ℕ, List, Option, Some}
use Rattle.pf_yen.specs.declared.led.LedGraph.{LedGraph}
use Rattle.pf_yen.specs.declared.named.Named.{Named}
use Rattle.pf_yen.specs.declared.named.Named.TheVariants.{Way, Nothing, Unknown}
use Rattle.pf_yen.specs.Internal.Filtered.{FilteredLists}
use Rattle.pf_yen.specs.Internal.Reduced.{with_rows}

-- the graph that is searched at reduced costs, with what is left of it
abbrev pub graph_led_by : {C A : Type 0} → LedGraph C A → FilteredLists C
graph_led_by led = record { adjacency = with_rows led.filtered.now.adjacency.now led.rows.now; onward = led.filtered.now.onward.items; spur = led.filtered.now.spur; banned = led.filtered.now.banned }

-- what is found is nothing, or this path, where this is what it costs
abbrev pub IsWayAt : {C A : Type 0} → List ℕ → Option C → Named C A → Type 0
IsWayAt path total (Way found at) = (found.items ≡ path) × (total ≡ Some at)
IsWayAt path total Nothing = ⊥
IsWayAt path total Unknown = ⊤
