-- Graphs of successors, as a search by cost sees them.
use Rattle.std.specs.Prelude.{ℤ, Bool, List}
use Rattle.std.specs.HashSet.{HashSet}
use Rattle.pf_discovery.specs.declared.discovery.DiscoveryBy.{DiscoveryBy}
use Rattle.pf_core.specs.Hops.{hops_from}
use Rattle.pf_core.specs.Nodes.{Explores}

-- what is asked answers this graph from these nodes on, and the nodes found are in reach
abbrev pub ExploresHops : {N S H : Type 0} → (N → N → Bool) → (S → List N → (N → List (N × ℤ)) → Type 0) → List N → (N → List N) → DiscoveryBy (HashSet N H) S → Type 0
ExploresHops eq answers starts next discovery = Explores eq answers (hops_from starts next) discovery.nodes.keys discovery.source
