use Rattle.std.proofs.Common.{◌≡◌, take}
use Rattle.pf_table_searches.specs.Internal.Trails.{nodes_along}
use Rattle.pf_table_searches.proofs.deepening.nodes_of.Given as goal

abbrev pub invariant-entries : goal.invariant-entries
invariant-entries g l = l.nodes.items ≡ nodes_along (take l.entry-index l.entries)
