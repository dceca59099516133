use Rattle.std.proofs.Common.{sym}
use Rattle.pf_tables.proofs.OffsetLemmas.{between_length}
use Rattle.pf_tables.proofs.compact_rows.CompactRowsGraph.places.Goals as goal

pub returns : goal.returns
returns g c = rw (← c.self.view_is) (sym (between_length c.self.inside.offsets.now (g.R.Row.edges c.self.inside.edges) c.self.invariant.offsets_ok c.args.node (rw (← c.self.view_is) at c.requires)))
