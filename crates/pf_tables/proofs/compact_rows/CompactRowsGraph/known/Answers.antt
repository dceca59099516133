use Rattle.pf_tables.proofs.compact_rows.CompactRowsGraph.known.Goals as goal

pub returns : goal.returns
returns g c = rw (← c.self.view_is) c.self.invariant.graph
