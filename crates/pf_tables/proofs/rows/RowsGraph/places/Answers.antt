use Rattle.std.proofs.Common.{sym, ◌∙◌}
use Rattle.pf_tables.proofs.RowLemmas.{row_length}
use Rattle.pf_tables.proofs.rows.RowsGraph.places.Goals as goal

pub returns : goal.returns
returns g c = rw (← c.self.view_is) (c.len.ensures ∙ sym (row_length g.R.Row.edges c.self.inside.rows.now c.args.node c.index-rows-node.result (rw (← c.self.view_is) at c.requires) c.index-rows-node.is))
