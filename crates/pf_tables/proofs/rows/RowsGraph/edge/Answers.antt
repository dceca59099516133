use Rattle.std.proofs.Common.{arith, ap, length}
use Rattle.pf_tables.specs.Graphs.{filled, row_of}
use Rattle.pf_tables.proofs.RowLemmas.{row_length, row_edge}
use Rattle.pf_tables.proofs.rows.RowsGraph.edge.Goals as goal

pub edge-requires : goal.edge-requires
edge-requires g c =
    let same = ap (λ rows. length (filled (row_of g.R.Row.edges rows c.args.node))) c.self.view_is in
    let len = row_length g.R.Row.edges c.self.inside.rows.now c.args.node c.index-rows-node.result (rw (← c.self.view_is) at c.requires.node) c.index-rows-node.is in
    omega (arith, same, len, c.requires.place)

pub returns : goal.returns
returns g c = rw (← c.self.view_is) (row_edge g.R.Row.edges c.self.inside.rows.now c.args.node c.index-rows-node.result (rw (← c.self.view_is) at c.requires.node) c.index-rows-node.is c.args.place c.edge.result c.edge.ensures)
