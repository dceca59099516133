use Rattle.std.proofs.Common.{arith}
use Rattle.pf_tables.proofs.OffsetLemmas.{between_length, between_edge, next_within, node_below, place_below}
use Rattle.pf_tables.proofs.compact_rows.CompactRowsGraph.edge.Goals as goal

pub bounds-offsets-node : goal.bounds-offsets-node
bounds-offsets-node g c = node_below (rw (← c.self.view_is) at c.requires.node)

pub edge-requires : goal.edge-requires
edge-requires g c =
    let node = rw (← c.self.view_is) at c.requires.node in
    let place = rw (← c.self.view_is) at c.requires.place in
    let edges = g.R.Row.edges c.self.inside.edges in
    let len = between_length c.self.inside.offsets.now edges c.self.invariant.offsets_ok c.args.node node in
    place_below _ place len (next_within c.self.inside.offsets.now edges c.self.invariant.offsets_ok c.args.node node)

pub returns : goal.returns
returns g c = rw (← c.self.view_is) (between_edge c.self.inside.offsets.now (g.R.Row.edges c.self.inside.edges) c.self.invariant.offsets_ok c.args.node (rw (← c.self.view_is) at c.requires.node) c.args.place c.edge.result (rw (← c.self.view_is) at c.requires.place) c.edge.ensures)

pub overflow_add-offsets : goal.overflow_add-offsets
overflow_add-offsets g c =
    let node = rw (← c.self.view_is) at c.requires.node in
    let place = rw (← c.self.view_is) at c.requires.place in
    let len = between_length c.self.inside.offsets.now (g.R.Row.edges c.self.inside.edges) c.self.invariant.offsets_ok c.args.node node in
    grind (arith, place, len)
