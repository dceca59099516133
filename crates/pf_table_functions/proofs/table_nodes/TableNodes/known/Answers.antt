use Rattle.std.proofs.Common.{◌<◌, length, sym, arith}
use Rattle.pf_base.proofs.ListLemmas.{at_place}
use Rattle.pf_table_functions.proofs.NumberLemmas.{known_at, unknown_at, place_at}
use Rattle.pf_table_functions.proofs.table_nodes.TableNodes.known.Goals as goal

pub returns-then-node-len : goal.returns-then-node-len
returns-then-node-len g c = rw (← c.self.view_is) (rw c.deref.ensures.value at (place_at c.deref.result.now c.args.node c.place_of.result c.place_of.ensures))

pub returns-then-number-gt0 : goal.returns-then-number-gt0
returns-then-number-gt0 g c =
    let inside : c.args.node < length c.self.inside.numbers.items = omega (arith, c.if-node-len.false, c.len.ensures) in
    rw (← c.self.view_is) (known_at c.self.inside.size c.self.inside.numbers.items c.self.inside.nodes.items c.args.node c.index.result.now c.self.invariant inside (at_place c.self.inside.numbers.items c.args.node _ _ inside (sym c.index.ensures)) (omega (arith, c.if-number-gt0.true)))

pub returns-else-number-gt0 : goal.returns-else-number-gt0
returns-else-number-gt0 g c =
    let inside : c.args.node < length c.self.inside.numbers.items = omega (arith, c.if-node-len.false, c.len.ensures) in
    rw (← c.self.view_is) (unknown_at c.self.inside.size c.self.inside.numbers.items c.self.inside.nodes.items c.args.node c.index.result.now c.self.invariant inside (at_place c.self.inside.numbers.items c.args.node _ _ inside (sym c.index.ensures)) (λ h. omega (arith, h, c.if-number-gt0.false)))
