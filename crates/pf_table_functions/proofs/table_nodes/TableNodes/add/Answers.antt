use Rattle.std.proofs.Common.{◌<◌, ◌≤◌, ◌+◌, ◌^◌, length, arith}
use Rattle.pf_table_functions.proofs.NumberLemmas.{more_numbers, more_strangers}
use Rattle.pf_table_functions.proofs.table_nodes.TableNodes.add.Goals as goal

pub invariant_of-self-then-node-len : goal.invariant_of-self-then-node-len
invariant_of-self-then-node-len g c =
    let few : length c.self.inside.nodes.items + 1 < 2 ^ 32 = omega (arith, c.if-number-ge-MOST_NUMBERED.false, c.len-number.ensures, c.self.inside.nodes.ok.0) in
    let inside : c.args.node < length c.lay_out.new.numbers.items = omega (arith, c.if-node-len.true, c.len.ensures, c.lay_out.new.numbers.ok.0) in
    rw (c.len-number.ensures, c.self.inside.nodes.ok.0, c.in_ok-push.ensures.items) (more_numbers c.self.inside.size c.lay_out.new.numbers.items c.self.inside.nodes.items c.args.node c.in_ok-lay_out.ensures.wide few inside (rw (← c.self.view_is) at c.requires) (c.in_ok-lay_out.ensures.same _ c.self.invariant))

pub invariant_of-self-else-node-len : goal.invariant_of-self-else-node-len
invariant_of-self-else-node-len g c =
    let few : length c.self.inside.nodes.items + 1 < 2 ^ 32 = omega (arith, c.if-number-ge-MOST_NUMBERED.false, c.len-number.ensures, c.self.inside.nodes.ok.0) in
    let out : length c.lay_out.new.numbers.items ≤ c.args.node = omega (arith, c.if-node-len.false, c.len.ensures, c.lay_out.new.numbers.ok.0) in
    rw c.in_ok-push.ensures.items (more_strangers c.self.inside.size c.lay_out.new.numbers.items c.self.inside.nodes.items c.args.node c.in_ok-lay_out.ensures.wide few out (rw (← c.self.view_is) at c.requires) (c.in_ok-lay_out.ensures.same _ c.self.invariant))
