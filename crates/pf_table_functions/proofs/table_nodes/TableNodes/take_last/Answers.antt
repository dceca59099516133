use Rattle.std.proofs.Common.{subst, arith, length, ◌<◌, ◌≤◌, ◌≡◌, ◌++◌, [], ◌∷◌}
use Rattle.pf_table_functions.specs.Internal.Numbers.{AreNumbersOf}
use Rattle.pf_table_functions.proofs.NumberLemmas.{fewer_numbers, fewer_strangers}
use Rattle.pf_table_functions.proofs.table_nodes.TableNodes.take_last.Goals as goal

pub invariant_of-self : goal.invariant_of-self
invariant_of-self g c =
    let all : c.self.inside.nodes.items ≡ c.pop.new.self.items ++ c.in-Some.node ∷ [] = c.in-Some.ensures.items in
    let inside : c.in-Some.node < length c.self.inside.numbers.items = omega (arith, c.if-node-len.true, c.len.ensures, c.self.inside.numbers.ok.0) in
    fewer_numbers c.self.inside.size c.self.inside.numbers.items c.pop.new.self.items c.in-Some.node inside (subst (AreNumbersOf c.self.inside.size c.self.inside.numbers.items) all c.self.invariant)

pub invariant_of-self-else-node-len : goal.invariant_of-self-else-node-len
invariant_of-self-else-node-len g c =
    let all : c.self.inside.nodes.items ≡ c.pop.new.self.items ++ c.in-Some.node ∷ [] = c.in-Some.ensures.items in
    let out : length c.self.inside.numbers.items ≤ c.in-Some.node = omega (arith, c.if-node-len.false, c.len.ensures, c.self.inside.numbers.ok.0) in
    fewer_strangers c.self.inside.size c.self.inside.numbers.items c.pop.new.self.items c.in-Some.node out (subst (AreNumbersOf c.self.inside.size c.self.inside.numbers.items) all c.self.invariant)
