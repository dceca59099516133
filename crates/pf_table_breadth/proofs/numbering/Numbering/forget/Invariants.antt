use Rattle.std.proofs.Common.{◌≡◌, ◌≤◌, length, take}
use Rattle.pf_table_breadth.specs.Internal.Numbering.{IsIndex}
use Rattle.pf_table_breadth.proofs.numbering.Numbering.forget.Given as goal

abbrev pub invariant-nodes : goal.invariant-nodes
invariant-nodes g l = record {
  index : IsIndex l.self.order.items l.self.numbers.items;
  wide : length l.self.numbers.items ≡ length l.fn.self.numbers.items;
  more : l.first ≤ length l.self.order.items;
  kept : take l.first l.self.order.items ≡ take l.first l.fn.self.order.items;
}

abbrev pub decreases-nodes : goal.decreases-nodes
decreases-nodes g l = goal.left-nodes g l
