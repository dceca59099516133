use Rattle.std.proofs.Common.{ℕ, List, ◌≡◌, ◌≤◌, length, take, map, nat_eq}
use Rattle.std.specs.List.{IsDistinct}
use Rattle.pf_core.specs.Numbered.{NumbersInOrder}
use Rattle.pf_core.specs.Nodes.{StandsFor, NumbersItems, AddedFrom}
use Rattle.pf_table_breadth.specs.Internal.Numbering.{IsIndex, steps_at}
use Rattle.pf_table_breadth.proofs.explored.number_places.Given as goal

abbrev pub invariant-loop-place : goal.invariant-loop-place
invariant-loop-place g l = record {
  long : l.before ≡ length l.fn.numbering.order.items;
  longer : l.before ≤ length l.numbering.order.items;
  kept : take l.before l.numbering.order.items ≡ l.fn.numbering.order.items;
  index : IsIndex l.numbering.order.items l.numbering.numbers.items;
  wide : length l.numbering.numbers.items ≡ g.G.Graph.size l.graph;
  numbered : (steps : List (ℕ × ℕ)) × g.R.Row.holds l.row steps × NumbersItems nat_eq l.numbering.order.items steps (steps_at (take l.place (g.G.Graph.places l.graph l.node)));
  added : AddedFrom nat_eq (steps_at (take l.place (g.G.Graph.places l.graph l.node))) l.fn.numbering.order.items l.numbering.order.items;
  ordered : NumbersInOrder (StandsFor nat_eq l.numbering.order.items) (length l.fn.numbering.order.items) (map (λ (x : ℕ × ℕ). x.0) (steps_at (take l.place (g.G.Graph.places l.graph l.node)))) (length l.numbering.order.items);
  distinct : IsDistinct nat_eq l.fn.numbering.order.items → IsDistinct nat_eq l.numbering.order.items;
}
