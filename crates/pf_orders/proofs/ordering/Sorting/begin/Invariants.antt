use Rattle.std.proofs.Common.{◌≡◌, ◌<◌, ℕ, replicate}
use Rattle.std.specs.Prelude.{Contains}
use Rattle.pf_orders.specs.declared.ordering.Turn.{Turn}
use Rattle.pf_orders.specs.declared.ordering.Mark.TheVariants.{New}
use Rattle.pf_orders.proofs.ordering.Sorting.begin.Given as goal

abbrev pub invariant-roots : goal.invariant-roots
invariant-roots g l = record {
  marks : l.marks.items ≡ replicate l.found New;
  listed : (k : ℕ) → k < l.root → Contains l.turns.items (Turn.Enter k);
  only : (t : Turn) → Contains l.turns.items t → (k : ℕ) × (k < l.found) × (t ≡ Turn.Enter k);
}
