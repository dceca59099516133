use Rattle.std.proofs.Common.{◌<◌, ℕ}
use Rattle.pf_orders.specs.Internal.ComponentSearch.{IsAt}
use Rattle.pf_orders.proofs.component_search.ComponentSearch.new.Given as goal

abbrev pub invariant-numbers : goal.invariant-numbers
invariant-numbers g l = record {
  below : (i k : ℕ) → IsAt l.waiting.items i k → k < l.number;
  all : (k : ℕ) → k < l.number → (i : ℕ) × IsAt l.waiting.items i k;
}
