use Rattle.std.proofs.Common.{◌≡◌, ℕ, length, take, nat_eq}
use Rattle.std.specs.Prelude.{◌⊎◌, ◌↔◌, Contains}
use Rattle.pf_base.specs.Walks.{HasNode}
use Rattle.pf_informed.specs.Internal.Chains.{before_in}
use Rattle.pf_informed.specs.Internal.Tight.{AreRows, IsTightStep}
use Rattle.pf_informed.proofs.tight.link_row.Given as goal

abbrev pub invariant-steps : goal.invariant-steps
invariant-steps g l = record {
  rows : AreRows l.number (length l.labels) l.before;
  linked : (j k : ℕ) → HasNode nat_eq (before_in l.before j) k ↔ (HasNode nat_eq (before_in l.fn.before j) k ⊎ ((k ≡ l.number) × ((c : g.row.C.Denot) × Contains (take l.next-index l.row) (j, c) × IsTightStep g.C.Number.value l.labels j (g.C.Number.value l.cost) c)));
}
