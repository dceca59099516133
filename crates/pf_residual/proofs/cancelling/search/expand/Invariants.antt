use Rattle.std.proofs.Common.{ℕ, take}
use Rattle.pf_residual.specs.Internal.Cancelling.{IsReached, Extends, LeadsToPlaced}
use Rattle.pf_residual.proofs.cancelling.search.expand.Given as goal

abbrev pub invariant-arcs : goal.invariant-arcs
invariant-arcs g l = record {
  reached : (start : ℕ) → IsReached g.C.Number.value l.ends l.amounts start l.fn.reached.steps.items l.fn.reached.places.items → IsReached g.C.Number.value l.ends l.amounts start l.reached.steps.items l.reached.places.items;
  extends : Extends l.fn.reached.steps.items l.fn.reached.places.items l.reached.steps.items l.reached.places.items;
  leads : LeadsToPlaced g.C.Number.value l.ends l.amounts (take l.number-index l.row) l.reached.places.items;
}
