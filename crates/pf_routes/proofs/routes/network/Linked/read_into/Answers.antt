use Rattle.std.proofs.Common.{subst}
use Rattle.pf_routes.specs.Internal.NameTable.{HoldsNames}
use Rattle.pf_routes.proofs.routes.network.Linked.read_into.Goals as goal

pub returns-clause-ok : goal.returns-clause-ok
returns-clause-ok g c = record {
  kept = subst (HoldsNames c.in_ok-names.names) c.as_slice.ensures.keys c.in_ok-names.ensures;
  spelled = c.in_ok-links.ensures.edges;
  below = c.in_ok-links.ensures.below;
  distinct = c.as_slice.ensures.unique;
}

pub returns-clause-kept : goal.returns-clause-kept
returns-clause-kept g c = c.in_ok-links.ensures.kept
