use Rattle.std.proofs.Common.{take}
use Rattle.std.specs.List.{AllZip}
use Rattle.pf_orders.specs.Internal.Rounds.{AreNodesAt}
use Rattle.pf_orders.proofs.nodes.groups_at.Given as goal

abbrev pub invariant-groups : goal.invariant-groups
invariant-groups g l = AllZip (AreNodesAt g.N.PartialEq.eq l.nodes) (take l.group-index l.groups) l.answer.items
