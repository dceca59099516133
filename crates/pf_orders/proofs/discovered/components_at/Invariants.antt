use Rattle.std.proofs.Common.{take}
use Rattle.std.specs.List.{AllZip}
use Rattle.pf_core.specs.Nodes.{StandsFor}
use Rattle.pf_orders.specs.StrongComponents.{lists_of}
use Rattle.pf_orders.proofs.discovered.components_at.Given as goal

-- the components so far
abbrev pub invariant-components : goal.invariant-components
invariant-components g l = AllZip (AllZip (StandsFor g.N.PartialEq.eq l.nodes)) (take l.component-index (lists_of l.components)) (lists_of l.answer.items)
