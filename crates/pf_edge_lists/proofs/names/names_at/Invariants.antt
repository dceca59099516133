use Rattle.std.proofs.Common.{◌≡◌, Some, slice_get, take}
use Rattle.std.specs.List.{AllZip}
use Rattle.pf_base.specs.NodeRefs.{nodes_of}
use Rattle.pf_edge_lists.proofs.names.names_at.Given as goal

-- the names of the numbers so far
abbrev pub invariant-numbers : goal.invariant-numbers
invariant-numbers g l = AllZip (λ number name. slice_get (nodes_of l.names) number ≡ Some name) (take l.number-index l.numbers) (nodes_of l.answer.items)
