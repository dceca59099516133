use Rattle.std.proofs.Common.{◌≡◌, get_or, map, take}
use Rattle.pf_base.specs.NodeRefs.{nodes_of}
use Rattle.pf_edge_lists.specs.EdgeLists.{names_of}
use Rattle.pf_name_numbers.proofs.names.names_along.Given as goal

-- the names of the numbers so far
abbrev pub invariant-loop-number : goal.invariant-loop-number
invariant-loop-number g l = nodes_of l.names.items ≡ map (λ number. get_or (names_of g.N.PartialEq.eq l.list) number l.other) (take l.number-index l.numbers)
