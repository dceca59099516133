use Rattle.std.proofs.Common.{◌≡◌, slice_get, take}
use Rattle.std.specs.List.{filter_map}
use Rattle.pf_base.specs.NodeRefs.{nodes_of}
use Rattle.pf_edge_lists.specs.EdgeLists.{names_of}
use Rattle.pf_name_numbers.proofs.listed.listed_names.Given as goal

-- the names of the numbers so far
abbrev pub invariant-loop-number : goal.invariant-loop-number
invariant-loop-number g l = nodes_of l.names.items ≡ filter_map (slice_get (names_of g.N.PartialEq.eq l.list)) (take l.number-index l.numbers)
