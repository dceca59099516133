use Rattle.std.proofs.Common.{◌≡◌, map, slice_get, take}
use Rattle.std.specs.List.{filter_map}
use Rattle.pf_edge_lists.specs.EdgeLists.{names_of}
use Rattle.pf_name_numbers.specs.Numbered.{lists_in, named_lists_in}
use Rattle.pf_name_numbers.proofs.listed.listed_groups.Given as goal

-- the names of the groups so far
abbrev pub invariant-loop-group : goal.invariant-loop-group
invariant-loop-group g l = named_lists_in l.named.items ≡ map (filter_map (slice_get (names_of g.N.PartialEq.eq l.list))) (lists_in (take l.group-index l.groups))
