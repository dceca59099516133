use Rattle.std.proofs.Common.{◌≡◌, get_or, map, take}
use Rattle.pf_edge_lists.specs.EdgeLists.{names_of}
use Rattle.pf_name_numbers.specs.Numbered.{lists_in, named_lists_in}
use Rattle.pf_name_numbers.proofs.paths.named_paths.Given as goal

-- the names of the paths so far
abbrev pub invariant-loop-path : goal.invariant-loop-path
invariant-loop-path g l = named_lists_in l.named.items ≡ map (map (λ number. get_or (names_of g.N.PartialEq.eq l.list) number l.other)) (lists_in (take l.path-index l.paths))
