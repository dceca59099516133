use Rattle.std.proofs.Common.{◌≡◌, get_or, map, take}
use Rattle.pf_edge_lists.specs.EdgeLists.{names_of}
use Rattle.pf_name_paths.specs.NamedPaths.{named_paths_in}
use Rattle.pf_yen.specs.KCheapest.{paths_in}
use Rattle.pf_name_paths.proofs.ranked.named.Given as goal

-- the names of the paths so far
abbrev pub invariant-loop-path : goal.invariant-loop-path
invariant-loop-path g l = named_paths_in l.named.items ≡ map (λ p. (map (λ number. get_or (names_of g.N.PartialEq.eq l.list) number l.other) p.0, p.1)) (paths_in (take l.path-index l.paths))
