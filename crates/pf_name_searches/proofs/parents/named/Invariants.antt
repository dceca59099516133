use Rattle.std.specs.HashMap.{get}
use Rattle.std.proofs.Common.{◌≡◌, nat_eq}
use Rattle.std.specs.List.{filter_map, range_with_len}
use Rattle.pf_name_searches.specs.NameParents.{entries_in, name_entry}
use Rattle.pf_name_searches.proofs.parents.named.Given as goal

-- the entries of the numbers so far
abbrev pub invariant-loop-number : goal.invariant-loop-number
invariant-loop-number g l = entries_in l.named.items ≡ filter_map (name_entry g.N.PartialEq.eq l.list l.other (get nat_eq l.parents)) (range_with_len 0 l.number-counter)
