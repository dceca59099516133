use Rattle.std.proofs.Common.{sym}
use Rattle.std.proofs.lemmas.List.{get_or_past}
use Rattle.std.proofs.lemmas.Option.{get_or_from_slice_get}
use Rattle.pf_edge_lists.specs.EdgeLists.{names_of}
use Rattle.pf_name_numbers.proofs.names.name_or.Goals as goal

pub returns-in-Some : goal.returns-in-Some
returns-in-Some g c = sym (get_or_from_slice_get (names_of g.N.PartialEq.eq c.args.list.now) c.args.number c.in-Some.name.now c.args.other.now c.in-Some.ensures)

pub returns-in-None : goal.returns-in-None
returns-in-None g c = sym (get_or_past (names_of g.N.PartialEq.eq c.args.list.now) c.args.number c.args.other.now c.in-None.ensures)
