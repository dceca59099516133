use Rattle.pf_table_functions.proofs.NumberLemmas.{numbers_distinct}
use Rattle.pf_table_functions.proofs.table_nodes.TableNodesNumbering.as_slice.Goals as goal

pub returns-clause-unique : goal.returns-clause-unique
returns-clause-unique g c = rw (← c.self.view_is) (numbers_distinct c.self.inside.size c.self.inside.numbers.items c.self.inside.nodes.items c.self.invariant)
