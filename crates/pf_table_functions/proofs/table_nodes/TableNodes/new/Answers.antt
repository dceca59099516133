use Rattle.pf_table_functions.proofs.NumberLemmas.{nothing_numbered}
use Rattle.pf_table_functions.proofs.table_nodes.TableNodes.new.Goals as goal

pub invariant_of-result : goal.invariant_of-result
invariant_of-result g c = rw (c.new.ensures.items, c.new-2.ensures.items) (nothing_numbered c.args.size)
