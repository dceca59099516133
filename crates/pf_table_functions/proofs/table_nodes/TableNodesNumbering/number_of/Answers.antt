use Rattle.pf_table_functions.proofs.NumberLemmas.{adds_node, stands_last}
use Rattle.pf_table_functions.proofs.table_nodes.TableNodesNumbering.number_of.Goals as goal

pub returns-in-Ok-clause-added : goal.returns-in-Ok-clause-added
returns-in-Ok-clause-added g c = adds_node c.args.self.now c.add.new.self c.args.node c.in-None.ensures c.in-Ok.ensures.added

pub returns-in-Ok-clause-numbered : goal.returns-in-Ok-clause-numbered
returns-in-Ok-clause-numbered g c = stands_last c.args.self.now c.add.new.self c.args.node c.in-Ok.number c.in-Ok.ensures.added c.in-Ok.ensures.number
