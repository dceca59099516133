use Rattle.pf_table_functions.proofs.NumberLemmas.{stands_known}
use Rattle.pf_table_functions.proofs.table_nodes.TableNodesNumbering.get_number_of.Goals as goal

pub returns : goal.returns
returns g c = stands_known c.args.self.now c.args.node.now c.known.result c.known.ensures
