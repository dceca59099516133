use Rattle.std.specs.List.{each_same}
use Rattle.pf_table_functions.proofs.table_nodes.TableNodesClone.clone.Goals as goal

pub invariant_of-result : goal.invariant_of-result
invariant_of-result g c = rw (each_same _ _ c.in_ok-numbers.ensures.cases.0, each_same _ _ c.in_ok-nodes.ensures.cases.0) c.self.invariant

pub returns : goal.returns
returns g c = rw (← c.self.view_is) (record { cases = c.in_ok-nodes.ensures.cases.0 })
