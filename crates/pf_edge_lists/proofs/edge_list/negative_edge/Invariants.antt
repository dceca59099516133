use Rattle.pf_edge_lists.specs.EdgeLists.{CostsFromZeroTo}
use Rattle.pf_edge_lists.proofs.edge_list.negative_edge.Given as goal

-- no edge so far costs less than 0
abbrev pub invariant-loop-number : goal.invariant-loop-number
invariant-loop-number g l = CostsFromZeroTo g.C.Number.value l.edges l.number
