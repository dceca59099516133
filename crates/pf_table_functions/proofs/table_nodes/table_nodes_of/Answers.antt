use Rattle.std.proofs.Common.{[], take}
use Rattle.std.proofs.lemmas.List.{take_more}
use Rattle.pf_base.proofs.ListLemmas.{none_in}
use Rattle.pf_table_functions.proofs.NumberLemmas.{same_added, distinct_from}
use Rattle.pf_table_functions.proofs.table_nodes.table_nodes_of.Goals as goal

pub nodes-init : goal.nodes-init
nodes-init g c = rw c.new-found.ensures (λ x. (λ h. h, λ h. h), distinct_from [] (λ i j x s t. absurd (none_in i x s)))

pub nodes-preserved : goal.nodes-preserved
nodes-preserved g c =
    let nodes = c.args.nodes.now in
    let i = c.nodes.node-index in
    let e = c.in_ok-number_of.ensures in (
      rw (take_more nodes i 0 c.nodes-test.true) (same_added c.nodes.found c.number_of.new.self (take i nodes) _ _ e.added e.numbered c.nodes.invariant.0),
      e.added.distinct c.nodes.invariant.1,
    )
