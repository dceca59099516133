use Rattle.std.proofs.Common.{◌∙◌, rules, sym}
use Rattle.pf_flow.proofs.AgreeLemmas.{same_capacities, total_of_network}
use Rattle.test_flows.proofs.totals.both_totals.Goals as goal

pub returns : goal.returns
returns g c =
    let sparse = c.in_ok-sparse.ensures in
    let dense = c.in_ok-dense.ensures in
    let left = c.in_ok-sparse_total.ensures in
    let right = c.in_ok-dense_total.ensures in
    let same = same_capacities sparse.fresh sparse.capacities dense.fresh dense.capacities left.kept right.kept in
    let one = left.answer.total ∙ sym (c.stores_report_one_total.ensures.total _ _ same (total_of_network left.network) (total_of_network right.network) left.cut right.cut) ∙ sym right.answer.total in
    search (rules, one)
