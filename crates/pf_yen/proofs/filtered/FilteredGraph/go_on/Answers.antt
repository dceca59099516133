use Rattle.pf_yen.proofs.NamedLemmas.{spent_more}
use Rattle.pf_yen.proofs.filtered.FilteredGraph.go_on.Goals as goal

pub returns-clause-spent : goal.returns-clause-spent
returns-clause-spent g c = λ q.
    let s = c.args.self.now in
    spent_more g.C.Number.value s.adjacency.now q s.spur c.args.next s.spent c.row.result.now c.spent_on-self.result c.row.ensures c.spent_on-self.ensures
