use Rattle.std.proofs.Common.{sym}
use Rattle.pf_base.proofs.ListLemmas.{at_place}
use Rattle.pf_tables.proofs.row.VecTuple2UsizeRow.edge.Goals as goal

pub returns : goal.returns
returns g c = at_place c.args.self.now.items c.args.place c.index.result.now _ c.requires (sym c.index.ensures)
