use Rattle.std.proofs.lemmas.Option.{slice_get-get_or}
use Rattle.pf_tables.proofs.row.RefSliceTuple2UsizeRow.edge.Goals as goal

pub returns : goal.returns
returns g c = slice_get-get_or c.args.self.now.now c.args.place c.index-self-place.result c.requires
