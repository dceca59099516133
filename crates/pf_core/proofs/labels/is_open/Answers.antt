use Rattle.pf_core.proofs.LabelLemmas.{open_there}
use Rattle.pf_core.proofs.labels.is_open.Goals as goal

pub returns : goal.returns
returns g c = open_there c.args.labels.now c.args.number c.requires c.index-labels-number.result c.index-labels-number.is c.is_open.result c.is_open.ensures
