use Rattle.pf_yen.proofs.NamedLemmas.{summed}
use Rattle.pf_yen.proofs.named.total_of.Goals as goal

pub returns : goal.returns
returns g c =
    let adds = g.met.C.CheckedAdd.checked_add_law c.in_ok-spent.field-0 c.args.sum c.checked_add.result c.checked_add.ensures in
    summed g.C.Number.value g.C.Number.fits c.args.spent c.in_ok-spent.field-0 c.args.sum c.checked_add.result c.in_ok-spent.was adds
