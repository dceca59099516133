use Rattle.pf_yen.proofs.RemainingLemmas.{none_beyond, cost_there}
use Rattle.pf_yen.proofs.remaining.cost_at.Goals as goal

pub returns-then-number-costs : goal.returns-then-number-costs
returns-then-number-costs g c = none_beyond c.args.costs.now c.args.number c.if-number-costs.true

pub returns : goal.returns
returns g c = cost_there c.args.costs.now c.args.number c.index-costs-number.result c.if-number-costs.false c.index-costs-number.is
