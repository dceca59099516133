use Rattle.std.proofs.Common.{◌∙◌, sym}
use Rattle.pf_yen.proofs.RemainingLemmas.{least_of_goal, least_of_steps}
use Rattle.pf_yen.proofs.remaining.least_from.Goals as goal

pub returns-then-is_goal : goal.returns-then-is_goal
returns-then-is_goal g c = least_of_goal g.C.Number.value g.C.Number.fits c.args.adjacency.now c.args.costs.now c.args.number c.zero.result (rw c.zero.ensures (g.met.C.Zero.zero_law g.met.C.Integral.exact_law)) (sym c.is_goal.ensures ∙ c.if-is_goal.true)

pub returns : goal.returns
returns g c = least_of_steps g.C.Number.value g.C.Number.fits c.args.adjacency.now c.args.costs.now c.args.number c.least_on.result c.row.result.now c.row.ensures c.least_on.ensures (sym c.is_goal.ensures ∙ c.if-is_goal.false)
