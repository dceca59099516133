use Rattle.std.proofs.Common.{◌∙◌, sym}
use Rattle.pf_name_numbers.proofs.NamedNumbers.{goal_listed, goal_next, goal_nowhere}
use Rattle.pf_name_numbers.proofs.numbers.goal_of.Goals as goal

pub returns-in-Some : goal.returns-in-Some
returns-in-Some g c = goal_listed g.met.N.Eq.laws c.args.list.now c.args.from.now c.args.to.now c.in-Some.number c.in-Some.ensures

pub returns-in-None : goal.returns-in-None
returns-in-None g c = goal_next g.met.N.Eq.laws c.args.list.now c.args.from.now c.args.to.now c.in-None.ensures (sym c.eq.ensures ∙ c.if-eq.true) c.len.result c.len.ensures

pub returns-in-None-2 : goal.returns-in-None-2
returns-in-None-2 g c = goal_nowhere g.met.N.Eq.laws c.args.list.now c.args.from.now c.args.to.now c.in-None-2.ensures (sym c.eq.ensures ∙ c.if-eq.false)
