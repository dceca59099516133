use Rattle.pf_deepening.proofs.Writes.{unwritten}
use Rattle.pf_deepening.proofs.rows.Rows.forget.Goals as goal

pub returns-clause-steps : goal.returns-clause-steps
returns-clause-steps g c = c.truncate.ensures.items

pub returns-clause-spans : goal.returns-clause-spans
returns-clause-spans g c = unwritten c.args.self.now.spans.items c.args.number c.requires
