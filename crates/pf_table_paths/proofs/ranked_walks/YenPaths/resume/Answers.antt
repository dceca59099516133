use Rattle.std.proofs.Common.{refl}
use Rattle.pf_table_paths.proofs.ranked_walks.YenPaths.resume.Goals as goal

pub invariant_of-self : goal.invariant_of-self
invariant_of-self g c = c.resume.ensures.graph _ _ _ c.self.invariant

pub returns-clause-lowered : goal.returns-clause-lowered
returns-clause-lowered g c = rw (← c.self.view_is, c.resume.ensures.lowered) refl

pub returns-clause-graph : goal.returns-clause-graph
returns-clause-graph g c = c.resume.ensures.graph _ _ _ c.self.invariant
