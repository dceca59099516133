use Rattle.pf_state_paths.proofs.ranked_walks.YenPaths.resume.Goals as goal

pub invariant_of-self : goal.invariant_of-self
invariant_of-self g c = c.resume.ensures.graph _ _ _ c.self.invariant
