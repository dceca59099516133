use Rattle.std.proofs.Common.{refl}
use Rattle.pf_state_paths.proofs.ranked_walks.YenPathsIterator.next.Goals as goal

pub invariant_of-self : goal.invariant_of-self
invariant_of-self g c = (c.next.ensures.steps _ _ _ c.self.invariant).0

pub returns-clause-steps : goal.returns-clause-steps
returns-clause-steps g c =
    let h = c.next.ensures.steps _ _ _ c.self.invariant in
    rw (← c.self.view_is) (refl, refl, refl, h.0, h.1, h.2)
