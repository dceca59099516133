use Rattle.std.proofs.Common.{inl, refl}
use Rattle.pf_name_estimates.proofs.steps.name_numbers.Goals as goal

pub returns-in-Ok : goal.returns-in-Ok
returns-in-Ok g c = rw (c.in_ok-numbers.was, c.in-Some.is) (inl (c.in-Ok.names, refl, rw c.deref.ensures.value at c.in-Ok.ensures.names, refl))
