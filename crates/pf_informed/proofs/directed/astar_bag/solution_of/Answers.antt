use Rattle.std.proofs.Common.{refl}
use Rattle.pf_base.proofs.Outcomes.{ok_is_no_error}
use Rattle.pf_informed.proofs.directed.astar_bag.solution_of.Goals as goal

pub invariant_of-solution : goal.invariant_of-solution
invariant_of-solution g c = rw (c.in-Ok-Some.is, c.in-Ok-Some.field-0-is) at c.requires

pub returns-in-Ok-Some : goal.returns-in-Ok-Some
returns-in-Ok-Some g c = record {
  all = λ value start edges test h. rw (c.in-Ok-Some.is, c.in-Ok-Some.field-0-is) at h;
  ready = refl;
  errors = λ e q. absurd (ok_is_no_error _ _ _ refl q);
}

pub returns-in-Ok-None : goal.returns-in-Ok-None
returns-in-Ok-None g c = record {
  all = λ value start edges test h. rw (c.in-Ok-None.is, c.in-Ok-None.field-0-is) at h;
  ready = tt;
  errors = λ e q. absurd (ok_is_no_error _ _ _ refl q);
}

pub returns-in-Err : goal.returns-in-Err
returns-in-Err g c = record {
  all = λ value start edges test h. tt;
  ready = tt;
  errors = λ e q. cc;
}
