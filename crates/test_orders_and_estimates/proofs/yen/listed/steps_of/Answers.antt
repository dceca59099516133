use Rattle.test_orders_and_estimates.proofs.yen.listed.steps_of.Goals.{in-Some-Ok, in-Some-Err, in-None}
use Rattle.test_orders_and_estimates.proofs.yen.listed.steps_of.Goals as goal

pub calls-preserved : goal.calls-preserved
calls-preserved g c =
    let again = c.next.ensures.again.1 in
    elim c.match-next.branch [
      | in-Some-Ok w ↦ rw w.walk-is again
      | in-Some-Err w ↦ rw w.walk-is again
      | in-None w ↦ rw w.walk-is (again.0, again.1, again.2, w.resume.ensures.graph again.0 again.1 again.2 again.3)
    ]
