use Rattle.pf_state_spaces.proofs.MoveLemmas.{leads_first, leads_nowhere, leads_on, stands_still}
use Rattle.pf_state_spaces.proofs.moves.SuccessorsIterator.next.Goals as goal

pub returns-in_err-found : goal.returns-in_err-found
returns-in_err-found g c = record {
  steps = leads_nowhere _ c.from_residual.ensures c.self.view_is c.in_err-found.ensures.steps;
  goes = stands_still _ c.from_residual.ensures;
}

pub returns : goal.returns
returns g c = record {
  steps = leads_first c.self.view_is c.in_ok-found.ensures.steps;
  goes = leads_on c.self.view_is tt c.in_ok-found.ensures.steps;
}
