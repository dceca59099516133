use Rattle.pf_table_functions.proofs.EndLemmas.{leads_first, leads_nowhere, leads_on}
use Rattle.pf_table_functions.proofs.PlaceLemmas.{stands_still}
use Rattle.pf_table_functions.proofs.edges.EndsIterator.next.Goals as goal

pub returns-in_err-edge : goal.returns-in_err-edge
returns-in_err-edge g c = record {
  steps = leads_nowhere _ c.from_residual.ensures c.self.view_is c.in_err-edge.ensures.steps;
  goes = stands_still _ c.from_residual.ensures;
}

pub returns : goal.returns
returns g c = record {
  steps = leads_first c.self.view_is c.in_ok-edge.ensures.steps;
  goes = leads_on c.self.view_is tt c.in_ok-edge.ensures.steps;
}
