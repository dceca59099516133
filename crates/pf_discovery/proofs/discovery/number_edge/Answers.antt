use Rattle.pf_base.proofs.Outcomes.{on_ok}
use Rattle.pf_discovery.proofs.discovery.number_edge.Goals as goal

pub returns-in_err-number-clause-added : goal.returns-in_err-number-clause-added
returns-in_err-number-clause-added g c = c.number_of.ensures.added

pub returns : goal.returns
returns g c = record {
  added = c.number_of.ensures.added;
  numbered = on_ok c.add.result c.add.ensures.added (λ more. (c.in_ok-number.number, c.in_ok-number.ensures.numbered, more));
  refused = c.add.ensures.refused;
}
