use Rattle.pf_base.proofs.Outcomes.{if_refused, refused_as}
use Rattle.pf_assignment.proofs.kuhn_munkres.tree.Tree.new.Goals as goal

pub returns : goal.returns
returns g c = record {
  wide = c.in_ok-visited.ensures.len;
  refused = tt;
}

pub returns-in_err-visited : goal.returns-in_err-visited
returns-in_err-visited g c = record {
  wide = if_refused _ c.from_residual.result _ c.from_residual.ensures.1;
  refused = refused_as _ c.from_residual.result _ c.from_residual.ensures.1 c.in_err-visited.ensures.refused;
}

pub returns-in_err-distances : goal.returns-in_err-distances
returns-in_err-distances g c = record {
  wide = if_refused _ c.from_residual-in_err-distances.result _ c.from_residual-in_err-distances.ensures.1;
  refused = refused_as _ c.from_residual-in_err-distances.result _ c.from_residual-in_err-distances.ensures.1 c.in_err-distances.ensures.refused;
}

pub returns-in_err-places : goal.returns-in_err-places
returns-in_err-places g c = record {
  wide = if_refused _ c.from_residual-in_err-places.result _ c.from_residual-in_err-places.ensures.1;
  refused = refused_as _ c.from_residual-in_err-places.result _ c.from_residual-in_err-places.ensures.1 c.in_err-places.ensures.refused;
}
