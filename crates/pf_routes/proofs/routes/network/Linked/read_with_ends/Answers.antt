use Rattle.pf_routes.proofs.routes.network.Linked.read_with_ends.Goals as goal

pub returns : goal.returns
returns g c = record {
  ok = c.read_with_ends_into.ensures.ok;
  err = c.read_with_ends_into.ensures.err;
}
