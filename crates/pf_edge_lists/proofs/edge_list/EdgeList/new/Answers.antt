use Rattle.pf_edge_lists.proofs.edge_list.EdgeList.new.Goals as goal

pub returns : goal.returns
returns g c = record {
  edges = c.with_names.ensures.edges;
  names = c.with_names.ensures.names;
  apart = c.with_names.ensures.apart;
  numbered = c.with_names.ensures.numbered;
  places = c.with_names.ensures.places;
  sound = c.with_names.ensures.sound;
  fault = c.with_names.ensures.fault;
}
