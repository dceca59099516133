-- The links stand for the edges so far, behind those of the links before.
use Rattle.std.proofs.Common.{◌≡◌, ◌++◌, map, take, length}
use Rattle.std.specs.List.{flat_map}
use Rattle.pf_routes.specs.FlowText.{ends_of}
use Rattle.pf_routes.specs.Internal.Links.{edges_between, AllBelow, KeepsNames, NumbersInTurn}
use Rattle.pf_routes.specs.Internal.Parsed.{edge_read}
use Rattle.pf_routes.proofs.routes.links.link_all.Given as goal

abbrev pub invariant-edges : goal.invariant-edges
invariant-edges g l = record {
  edges : edges_between l.names.keys l.links.items ≡ edges_between l.fn.names.keys l.fn.links.items ++ map edge_read (take l.place l.edges);
  below : AllBelow (length l.names.keys) l.links.items;
  kept : KeepsNames l.fn.names.keys l.names.keys;
  met : NumbersInTurn l.fn.names.keys (flat_map ends_of (map edge_read (take l.place l.edges))) l.names.keys;
}
