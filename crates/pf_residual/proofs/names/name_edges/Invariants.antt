use Rattle.std.proofs.Common.{take}
use Rattle.std.specs.List.{AllZip}
use Rattle.pf_residual.specs.NamedNetworks.{IsNamed}
use Rattle.pf_residual.proofs.names.name_edges.Given as goal

abbrev pub invariant-numbered : goal.invariant-numbered
invariant-numbered g l = AllZip (IsNamed l.names) (take l.edge-index l.numbered) l.edges.items
