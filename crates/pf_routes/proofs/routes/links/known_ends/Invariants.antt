use Rattle.std.proofs.Common.{take}
use Rattle.std.specs.List.{AllZip}
use Rattle.pf_routes.specs.Internal.Parsed.{AreEndsOf}
use Rattle.pf_routes.proofs.routes.links.known_ends.Given as goal

abbrev pub invariant-edges : goal.invariant-edges
invariant-edges g l = AllZip (AreEndsOf l.names.keys) (take l.place l.edges) l.ends.items
