use Rattle.std.proofs.Common.{◌≡◌, map, take}
use Rattle.pf_routes.specs.Internal.NumberedLines.{weighed_link}
use Rattle.pf_routes.proofs.routes.spanning.weigh.Given as goal

abbrev pub invariant-loop-link : goal.invariant-loop-link
invariant-loop-link g l = l.edges.items ≡ map weighed_link (take l.link-index l.links)
