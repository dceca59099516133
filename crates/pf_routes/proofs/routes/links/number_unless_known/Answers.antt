use Rattle.std.proofs.Common.{subst}
use Rattle.pf_routes.specs.Internal.Links.{IsNumberOf}
use Rattle.pf_routes.proofs.Numbering.{turn-known}
use Rattle.pf_routes.proofs.routes.links.number_unless_known.Goals as goal

pub returns-in-Some-clause-met : goal.returns-in-Some-clause-met
returns-in-Some-clause-met g c =
    let known = subst (λ k. IsNumberOf c.args.names.now.keys c.args.name.now.now k) c.in-Some.is c.requires in
    turn-known c.args.names.now.keys c.in-Some.n c.args.name.now.now known.0 known.1
