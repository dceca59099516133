use Rattle.std.proofs.Common.{rules, sym, ◌∙◌}
use Rattle.std.proofs.lemmas.Slice.Eq.{bytes_eq-Decides}
use Rattle.pf_routes.proofs.Numbering.{name_at-key}
use Rattle.pf_routes.proofs.routes.links.is_named.Goals as goal

pub returns-in-Some : goal.returns-in-Some
returns-in-Some g c = λ t. (c.in-Some.ensures.found.0 (search rules), name_at-key c.args.names.now.keys c.args.number c.in-Some.known.now (sym c.in-Some.ensures.key) ∙ (bytes_eq-Decides c.in-Some.known.now.now c.args.name.now.now).0 (sym c.eq.ensures ∙ t))
