use Rattle.std.proofs.Common.{sym, ◌∙◌}
use Rattle.pf_routes.specs.EdgeText.{is_gap}
use Rattle.pf_routes.proofs.Runs.{behind-found, behind-none}
use Rattle.pf_routes.proofs.routes.edge_text.skip_gap.Goals as goal

pub returns-in-Some : goal.returns-in-Some
returns-in-Some c = c.split_at.ensures.back ∙ sym (behind-found is_gap c.args.text.now c.in-Some.end (sym c.in-Some.ensures))

pub returns-in-None : goal.returns-in-None
returns-in-None c = sym (behind-none is_gap c.args.text.now (sym c.in-None.ensures))
