use Rattle.std.proofs.Common.{sym, ◌∙◌}
use Rattle.pf_routes.specs.EdgeText.{is_visible}
use Rattle.pf_routes.proofs.Runs.{behind-found, behind-none, front-found, front-none}
use Rattle.pf_routes.proofs.routes.edge_text.split_visible.Goals as goal

pub returns-in-Some : goal.returns-in-Some
returns-in-Some c = record {
  field = c.split_at.ensures.front ∙ sym (front-found is_visible c.args.text.now c.in-Some.end (sym c.in-Some.ensures));
  rest = c.split_at.ensures.back ∙ sym (behind-found is_visible c.args.text.now c.in-Some.end (sym c.in-Some.ensures));
}

pub returns-in-None : goal.returns-in-None
returns-in-None c = record {
  field = sym (front-none is_visible c.args.text.now (sym c.in-None.ensures));
  rest = sym (behind-none is_visible c.args.text.now (sym c.in-None.ensures));
}
