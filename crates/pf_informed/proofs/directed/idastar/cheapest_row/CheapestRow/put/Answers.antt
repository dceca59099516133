use Rattle.std.proofs.Common.{◌≡◌, ◌∙◌, Some, length, ap, arith, refl}
use Rattle.pf_base.proofs.Outcomes.{on_refused, refused_as}
use Rattle.pf_deepening.proofs.Writes.{set_here, set_other}
use Rattle.pf_informed.proofs.directed.idastar.cheapest_row.CheapestRow.put.Goals as goal

pub returns-clause-steps : goal.returns-clause-steps
returns-clause-steps g c = c.in_ok-push.ensures.items

pub returns-clause-placed : goal.returns-clause-placed
returns-clause-placed g c =
    let len : c.len.result ≡ length c.args.self.now.steps.items = omega (arith, c.len.ensures, c.args.self.now.steps.ok.0) in
    set_here c.widen.new.items.items c.args.number c.len.result c.in_ok-widen.ensures.long ∙ ap Some len

pub returns-clause-others : goal.returns-clause-others
returns-clause-others g c = λ k i ne h. set_other c.widen.new.items.items c.args.number k c.len.result c.in_ok-widen.ensures.long ne ∙ c.in_ok-widen.ensures.kept k i h

pub returns-in_err-widen : goal.returns-in_err-widen
returns-in_err-widen g c = record {
  steps = on_refused _ c.from_residual.result _ c.from_residual.ensures.1;
  placed = on_refused _ c.from_residual.result _ c.from_residual.ensures.1;
  others = on_refused _ c.from_residual.result _ c.from_residual.ensures.1;
  refused = refused_as _ c.from_residual.result _ c.from_residual.ensures.1 c.in_err-widen.ensures.refused;
}

pub returns-in_err-push : goal.returns-in_err-push
returns-in_err-push g c = record {
  steps = on_refused _ c.from_residual-in_err-push.result _ c.from_residual-in_err-push.ensures.1;
  placed = on_refused _ c.from_residual-in_err-push.result _ c.from_residual-in_err-push.ensures.1;
  others = on_refused _ c.from_residual-in_err-push.result _ c.from_residual-in_err-push.ensures.1;
  refused = refused_as _ c.from_residual-in_err-push.result _ c.from_residual-in_err-push.ensures.1 refl;
}
