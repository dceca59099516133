use Rattle.std.proofs.Common.{◌∙◌, Some, arith, refl}
use Rattle.pf_deepening.specs.declared.rows.Span.{Span}
use Rattle.pf_base.proofs.Outcomes.{if_refused, on_refused, refused_as}
use Rattle.pf_deepening.proofs.Writes.{set_here, set_other, written_from}
use Rattle.pf_deepening.proofs.rows.Rows.keep.Goals as goal

pub returns-clause-steps : goal.returns-clause-steps
returns-clause-steps g c = c.in_ok-extend_from_slice.ensures.items

pub returns-clause-span : goal.returns-clause-span
returns-clause-span g c =
    let ok = c.args.self.now.steps.ok.0 in
    (omega (arith, c.len-begin.ensures, ok), omega (arith, c.len.ensures, c.in_ok-extend_from_slice.ensures.len, ok), refl)

pub returns-clause-kept : goal.returns-clause-kept
returns-clause-kept g c =
    let span : Span = record { begin = c.len-begin.result; end = c.len.result; found = c.args.found } in
    set_here c.widen.new.items.items c.args.number (Some span) c.in_ok-widen.ensures.long

pub returns-clause-others : goal.returns-clause-others
returns-clause-others g c = λ k s ne h.
    let span : Span = record { begin = c.len-begin.result; end = c.len.result; found = c.args.found } in
    set_other c.widen.new.items.items c.args.number k (Some span) c.in_ok-widen.ensures.long ne ∙ c.in_ok-widen.ensures.kept k (Some s) h

pub returns-clause-from : goal.returns-clause-from
returns-clause-from g c =
    let span : Span = record { begin = c.len-begin.result; end = c.len.result; found = c.args.found } in
    written_from c.args.self.now.spans.items c.widen.new.items.items c.args.number span c.in_ok-widen.ensures.long c.in_ok-widen.ensures.from

pub returns-in_err-extend_from_slice : goal.returns-in_err-extend_from_slice
returns-in_err-extend_from_slice g c = record {
  steps = on_refused _ c.from_residual.result _ c.from_residual.ensures.1;
  span = if_refused _ c.from_residual.result _ c.from_residual.ensures.1;
  kept = if_refused _ c.from_residual.result _ c.from_residual.ensures.1;
  others = on_refused _ c.from_residual.result _ c.from_residual.ensures.1;
  from = if_refused _ c.from_residual.result _ c.from_residual.ensures.1;
  refused = refused_as _ c.from_residual.result _ c.from_residual.ensures.1 refl;
}

pub returns-in_err-widen : goal.returns-in_err-widen
returns-in_err-widen g c = record {
  steps = on_refused _ c.from_residual-in_err-widen.result _ c.from_residual-in_err-widen.ensures.1;
  span = if_refused _ c.from_residual-in_err-widen.result _ c.from_residual-in_err-widen.ensures.1;
  kept = if_refused _ c.from_residual-in_err-widen.result _ c.from_residual-in_err-widen.ensures.1;
  others = on_refused _ c.from_residual-in_err-widen.result _ c.from_residual-in_err-widen.ensures.1;
  from = if_refused _ c.from_residual-in_err-widen.result _ c.from_residual-in_err-widen.ensures.1;
  refused = refused_as _ c.from_residual-in_err-widen.result _ c.from_residual-in_err-widen.ensures.1 c.in_err-widen.ensures.refused;
}
