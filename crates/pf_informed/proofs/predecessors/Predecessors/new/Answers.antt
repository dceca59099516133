use Rattle.std.proofs.Common.{rules, ◌≡◌, ◌∙◌, ap, length, refl}
use Rattle.std.specs.Prelude.{replicate}
use Rattle.std.proofs.lemmas.List.{length-replicate}
use Rattle.pf_base.proofs.Outcomes.{if_refused, refused_as}
use Rattle.pf_informed.proofs.ChainLemmas.{lists_long, none_before, none_chained}
use Rattle.pf_informed.proofs.predecessors.Predecessors.new.Goals as goal

pub invariant_of-result : goal.invariant_of-result
invariant_of-result g c =
    let none : c.resize.new.self.items ≡ replicate c.args.count 0 = search rules in
    none_chained _ _ c.args.count c.new.ensures.items none

pub returns : goal.returns
returns g c =
    let none : c.resize.new.self.items ≡ replicate c.args.count 0 = search rules in
    record {
      len = lists_long _ c.resize.new.self.items ∙ ap length none ∙ length-replicate c.args.count 0;
      empty = λ j. none_before _ _ c.args.count c.new.ensures.items none j;
      refused = tt;
    }

pub returns-in_err-resize : goal.returns-in_err-resize
returns-in_err-resize g c = record {
  len = if_refused _ c.from_residual.result _ c.from_residual.ensures.1;
  empty = if_refused _ c.from_residual.result _ c.from_residual.ensures.1;
  refused = refused_as _ c.from_residual.result _ c.from_residual.ensures.1 refl;
}
