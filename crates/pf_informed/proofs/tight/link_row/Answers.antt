use Rattle.std.proofs.Common.{◌≡◌, ◌∙◌, ◌+◌, take, inl, inr}
use Rattle.std.specs.Prelude.{◌⊎◌, Contains}
use Rattle.std.proofs.lemmas.List.{take_all}
use Rattle.pf_base.proofs.ListLemmas.{Contains-take, Contains-take_more, Contains-take_here}
use Rattle.pf_informed.specs.Internal.Tight.{IsTightStep}
use Rattle.pf_informed.specs.Internal.Chains.{before_in}
use Rattle.pf_base.proofs.Outcomes.{on_refused, refused_as}
use Rattle.pf_informed.proofs.TightLemmas.{linked_start, linked_more}
use Rattle.pf_informed.proofs.tight.link_row.Goals as goal

pub steps-init : goal.steps-init
steps-init g c = record {
  rows = c.requires.rows;
  linked = linked_start (before_in c.args.before.now) c.args.number (λ j (d : g.row.C.Denot). IsTightStep g.C.Number.value c.args.labels.now j (g.C.Number.value c.args.cost) d);
}

pub steps-preserved : goal.steps-preserved
steps-preserved g c =
    let i = c.steps.invariant in
    let e = c.in_ok-link_step.ensures in
    let at = c.steps.next-index in
    let item = c.steps-item.result in
    record {
      rows = e.rows;
      linked = linked_more (before_in c.args.before.now) (before_in c.steps.before) (before_in c.link_step.new.before) c.args.number (λ j (d : g.row.C.Denot). IsTightStep g.C.Number.value c.args.labels.now j (g.C.Number.value c.args.cost) d)
          (take at c.args.row.now) (take (at + 1) c.args.row.now) item (λ x h. Contains-take c.args.row.now at x h) (Contains-take_here c.args.row.now at item c.steps-test.true c.steps-item.is)
          (λ x h. elim (Contains-take_more c.args.row.now at item x h) as (λ _. Contains (take at c.args.row.now) x ⊎ (item ≡ x)) [ inl k ↦ inl k | inr q ↦ inr (c.steps-item.is ∙ q) ]) i.linked e.linked;
    }

pub returns-clause-linked : goal.returns-clause-linked
returns-clause-linked g c =
    rw (take_all c.steps.next-index c.args.row.now c.steps-test.false) at c.steps.invariant.linked

pub returns-clause-rows : goal.returns-clause-rows
returns-clause-rows g c = c.steps.invariant.rows

pub link_step-requires : goal.link_step-requires
link_step-requires g c = record { rows = c.steps.invariant.rows }

pub returns-in_err-link_step : goal.returns-in_err-link_step
returns-in_err-link_step g c = record {
  rows = on_refused _ c.from_residual.result _ c.from_residual.ensures.1;
  linked = on_refused _ c.from_residual.result _ c.from_residual.ensures.1;
  refused = refused_as _ c.from_residual.result _ c.from_residual.ensures.1 c.in_err-link_step.ensures.refused;
}
