use Rattle.std.proofs.Common.{◌∙◌, ◌+◌, refl, sym, ap, subst, take, take_all, true≢false, List, ℕ}
use Rattle.std.specs.Prelude.{Vec}
use Rattle.pf_yen.specs.Internal.Reduced.{IsReducedRow}
use Rattle.pf_yen.proofs.ReducedLemmas.{no_steps, left_out, put_in}
use Rattle.pf_yen.proofs.reduced.reduce_row.Goals.{in-Some+in-Some-reduced_cost+in_ok-push, in_default}
use Rattle.std.proofs.lemmas.Result.{IfOk-from_err}
use Rattle.pf_base.specs.declared.error.PathError.TheVariants.{OutOfMemory}
use Rattle.pf_base.proofs.Outcomes.{refused_as}
use Rattle.pf_yen.proofs.reduced.reduce_row.Goals as goal

pub steps-preserved : goal.steps-preserved
steps-preserved g c =
    let value = g.C.Number.value in
    let costs = c.args.costs.now in
    let row = c.args.row.now in
    let i = c.steps.next-index in
    let item = c.steps-item.result in
    elim c.match-cost_at.branch as (λ _. IsReducedRow value costs (take (i + 1) row) c.args.here c.match-cost_at.reduced.items) [
      | in-Some+in-Some-reduced_cost+in_ok-push w ↦
          let known = rw w.in-Some.is at c.cost_at.ensures in
          let cost = rw w.in-Some-reduced_cost.is at w.reduced_cost.ensures in
          rw (ap (λ (v : Vec (ℕ × g.row.C.Denot) g.row.A.Denot). v.items) w.reduced-is ∙ w.in_ok-push.ensures.items)
          (put_in value costs row i item c.steps-test.true c.steps-item.is c.args.here c.steps.reduced.items c.steps.invariant w.in-Some.rest w.in-Some-reduced_cost.cost cost.0 known cost.1 cost.2)
      | in_default w ↦
          let none = rw w.in_default.is at c.cost_at.ensures in
          rw (ap (λ (v : Vec (ℕ × g.row.C.Denot) g.row.A.Denot). v.items) w.reduced-is) (left_out value costs row i item c.steps-test.true c.steps-item.is c.args.here c.steps.reduced.items c.steps.invariant none)
    ]

pub steps-init : goal.steps-init
steps-init g c = rw c.clear.ensures.items (no_steps g.C.Number.value c.args.costs.now c.args.here)

pub returns-in_default-reduced_cost : goal.returns-in_default-reduced_cost
returns-in_default-reduced_cost g c = record { reduced = λ e. absurd (true≢false (sym e)); refused = tt }

pub returns-in_err-push : goal.returns-in_err-push
returns-in_err-push g c = record {
  reduced = IfOk-from_err _ _ c.from_residual.ensures.0;
  refused = refused_as _ c.from_residual.result OutOfMemory c.from_residual.ensures.1 refl;
}

pub returns : goal.returns
returns g c = record { reduced = λ _. subst (λ (row : List (ℕ × g.row.C.Denot)). IsReducedRow g.C.Number.value c.args.costs.now row c.args.here c.steps.reduced.items) (take_all _ _ c.steps-test.false) c.steps.invariant; refused = tt }
