use Rattle.std.proofs.Common.{◌≡◌, ◌∙◌, refl, length}
use Rattle.std.proofs.lemmas.Result.{IfOk-from_err}
use Rattle.pf_base.specs.declared.error.PathError.TheVariants.{OutOfMemory}
use Rattle.pf_base.proofs.Outcomes.{refused_as}
use Rattle.pf_yen.proofs.backward.at_goals.Goals.{then-is_goal+in_ok-note, else-is_goal}
use Rattle.pf_yen.proofs.backward.at_goals.Goals as goal

pub returns-in_err-resize : goal.returns-in_err-resize
returns-in_err-resize g c = record {
  wide = IfOk-from_err _ _ c.from_residual.ensures.0;
  refused = refused_as _ c.from_residual.result OutOfMemory c.from_residual.ensures.1 refl;
}

pub numbers-preserved : goal.numbers-preserved
numbers-preserved g c =
    elim c.if-is_goal.branch as (λ _. length c.if-is_goal.search.costs.items ≡ length c.args.adjacency.now.rows) [
      | then-is_goal+in_ok-note w ↦ rw w.search-is (w.in_ok-note.ensures.wide ∙ c.numbers.invariant)
      | else-is_goal w ↦ rw w.search-is c.numbers.invariant
    ]

pub returns-in_err-note : goal.returns-in_err-note
returns-in_err-note g c = record {
  wide = IfOk-from_err _ _ c.from_residual-in_err-note.ensures.0;
  refused = refused_as _ c.from_residual-in_err-note.result c.in_err-note.field-0.0 c.from_residual-in_err-note.ensures.1 c.in_err-note.ensures.refused;
}

pub returns : goal.returns
returns g c = record { wide = c.numbers.invariant; refused = tt }
