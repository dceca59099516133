use Rattle.std.proofs.Common.{◌≡◌, ◌∙◌, length}
use Rattle.pf_yen.proofs.backward.costs_to_goals.Goals.{else-not-is_stale-via-then-not-is_stale+in_ok-go_back+else-not-branch, else-not-is_stale-via-else-not-is_stale, else-entries-test, then-entries-test+in_default}
use Rattle.std.proofs.lemmas.Result.{IfOk-from_err}
use Rattle.pf_base.proofs.Outcomes.{refused_as}
use Rattle.pf_yen.proofs.backward.costs_to_goals.Goals as goal

pub entries-preserved : goal.entries-preserved
entries-preserved g c =
    elim c.else-not-is_stale.branch as (λ _. length c.else-not-is_stale.search.costs.items ≡ length c.args.adjacency.now.rows) [
      | else-not-is_stale-via-then-not-is_stale+in_ok-go_back+else-not-branch w ↦ rw w.search-is (w.in_ok-go_back.ensures.wide ∙ c.entries.invariant)
      | else-not-is_stale-via-else-not-is_stale w ↦ rw w.search-is c.entries.invariant
    ]

pub returns-clause-wide : goal.returns-clause-wide
returns-clause-wide g c =
    elim c.entries-test.branch as (λ _. length c.entries-test.search.costs.items ≡ length c.args.adjacency.now.rows) [
      | else-entries-test w ↦ rw w.search-is c.entries.invariant
      | then-entries-test+in_default w ↦ rw w.search-is c.entries.invariant
    ]

pub returns-in_err-back : goal.returns-in_err-back
returns-in_err-back g c = record {
  wide = IfOk-from_err _ _ c.from_residual.ensures.0;
  refused = refused_as _ c.from_residual.result c.in_err-back.field-0.0 c.from_residual.ensures.1 c.in_err-back.ensures.refused;
}

pub returns-in_err-search : goal.returns-in_err-search
returns-in_err-search g c = record {
  wide = IfOk-from_err _ _ c.from_residual-in_err-search.ensures.0;
  refused = refused_as _ c.from_residual-in_err-search.result c.in_err-search.field-0.0 c.from_residual-in_err-search.ensures.1 c.in_err-search.ensures.refused;
}

pub returns-in_err-go_back : goal.returns-in_err-go_back
returns-in_err-go_back g c = record {
  wide = IfOk-from_err _ _ c.from_residual-in_err-go_back.ensures.0;
  refused = refused_as _ c.from_residual-in_err-go_back.result c.in_err-go_back.field-0.0 c.from_residual-in_err-go_back.ensures.1 c.in_err-go_back.ensures.refused;
}

pub returns-then-not-branch : goal.returns-then-not-branch
returns-then-not-branch g c = record { wide = tt; refused = tt }
