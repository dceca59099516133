use Rattle.std.proofs.Common.{rules, ◌≡◌, false, refl, ap, sym}
use Rattle.std.specs.Prelude.{Err}
use Rattle.pf_base.specs.declared.error.PathError.TheVariants.{CostOverflow}
use Rattle.pf_base.proofs.Callers.{test_of}
use Rattle.pf_search.proofs.AllLemmas.{all_of_partial}
use Rattle.std.proofs.lemmas.Result.{IfOk-from_err}
use Rattle.pf_base.proofs.Outcomes.{ok_is_no_error, refused_as}
use Rattle.pf_search.proofs.directed.dijkstra_all.dijkstra_all.Goals as goal

pub dijkstra_partial-requires-clause-graph : goal.dijkstra_partial-requires-clause-graph
dijkstra_partial-requires-clause-graph g c =
    let r = c.requires.graph in
    (r.0, (λ _. false), record { edges_answered = r.1; test_answered = test_of (λ _. false) (λ x y w e. refl) (λ x w. search rules) (λ x r t w k. search rules); costs = r.2 })

pub dijkstra_partial-requires-clause-clones : goal.dijkstra_partial-requires-clause-clones
dijkstra_partial-requires-clause-clones g c = c.requires.clones

pub returns : goal.returns
returns g c = record {
  cheapest = λ edges answered costs.
      all_of_partial g.N.PartialEq.eq g.met.N.Eq.laws g.C.Number.value edges c.args.start.now answered.alike _ c.in_ok-parents.field-0-1
      (c.in_ok-parents.ensures.partial edges (λ _. false) (record { edges_answered = answered; test_answered = test_of (λ _. false) (λ x y w e. refl) (λ x w. search rules) (λ x r t w k. search rules); costs = costs }));
  errors = tt;
  overflow = λ _ _ _ e. absurd (ok_is_no_error _ _ _ refl e);
}

pub returns-in_err-parents : goal.returns-in_err-parents
returns-in_err-parents g c = record {
  overflow = λ edges answered costs e.
      let f : c.in_err-parents.field-0.0 ≡ CostOverflow = sym (rw e at c.from_residual.ensures.1) in
      c.in_err-parents.ensures.overflow edges (λ _. false) (record { edges_answered = answered; test_answered = test_of (λ _. false) (λ x y w e. refl) (λ x w. search rules) (λ x r t w k. search rules); costs = costs }) (ap Err f);
  cheapest = λ _ _ _. IfOk-from_err _ _ c.from_residual.ensures.0;
  errors = refused_as _ c.from_residual.result c.in_err-parents.field-0.0 c.from_residual.ensures.1 c.in_err-parents.ensures.errors;
}
