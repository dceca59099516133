use Rattle.std.proofs.Common.{◌≡◌, refl, subst}
use Rattle.std.specs.Prelude.{Some, slice_get}
use Rattle.std.specs.List.{AllZip}
use Rattle.std.proofs.lemmas.Result.{IfOk-from_err}
use Rattle.pf_residual.specs.NamedNetworks.{IsNamed}
use Rattle.pf_base.proofs.Outcomes.{refused_as}
use Rattle.pf_residual.proofs.names.name_answer.Goals as goal

pub name_edges-requires : goal.name_edges-requires
name_edges-requires g c = record { inside = λ i e h. c.requires.flows i e (subst (λ xs. slice_get xs i ≡ Some e) c.deref.ensures.value h) }

pub name_edges-requires-2 : goal.name_edges-requires-2
name_edges-requires-2 g c = record { inside = λ i e h. c.requires.cut i e (subst (λ xs. slice_get xs i ≡ Some e) c.deref-2.ensures.value h) }

pub returns-clause-named : goal.returns-clause-named
returns-clause-named g c = record {
  flows = subst (λ es. AllZip (IsNamed c.args.names.now) es c.in_ok-flows.flows.items) c.deref.ensures.value c.in_ok-flows.ensures.named;
  total = refl;
  cut = subst (λ es. AllZip (IsNamed c.args.names.now) es c.in_ok-cut.cut.items) c.deref-2.ensures.value c.in_ok-cut.ensures.named;
}

pub returns-in_err-flows-clause-named : goal.returns-in_err-flows-clause-named
returns-in_err-flows-clause-named g c = IfOk-from_err _ _ c.from_residual.ensures.0

pub returns-in_err-cut-clause-named : goal.returns-in_err-cut-clause-named
returns-in_err-cut-clause-named g c = IfOk-from_err _ _ c.from_residual-in_err-cut.ensures.0

pub returns-in_err-flows-clause-refused : goal.returns-in_err-flows-clause-refused
returns-in_err-flows-clause-refused g c = refused_as _ c.from_residual.result _ c.from_residual.ensures.1 c.in_err-flows.ensures.refused

pub returns-in_err-cut-clause-refused : goal.returns-in_err-cut-clause-refused
returns-in_err-cut-clause-refused g c = refused_as _ c.from_residual-in_err-cut.result _ c.from_residual-in_err-cut.ensures.1 c.in_err-cut.ensures.refused
