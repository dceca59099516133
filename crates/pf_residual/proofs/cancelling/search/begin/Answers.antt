use Rattle.std.proofs.Common.{◌<◌, ◌∙◌, ◌++◌, ◌∷◌, [], ℕ, List, Option, Some, None, slice_set, ap, refl, sym, subst}
use Rattle.std.proofs.lemmas.Result.{IfOk-from_err}
use Rattle.pf_residual.specs.declared.cancelling.search.Step.{Step}
use Rattle.pf_base.proofs.ListLemmas.{resized}
use Rattle.pf_base.proofs.Outcomes.{refused_by}
use Rattle.pf_residual.proofs.cancelling.search.begin.Goals as goal

pub returns-in_err-resize : goal.returns-in_err-resize
returns-in_err-resize g c = record {
  first = IfOk-from_err _ _ c.from_residual.ensures.0;
  places = IfOk-from_err _ _ c.from_residual.ensures.0;
  refused = refused_by _ c.from_residual.result c.from_residual.ensures.1;
}

pub returns-in_err-push : goal.returns-in_err-push
returns-in_err-push g c = record {
  first = IfOk-from_err _ _ c.from_residual-in_err-push.ensures.0;
  places = IfOk-from_err _ _ c.from_residual-in_err-push.ensures.0;
  refused = refused_by _ c.from_residual-in_err-push.result c.from_residual-in_err-push.ensures.1;
}

pub index_mut-requires : goal.index_mut-requires
index_mut-requires g c = subst (λ n. c.args.start < n) (sym c.in_ok-resize.ensures.len) c.requires.start

pub returns : goal.returns
returns g c = record {
  first =
      let s : Step = record { vertex = c.args.start; arc = 0; before = 0 } in
      (s, c.in_ok-push.ensures.items ∙ ap (λ (xs : List Step). xs ++ s ∷ []) c.new-steps.ensures.items, refl);
  places = ap (λ (xs : List (Option ℕ)). slice_set xs c.args.start (Some 0)) (resized c.args.size c.new-places.result.items c.resize.new.self.items _ None c.new-places.ensures.items c.new-places.ensures.len c.in_ok-resize.ensures.items);
  refused = tt;
}
