use Rattle.std.proofs.Common.{◌≡◌, ◌∙◌, ◌++◌, [], ◌∷◌, refl, sym, ap}
use Rattle.std.proofs.lemmas.List.{append-nil, append_assoc}
use Rattle.std.proofs.lemmas.Result.{IfOk-from_err}
use Rattle.pf_base.proofs.Outcomes.{refused_as}
use Rattle.pf_grid.specs.declared.error.GridError.TheVariants.{OutOfMemory}
use Rattle.pf_grid.proofs.grid.Grid.neighbours.Goals as goal

pub returns-in_err-found : goal.returns-in_err-found
returns-in_err-found g c = record {
  neighbours = IfOk-from_err _ _ c.from_residual.ensures.0;
  refused = refused_as (λ e. e ≡ OutOfMemory) c.from_residual.result OutOfMemory c.from_residual.ensures.1 refl;
}

pub loop-neighbour-init : goal.loop-neighbour-init
loop-neighbour-init g c =
    ap (λ l. l ++ c.into_iter-neighbour-iterator.result) c.in_ok-found.ensures.items
    ∙ c.into_iter-neighbour-iterator.ensures.into_iter_gives
    ∙ c.around-neighbour-items.ensures

pub loop-neighbour-preserved : goal.loop-neighbour-preserved
loop-neighbour-preserved g c =
    let found = c.loop-neighbour.found.items in
    ap (λ l. l ++ c.next.new.self) c.in_ok-push.ensures.items
    ∙ append_assoc found (c.in-Some.neighbour ∷ []) c.next.new.self
    ∙ ap (λ l. found ++ l) (sym c.in-Some.ensures.steps)
    ∙ c.loop-neighbour.invariant

pub returns-in_err-push : goal.returns-in_err-push
returns-in_err-push g c = record {
  neighbours = IfOk-from_err _ _ c.from_residual-in_err-push.ensures.0;
  refused = refused_as (λ e. e ≡ OutOfMemory) c.from_residual-in_err-push.result OutOfMemory c.from_residual-in_err-push.ensures.1 refl;
}

pub returns : goal.returns
returns g c = record {
  neighbours =
      let found = c.loop-neighbour.found.items in
      sym (append-nil found) ∙ ap (λ l. found ++ l) (sym c.in-None.ensures.steps.0) ∙ c.loop-neighbour.invariant;
  refused = tt;
}
