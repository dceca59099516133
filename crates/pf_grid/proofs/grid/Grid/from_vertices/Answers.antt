use Rattle.std.proofs.Common.{◌≡◌, ◌⊎◌, ◌∙◌, ◌++◌, [], ◌∷◌, inl, refl, ap, subst}
use Rattle.std.proofs.lemmas.Result.{IfOk-from_err, IfOk-weaker}
use Rattle.pf_grid.specs.Vertices.{IsTooLarge, smallest}
use Rattle.pf_base.proofs.Outcomes.{refused_as}
use Rattle.pf_grid.specs.declared.error.GridError.TheVariants.{OutOfMemory, TooLarge}
use Rattle.pf_grid.proofs.grid.Grid.from_vertices.Goals as goal

pub loop-vertex-init : goal.loop-vertex-init
loop-vertex-init g c = c.new-given.ensures.items

pub loop-vertex-preserved : goal.loop-vertex-preserved
loop-vertex-preserved g c = c.in_ok-push.ensures.items ∙ ap (λ l. l ++ c.in-Some.vertex ∷ []) c.loop-vertex.invariant

pub returns-in_err-push-clause-made : goal.returns-in_err-push-clause-made
returns-in_err-push-clause-made g c = IfOk-from_err _ _ c.from_residual.ensures.0

pub returns-in_err-push-clause-refused : goal.returns-in_err-push-clause-refused
returns-in_err-push-clause-refused g c =
    refused_as (λ e. (e ≡ OutOfMemory) ⊎ (e ≡ TooLarge)) c.from_residual.result OutOfMemory c.from_residual.ensures.1 (inl refl)

pub returns-clause-made : goal.returns-clause-made
returns-clause-made g c =
    IfOk-weaker c.from_positions.result _ _ (λ z e. record {
      positions = c.loop-vertex.yielded;
      all = record {
        iterator = c.into_iter-vertex-iterator.result;
        made = c.into_iter-vertex-iterator.ensures.into_iter_gives;
        drains = (c.next.new.self, (c.loop-vertex.vertex-iterator, c.loop-vertex.yielded_by, c.in-None.ensures.steps));
      };
      holds = e ∙ ap smallest (c.as_slice.ensures.value ∙ c.loop-vertex.invariant);
    }) c.from_positions.ensures.made

pub returns-clause-too_large : goal.returns-clause-too_large
returns-clause-too_large g c large = record {
  positions = c.loop-vertex.yielded;
  all = record {
    iterator = c.into_iter-vertex-iterator.result;
    made = c.into_iter-vertex-iterator.ensures.into_iter_gives;
    drains = (c.next.new.self, (c.loop-vertex.vertex-iterator, c.loop-vertex.yielded_by, c.in-None.ensures.steps));
  };
  holds = subst IsTooLarge (c.as_slice.ensures.value ∙ c.loop-vertex.invariant) (c.from_positions.ensures.too_large large);
}

pub returns-clause-refused : goal.returns-clause-refused
returns-clause-refused g c = c.from_positions.ensures.refused
