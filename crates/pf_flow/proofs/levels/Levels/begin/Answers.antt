use Rattle.std.proofs.Common.{◌≡◌, ◌∷◌, ◌++◌, [], ap, subst, arith, ◌∙◌, ℕ, List, length, replicate}
use Rattle.std.specs.Prelude.{slice_set}
use Rattle.std.proofs.lemmas.List.{length-set, length-replicate}
use Rattle.std.proofs.lemmas.Result.{IfOk-from_err}
use Rattle.pf_residual.specs.Internal.CurrentArcs.{AreArcs}
use Rattle.pf_residual.proofs.LevelListLemmas.{found_begun}
use Rattle.pf_base.proofs.ListLemmas.{resized}
use Rattle.pf_base.proofs.Outcomes.{on_any, on_ok, refused_by}
use Rattle.pf_flow.proofs.levels.Levels.begin.Goals as goal

pub index_mut-requires : goal.index_mut-requires
index_mut-requires g c =
    let inside = (g.met.S.FlowStore.network_law c.args.store.now).source_in in
    omega (arith, inside, c.source-source.ensures, c.size-size.ensures, c.in_ok-resize.ensures.len)

pub returns : goal.returns
returns g c = record {
  found =
      let N = g.S.FlowStore.network c.args.store.now in
      let size = c.size-size.result in
      let source = c.source-source.result in
      let levels = c.resize.new.self.items in
      let parents = c.resize-2.new.self.items in
      let queue = c.push.new.self.items in
      let e : levels ≡ replicate N.vertices N.vertices = resized size c.clear.new.self.items levels _ size c.clear.ensures.items c.clear.ensures.len c.in_ok-resize.ensures.items ∙ ap (λ (k : ℕ). replicate k k) c.size-size.ensures in
      let len : length levels ≡ N.vertices = ap length e ∙ length-replicate N.vertices N.vertices in
      let wide : length parents ≡ N.vertices = ap length (resized size c.clear-2.new.self.items parents _ source c.clear-2.ensures.items c.clear-2.ensures.len c.in_ok-resize-2.ensures.items) ∙ length-replicate size source ∙ c.size-size.ensures in
      let one : queue ≡ N.source ∷ [] = c.in_ok-push.ensures.items ∙ ap (λ (xs : List ℕ). xs ++ source ∷ []) (c.reserve.ensures.items ∙ c.clear-3.ensures.items) ∙ ap (λ (a : ℕ). a ∷ []) c.source-source.ensures in
      on_any c.reset.result
      (found_begun N (slice_set levels source 0) parents queue (g.met.S.FlowStore.network_law c.args.store.now).source_in
      (ap (λ xs. slice_set xs source 0) e ∙ ap (λ a. slice_set (replicate N.vertices N.vertices) a 0) c.source-source.ensures)
      (length-set levels source 0 ∙ len) wide one);
  arcs =
      let arcs = c.reset.new.self in
      on_ok c.reset.result c.reset.ensures.arcs (subst (λ n. AreArcs n arcs.targets.items arcs.places.items arcs.ends.items) c.size-size.ensures);
  refused = c.reset.ensures.refused;
}

pub returns-in_err-resize : goal.returns-in_err-resize
returns-in_err-resize g c = record {
  found = IfOk-from_err _ _ c.from_residual.ensures.0;
  arcs = IfOk-from_err _ _ c.from_residual.ensures.0;
  refused = refused_by _ c.from_residual.result c.from_residual.ensures.1;
}

pub returns-in_err-resize-2 : goal.returns-in_err-resize-2
returns-in_err-resize-2 g c = record {
  found = IfOk-from_err _ _ c.from_residual-in_err-resize-2.ensures.0;
  arcs = IfOk-from_err _ _ c.from_residual-in_err-resize-2.ensures.0;
  refused = refused_by _ c.from_residual-in_err-resize-2.result c.from_residual-in_err-resize-2.ensures.1;
}

pub returns-in_err-reserve : goal.returns-in_err-reserve
returns-in_err-reserve g c = record {
  found = IfOk-from_err _ _ c.from_residual-in_err-reserve.ensures.0;
  arcs = IfOk-from_err _ _ c.from_residual-in_err-reserve.ensures.0;
  refused = refused_by _ c.from_residual-in_err-reserve.result c.from_residual-in_err-reserve.ensures.1;
}

pub returns-in_err-push : goal.returns-in_err-push
returns-in_err-push g c = record {
  found = IfOk-from_err _ _ c.from_residual-in_err-push.ensures.0;
  arcs = IfOk-from_err _ _ c.from_residual-in_err-push.ensures.0;
  refused = refused_by _ c.from_residual-in_err-push.result c.from_residual-in_err-push.ensures.1;
}
