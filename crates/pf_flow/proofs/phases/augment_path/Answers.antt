use Rattle.std.proofs.Common.{◌<◌, ◌+◌, ◌∙◌, ap, sym, subst, length, arith, take, min}
use Rattle.std.proofs.lemmas.List.{length-take, length-take-le}
use Rattle.std.specs.Prelude.{slice_index}
use Rattle.pf_residual.specs.Internal.AugmentingPaths.{IsAugmentingPath, IsLevelPath}
use Rattle.pf_residual.proofs.PathLemmas.{level_path, augmenting_path}
use Rattle.pf_flow.proofs.phases.augment_path.Goals as goal

pub add_along-requires-clause-path : goal.add_along-requires-clause-path
add_along-requires-clause-path g c =
    let N = g.S.FlowStore.network c.args.store.now in
    let r = c.requires in
    let levels = c.args.levels.now in
    let low = r.reached in
    let wide = r.path_len in
    let room : slice_index levels N.sink < length c.args.path.now = omega (arith, low, wide) in
    subst (λ s. IsAugmentingPath N (take (slice_index levels s + 1) c.args.path.now)) (sym c.sink.ensures) (augmenting_path r.admissible.admissible room r.admissible.last r.apart)

pub returns-clause-augmented : goal.returns-clause-augmented
returns-clause-augmented g c =
    let N = g.S.FlowStore.network c.args.store.now in
    let r = c.requires in
    let levels = c.args.levels.now in
    let low = r.reached in
    let wide = r.path_len in
    let room : slice_index levels N.sink < length c.args.path.now = omega (arith, low, wide) in
    let up = subst (λ s. IsLevelPath (slice_index levels) (take (slice_index levels s + 1) c.args.path.now)) (sym c.sink.ensures) (level_path r.admissible.admissible room) in
    let rise = c.add_along.ensures.rises (slice_index levels) up in
    let tick = c.tick.ensures in
    record {
      kept = c.add_along.ensures.kept;
      total = c.add_along.ensures.total;
      labelling = c.add_along.ensures.levels (slice_index levels) up r.labelling;
      progress = omega (arith, tick);
      bound = omega (arith, rise, tick);
    }

pub overflow_add-depth : goal.overflow_add-depth
overflow_add-depth g c =
    let at : slice_index c.args.levels.now c.sink.result < (g.S.FlowStore.network c.args.store.now).vertices = subst (λ s. slice_index c.args.levels.now s < (g.S.FlowStore.network c.args.store.now).vertices) (sym c.sink.ensures) c.requires.reached in
    omega (arith, at, c.requires.path_len, c.well_formed.1.1.0.0)

pub overflow_add-depth-2 : goal.overflow_add-depth-2
overflow_add-depth-2 g c =
    let at : slice_index c.args.levels.now c.sink.result < (g.S.FlowStore.network c.args.store.now).vertices = subst (λ s. slice_index c.args.levels.now s < (g.S.FlowStore.network c.args.store.now).vertices) (sym c.sink.ensures) c.requires.reached in
    omega (arith, at, c.requires.path_len, c.well_formed.1.1.0.0)

pub slice_bounds-add_along-end : goal.slice_bounds-add_along-end
slice_bounds-add_along-end g c =
    let at : slice_index c.args.levels.now c.sink.result < (g.S.FlowStore.network c.args.store.now).vertices = subst (λ s. slice_index c.args.levels.now s < (g.S.FlowStore.network c.args.store.now).vertices) (sym c.sink.ensures) c.requires.reached in
    sym (length-take-le (slice_index c.args.levels.now c.sink.result + 1) c.args.path.now (omega (arith, at, c.requires.path_len)))

pub slice_bounds-add_along-end-2 : goal.slice_bounds-add_along-end-2
slice_bounds-add_along-end-2 g c =
    let at : slice_index c.args.levels.now c.sink.result < (g.S.FlowStore.network c.args.store.now).vertices = subst (λ s. slice_index c.args.levels.now s < (g.S.FlowStore.network c.args.store.now).vertices) (sym c.sink.ensures) c.requires.reached in
    sym (length-take-le (slice_index c.args.levels.now c.sink.result + 1) c.args.places.now (omega (arith, at, c.requires.places_len)))

pub add_along-requires-clause-network : goal.add_along-requires-clause-network
add_along-requires-clause-network g c = c.requires.network

pub add_along-requires-clause-places_len : goal.add_along-requires-clause-places_len
add_along-requires-clause-places_len g c =
    let depth = slice_index c.args.levels.now c.sink.result + 1 in
    length-take depth c.args.places.now ∙ ap (min depth) (c.requires.places_len ∙ sym c.requires.path_len) ∙ sym (length-take depth c.args.path.now)

pub returns-clause-network : goal.returns-clause-network
returns-clause-network g c = c.add_along.ensures.network
