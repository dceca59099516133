use Rattle.std.proofs.Common.{◌<◌, ◌≤◌, sym, subst, arith, true≢false}
use Rattle.std.specs.Prelude.{slice_index, slice_set}
use Rattle.pf_residual.specs.Internal.CurrentArcs.{IsPartialPath}
use Rattle.pf_residual.proofs.ArcLemmas.{path_begun, path_found}
use Rattle.pf_residual.proofs.level_paths.find_augmenting_path.Goals as goal

pub bounds-levels-sink : goal.bounds-levels-sink
bounds-levels-sink g c =
    let inside = (g.met.S.FlowStore.network_law c.args.store.now).sink_in in
    omega (arith, inside, c.sink.ensures, c.requires.levels_len)

pub offset_bounds-levels-sink : goal.offset_bounds-levels-sink
offset_bounds-levels-sink g c =
    let inside = (g.met.S.FlowStore.network_law c.args.store.now).sink_in in
    omega (arith, inside, c.sink.ensures, c.requires.levels_len)

pub moves-init : goal.moves-init
moves-init g c =
    let N = g.S.FlowStore.network c.args.store.now in
    let arcs = c.args.arcs.now in
    let r = c.requires in
    subst (λ s. IsPartialPath N c.args.levels.now arcs.targets.items arcs.places.items arcs.ends.items (slice_set c.args.path.now 0 s) 0) (sym c.source.ensures)
    (path_begun c.args.path.now (g.met.S.FlowStore.network_law c.args.store.now).source_in r.start r.above r.reached r.levels_len r.path_len r.arcs)

pub advance_or_retreat-requires-clause-partial : goal.advance_or_retreat-requires-clause-partial
advance_or_retreat-requires-clause-partial g c = c.moves.invariant

pub advance_or_retreat-requires-clause-below : goal.advance_or_retreat-requires-clause-below
advance_or_retreat-requires-clause-below g c = subst (λ v. c.moves.depth < slice_index c.args.levels.now v) c.sink.ensures c.moves-test.true

pub returns-in_default-clause-arcs : goal.returns-in_default-clause-arcs
returns-in_default-clause-arcs g c = c.advance_or_retreat.ensures.arcs

pub moves-smaller : goal.moves-smaller
moves-smaller g c = c.in-Some.ensures.less

pub moves-preserved : goal.moves-preserved
moves-preserved g c = c.in-Some.ensures.partial

pub returns-clause-admissible : goal.returns-clause-admissible
returns-clause-admissible g c = λ _. path_found c.moves.invariant (subst (λ v. slice_index c.args.levels.now v ≤ c.moves.depth) c.sink.ensures c.moves-test.false)

pub returns-clause-arcs : goal.returns-clause-arcs
returns-clause-arcs g c = c.moves.invariant.arcs

pub bounds-path-0 : goal.bounds-path-0
bounds-path-0 g c = omega (arith, c.requires.reached, c.requires.path_len)

pub returns-in_default-clause-admissible : goal.returns-in_default-clause-admissible
returns-in_default-clause-admissible g c = λ e. absurd (true≢false (sym e))
