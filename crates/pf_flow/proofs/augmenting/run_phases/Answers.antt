use Rattle.std.proofs.Common.{◌≡◌, ◌≤◌, ◌<◌, ◌+◌, ◌-◌, ◌++◌, ◌∙◌, sym, ap, ℕ, List, take, drop, arith, length, length-take, length-append, length-drop}
use Rattle.std.specs.Prelude.{slice_index}
use Rattle.std.proofs.lemmas.List.{get_or_read, length-replicate}
use Rattle.std.proofs.lemmas.Result.{IfOk-from_err}
use Rattle.pf_base.proofs.ListLemmas.{resized}
use Rattle.pf_residual.proofs.AgreeLemmas.{capacities_kept, capacities_more}
use Rattle.pf_base.proofs.Outcomes.{refused_as, refused_by}
use Rattle.pf_flow.proofs.PhaseLemmas.{ticks_top, ticks_anew, ticks_now, no_less_then, no_less_itself}
use Rattle.pf_flow.proofs.augmenting.run_phases.Goals as goal

-- what is written through a slice keeps its length
kept_len : (n m : ℕ) (xs ys : List ℕ) → length xs ≡ m → length ys ≡ m → n ≡ m → length (take n (xs ++ drop (length xs) ys)) ≡ m
kept_len n m xs ys e f h = grind (arith, length-take, length-append, length-drop)

fewer : (bound now next : ℕ) → next ≤ bound → now < next → bound - next < bound - now
fewer bound now next l m = omega (arith, l, m)

after : (start now next : ℕ) → start ≤ now → now < next → start ≤ next
after start now next l m = omega (arith, l, m)

itself : (n : ℕ) → n ≤ n
itself n = omega arith

no_less : (n m : ℕ) → n ≤ n + m
no_less n m = omega arith

below_size : (at read size n m : ℕ) → read ≡ at → read < size → size ≡ n → m ≡ n → at < m
below_size at read size n m e l f h = omega (arith, e, l, f, h)

place_inside : (r s v long : ℕ) → s < v → r ≡ s → long ≡ v → r < long
place_inside r s v long l e f = omega (arith, l, e, f)

pub phases-smaller : goal.phases-smaller
phases-smaller g c =
    let i = c.phases.invariant in
    let p = c.augment_phase.ensures.augmented in
    fewer _ _ _ (ticks_top i.kept c.args.tally.now i.bound p) p.progress

pub phases-preserved : goal.phases-preserved
phases-preserved g c =
    let i = c.phases.invariant in
    let p = c.augment_phase.ensures.augmented in
    let found = c.in_ok-find-2.ensures.found in
    let wide = i.path_len in
    let shape = p.kept.shape.vertices in
    let auto = c.augment_phase.auto.path in
    let len = ap length c.deref_mut.ensures.value in
    let owned = c.phases.path.ok.0 in
    let places_wide = i.places_len in
    let places_auto = c.augment_phase.auto.places in
    let places_len = ap length c.deref_mut-in-phases.ensures.value in
    let places_owned = c.phases.places.ok.0 in
    record {
      network = c.augment_phase.ensures.network;
      kept = capacities_more i.kept p.kept;
      total = no_less_then i.total p.total;
      found = found;
      path_len = kept_len c.phases.path.len (g.S.FlowStore.network c.augment_phase.new.store).vertices c.augment_phase.new.path c.phases.path.items (omega (arith, auto, len, wide, shape)) (omega (arith, wide, shape)) (omega (arith, wide, shape, owned));
      places_len = kept_len c.phases.places.len (g.S.FlowStore.network c.augment_phase.new.store).vertices c.augment_phase.new.places c.phases.places.items (omega (arith, places_auto, places_len, places_wide, shape)) (omega (arith, places_wide, shape)) (omega (arith, places_wide, shape, places_owned));
      ticked = after _ _ _ i.ticked p.progress;
      bound = ticks_anew i.kept c.args.tally.now i.bound p found.levels;
    }

pub phases-init : goal.phases-init
phases-init g c = record {
  network = c.requires.network;
  kept = capacities_kept (g.S.FlowStore.network c.args.store.now);
  total = no_less_itself _;
  found = c.in_ok-find.ensures.found;
  path_len = ap length (resized c.size-size.result c.new-path.result.items c.resize.new.self.items _ 0 c.new-path.ensures.items c.new-path.ensures.len c.in_ok-resize.ensures.items) ∙ length-replicate c.size-size.result 0 ∙ c.size-size.ensures;
  places_len = ap length (resized c.size-size.result c.new-places.result.items c.resize-2.new.self.items _ 0 c.new-places.ensures.items c.new-places.ensures.len c.in_ok-resize-2.ensures.items) ∙ length-replicate c.size-size.result 0 ∙ c.size-size.ensures;
  ticked = itself _;
  bound = no_less _ _;
}

pub index-requires : goal.index-requires
index-requires g c =
    let i = c.phases.invariant in
    let inside = (g.met.S.FlowStore.network_law c.phases.store).sink_in in
    omega (arith, inside, c.sink-sink.ensures, i.kept.shape.sink, i.found.levels_len, c.phases.found.levels.ok)

pub returns-in_err-find : goal.returns-in_err-find
returns-in_err-find g c = record {
  network = c.requires.network;
  kept = capacities_kept (g.S.FlowStore.network c.args.store.now);
  total = no_less_itself _;
  cut_off = IfOk-from_err _ _ c.from_residual-in_err-find.ensures.0;
  refused = refused_as _ c.from_residual-in_err-find.result _ c.from_residual-in_err-find.ensures.1 c.in_err-find.ensures.refused;
  ticked = itself _;
  paths = no_less _ _;
}

pub returns-in_err-resize : goal.returns-in_err-resize
returns-in_err-resize g c = record {
  network = c.requires.network;
  kept = capacities_kept (g.S.FlowStore.network c.args.store.now);
  total = no_less_itself _;
  cut_off = IfOk-from_err _ _ c.from_residual.ensures.0;
  refused = refused_by _ c.from_residual.result c.from_residual.ensures.1;
  ticked = itself _;
  paths = no_less _ _;
}

pub returns-in_err-resize-2 : goal.returns-in_err-resize-2
returns-in_err-resize-2 g c = record {
  network = c.requires.network;
  kept = capacities_kept (g.S.FlowStore.network c.args.store.now);
  total = no_less_itself _;
  cut_off = IfOk-from_err _ _ c.from_residual-in_err-resize-2.ensures.0;
  refused = refused_by _ c.from_residual-in_err-resize-2.result c.from_residual-in_err-resize-2.ensures.1;
  ticked = itself _;
  paths = no_less _ _;
}

pub augment_phase-requires : goal.augment_phase-requires
augment_phase-requires g c =
    let i = c.phases.invariant in
    let M = g.S.FlowStore.network c.phases.store in
    let levels = c.phases.found.levels.items in
    let inside = (g.met.S.FlowStore.network_law c.phases.store).sink_in in
    let sink = c.sink-sink.ensures ∙ sym i.kept.shape.sink in
    let read = get_or_read levels c.sink-sink.result c.index.result.now (place_inside _ _ _ _ inside sink i.found.levels_len) c.index.ensures 0 ∙ ap (slice_index levels) sink in
    record {
      network = i.network;
      apart = λ e. c.requires.apart (sym i.kept.shape.source ∙ e ∙ i.kept.shape.sink);
      found = i.found;
      reached = below_size _ _ _ _ _ read c.phases-test.true c.size-size.ensures i.kept.shape.vertices;
      path_len = ap length c.deref_mut.ensures.value ∙ i.path_len;
      places_len = ap length c.deref_mut-in-phases.ensures.value ∙ i.places_len;
    }

pub returns : goal.returns
returns g c = record {
  network = c.phases.invariant.network;
  kept = c.phases.invariant.kept;
  total = c.phases.invariant.total;
  cut_off =
      let i = c.phases.invariant in
      let M = g.S.FlowStore.network c.phases.store in
      let levels = c.phases.found.levels.items in
      let inside = (g.met.S.FlowStore.network_law c.phases.store).sink_in in
      let sink = c.sink-sink.ensures ∙ sym i.kept.shape.sink in
      let read = get_or_read levels c.sink-sink.result c.index.result.now (place_inside _ _ _ _ inside sink i.found.levels_len) c.index.ensures 0 ∙ ap (slice_index levels) sink in
      let top = i.found.levels.labelling.top M.sink inside in
      record {
        found = i.found.levels;
        len = i.found.levels_len;
        top = omega (arith, read, top, c.phases-test.false, c.size-size.ensures, i.kept.shape.vertices);
      };
  refused = tt;
  ticked = c.phases.invariant.ticked;
  paths =
      let i = c.phases.invariant in
      ticks_now i.kept i.found.levels.labelling c.args.tally.now c.phases.tally i.bound;
}

pub returns-in_err-find-2 : goal.returns-in_err-find-2
returns-in_err-find-2 g c = record {
  network = c.augment_phase.ensures.network;
  kept = capacities_more c.phases.invariant.kept c.augment_phase.ensures.augmented.kept;
  total = no_less_then c.phases.invariant.total c.augment_phase.ensures.augmented.total;
  cut_off = IfOk-from_err _ _ c.from_residual-in_err-find-2.ensures.0;
  refused = refused_as _ c.from_residual-in_err-find-2.result _ c.from_residual-in_err-find-2.ensures.1 c.in_err-find-2.ensures.refused;
  ticked = after _ _ _ c.phases.invariant.ticked c.augment_phase.ensures.augmented.progress;
  paths = ticks_top c.phases.invariant.kept c.args.tally.now c.phases.invariant.bound c.augment_phase.ensures.augmented;
}
