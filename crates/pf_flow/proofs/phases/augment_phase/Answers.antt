use Rattle.std.proofs.Common.{◌≡◌, ◌<◌, ◌≤◌, ◌-◌, ◌∙◌, length, refl, ap, sym, subst, arith, List, ℕ}
use Rattle.std.specs.Prelude.{slice_index}
use Rattle.pf_residual.specs.Networks.{Network}
use Rattle.pf_residual.specs.Internal.AugmentingPaths.{IsLabelling}
use Rattle.pf_residual.specs.Internal.CurrentArcs.{AreArcs, IsSinkPath}
use Rattle.pf_flow.specs.Internal.Phases.{IsAugmented}
use Rattle.pf_flow.proofs.PhaseLemmas.{labelling_same, augmented_more, augmented_top}
use Rattle.pf_residual.proofs.ArcLemmas.{sink_above, sink_path}
use Rattle.pf_residual.proofs.PathLemmas.{tree_of}
use Rattle.pf_flow.proofs.phases.augment_phase.Goals as goal

fewer : (bound now next : ℕ) → next ≤ bound → now < next → bound - next < bound - now
fewer bound now next l m = omega (arith, l, m)

sink_inside : (sink at n len : ℕ) → sink < n → at ≡ sink → len ≡ n → at < len
sink_inside sink at n len l e f = omega (arith, l, e, f)

still_below : (was n now m : ℕ) → was < n → now ≡ was → m ≡ n → now < m
still_below was n now m l e f = omega (arith, l, e, f)

-- the levels by which a path was found are those of the phase
augmented_of : {N M : Network} {before after : ℕ} {xs ys : List ℕ} → xs ≡ ys → IsAugmented (slice_index xs) N M before after → IsAugmented (slice_index ys) N M before after
augmented_of {N} {M} {before} {after} same w = subst (λ (zs : List ℕ). IsAugmented (slice_index zs) N M before after) same w

pub write_path-requires : goal.write_path-requires
write_path-requires g c =
    let r = c.requires in
    let f = r.found in
    let levels = c.args.found.now.levels.items in
    let inside = (g.met.S.FlowStore.network_law c.args.store.now).sink_in in
    record {
      tree = tree_of f.levels f.levels_len f.parents_len;
      to = sink_inside _ _ _ _ inside c.sink.ensures f.levels_len;
      reached = still_below _ _ _ _ r.reached (ap (slice_index levels) c.sink.ensures) f.levels_len;
      len = r.path_len ∙ sym f.levels_len;
    }

pub augment_path-requires : goal.augment_path-requires
augment_path-requires g c =
    let N = g.S.FlowStore.network c.args.store.now in
    let r = c.requires in
    let f = r.found in
    let k = sym c.deref.ensures.value in
    record {
      network = r.network;
      apart = r.apart;
      admissible = subst (λ (xs : List ℕ). IsSinkPath N (slice_index xs) c.write_path.new.path) k (sink_path f.levels r.reached f.levels_len f.parents_len c.sink.result c.sink.ensures c.write_path.ensures);
      labelling = subst (λ (xs : List ℕ). IsLabelling N.vertices N.source N.residual (slice_index xs)) k f.levels.labelling;
      levels_len = ap length c.deref.ensures.value ∙ f.levels_len;
      path_len = omega (arith, c.write_path.auto.path, c.requires.path_len);
      places_len = c.requires.places_len;
      reached = subst (λ (xs : List ℕ). slice_index xs N.sink < N.vertices) k r.reached;
    }

pub paths-init : goal.paths-init
paths-init g c = record {
  network = c.augment_path.ensures.network;
  augmented = augmented_of c.deref.ensures.value c.augment_path.ensures.augmented;
  levels = refl;
  arcs = c.requires.found.arcs;
}

pub find_augmenting_path-requires : goal.find_augmenting_path-requires
find_augmenting_path-requires g c =
    let M = g.S.FlowStore.network c.paths.store in
    let i = c.paths.invariant in
    let f = c.requires.found in
    let shape = i.augmented.kept.shape in
    let levels = c.args.found.now.levels.items in
    let arcs = c.paths.found.arcs in
    let k = c.deref-in-paths.ensures.value ∙ i.levels in
    let above = sink_above f.levels c.requires.reached (g.met.S.FlowStore.network_law c.args.store.now).sink_in c.requires.apart in
    record {
      start = subst (λ (xs : List ℕ). slice_index xs M.source ≡ 0) (sym k) (ap (slice_index levels) shape.source ∙ f.levels.labelling.start);
      above = subst (λ (xs : List ℕ). 0 < slice_index xs M.sink) (sym k) (subst (λ s. 0 < slice_index levels s) (sym shape.sink) above);
      reached = subst (λ (xs : List ℕ). slice_index xs M.sink < M.vertices) (sym k) (still_below _ _ _ _ c.requires.reached (ap (slice_index levels) shape.sink) shape.vertices);
      levels_len = ap length k ∙ f.levels_len ∙ sym shape.vertices;
      path_len = omega (arith, c.paths.auto.path, c.write_path.auto.path, c.requires.path_len, c.paths.invariant.augmented.kept.shape.vertices);
      places_len = omega (arith, c.paths.auto.places, c.requires.places_len, c.paths.invariant.augmented.kept.shape.vertices);
      arcs = subst (λ n. AreArcs n arcs.targets.items arcs.places.items arcs.ends.items) (sym shape.vertices) i.arcs;
    }

pub augment_path-requires-in-paths : goal.augment_path-requires-in-paths
augment_path-requires-in-paths g c =
    let M = g.S.FlowStore.network c.paths.store in
    let i = c.paths.invariant in
    let shape = i.augmented.kept.shape in
    let levels = c.args.found.now.levels.items in
    let k = c.deref-in-paths-2.ensures.value ∙ i.levels in
    record {
      network = i.network;
      apart = λ e. c.requires.apart (sym shape.source ∙ e ∙ shape.sink);
      admissible = subst (λ (xs : List ℕ). IsSinkPath M (slice_index xs) c.find_augmenting_path.new.path) (c.deref-in-paths.ensures.value ∙ sym c.deref-in-paths-2.ensures.value) (c.find_augmenting_path.ensures.admissible c.paths-test.true);
      labelling = subst (λ (xs : List ℕ). IsLabelling M.vertices M.source M.residual (slice_index xs)) (sym k) (labelling_same i.augmented.kept i.augmented.labelling);
      levels_len = ap length k ∙ c.requires.found.levels_len ∙ sym shape.vertices;
      path_len = omega (arith, c.find_augmenting_path.auto.path, c.paths.auto.path, c.write_path.auto.path, c.requires.path_len, c.paths.invariant.augmented.kept.shape.vertices);
      places_len = omega (arith, c.find_augmenting_path.auto.places, c.paths.auto.places, c.requires.places_len, c.paths.invariant.augmented.kept.shape.vertices);
      reached = subst (λ (xs : List ℕ). slice_index xs M.sink < M.vertices) (sym k) (still_below _ _ _ _ c.requires.reached (ap (slice_index levels) shape.sink) shape.vertices);
    }

pub paths-smaller : goal.paths-smaller
paths-smaller g c =
    let i = c.paths.invariant in
    let p = augmented_of (c.deref-in-paths-2.ensures.value ∙ i.levels) c.augment_path-in-paths.ensures.augmented in
    fewer _ _ _ (augmented_top (augmented_more i.augmented p)) p.progress

pub paths-preserved : goal.paths-preserved
paths-preserved g c =
    let i = c.paths.invariant in
    let p = augmented_of (c.deref-in-paths-2.ensures.value ∙ i.levels) c.augment_path-in-paths.ensures.augmented in
    let arcs = c.find_augmenting_path.new.arcs in
    record {
      network = c.augment_path-in-paths.ensures.network;
      augmented = augmented_more i.augmented p;
      levels = i.levels;
      arcs = subst (λ n. AreArcs n arcs.targets.items arcs.places.items arcs.ends.items) i.augmented.kept.shape.vertices c.find_augmenting_path.ensures.arcs;
    }

pub returns : goal.returns
returns g c = record { network = c.paths.invariant.network; augmented = c.paths.invariant.augmented }
