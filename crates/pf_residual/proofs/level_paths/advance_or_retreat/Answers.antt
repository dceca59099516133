use Rattle.std.proofs.Common.{◌-◌, ℕ, refl, sym, subst, arith}
use Rattle.std.specs.Prelude.{slice_index}
use Rattle.pf_residual.specs.Internal.CurrentArcs.{AreArcs}
use Rattle.pf_residual.proofs.ArcLemmas.{path_advanced, path_passed, work_passed}
use Rattle.pf_residual.proofs.level_paths.advance_or_retreat.Goals as goal

pub returns-then-is_admissible : goal.returns-then-is_admissible
returns-then-is_admissible g c = record {
  partial =
      let r = c.requires in
      let e = c.is_admissible.ensures in
      let q = c.if-is_admissible.true in
      let i = c.in-Some.ensures.inside in
      let l = r.partial.arcs.places_len in
      path_advanced r.partial c.in-Some.arc.0 (omega (arith, i, l)) r.below (e.level q) (e.left q) (e.last q) c.in-Some.ensures.left;
  less = let b = c.requires.below in omega (arith, b);
  arcs = c.requires.partial.arcs;
}

pub returns-in-Some : goal.returns-in-Some
returns-in-Some g c =
    let r = c.requires in
    let p = c.retire_arc.ensures in
    record {
      partial = path_passed r.partial (slice_index c.args.path.now c.args.depth) c.args.depth (omega arith) r.below refl c.in-Some.ensures.left p.targets p.places p.ends;
      less = work_passed r.partial (slice_index c.args.path.now c.args.depth) c.args.depth (omega arith) r.below refl c.in-Some.ensures.left p.targets p.places p.ends (omega arith);
      arcs = (path_passed r.partial (slice_index c.args.path.now c.args.depth) c.args.depth (omega arith) r.below refl c.in-Some.ensures.left p.targets p.places p.ends).arcs;
    }

pub retire_arc-requires-clause-left : goal.retire_arc-requires-clause-left
retire_arc-requires-clause-left g c = c.in-Some.ensures.left

pub returns-then-depth-eq0-clause-arcs : goal.returns-then-depth-eq0-clause-arcs
returns-then-depth-eq0-clause-arcs g c = c.requires.partial.arcs

pub retire_arc-requires-2-clause-left : goal.retire_arc-requires-2-clause-left
retire_arc-requires-2-clause-left g c =
    let n = c.if-depth-eq0.false in
    c.requires.partial.ahead (c.args.depth - 1) (omega (arith, n))

pub returns : goal.returns
returns g c =
    let r = c.requires in
    let n = c.if-depth-eq0.false in
    let b = r.below in
    let p = c.retire_arc-2.ensures in
    record {
      partial = path_passed r.partial (slice_index c.args.path.now (c.args.depth - 1)) (c.args.depth - 1) (omega arith) (omega (arith, b)) refl (r.partial.ahead (c.args.depth - 1) (omega (arith, n))) p.targets p.places p.ends;
      less = work_passed r.partial (slice_index c.args.path.now (c.args.depth - 1)) (c.args.depth - 1) (omega arith) (omega (arith, b)) refl (r.partial.ahead (c.args.depth - 1) (omega (arith, n))) p.targets p.places p.ends (omega arith);
      arcs = (path_passed r.partial (slice_index c.args.path.now (c.args.depth - 1)) (c.args.depth - 1) (omega arith) (omega (arith, b)) refl (r.partial.ahead (c.args.depth - 1) (omega (arith, n))) p.targets p.places p.ends).arcs;
    }

pub current_arc-requires-clause-arcs : goal.current_arc-requires-clause-arcs
current_arc-requires-clause-arcs g c =
    let arcs = c.args.arcs.now in
    let w = c.requires.partial.arcs in
    subst (λ (n : ℕ). AreArcs n arcs.targets.items arcs.places.items arcs.ends.items) (sym w.places_len) w

pub current_arc-requires-clause-from : goal.current_arc-requires-clause-from
current_arc-requires-clause-from g c =
    let inside = c.requires.partial.admissible.inside c.args.depth (omega arith) in
    omega (arith, inside, c.requires.partial.arcs.places_len)

pub retire_arc-requires-clause-arcs : goal.retire_arc-requires-clause-arcs
retire_arc-requires-clause-arcs g c =
    let arcs = c.args.arcs.now in
    let w = c.requires.partial.arcs in
    subst (λ (n : ℕ). AreArcs n arcs.targets.items arcs.places.items arcs.ends.items) (sym w.places_len) w

pub retire_arc-requires-clause-from : goal.retire_arc-requires-clause-from
retire_arc-requires-clause-from g c =
    let inside = c.requires.partial.admissible.inside c.args.depth (omega arith) in
    omega (arith, inside, c.requires.partial.arcs.places_len)

pub retire_arc-requires-2-clause-arcs : goal.retire_arc-requires-2-clause-arcs
retire_arc-requires-2-clause-arcs g c =
    let arcs = c.args.arcs.now in
    let w = c.requires.partial.arcs in
    subst (λ (n : ℕ). AreArcs n arcs.targets.items arcs.places.items arcs.ends.items) (sym w.places_len) w

pub retire_arc-requires-2-clause-from : goal.retire_arc-requires-2-clause-from
retire_arc-requires-2-clause-from g c =
    let inside = c.requires.partial.admissible.inside (c.args.depth - 1) (omega arith) in
    omega (arith, inside, c.requires.partial.arcs.places_len)

pub is_admissible-requires-clause-levels_len : goal.is_admissible-requires-clause-levels_len
is_admissible-requires-clause-levels_len g c = c.requires.partial.levels_len

pub is_admissible-requires-clause-from : goal.is_admissible-requires-clause-from
is_admissible-requires-clause-from g c = c.requires.partial.admissible.inside c.args.depth (omega arith)

pub is_admissible-requires-clause-to : goal.is_admissible-requires-clause-to
is_admissible-requires-clause-to g c = omega (arith, c.in-Some.ensures.inside, c.requires.partial.arcs.places_len)
