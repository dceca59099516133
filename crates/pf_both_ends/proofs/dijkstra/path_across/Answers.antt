use Rattle.std.proofs.Common.{pos, Err, List, [], ◌∷◌, refl, sym, ap, subst, inl, inr}
use Rattle.std.specs.Prelude.{◌≤ℤ◌}
use Rattle.pf_base.specs.Edges.{IsCheapestGoalPath}
use Rattle.pf_both_ends.proofs.BothEndsLemmas.{labelled_node}
use Rattle.pf_both_ends.proofs.BothEndsPaths.{no_walk_across, joined_halves}
use Rattle.pf_base.proofs.Outcomes.{if_refused, no_overflow, ok_is_no_error, overflow_kept, refused_as}
use Rattle.pf_discovery.proofs.ResultLemmas.{when_some, when_none, if_some}
use Rattle.pf_both_ends.proofs.dijkstra.path_across.Goals as goal

pub returns-in_err-best_meeting-clause-best : goal.returns-in_err-best_meeting-clause-best
returns-in_err-best_meeting-clause-best g c = λ edges previous start end x y p. (
  if_refused _ c.from_residual.result c.in_err-best_meeting.field-0.0 c.from_residual.ensures.1,
  λ e. (c.in_err-best_meeting.ensures.best edges previous start end x y p).1 (ap Err (overflow_kept c.from_residual.result c.in_err-best_meeting.field-0.0 c.from_residual.ensures.1 e)),
)

pub returns-in_err-best_meeting-clause-errors : goal.returns-in_err-best_meeting-clause-errors
returns-in_err-best_meeting-clause-errors g c = refused_as _ c.from_residual.result c.in_err-best_meeting.field-0.0 c.from_residual.ensures.1 c.in_err-best_meeting.ensures.errors

pub path_through-requires-clause-trees : goal.path_through-requires-clause-trees
path_through-requires-clause-trees g c = (c.in_ok-best_meeting.ensures.sound.forth.tree, c.in_ok-best_meeting.ensures.sound.back.tree)

pub path_through-requires-clause-wide_forth : goal.path_through-requires-clause-wide_forth
path_through-requires-clause-wide_forth g c = c.in_ok-best_meeting.ensures.sound.wide_forth

pub path_through-requires-clause-wide_back : goal.path_through-requires-clause-wide_back
path_through-requires-clause-wide_back g c = c.in_ok-best_meeting.ensures.sound.wide_back

pub path_through-requires-clause-meets : goal.path_through-requires-clause-meets
path_through-requires-clause-meets g c =
    let r = c.requires.pair in
    if_some _ _ _ c.in-Some.is (c.in_ok-best_meeting.ensures.best r.0 r.1 r.2 r.3 r.4 r.5 r.6).0.1

pub path_through-requires-clause-one : goal.path_through-requires-clause-one
path_through-requires-clause-one g c =
    let r = c.requires.pair in
    let q = (c.in_ok-best_meeting.ensures.best r.0 r.1 r.2 r.3 r.4 r.5 r.6).0.0 in
    (q.back).one

pub path_through-requires-clause-costs : goal.path_through-requires-clause-costs
path_through-requires-clause-costs g c = λ k l h.
    let r = c.requires.pair in
    let eq = g.N.PartialEq.eq in
    let laws = g.met.N.Eq.laws in
    let value = g.C.Number.value in
    let fits = g.C.Number.fits in
    let q = (c.in_ok-best_meeting.ensures.best r.0 r.1 r.2 r.3 r.4 r.5 r.6).0.0 in
    elim h as (λ _. pos 0 ≤ℤ value l.cost) [
      | inl f ↦ (labelled_node eq laws value fits r.0 r.2 _ _ q.forth k l f).3
      | inr f ↦ (labelled_node eq laws value fits r.1 r.3 _ _ q.back k l f).3
    ]

pub returns-in_err-path-in-Some-clause-best : goal.returns-in_err-path-in-Some-clause-best
returns-in_err-path-in-Some-clause-best g c = λ edges previous start end x y p. (
  if_refused _ c.from_residual-in_err-path-in-Some.result c.in_err-path-in-Some.field-0.0 c.from_residual-in_err-path-in-Some.ensures.1,
  λ e. absurd (no_overflow c.from_residual-in_err-path-in-Some.result c.in_err-path-in-Some.field-0.0 c.from_residual-in_err-path-in-Some.ensures.1 c.in_err-path-in-Some.ensures.refused e),
)

pub returns-in_err-path-in-Some-clause-errors : goal.returns-in_err-path-in-Some-clause-errors
returns-in_err-path-in-Some-clause-errors g c = refused_as _ c.from_residual-in_err-path-in-Some.result c.in_err-path-in-Some.field-0.0 c.from_residual-in_err-path-in-Some.ensures.1 (inl c.in_err-path-in-Some.ensures.refused)

pub path_through-requires-clause-clones : goal.path_through-requires-clause-clones
path_through-requires-clause-clones g c = c.requires.clones

pub returns-in-None : goal.returns-in-None
returns-in-None g c = record {
  best = λ edges previous start end x y p.
      let q = (c.in_ok-best_meeting.ensures.best edges previous start end x y p).0 in
      (no_walk_across g.N.PartialEq.eq g.met.N.Eq.laws g.C.Number.value g.C.Number.fits edges start _ _ (q.0).forth end (when_none _ _ _ c.in-None.is q.2), λ e. absurd (ok_is_no_error _ _ _ refl e));
  errors = tt;
}

pub returns-in_ok-path-in-Some : goal.returns-in_ok-path-in-Some
returns-in_ok-path-in-Some g c = record {
  best = λ edges previous start end x y p.
      let q = (c.in_ok-best_meeting.ensures.best edges previous start end x y p).0 in
      let w = c.in_ok-path-in-Some.ensures.path in
      (subst (λ (xs : List g.row.N.Denot). IsCheapestGoalPath g.N.PartialEq.eq edges (start ∷ []) (g.N.PartialEq.eq end) xs (g.C.Number.value c.in-Some.meeting.cost)) (sym w.7) (joined_halves g.N.PartialEq.eq g.met.N.Eq.laws g.C.Number.value g.C.Number.fits edges previous start end _ _ _ _ _ q.0 (g.C.Number.value c.in-Some.meeting.cost) w.0 w.1 w.4 (when_some _ _ _ _ c.in-Some.is q.2) w.2 w.3 w.5 w.6), λ e. absurd (ok_is_no_error _ _ _ refl e));
  errors = tt;
}

pub best_meeting-requires-clause-sound : goal.best_meeting-requires-clause-sound
best_meeting-requires-clause-sound g c = c.requires.sound

pub best_meeting-requires-clause-pair : goal.best_meeting-requires-clause-pair
best_meeting-requires-clause-pair g c = c.requires.pair
