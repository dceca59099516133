use Rattle.std.proofs.Common.{◌≡◌, ◌∙◌, pos, false, inl, refl}
use Rattle.pf_core.specs.declared.labels.Label.{Label}
use Rattle.pf_both_ends.proofs.BothEndsTurns.{ends_begun}
use Rattle.pf_base.proofs.Outcomes.{if_refused, no_overflow, refused_as}
use Rattle.pf_both_ends.proofs.discovered.cheapest_path.Goals as goal

pub returns-in_err-forth-clause-best : goal.returns-in_err-forth-clause-best
returns-in_err-forth-clause-best g c = λ edges previous start end x y ends. (
  if_refused _ c.from_residual.result c.in_err-forth.field-0.0 c.from_residual.ensures.1,
  λ e. absurd (no_overflow c.from_residual.result c.in_err-forth.field-0.0 c.from_residual.ensures.1 c.in_err-forth.ensures.refused e),
)

pub returns-in_err-forth-clause-errors : goal.returns-in_err-forth-clause-errors
returns-in_err-forth-clause-errors g c = refused_as _ c.from_residual.result c.in_err-forth.field-0.0 c.from_residual.ensures.1 (inl c.in_err-forth.ensures.refused)

pub returns-in_err-back-clause-best : goal.returns-in_err-back-clause-best
returns-in_err-back-clause-best g c = λ edges previous start end x y ends. (
  if_refused _ c.from_residual-in_err-back.result c.in_err-back.field-0.0 c.from_residual-in_err-back.ensures.1,
  λ e. absurd (no_overflow c.from_residual-in_err-back.result c.in_err-back.field-0.0 c.from_residual-in_err-back.ensures.1 c.in_err-back.ensures.refused e),
)

pub returns-in_err-back-clause-errors : goal.returns-in_err-back-clause-errors
returns-in_err-back-clause-errors g c = refused_as _ c.from_residual-in_err-back.result c.in_err-back.field-0.0 c.from_residual-in_err-back.ensures.1 (inl c.in_err-back.ensures.refused)

pub path_across-requires-clause-sound : goal.path_across-requires-clause-sound
path_across-requires-clause-sound g c = record {
  forth = c.in_ok-forth.ensures.sound;
  back = c.in_ok-back.ensures.sound;
  wide_forth = c.in_ok-forth.ensures.wide ∙ c.len.ensures.len;
  wide_back = c.in_ok-back.ensures.wide ∙ c.len-2.ensures.len;
}

pub path_across-requires-clause-pair : goal.path_across-requires-clause-pair
path_across-requires-clause-pair g c =
    let r = c.requires.ends in
    let first : Label g.row.C.Denot = record { cost = g.C.Zero.zero; parent = 0; depth = 0; settled = false } in
    let nothing : g.C.Number.value g.C.Zero.zero ≡ pos 0 = g.met.C.Zero.zero_law g.met.C.Integral.exact_law in
    let x = r.4 in
    let y = r.5 in
    let b = c.in_ok-forth.ensures in
    let b' = c.in_ok-back.ensures in
    (r.0, r.1, r.2, r.3, x, y, ends_begun g.N.PartialEq.eq g.met.N.Eq.laws g.C.Number.value g.C.Number.fits r.0 r.1 r.2 r.3 _ _ _ _ _ first refl refl nothing x.alike y.alike x.distinct y.distinct b.first b'.first b.only b'.only b.sound.tree b'.sound.tree r.6)

pub returns : goal.returns
returns g c = record {
  best = λ edges previous start end x y ends.
      let first : Label g.row.C.Denot = record { cost = g.C.Zero.zero; parent = 0; depth = 0; settled = false } in
      let nothing : g.C.Number.value g.C.Zero.zero ≡ pos 0 = g.met.C.Zero.zero_law g.met.C.Integral.exact_law in
      let b = c.in_ok-forth.ensures in
      let b' = c.in_ok-back.ensures in
      c.path_across.ensures.best edges previous start end x y (ends_begun g.N.PartialEq.eq g.met.N.Eq.laws g.C.Number.value g.C.Number.fits edges previous start end _ _ _ _ _ first refl refl nothing x.alike y.alike x.distinct y.distinct b.first b'.first b.only b'.only b.sound.tree b'.sound.tree ends);
  errors = c.path_across.ensures.errors;
}

pub path_across-requires-clause-clones : goal.path_across-requires-clause-clones
path_across-requires-clause-clones g c = c.requires.clones
