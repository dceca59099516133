use Rattle.pf_base.proofs.Outcomes.{on_refused, refused_as}
use Rattle.std.proofs.Common.{refl, arith, sym}
use Rattle.pf_informed.proofs.Bounds.{some_one}
use Rattle.pf_base.proofs.ListLemmas.{at_place}
use Rattle.pf_informed.proofs.search.Search.begin.Goals as goal

pub returns-in_err-reserve : goal.returns-in_err-reserve
returns-in_err-reserve g c = record {
  estimates = refl;
  labelled = on_refused _ c.from_residual.result _ c.from_residual.ensures.1;
  waiting = on_refused _ c.from_residual.result _ c.from_residual.ensures.1;
  refused = refused_as _ c.from_residual.result _ c.from_residual.ensures.1 c.in_err-reserve.ensures.refused;
}

pub returns-in_err-push : goal.returns-in_err-push
returns-in_err-push g c = record {
  estimates = refl;
  labelled = on_refused _ c.from_residual-in_err-push.result _ c.from_residual-in_err-push.ensures.1;
  waiting = on_refused _ c.from_residual-in_err-push.result _ c.from_residual-in_err-push.ensures.1;
  refused = refused_as _ c.from_residual-in_err-push.result _ c.from_residual-in_err-push.ensures.1 refl;
}

pub index-estimate-requires : goal.index-estimate-requires
index-estimate-requires g c = omega (arith, c.requires.estimated)

pub returns : goal.returns
returns g c = record {
  estimates = refl;
  labelled = rw (c.in_ok-push.ensures.items, c.requires.unlabelled, c.first.ensures, c.zero.ensures) refl;
  refused = tt;
  waiting =
      let h = c.index-estimate.result.now in
      (h, at_place c.args.self.now.estimates.items 0 h h (some_one _ c.requires.estimated) (sym c.index-estimate.ensures), c.known.ensures, rw (c.in_ok-reserve.ensures.entries, c.requires.nothing_waits) at c.push.ensures.added);
}
