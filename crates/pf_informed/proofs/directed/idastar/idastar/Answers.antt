use Rattle.std.proofs.Common.{inl, refl}
use Rattle.pf_informed.proofs.LedLemmas.{led_begin}
use Rattle.pf_base.proofs.Outcomes.{if_refused, no_overflow, refused_as}
use Rattle.pf_informed.proofs.directed.idastar.idastar.Goals as goal

pub idastar_of-requires-clause-graph : goal.idastar_of-requires-clause-graph
idastar_of-requires-clause-graph g c =
    let r = c.requires.graph in
    let found = c.in_ok-clone_of.ensures in
    let laws = g.met.N.Eq.laws in
    let start = c.args.start.now in
    (start, r.0, r.1, r.2, (found.begins start).1 (laws.refl start), led_begin laws found.distinct found.same refl r.3)

pub returns : goal.returns
returns g c = record {
  best = λ edges test least s.
      let found = c.in_ok-clone_of.ensures in
      let laws = g.met.N.Eq.laws in
      let start = c.args.start.now in
      c.idastar_of.ensures.best start edges test least ((found.begins start).1 (laws.refl start)) (led_begin laws found.distinct found.same refl s);
  overflow = λ edges test least s.
      let found = c.in_ok-clone_of.ensures in
      let laws = g.met.N.Eq.laws in
      let start = c.args.start.now in
      c.idastar_of.ensures.overflow start edges test least ((found.begins start).1 (laws.refl start)) (led_begin laws found.distinct found.same refl s);
  errors = c.idastar_of.ensures.errors;
}

pub returns-in_err-clone_of : goal.returns-in_err-clone_of
returns-in_err-clone_of g c = record {
  best = λ edges test least s. if_refused _ c.from_residual.result _ c.from_residual.ensures.1;
  overflow = λ edges test least s e. absurd (no_overflow c.from_residual.result _ c.from_residual.ensures.1 c.in_err-clone_of.ensures.refused e);
  errors = refused_as _ c.from_residual.result _ c.from_residual.ensures.1 (inl c.in_err-clone_of.ensures.refused);
}

pub idastar_of-requires-clause-clones : goal.idastar_of-requires-clause-clones
idastar_of-requires-clause-clones g c = c.requires.clones

pub idastar_of-requires-clause-one : goal.idastar_of-requires-clause-one
idastar_of-requires-clause-one g c = c.in_ok-clone_of.ensures.one
