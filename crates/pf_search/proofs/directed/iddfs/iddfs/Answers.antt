use Rattle.std.proofs.Common.{◌≡◌, [], ◌∷◌, length, arith, refl, sym, ◌∙◌, true≢false}
use Rattle.pf_search.specs.Internal.Deepening.{IsPathFrom}
use Rattle.pf_search.proofs.SimplePaths.{start_alone, fewest_of, none_of}
use Rattle.std.proofs.lemmas.Result.{IfOk-from_err}
use Rattle.pf_base.proofs.Outcomes.{refused_as}
use Rattle.pf_search.proofs.directed.iddfs.iddfs.Goals as goal

pub limits-init : goal.limits-init
limits-init g c = record {
  alone = rw c.new-path.ensures.items at c.in_ok-push.ensures.items;
  searched = λ next test s. (s, λ w low k. omega (arith, low));
}

pub deepen-requires : goal.deepen-requires
deepen-requires g c =
    let r = c.requires.graph in
    let v = c.limits.invariant in
    let s = r.2 in
    record { graph = (r.0, c.args.start ∷ [], r.1, (v.searched r.0 r.1 s).0, rw v.alone (start_alone g.N.PartialEq.eq g.met.N.Eq.laws r.0 c.args.start s.successors_answered.alike r.1 s.test_answered.alike)) }

pub limits-preserved : goal.limits-preserved
limits-preserved g c = record {
  alone =
      let r = c.requires.graph in
      let v = c.limits.invariant in
      let s = r.2 in
      let begins : IsPathFrom g.N.PartialEq.eq r.0 (c.args.start ∷ []) c.limits.path.items = rw v.alone (start_alone g.N.PartialEq.eq g.met.N.Eq.laws r.0 c.args.start s.successors_answered.alike r.1 s.test_answered.alike) in
      let missed = rw c.in-Missed-true.is at (c.in_ok-deepen.ensures.graph r.0 (c.args.start ∷ []) r.1 (v.searched r.0 r.1 s).0 begins) in
      missed.1.0 ∙ v.alone;
  searched = λ next test s.
      let eq = g.N.PartialEq.eq in
      let v = c.limits.invariant in
      let before = v.searched next test s in
      let begins : IsPathFrom eq next (c.args.start ∷ []) c.limits.path.items = rw v.alone (start_alone eq g.met.N.Eq.laws next c.args.start s.successors_answered.alike test s.test_answered.alike) in
      let missed = rw c.in-Missed-true.is at (c.in_ok-deepen.ensures.graph next (c.args.start ∷ []) test before.0 begins) in
      (missed.0, λ w low k. (rw v.alone at missed.1.1) w (λ e. omega (arith, low)) k);
}

pub returns-in_err-deepen : goal.returns-in_err-deepen
returns-in_err-deepen g c = record {
  best = λ _ _ _. IfOk-from_err _ _ c.from_residual-in_err-deepen.ensures.0;
  errors = refused_as _ c.from_residual-in_err-deepen.result c.in_err-deepen.field-0.0 c.from_residual-in_err-deepen.ensures.1 c.in_err-deepen.ensures.refused;
}

pub returns-in_err-push-clause-best : goal.returns-in_err-push-clause-best
returns-in_err-push-clause-best g c = λ _ _ _. IfOk-from_err _ _ c.from_residual.ensures.0

pub returns-in-Found : goal.returns-in-Found
returns-in-Found g c = record {
  best = λ next test s.
      let eq = g.N.PartialEq.eq in
      let laws = g.met.N.Eq.laws in
      let v = c.limits.invariant in
      let before = v.searched next test s in
      let begins : IsPathFrom eq next (c.args.start ∷ []) c.limits.path.items = rw v.alone (start_alone eq laws next c.args.start s.successors_answered.alike test s.test_answered.alike) in
      let found = rw c.in-Found.is at (c.in_ok-deepen.ensures.graph next (c.args.start ∷ []) test before.0 begins) in
      let one : length c.limits.path.items ≡ 1 = rw v.alone refl in
      fewest_of eq laws next c.args.start s.successors_answered.alike test s.test_answered.alike c.limits.steps c.deepen.new.path.items before.1 found.1.0 (omega (arith, found.1.1, one));
  errors = tt;
}

pub returns-in-Missed-false : goal.returns-in-Missed-false
returns-in-Missed-false g c = record {
  best = λ next test s.
      let eq = g.N.PartialEq.eq in
      let laws = g.met.N.Eq.laws in
      let v = c.limits.invariant in
      let before = v.searched next test s in
      let begins : IsPathFrom eq next (c.args.start ∷ []) c.limits.path.items = rw v.alone (start_alone eq laws next c.args.start s.successors_answered.alike test s.test_answered.alike) in
      let missed = rw c.in-Missed-false.is at (c.in_ok-deepen.ensures.graph next (c.args.start ∷ []) test before.0 begins) in
      none_of eq laws next c.args.start s.successors_answered.alike test s.test_answered.alike (λ w k. (rw v.alone at missed.1.1) w (λ e. absurd (true≢false (sym e ∙ c.in-Missed-false.cut-test))) k);
  errors = tt;
}

pub returns-clause-best : goal.returns-clause-best
returns-clause-best g c = λ _ _ _. tt
