use Rattle.std.proofs.Common.{List, ◌≡◌, ◌∙◌, sym, subst, ap, refl, length, arith, true, [], ◌∷◌, ◌++◌, ◌-◌, ◌+◌, ◌<◌, inl, inr, length-append}
use Rattle.std.specs.Prelude.{◌⊎◌, Contains}
use Rattle.std.proofs.lemmas.List.Elements.{Contains-append_left}
use Rattle.std.proofs.lemmas.Result.{IfOk-from_err}
use Rattle.pf_base.specs.Regions.{along_successors}
use Rattle.pf_base.specs.Walks.{HasNode}
use Rattle.pf_search.specs.Internal.Deepening.{NoGoalBeyond}
use Rattle.pf_search.proofs.SimplePaths.{pushed_on, none_left, left_more, left_same, cut_back, deep_as, deep_short, some_step, no_longer, popped_less}
use Rattle.pf_base.proofs.Outcomes.{no_memory, refused_as}
use Rattle.pf_discovery.proofs.ResultLemmas.{when_true, when_false}
use Rattle.pf_search.proofs.directed.iddfs.+deepen.Goals as goal

pub end_passes-requires : goal.end_passes-requires
end_passes-requires g t c = let r = c.requires.graph in (r.0, r.1, r.2, r.3.test_answered, r.4)

pub answer_of-requires : goal.answer_of-requires
answer_of-requires g t c = let r = c.requires.graph in record { graph = (r.0, r.1, r.3.successors_answered, r.4) }

pub answer-init : goal.answer-init
answer-init g t c = record {
  below = λ y m. m;
  searched = λ next starts test s p. (
    refl {a = c.args.path.now.items},
    record { successors_answered = (c.in_ok-answer.ensures.graph next starts s.successors_answered p).0; test_answered = (c.end_passes.ensures next starts test s.test_answered p).0 },
    λ y m. inl m,
  );
}

pub deepen-requires : goal.deepen-requires
deepen-requires g t c κs within =
    let r = c.requires.graph in
    let eq = g.N.PartialEq.eq in
    let path = c.args.path.now.items in
    let follows = (c.in_ok-answer.ensures.graph r.0 r.1 r.3.successors_answered r.4).1 in
    let before = c.answer.invariant.searched r.0 r.1 r.2 r.3 r.4 in
    let on = pushed_on eq g.met.N.Eq.laws r.0 r.1 path c.answer.path.items c.deref.result.now c.push.new.self.items c.in_ok-answer.answer.items c.answer.answer.items c.pop.new.self.items c.in-Some.next r.4 follows c.answer.invariant.below c.in-Some.ensures.items before.0 c.deref.ensures.value c.if-not-contains.ensures.value c.in_ok-push.ensures.items in
    let lower : c.args.steps - 1 < t = omega (arith, c.if-steps-eq0.false, c.decreases) in
    (lower, (within.0, (within.1.0, (within.1.1.0, (within.1.1.1.0, (within.1.1.1.1.0, (within.1.1.1.1.1, (r.0, r.1, r.2, before.1, on.0))))))))

pub answer-preserved-then-not-contains : goal.answer-preserved-then-not-contains
answer-preserved-then-not-contains g t c = record {
  below = λ y m. c.answer.invariant.below y (subst (λ (ys : List g.row.N.Denot). Contains ys y) (sym c.in-Some.ensures.items) (Contains-append_left c.pop.new.self.items (c.in-Some.next ∷ []) y m));
  searched = λ next starts test s p.
      let eq = g.N.PartialEq.eq in
      let path = c.args.path.now.items in
      let follows = (c.in_ok-answer.ensures.graph next starts s.successors_answered p).1 in
      let before = c.answer.invariant.searched next starts test s p in
      let on = pushed_on eq g.met.N.Eq.laws next starts path c.answer.path.items c.deref.result.now c.push.new.self.items c.in_ok-answer.answer.items c.answer.answer.items c.pop.new.self.items c.in-Some.next p follows c.answer.invariant.below c.in-Some.ensures.items before.0 c.deref.ensures.value c.if-not-contains.ensures.value c.in_ok-push.ensures.items in
      let missed = c.in_ok-deepen.ensures.graph next starts test before.1 on.0 in
      let goes = deep_as eq next starts test (c.args.steps - 1) _ _ _ _ c.in-Missed.is missed.1 in (
        cut_back path c.push.new.self.items c.deepen.new.path.items c.truncate.new.self.items c.in-Some.next c.len-length.result on.1 goes.0 c.truncate.ensures.items (c.len-length.ensures ∙ c.args.path.now.ok.0),
        missed.0,
        left_more eq g.met.N.Eq.laws next starts test c.answer.cut (c.args.steps - 1) path c.in_ok-answer.answer.items c.answer.answer.items c.pop.new.self.items c.in-Some.next c.in-Some.ensures.items before.2 c.in-Missed.deeper c.push.new.self.items on.1 goes.1,
      );
}

pub answer-preserved : goal.answer-preserved
answer-preserved g t c = record {
  below = λ y m. c.answer.invariant.below y (subst (λ (ys : List g.row.N.Denot). Contains ys y) (sym c.in-Some.ensures.items) (Contains-append_left c.pop.new.self.items (c.in-Some.next ∷ []) y m));
  searched = λ next starts test s p.
      let before = c.answer.invariant.searched next starts test s p in (
        before.0,
        before.1,
        left_same g.N.PartialEq.eq g.met.N.Eq.laws next starts test c.answer.cut (c.args.steps - 1) c.args.path.now.items c.in_ok-answer.answer.items c.answer.answer.items c.pop.new.self.items c.in-Some.next c.in-Some.ensures.items before.2 c.answer.path.items c.deref.result.now before.0 c.deref.ensures.value c.if-not-contains.ensures.value,
      );
}

pub returns-in_err-answer : goal.returns-in_err-answer
returns-in_err-answer g t c = record {
  graph = λ _ _ _ _ _. IfOk-from_err _ _ c.from_residual.ensures.0;
  refused = refused_as _ c.from_residual.result c.in_err-answer.field-0.0 c.from_residual.ensures.1 c.in_err-answer.ensures.refused;
}

pub returns-in_err-deepen : goal.returns-in_err-deepen
returns-in_err-deepen g t c = record {
  graph = λ _ _ _ _ _. IfOk-from_err _ _ c.from_residual-in_err-deepen.ensures.0;
  refused = refused_as _ c.from_residual-in_err-deepen.result c.in_err-deepen.field-0.0 c.from_residual-in_err-deepen.ensures.1 c.in_err-deepen.ensures.refused;
}

pub returns-in_err-push : goal.returns-in_err-push
returns-in_err-push g t c = record {
  graph = λ _ _ _ _ _. IfOk-from_err _ _ c.from_residual-in_err-push.ensures.0;
  refused = no_memory c.from_residual-in_err-push.result c.from_residual-in_err-push.ensures.1;
}

pub returns-in-Found : goal.returns-in-Found
returns-in-Found g t c = record {
  graph = λ next starts test s p.
      let eq = g.N.PartialEq.eq in
      let path = c.args.path.now.items in
      let follows = (c.in_ok-answer.ensures.graph next starts s.successors_answered p).1 in
      let before = c.answer.invariant.searched next starts test s p in
      let on = pushed_on eq g.met.N.Eq.laws next starts path c.answer.path.items c.deref.result.now c.push.new.self.items c.in_ok-answer.answer.items c.answer.answer.items c.pop.new.self.items c.in-Some.next p follows c.answer.invariant.below c.in-Some.ensures.items before.0 c.deref.ensures.value c.if-not-contains.ensures.value c.in_ok-push.ensures.items in
      let found = c.in_ok-deepen.ensures.graph next starts test before.1 on.0 in
      let goes = deep_as eq next starts test (c.args.steps - 1) _ _ _ _ c.in-Found.is found.1 in
      let long : length c.push.new.self.items ≡ length path + 1 = ap length on.1 ∙ length-append path (c.in-Some.next ∷ []) in
      (found.0, (goes.0, deep_short _ _ _ _ goes.1 long c.if-steps-eq0.false));
  refused = tt;
}

pub returns : goal.returns
returns g t c = record {
  graph = λ next starts test s p.
      let eq = g.N.PartialEq.eq in
      let path = c.args.path.now.items in
      let told = (c.end_passes.ensures next starts test s.test_answered p).1 in
      let follows = (c.in_ok-answer.ensures.graph next starts s.successors_answered p).1 in
      let before = c.answer.invariant.searched next starts test s p in (
        before.1,
        (
          before.0,
          none_left eq g.met.N.Eq.laws next starts test (g.met.F.SuccessorFunction.alike_law c.args.successors.now starts next s.successors_answered) (g.met.T.NodeTest.alike_law c.args.success.now (along_successors starts next) test s.test_answered) c.answer.cut c.args.steps path c.in_ok-answer.answer.items c.if-steps-eq0.false p follows (rw c.if-end_passes.false at told)
              (λ y m. elim (before.2 y m) as (λ _. HasNode eq path y ⊎ NoGoalBeyond eq next starts test c.answer.cut (c.args.steps - 1) (path ++ y ∷ [])) [
                | inl k ↦ absurd (omega (arith, k.1, c.in_default.ensures.cases, c.answer.answer.ok))
                | inr k ↦ k
              ]),
        ),
      );
  refused = tt;
}

pub overflow_sub-steps : goal.overflow_sub-steps
overflow_sub-steps g t c = some_step c.args.steps c.if-steps-eq0.false

pub answer-smaller : goal.answer-smaller
answer-smaller g t c = popped_less c.answer.answer.items c.pop.new.self.items c.in-Some.next c.in-Some.ensures.items

pub answer-smaller-then-not-contains : goal.answer-smaller-then-not-contains
answer-smaller-then-not-contains g t c = popped_less c.answer.answer.items c.pop.new.self.items c.in-Some.next c.in-Some.ensures.items

pub returns-then-steps-eq0 : goal.returns-then-steps-eq0
returns-then-steps-eq0 g t c = record {
  graph = λ next starts test s p.
      let told = c.end_passes.ensures next starts test s.test_answered p in (
        record { successors_answered = s.successors_answered; test_answered = told.0 },
        (refl {a = c.args.path.now.items}, subst (λ n. NoGoalBeyond g.N.PartialEq.eq next starts test true n c.args.path.now.items) (sym c.if-steps-eq0.true) (when_false _ _ _ c.if-end_passes.false told.1)),
      );
  refused = tt;
}

pub returns-then-end_passes : goal.returns-then-end_passes
returns-then-end_passes g t c = record {
  graph = λ next starts test s p.
      let told = c.end_passes.ensures next starts test s.test_answered p in
      (record { successors_answered = s.successors_answered; test_answered = told.0 }, (when_true _ _ _ c.if-end_passes.true told.1, no_longer _ _));
  refused = tt;
}
