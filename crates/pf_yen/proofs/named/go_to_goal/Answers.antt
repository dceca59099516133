use Rattle.std.proofs.Common.{◌∙◌, refl, sym, ap, subst, ℕ, List, true≢false, arith}
use Rattle.std.specs.Prelude.{◌≤ℤ◌}
use Rattle.std.specs.Ordering.{is_some_and, is_lt}
use Rattle.std.proofs.lemmas.Result.{IfOk-from_err}
use Rattle.pf_base.specs.declared.error.PathError.TheVariants.{OutOfMemory}
use Rattle.pf_base.proofs.ListLemmas.{lt_means}
use Rattle.pf_base.proofs.Outcomes.{refused_as}
use Rattle.pf_yen.specs.Internal.NamedWays.{IsWaySoFar}
use Rattle.pf_yen.proofs.NamedLemmas.{not_less, way_on}
use Rattle.pf_yen.proofs.named.go_to_goal.Goals as goal

pub steps-init : goal.steps-init
steps-init g c = record {
  inside = c.requires.inside;
  way = λ q total w. rw (c.in_ok-push.ensures.items, c.in_ok-extend_from_slice.ensures.items) w;
}

pub steps-preserved : goal.steps-preserved
steps-preserved g c =
    let value = g.C.Number.value in
    let s = c.args.filtered.now in
    let k = s.adjacency.now in
    let n = rw c.in-Some.is at c.step_on.ensures in
    record {
      inside = c.requires.whole.inside c.steps.number c.in-Some.step.0 n.price n.edge;
      way = λ q total w. (subst (λ (v : List ℕ). IsWaySoFar value k s.onward.items s.spur q s.banned c.args.costs.now total v c.in-Some.step.0 c.in-Some.step.1) (sym c.in_ok-push-2.ensures.items)
          (way_on value k c.requires.whole c.args.costs.now s.onward.items s.spur q s.banned total c.steps.path.items c.steps.number c.in-Some.step.0 c.steps.here c.in-Some.step.1 n (c.steps.invariant.way q total w)));
    }

pub returns-clause-goal : goal.returns-clause-goal
returns-clause-goal g c = λ found q total w.
    let value = g.C.Number.value in
    let o = g.met.C.Number.order_law c.steps.here c.zero.result g.met.C.Integral.exact_law in
    let low = not_less c.lt.result (value c.steps.here) (value c.zero.result) (lt_means (value c.steps.here) (value c.zero.result) c.lt.result (c.lt.ensures ∙ ap (is_some_and is_lt) o)) found in
    (c.steps.number, c.steps.here, c.steps.invariant.way q total w, sym c.is_goal.ensures ∙ c.steps-test.false, subst (λ (z : _). value z ≤ℤ value c.steps.here) c.zero.ensures low)

pub returns-clause-refused : goal.returns-clause-refused
returns-clause-refused g c = tt

pub returns-in_err-extend_from_slice : goal.returns-in_err-extend_from_slice
returns-in_err-extend_from_slice g c = record {
  goal = IfOk-from_err _ _ c.from_residual.ensures.0;
  refused = refused_as _ c.from_residual.result OutOfMemory c.from_residual.ensures.1 refl;
}

pub returns-in_err-push : goal.returns-in_err-push
returns-in_err-push g c = record {
  goal = IfOk-from_err _ _ c.from_residual-in_err-push.ensures.0;
  refused = refused_as _ c.from_residual-in_err-push.result OutOfMemory c.from_residual-in_err-push.ensures.1 refl;
}

pub returns-in_err-push-2 : goal.returns-in_err-push-2
returns-in_err-push-2 g c = record {
  goal = IfOk-from_err _ _ c.from_residual-in_err-push-2.ensures.0;
  refused = refused_as _ c.from_residual-in_err-push-2.result OutOfMemory c.from_residual-in_err-push-2.ensures.1 refl;
}

pub returns-in_default : goal.returns-in_default
returns-in_default g c = record { goal = λ t. absurd (true≢false (sym t)); refused = tt }

pub is_goal-requires : goal.is_goal-requires
is_goal-requires g c = c.steps.invariant.inside

pub step_on-requires-clause-whole : goal.step_on-requires-clause-whole
step_on-requires-clause-whole g c = c.requires.whole

pub step_on-requires-clause-wide : goal.step_on-requires-clause-wide
step_on-requires-clause-wide g c = c.requires.wide

pub step_on-requires-clause-inside : goal.step_on-requires-clause-inside
step_on-requires-clause-inside g c = c.steps.invariant.inside

pub steps-smaller : goal.steps-smaller
steps-smaller g c = omega (arith, c.in_ok-push-2.ensures.len, c.push-in-steps.new.self.ok, c.push-in-steps.new.self.small, c.steps.path.ok)
