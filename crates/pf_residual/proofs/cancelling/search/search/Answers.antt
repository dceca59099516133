use Rattle.std.proofs.Common.{◌≡◌, ◌<◌, ◌∙◌, ℕ, List, Some, arith, length, sym, ap, subst, Vec}
use Rattle.std.specs.Prelude.{slice_get, replicate, Option, None}
use Rattle.std.proofs.lemmas.List.{length-set, length-replicate}
use Rattle.std.proofs.lemmas.Option.{slice_get_within}
use Rattle.std.proofs.lemmas.Result.{IfOk-from_err}
use Rattle.pf_base.proofs.ListLemmas.{at_place}
use Rattle.pf_residual.specs.Internal.Cancelling.{AreInside, IsReached, IsExpanded, Has}
use Rattle.pf_residual.proofs.SearchLemmas.{reached_begin, expanded_more, extends_back}
use Rattle.pf_base.proofs.Outcomes.{refused_as}
use Rattle.pf_residual.proofs.cancelling.search.search.Goals as goal

pub steps-init : goal.steps-init
steps-init g c =
    let b = c.in_ok-reached.ensures in
    let start = c.args.start in
    let size = c.len.result in
    let long : size ≡ length c.args.rows.now.items = omega (arith, c.len.ensures, c.args.rows.now.ok) in
    let inside : start < size = omega (arith, c.requires.start, long) in
    let steps = c.in_ok-reached.reached.steps.items in
    let made = reached_begin g.C.Number.value c.args.ends.now c.args.amounts.now size start steps b.first.0 inside b.first.1 b.first.2 in
    record {
      reached = subst (λ (ps : List (Option ℕ)). IsReached g.C.Number.value c.args.ends.now c.args.amounts.now start steps ps) (sym b.places) made;
      wide = ap length b.places ∙ length-set (replicate {A = Option ℕ} size None) start (Some 0) ∙ length-replicate {A = Option ℕ} size None ∙ long;
      expanded = λ i k s e l. absurd (omega (arith, l));
      within = omega arith;
    }

-- the step that is expanded, and that its vertex has a row
pub index-requires-in-steps : goal.index-requires-in-steps
index-requires-in-steps g c =
    let v = c.steps.invariant in
    let here : slice_get c.steps.reached.steps.items c.steps.at ≡ Some c.index.result.now = at_place c.steps.reached.steps.items c.steps.at _ _ (omega (arith, c.steps-test.true, c.len-in-steps.ensures, c.steps.reached.steps.ok)) (sym c.index.ensures) in
    let l = slice_get_within c.steps.reached.places.items c.index.result.now.vertex _ (v.reached.placed c.steps.at c.index.result.now here) in
    omega (arith, l, v.wide, c.args.rows.now.ok)

pub expand-requires-clause-row : goal.expand-requires-clause-row
expand-requires-clause-row g c =
    let v = c.steps.invariant in
    let s = c.index.result.now in
    let rows = c.args.rows.now.items in
    let here : slice_get c.steps.reached.steps.items c.steps.at ≡ Some s = at_place c.steps.reached.steps.items c.steps.at _ _ (omega (arith, c.steps-test.true, c.len-in-steps.ensures, c.steps.reached.steps.ok)) (sym c.index.ensures) in
    let l = slice_get_within c.steps.reached.places.items s.vertex _ (v.reached.placed c.steps.at s here) in
    let row : slice_get rows s.vertex ≡ Some c.index-in-steps.result.now = at_place rows s.vertex _ _ (omega (arith, l, v.wide)) (sym c.index-in-steps.ensures) in
    (s, here, λ k h. c.requires.rows.from s.vertex k c.index-in-steps.result.now row (subst (λ ks. Has ks k) c.deref.ensures.value h))

pub steps-preserved : goal.steps-preserved
steps-preserved g c =
    let v = c.steps.invariant in
    let e = c.in_ok-expand.ensures in
    let s = c.index.result.now in
    let rows = c.args.rows.now.items in
    let old = c.steps.reached in
    let new = c.expand.new.reached in
    let below : c.steps.at < length old.steps.items = omega (arith, c.steps-test.true, c.len-in-steps.ensures, old.steps.ok) in
    let here : slice_get old.steps.items c.steps.at ≡ Some s = at_place old.steps.items c.steps.at _ _ below (sym c.index.ensures) in
    let l = slice_get_within old.places.items s.vertex _ (v.reached.placed c.steps.at s here) in
    let row : slice_get rows s.vertex ≡ Some c.index-in-steps.result.now = at_place rows s.vertex _ _ (omega (arith, l, v.wide)) (sym c.index-in-steps.ensures) in
    record {
      reached = e.reached c.args.start v.reached;
      wide = e.extends.wide ∙ v.wide;
      expanded = expanded_more g.C.Number.value c.args.ends.now c.args.amounts.now c.steps.at old.steps.items old.places.items new.steps.items new.places.items s here e.extends
          (λ k a at from carries.
          let o = c.requires.rows.all k a at in
          let same : Some c.index-in-steps.result.now ≡ Some o.0 = sym row ∙ ap (slice_get rows) (sym from) ∙ o.1 in
          let r : c.index-in-steps.result.now ≡ o.0 = cc in
          e.expanded k a (subst (λ ks. Has ks k) (sym c.deref.ensures.value) (subst (λ (w : Vec ℕ g.row.A.Denot). Has w.items k) (sym r) o.2)) at carries)
          (λ i t m. extends_back old.steps.items old.places.items new.steps.items new.places.items e.extends i t (omega (arith, m, below)))
          v.expanded;
      within = let w = slice_get_within new.steps.items c.steps.at s (e.extends.step c.steps.at s here) in omega (arith, w);
    }

pub begin-requires : goal.begin-requires
begin-requires g c = omega (arith, c.requires.start, c.len.ensures, c.args.rows.now.ok)

pub index-requires : goal.index-requires
index-requires g c = omega (arith, c.steps-test.true, c.len-in-steps.ensures)

pub expand-requires-clause-start : goal.expand-requires-clause-start
expand-requires-clause-start g c = (c.args.start, c.steps.invariant.reached)

pub expand-requires-clause-long : goal.expand-requires-clause-long
expand-requires-clause-long g c = c.requires.long

pub expand-requires-clause-inside : goal.expand-requires-clause-inside
expand-requires-clause-inside g c = subst (λ n. AreInside n c.args.ends.now) (sym c.steps.invariant.wide) c.requires.inside

pub overflow_add-at : goal.overflow_add-at
overflow_add-at g c = omega (arith, c.steps-test.true, c.len-in-steps.type_inv)

pub steps-smaller : goal.steps-smaller
steps-smaller g c =
    let v = c.steps.invariant in
    omega (arith, c.steps-test.true, c.len-in-steps.ensures, c.steps.reached.steps.ok, v.reached.count, v.wide)

pub returns-clause-reached : goal.returns-clause-reached
returns-clause-reached g c = c.steps.invariant.reached

pub returns-clause-wide : goal.returns-clause-wide
returns-clause-wide g c = c.steps.invariant.wide

pub returns-clause-whole : goal.returns-clause-whole
returns-clause-whole g c =
    let at : c.steps.at ≡ length c.steps.reached.steps.items = omega (arith, c.steps-test.false, c.len-in-steps.ensures, c.steps.reached.steps.ok, c.steps.invariant.within) in
    subst (λ n. IsExpanded g.C.Number.value c.args.ends.now c.args.amounts.now n c.steps.reached.steps.items c.steps.reached.places.items) at c.steps.invariant.expanded

pub returns-in_err-reached : goal.returns-in_err-reached
returns-in_err-reached g c = record {
  reached = IfOk-from_err _ _ c.from_residual.ensures.0;
  wide = IfOk-from_err _ _ c.from_residual.ensures.0;
  whole = IfOk-from_err _ _ c.from_residual.ensures.0;
  refused = refused_as _ c.from_residual.result _ c.from_residual.ensures.1 c.in_err-reached.ensures.refused;
}

pub returns-in_err-expand : goal.returns-in_err-expand
returns-in_err-expand g c = record {
  reached = IfOk-from_err _ _ c.from_residual-in_err-expand.ensures.0;
  wide = IfOk-from_err _ _ c.from_residual-in_err-expand.ensures.0;
  whole = IfOk-from_err _ _ c.from_residual-in_err-expand.ensures.0;
  refused = refused_as _ c.from_residual-in_err-expand.result _ c.from_residual-in_err-expand.ensures.1 c.in_err-expand.ensures.refused;
}
