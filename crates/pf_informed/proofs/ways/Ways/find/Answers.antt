use Rattle.std.proofs.Common.{◌∙◌, sym, ap, arith, length, refl}
use Rattle.pf_informed.proofs.WaysLemmas.{some_wait, rising_last, branch_inside, left_dropped, kept_dropped, fewer_dropped, new_length, kept_same, left_same, whole, kept_opened, left_opened, fewer_opened}
use Rattle.pf_base.proofs.Outcomes.{if_refused, on_err, refused_as}
use Rattle.pf_informed.proofs.ways.Ways.find.Goals as goal

pub is_on_way-requires-clause-inside : goal.is_on_way-requires-clause-inside
is_on_way-requires-clause-inside g c =
    let i = c.branches.invariant in
    let s = c.in-Some.ensures in
    let a = rw s.1 at i.kept in
    omega (arith, a.wide, branch_inside _ _ _ _ s.0 c.in-Some.branch a)

pub is_on_way-requires-clause-depth : goal.is_on_way-requires-clause-depth
is_on_way-requires-clause-depth g c =
    let i = c.branches.invariant in
    let s = c.in-Some.ensures in
    let a = rw s.1 at i.kept in
    (rising_last _ _ s.0 c.in-Some.branch a.rising).1

pub branches-smaller-then-is_on_way : goal.branches-smaller-then-is_on_way
branches-smaller-then-is_on_way g c =
    let i = c.branches.invariant in
    let s = c.in-Some.ensures in
    let a = rw s.1 at i.kept in
    rw (s.1, c.drop_branch.ensures.waiting s.0 c.in-Some.branch s.1) (fewer_dropped _ _ _ _ s.0 c.in-Some.branch a)

pub branches-preserved-then-is_on_way : goal.branches-preserved-then-is_on_way
branches-preserved-then-is_on_way g c =
    let i = c.branches.invariant in
    let s = c.in-Some.ensures in
    let a = rw s.1 at i.kept in
    let left = rw s.1 at i.left in
    let d = c.drop_branch.ensures in
    let on = sym c.is_on_way.ensures ∙ c.if-is_on_way.true in
    record {
      some = λ none. absurd (some_wait s.0 c.in-Some.branch (sym s.1 ∙ i.some none));
      before = d.before ∙ i.before;
      kept = rw (d.way, d.places, d.waiting s.0 c.in-Some.branch s.1) (kept_dropped _ _ _ _ s.0 c.in-Some.branch a);
      left = rw (d.way, d.waiting s.0 c.in-Some.branch s.1) (left_dropped _ _ _ _ s.0 c.in-Some.branch a on ∙ left);
    }

pub enter-requires : goal.enter-requires
enter-requires g c =
    let i = c.branches.invariant in
    let s = c.in-Some.ensures in
    let a = rw s.1 at i.kept in
    record { inside = omega (arith, a.wide, branch_inside _ _ _ _ s.0 c.in-Some.branch a) }

pub open-requires-clause-inside : goal.open-requires-clause-inside
open-requires-clause-inside g c =
    let i = c.branches.invariant in
    let s = c.in-Some.ensures in
    let a = rw s.1 at i.kept in
    let e = c.in_ok-enter.ensures in
    omega (arith, ap length (e.before ∙ i.before), branch_inside _ _ _ _ s.0 c.in-Some.branch a)

pub open-requires-clause-few : goal.open-requires-clause-few
open-requires-clause-few g c =
    let i = c.branches.invariant in
    let s = c.in-Some.ensures in
    let a = rw s.1 at i.kept in
    let e = c.in_ok-enter.ensures in
    let off = sym c.is_on_way.ensures ∙ c.if-is_on_way.false in
    omega (arith, ap length e.way, new_length _ _ _ _ s.0 c.in-Some.branch a off)

pub branches-smaller : goal.branches-smaller
branches-smaller g c =
    let i = c.branches.invariant in
    let s = c.in-Some.ensures in
    let a = rw s.1 at i.kept in
    let e = c.in_ok-enter.ensures in
    let off = sym c.is_on_way.ensures ∙ c.if-is_on_way.false in
    let on = c.if-branch-eq0.false in
    let w = rw (e.before, i.before) at (c.in_ok-open.ensures.waiting s.0 (e.waiting ∙ s.1)) in
    rw (w, s.1) (fewer_opened _ _ _ _ s.0 c.in-Some.branch a off on)

pub branches-preserved : goal.branches-preserved
branches-preserved g c =
    let i = c.branches.invariant in
    let s = c.in-Some.ensures in
    let a = rw s.1 at i.kept in
    let left = rw s.1 at i.left in
    let e = c.in_ok-enter.ensures in
    let o = c.in_ok-open.ensures in
    let off = sym c.is_on_way.ensures ∙ c.if-is_on_way.false in
    let on = c.if-branch-eq0.false in
    let w = rw (e.before, i.before) at (o.waiting s.0 (e.waiting ∙ s.1)) in
    record {
      some = λ none. absurd (some_wait s.0 c.in-Some.branch (sym s.1 ∙ i.some none));
      before = o.before ∙ e.before ∙ i.before;
      kept = rw (o.way, o.places, e.way, e.places, w) (kept_opened _ _ _ _ s.0 c.in-Some.branch a off on);
      left = rw (o.way, e.way, w) (left_opened _ _ _ _ s.0 c.in-Some.branch a off on ∙ left);
    }

pub returns-then-branch-eq0 : goal.returns-then-branch-eq0
returns-then-branch-eq0 g c =
    let i = c.branches.invariant in
    let s = c.in-Some.ensures in
    let a = rw s.1 at i.kept in
    let left = rw s.1 at i.left in
    let e = c.in_ok-enter.ensures in
    let off = sym c.is_on_way.ensures ∙ c.if-is_on_way.false in
    let waiting = e.waiting ∙ s.1 in
    record {
      before = e.before ∙ i.before;
      kept = rw (e.way, e.places, waiting) (kept_same _ _ _ _ s.0 c.in-Some.branch a off);
      left = rw (e.way, waiting) (left_same _ _ _ _ s.0 c.in-Some.branch a off ∙ left);
      whole = rw (e.way, waiting) (whole _ _ _ _ s.0 c.in-Some.branch a off c.if-branch-eq0.true);
      idle = λ none. absurd (some_wait s.0 c.in-Some.branch (sym s.1 ∙ i.some none));
      waits = tt;
      refused = tt;
    }

pub returns-in_err-enter : goal.returns-in_err-enter
returns-in_err-enter g c =
    let i = c.branches.invariant in
    let s = c.in-Some.ensures in
    let e = c.in_err-enter.ensures in
    record {
      before = e.before ∙ i.before;
      kept = rw (e.stays.0, e.stays.1, e.waiting) i.kept;
      left = rw (e.stays.0, e.waiting) i.left;
      whole = if_refused _ c.from_residual.result _ c.from_residual.ensures.1;
      idle = λ none. absurd (some_wait s.0 c.in-Some.branch (sym s.1 ∙ i.some none));
      waits = on_err c.from_residual.result (λ none. some_wait s.0 c.in-Some.branch (sym (e.waiting ∙ s.1) ∙ none));
      refused = refused_as _ c.from_residual.result _ c.from_residual.ensures.1 e.refused;
    }

pub returns-in_err-open : goal.returns-in_err-open
returns-in_err-open g c =
    let i = c.branches.invariant in
    let s = c.in-Some.ensures in
    let a = rw s.1 at i.kept in
    let left = rw s.1 at i.left in
    let e = c.in_ok-enter.ensures in
    let o = c.in_err-open.ensures in
    let off = sym c.is_on_way.ensures ∙ c.if-is_on_way.false in
    let waiting = o.stays ∙ e.waiting ∙ s.1 in
    record {
      before = o.before ∙ e.before ∙ i.before;
      kept = rw (o.way ∙ e.way, o.places ∙ e.places, waiting) (kept_same _ _ _ _ s.0 c.in-Some.branch a off);
      left = rw (o.way ∙ e.way, waiting) (left_same _ _ _ _ s.0 c.in-Some.branch a off ∙ left);
      whole = if_refused _ c.from_residual-in_err-open.result _ c.from_residual-in_err-open.ensures.1;
      idle = λ none. absurd (some_wait s.0 c.in-Some.branch (sym s.1 ∙ i.some none));
      waits = on_err c.from_residual-in_err-open.result (λ none. some_wait s.0 c.in-Some.branch (sym waiting ∙ none));
      refused = refused_as _ c.from_residual-in_err-open.result _ c.from_residual-in_err-open.ensures.1 o.refused;
    }

pub returns : goal.returns
returns g c = record {
  before = c.branches.invariant.before;
  kept = c.branches.invariant.kept;
  left = c.branches.invariant.left;
  whole = c.in_default.ensures;
  idle = λ none. refl;
  waits = tt;
  refused = tt;
}

pub branches-init : goal.branches-init
branches-init g c = record { some = λ none. none; before = refl; kept = c.requires; left = refl }
