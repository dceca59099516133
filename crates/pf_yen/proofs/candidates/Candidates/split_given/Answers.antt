use Rattle.std.proofs.Common.{◌≡◌, true, map, ◌++◌, Err, ap, refl, inl}
use Rattle.std.specs.BinaryHeap.{IsHeap, heap_items}
use Rattle.std.proofs.lemmas.List.{map-append}
use Rattle.std.proofs.lemmas.List.Sorted.{IsPermutation-map}
use Rattle.pf_base.proofs.ListLemmas.{Contains-head}
use Rattle.pf_yen.specs.Internal.Classes.{plan_of}
use Rattle.pf_yen.specs.Internal.Candidates.{as_list, chosen_plan, waiting_plans, last_given}
use Rattle.pf_yen.specs.Internal.PlanChanges.{first_cmp, GoesOn}
use Rattle.pf_yen.proofs.CandidateLemmas.{split_goes_on, no_change, given_due}
use Rattle.pf_yen.proofs.candidates.Candidates.split_given.Goals.{in-Some+in_ok-split+in_ok-append, in_default}
use Rattle.std.proofs.lemmas.Result.{IfOk-from_err}
use Rattle.pf_base.specs.declared.error.PathError.TheVariants.{OutOfMemory}
use Rattle.pf_base.proofs.Outcomes.{no_overflow, ok_is_no_error, overflow_kept, refused_as}
use Rattle.pf_yen.proofs.candidates.Candidates.split_given.Goals as goal

pub split-requires-clause-cheapest : goal.split-requires-clause-cheapest
split-requires-clause-cheapest g c = let p = c.requires.partition in let q = rw c.in-Some.is at p.1 in q.cheapest (plan_of c.in-Some.chosen) (Contains-head _ _)

pub split-requires-clause-whole : goal.split-requires-clause-whole
split-requires-clause-whole g c = c.requires.whole

pub split-requires-clause-some : goal.split-requires-clause-some
split-requires-clause-some g c = c.requires.some

pub returns-in_err-split : goal.returns-in_err-split
returns-in_err-split g c = record {
  errors = refused_as _ c.from_residual.result c.in_err-split.field-0.0 c.from_residual.ensures.1 c.in_err-split.ensures.errors;
  first = IfOk-from_err _ _ c.from_residual.ensures.0;
  goes_on = IfOk-from_err _ _ c.from_residual.ensures.0;
  is_given = IfOk-from_err _ _ c.from_residual.ensures.0;
  overflow = λ e. rw c.in-Some.is (c.in_err-split.ensures.overflow (ap Err (overflow_kept c.from_residual.result c.in_err-split.field-0.0 c.from_residual.ensures.1 e)));
  kept = refused_as _ c.from_residual.result c.in_err-split.field-0.0 c.from_residual.ensures.1 (refl, refl, refl);
  ordered = c.requires.ordered;
  due = refused_as _ c.from_residual.result c.in_err-split.field-0.0 c.from_residual.ensures.1 (given_due _ _ _ c.if-not-self.false c.in-Some.is);
  has_begun = refl;
}

pub returns-in_err-append : goal.returns-in_err-append
returns-in_err-append g c = record {
  first = IfOk-from_err _ _ c.from_residual-in_err-append.ensures.0;
  goes_on = IfOk-from_err _ _ c.from_residual-in_err-append.ensures.0;
  is_given = IfOk-from_err _ _ c.from_residual-in_err-append.ensures.0;
  errors = refused_as _ c.from_residual-in_err-append.result OutOfMemory c.from_residual-in_err-append.ensures.1 (inl refl);
  overflow = λ e. absurd (no_overflow c.from_residual-in_err-append.result OutOfMemory c.from_residual-in_err-append.ensures.1 refl e);
  due = refused_as _ c.from_residual-in_err-append.result OutOfMemory c.from_residual-in_err-append.ensures.1 (given_due _ _ _ c.if-not-self.false c.in-Some.is);
  kept = refused_as _ c.from_residual-in_err-append.result OutOfMemory c.from_residual-in_err-append.ensures.1 (refl, c.in_err-append.ensures.err.0, refl);
  ordered = rw c.in_err-append.ensures.err.0 c.requires.ordered;
  has_begun = refl;
}

pub returns-then-not-self : goal.returns-then-not-self
returns-then-not-self g c = record {
  errors = tt;
  overflow = λ e. absurd (ok_is_no_error _ _ _ refl e);
  kept = tt;
  due = tt;
  ordered = c.requires.ordered;
  has_begun = refl;
  goes_on = rw c.if-not-self.true (no_change g.C.Number.value c.args.adjacency.now _);
  first = λ f. rw c.if-not-self.true at f;
  is_given = c.if-not-self.true;
}

pub returns : goal.returns
returns g c = record {
  goes_on =
      let value = g.C.Number.value in
      let s = c.args.self.now in
      let t : s.is_given ≡ true = c.if-not-self.false in
      elim c.match-self.branch as (λ _. GoesOn value c.args.adjacency.now (as_list (chosen_plan s.chosen) ++ waiting_plans (heap_items s.waiting)) (waiting_plans (heap_items c.match-self.self.waiting)) (last_given s.is_given (chosen_plan s.chosen))) [
        | in-Some+in_ok-split+in_ok-append w ↦
            let made = w.from-plans.ensures in
            let m = IsPermutation-map plan_of _ (heap_items w.from-plans.result) made.1 in
            let both : map plan_of (heap_items s.waiting ++ heap_items w.from-plans.result) ≡ map plan_of (heap_items s.waiting) ++ map plan_of (heap_items w.from-plans.result) = map-append plan_of (heap_items s.waiting) (heap_items w.from-plans.result) in
            let n = rw both at (IsPermutation-map plan_of (heap_items s.waiting ++ heap_items w.from-plans.result) (heap_items w.append.new.self) w.in_ok-append.ensures.permutation) in
            rw (t, w.in-Some.is, w.self-is) (split_goes_on value c.args.adjacency.now c.requires.whole (plan_of w.in-Some.chosen) (map plan_of (heap_items s.waiting)) _ (map plan_of (heap_items w.from-plans.result)) (map plan_of (heap_items w.append.new.self)) w.in_ok-split.ensures.split m n)
        | in_default w ↦ rw (t, w.in_default.is, w.self-is) (no_change value c.args.adjacency.now (map plan_of (heap_items s.waiting)))
      ];
  errors = tt;
  overflow = λ e. absurd (ok_is_no_error _ _ _ refl e);
  kept = tt;
  due = tt;
  is_given = refl;
  has_begun =
      elim c.match-self.branch as (λ _. c.match-self.self.has_begun ≡ c.args.self.now.has_begun) [
        | in-Some+in_ok-split+in_ok-append w ↦ rw w.self-is refl
        | in_default w ↦ rw w.self-is refl
      ];
  first = λ _. tt;
  ordered =
      elim c.match-self.branch as (λ _. IsHeap (first_cmp g.C.Ord.cmp) (heap_items c.match-self.self.waiting)) [
        | in-Some+in_ok-split+in_ok-append w ↦ rw w.self-is (w.in_ok-append.ensures.heap_order c.requires.ordered)
        | in_default w ↦ rw w.self-is c.requires.ordered
      ];
}
