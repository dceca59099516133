use Rattle.std.proofs.Common.{◌≡◌, ◌∙◌, sym, ap, subst, length, arith, take, drop, map, ◌++◌, [], ◌∷◌, Err, List, ℕ, ◌<◌, ◌+◌, Some, inl, refl}
use Rattle.std.specs.Prelude.{slice_set, slice_index_or}
use Rattle.std.proofs.lemmas.List.{length-set, map-append}
use Rattle.pf_base.specs.declared.error.PathError.TheVariants.{CostOverflow, OutOfMemory}
use Rattle.pf_yen.specs.declared.candidate.Candidate.{Candidate}
use Rattle.pf_yen.specs.Internal.Classes.{plan_of}
use Rattle.pf_yen.specs.Internal.Splits.{IsFilteredTo, IsSplitUpTo}
use Rattle.pf_yen.proofs.SplitLemmas.{filtered_on, spent_on, prefix_of, begins_with, spur_inside, split_first, split_none, split_some, split_last, past_here}
use Rattle.pf_yen.proofs.classes.split_along.Goals.{in-Some+in_ok-push, in_default}
use Rattle.std.proofs.lemmas.Result.{IfOk-from_err}
use Rattle.pf_base.proofs.Outcomes.{no_overflow, ok_is_no_error, overflow_kept, refused_as}
use Rattle.pf_yen.proofs.classes.split_along.Goals as goal

pub places-init : goal.places-init
places-init g c =
    let r = c.requires in
    record {
      adjacency = refl;
      wide = r.wide;
      filtered = r.filtered;
      spent = r.spent;
      split =
          let b : c.add_all.new.self ≡ c.args.candidate.now.banned.items = c.in_ok-add_all.ensures.added ∙ c.deref.ensures.value in
          rw (b, r.empty) (split_first g.C.Number.value c.args.filtered.now.adjacency.now r.whole (plan_of c.args.candidate.now) r.cheapest);
    }

pub go_on-requires-clause-inside : goal.go_on-requires-clause-inside
go_on-requires-clause-inside g c =
    let i = c.places.invariant in
    let e = c.in_ok-plan.ensures in
    rw (e.onward, e.spur) (spur_inside c.args.filtered.now.adjacency.now c.places.filtered.onward.items c.places.filtered.spur _ i.filtered)

pub go_on-requires-clause-wide : goal.go_on-requires-clause-wide
go_on-requires-clause-wide g c =
    let i = c.places.invariant in
    let e = c.in_ok-plan.ensures in
    rw (e.onward, e.adjacency, i.adjacency) i.wide

pub places-preserved : goal.places-preserved
places-preserved g c =
    let value = g.C.Number.value in
    let i = c.places.invariant in
    let e = c.in_ok-plan.ensures in
    let o = c.go_on.ensures in
    let s = c.places.filtered in
    let h = c.requires.cheapest in
    let n = c.index-next.result.now in
    let at : n ≡ slice_index_or c.args.candidate.now.path.items (c.places.place + 1) n = c.index-next.ensures in
    let inside : c.places.place + 1 < length c.args.candidate.now.path.items = omega (arith, c.len-place-end.ensures, c.places-test.true) in
    let banned : c.add.new.self ≡ s.banned ++ slice_index_or c.args.candidate.now.path.items (c.places.place + 1) n ∷ [] = c.in_ok-add.ensures.added ∙ ap (λ (m : ℕ). s.banned ++ m ∷ []) at in
    record {
      adjacency = o.adjacency ∙ e.adjacency ∙ i.adjacency;
      wide = ap length o.onward ∙ length-set _ _ _ ∙ ap length e.onward ∙ i.wide;
      filtered = rw (o.onward, o.spur, e.onward, e.spur) (subst (λ (m : ℕ). IsFilteredTo c.args.filtered.now.adjacency.now (slice_set s.onward.items s.spur (Some m)) m (take (c.places.place + 1) (drop 1 c.args.candidate.now.path.items))) (sym at)
          (filtered_on value c.args.filtered.now.adjacency.now c.requires.whole c.args.candidate.now.path.items (value c.args.candidate.now.cost) c.places.place n s.onward.items s.spur h.clean inside i.wide i.filtered));
      spent =
          let on = rw (e.adjacency, i.adjacency, e.spent, e.spur) at o.spent in
          spent_on value c.args.filtered.now.adjacency.now c.requires.whole c.args.candidate.now.path.items (value c.args.candidate.now.cost) c.places.place n s.onward.items s.spur h.clean inside i.filtered s.spent c.go_on.new.self.spent (rw at at on) i.spent;
      split = rw (o.banned, e.banned) (elim c.match-branch-4.branch as (λ _. IsSplitUpTo value c.args.filtered.now.adjacency.now (plan_of c.args.candidate.now) (c.places.place + 1) [] (map plan_of c.match-branch-4.plans.items)) [
        | in-Some+in_ok-push w ↦
            let b = rw (w.in-Some.is, c.deref-in-places.ensures.value) at e.least in
            let p = rw w.in-Some.is at e.parts in
            let m = ap (λ (v : List (Candidate g.row.C.Denot g.row.A.Denot)). map plan_of v) (ap (λ x. x.items) w.plans-is ∙ w.in_ok-push.ensures.items) ∙ map-append plan_of c.places.plans.items (w.in-Some.plan ∷ []) in
            rw m (split_some value c.args.filtered.now.adjacency.now c.requires.whole (plan_of c.args.candidate.now) h c.places.place n s.banned (map plan_of c.places.plans.items) i.split inside (plan_of w.in-Some.plan)
            (rw (i.adjacency, banned) at b) p.0 (p.1 ∙ banned))
        | in_default w ↦
            let b = rw (w.in_default.is, c.deref-in-places.ensures.value) at e.least in
            let m = ap (λ x. x.items) w.plans-is in
            rw m (split_none value c.args.filtered.now.adjacency.now c.requires.whole (plan_of c.args.candidate.now) h c.places.place n s.banned (map plan_of c.places.plans.items) i.split inside (rw (i.adjacency, banned) at b))
      ]);
    }

pub returns-in_err-plan : goal.returns-in_err-plan
returns-in_err-plan g c = record {
  overflow = λ x.
      let value = g.C.Number.value in
      let i = c.places.invariant in
      let s = c.places.filtered in
      let f : c.in_err-plan.field-0.0 ≡ CostOverflow = overflow_kept c.from_residual-in_err-plan.result c.in_err-plan.field-0.0 c.from_residual-in_err-plan.ensures.1 x in
      let n = c.index-next.result.now in
      let at : n ≡ slice_index_or c.args.candidate.now.path.items (c.places.place + 1) n = c.index-next.ensures in
      let inside : c.places.place + 1 < length c.args.candidate.now.path.items = omega (arith, c.len-place-end.ensures, c.places-test.true) in
      let banned : c.add.new.self ≡ s.banned ++ slice_index_or c.args.candidate.now.path.items (c.places.place + 1) n ∷ [] = c.in_ok-add.ensures.added ∙ ap (λ (m : ℕ). s.banned ++ m ∷ []) at in
      let exact = g.met.C.Integral.exact_law in
      past_here value c.args.filtered.now.adjacency.now c.requires.whole (plan_of c.args.candidate.now) c.requires.cheapest c.places.place n s.banned (map plan_of c.places.plans.items) i.split inside
      g.C.Number.fits (λ a b d. g.C.Number.between_law a b d exact) (g.met.C.Zero.zero_fits_law exact) c.known.ensures s.onward.items s.spur i.filtered (length c.args.filtered.now.adjacency.now.rows) c.requires.some
      (rw (i.adjacency, banned) at (c.in_err-plan.ensures.overflow (ap Err f)));
  errors = refused_as _ c.from_residual-in_err-plan.result c.in_err-plan.field-0.0 c.from_residual-in_err-plan.ensures.1 c.in_err-plan.ensures.errors;
  split = IfOk-from_err _ _ c.from_residual-in_err-plan.ensures.0;
}

pub returns : goal.returns
returns g c = record {
  split =
      let i = c.places.invariant in
      split_last g.C.Number.value c.args.filtered.now.adjacency.now c.requires.whole (plan_of c.args.candidate.now) c.requires.cheapest c.places.place c.places.filtered.banned (map plan_of c.places.plans.items) i.split
      (omega (arith, c.len-place-end.ensures, c.places-test.false));
  errors = tt;
  overflow = λ e. absurd (ok_is_no_error _ _ _ refl e);
}

pub returns-in_err-add_all : goal.returns-in_err-add_all
returns-in_err-add_all g c = record {
  split = IfOk-from_err _ _ c.from_residual.ensures.0;
  errors = refused_as _ c.from_residual.result c.in_err-add_all.field-0.0 c.from_residual.ensures.1 (inl c.in_err-add_all.ensures.refused);
  overflow = λ e. absurd (no_overflow c.from_residual.result c.in_err-add_all.field-0.0 c.from_residual.ensures.1 c.in_err-add_all.ensures.refused e);
}

pub returns-in_err-add : goal.returns-in_err-add
returns-in_err-add g c = record {
  split = IfOk-from_err _ _ c.from_residual-in_err-add.ensures.0;
  errors = refused_as _ c.from_residual-in_err-add.result c.in_err-add.field-0.0 c.from_residual-in_err-add.ensures.1 (inl c.in_err-add.ensures.refused);
  overflow = λ e. absurd (no_overflow c.from_residual-in_err-add.result c.in_err-add.field-0.0 c.from_residual-in_err-add.ensures.1 c.in_err-add.ensures.refused e);
}

pub returns-in_err-push : goal.returns-in_err-push
returns-in_err-push g c = record {
  split = IfOk-from_err _ _ c.from_residual-in_err-push.ensures.0;
  errors = refused_as _ c.from_residual-in_err-push.result OutOfMemory c.from_residual-in_err-push.ensures.1 (inl refl);
  overflow = λ e. absurd (no_overflow c.from_residual-in_err-push.result OutOfMemory c.from_residual-in_err-push.ensures.1 refl e);
}

pub least_behind-requires-clause-whole : goal.least_behind-requires-clause-whole
least_behind-requires-clause-whole g c = rw c.places.invariant.adjacency c.requires.whole

pub least_behind-requires-clause-some : goal.least_behind-requires-clause-some
least_behind-requires-clause-some g c = rw c.places.invariant.adjacency c.requires.some

pub least_behind-requires-clause-wide : goal.least_behind-requires-clause-wide
least_behind-requires-clause-wide g c = rw c.places.invariant.adjacency c.places.invariant.wide

pub least_behind-requires-clause-begins : goal.least_behind-requires-clause-begins
least_behind-requires-clause-begins g c = rw c.deref-in-places.ensures.value (begins_with g.C.Number.value c.args.filtered.now.adjacency.now c.requires.whole c.args.candidate.now.path.items (g.C.Number.value c.args.candidate.now.cost) c.places.place c.requires.cheapest.clean)

pub least_behind-requires-clause-inside : goal.least_behind-requires-clause-inside
least_behind-requires-clause-inside g c = rw c.deref-in-places.ensures.value (omega (arith, c.len-place-end.ensures, c.places-test.true))

pub least_behind-requires-clause-prefix : goal.least_behind-requires-clause-prefix
least_behind-requires-clause-prefix g c =
    let i = c.places.invariant in
    let s = c.places.filtered in
    rw (c.deref-in-places.ensures.value, i.adjacency) (prefix_of g.C.Number.value c.args.filtered.now.adjacency.now c.requires.whole c.args.candidate.now.path.items (g.C.Number.value c.args.candidate.now.cost) c.places.place s.onward.items s.spur s.spent c.requires.cheapest.clean
    (omega (arith, c.len-place-end.ensures, c.places-test.true)) i.filtered i.spent)
