use Rattle.std.proofs.Common.{◌≡◌, refl, sym, ap, subst, Err, length, ◌∙◌}
use Rattle.pf_base.specs.declared.error.PathError.TheVariants.{CostOverflow}
use Rattle.pf_core.specs.Steps.{NumberedOverflows}
use Rattle.pf_yen.specs.Internal.Adjacency.{AdjacencyLists, is_goal}
use Rattle.pf_yen.specs.Internal.Filtered.{FilteredLists, FilteredStep, StandsForItself}
use Rattle.pf_yen.proofs.FilteredWalks.{filtered_from_zero, none_left, best_clean, best_member, best_least}
use Rattle.std.proofs.lemmas.Result.{IfOk-from_err}
use Rattle.pf_base.proofs.Outcomes.{ok_is_no_error, overflow_kept, refused_as}
use Rattle.pf_yen.proofs.classes.least_of_class.Goals as goal

pub returns-in-None-clause-least : goal.returns-in-None-clause-least
returns-in-None-clause-least g c = λ q n.
    let s = c.args.filtered.now in
    let here : FilteredLists g.row.C.Denot = record { adjacency = s.adjacency.now; onward = s.onward.items; spur = s.spur; banned = s.banned } in
    let b = rw c.in-None.is at (c.in_ok-answer.ensures.best here (refl, c.requires.whole.inside, c.requires.wide) (filtered_from_zero g.C.Number.value here c.requires.whole)) in
    none_left g.C.Number.value here q n _ c.requires.some b

pub returns-clause-least : goal.returns-clause-least
returns-clause-least g c = λ q n.
    let s = c.args.filtered.now in
    let here : FilteredLists g.row.C.Denot = record { adjacency = s.adjacency.now; onward = s.onward.items; spur = s.spur; banned = s.banned } in
    let b = rw c.in-Some.is at (c.in_ok-answer.ensures.best here (refl, c.requires.whole.inside, c.requires.wide) (filtered_from_zero g.C.Number.value here c.requires.whole)) in
    record {
      clean = best_clean g.C.Number.value here q n _ _ c.requires.some _ _ b;
      member = best_member g.C.Number.value here q n _ _ c.requires.some _ _ b;
      least = best_least g.C.Number.value here q n _ _ c.requires.some _ _ b;
    }

pub returns-in-None-clause-errors : goal.returns-in-None-clause-errors
returns-in-None-clause-errors g c = tt

pub returns-clause-adjacency : goal.returns-clause-adjacency
returns-clause-adjacency g c = let s = c.args.filtered.now in let here : FilteredLists g.row.C.Denot = record { adjacency = s.adjacency.now; onward = s.onward.items; spur = s.spur; banned = s.banned } in sym (ap (λ (h : FilteredLists g.row.C.Denot). h.adjacency) (c.in_ok-answer.ensures.graph here (refl, c.requires.whole.inside, c.requires.wide)).0)

pub returns-clause-onward : goal.returns-clause-onward
returns-clause-onward g c = let s = c.args.filtered.now in let here : FilteredLists g.row.C.Denot = record { adjacency = s.adjacency.now; onward = s.onward.items; spur = s.spur; banned = s.banned } in sym (ap (λ (h : FilteredLists g.row.C.Denot). h.onward) (c.in_ok-answer.ensures.graph here (refl, c.requires.whole.inside, c.requires.wide)).0)

pub returns-clause-spur : goal.returns-clause-spur
returns-clause-spur g c = let s = c.args.filtered.now in let here : FilteredLists g.row.C.Denot = record { adjacency = s.adjacency.now; onward = s.onward.items; spur = s.spur; banned = s.banned } in sym (ap (λ (h : FilteredLists g.row.C.Denot). h.spur) (c.in_ok-answer.ensures.graph here (refl, c.requires.whole.inside, c.requires.wide)).0)

pub returns-in-None-clause-adjacency : goal.returns-in-None-clause-adjacency
returns-in-None-clause-adjacency g c = let s = c.args.filtered.now in let here : FilteredLists g.row.C.Denot = record { adjacency = s.adjacency.now; onward = s.onward.items; spur = s.spur; banned = s.banned } in sym (ap (λ (h : FilteredLists g.row.C.Denot). h.adjacency) (c.in_ok-answer.ensures.graph here (refl, c.requires.whole.inside, c.requires.wide)).0)

pub returns-in-None-clause-onward : goal.returns-in-None-clause-onward
returns-in-None-clause-onward g c = let s = c.args.filtered.now in let here : FilteredLists g.row.C.Denot = record { adjacency = s.adjacency.now; onward = s.onward.items; spur = s.spur; banned = s.banned } in sym (ap (λ (h : FilteredLists g.row.C.Denot). h.onward) (c.in_ok-answer.ensures.graph here (refl, c.requires.whole.inside, c.requires.wide)).0)

pub returns-in-None-clause-spur : goal.returns-in-None-clause-spur
returns-in-None-clause-spur g c = let s = c.args.filtered.now in let here : FilteredLists g.row.C.Denot = record { adjacency = s.adjacency.now; onward = s.onward.items; spur = s.spur; banned = s.banned } in sym (ap (λ (h : FilteredLists g.row.C.Denot). h.spur) (c.in_ok-answer.ensures.graph here (refl, c.requires.whole.inside, c.requires.wide)).0)

pub returns-in_err-answer : goal.returns-in_err-answer
returns-in_err-answer g c = record {
  overflow = λ e.
      let s = c.args.filtered.now in
      let here : FilteredLists g.row.C.Denot = record { adjacency = s.adjacency.now; onward = s.onward.items; spur = s.spur; banned = s.banned } in
      let x = c.in_err-answer.ensures.graph here (refl, c.requires.whole.inside, c.requires.wide) in
      let f : c.in_err-answer.field-0.0 ≡ CostOverflow = overflow_kept c.from_residual.result c.in_err-answer.field-0.0 c.from_residual.ensures.1 e in
      let d = c.in_err-answer.ensures.overflow here (refl, c.requires.whole.inside, c.requires.wide) (filtered_from_zero g.C.Number.value here c.requires.whole) (ap Err f) in
      subst (λ (k : AdjacencyLists g.row.C.Denot). NumberedOverflows (FilteredStep g.C.Number.value here) (is_goal s.adjacency.now) (StandsForItself (length s.adjacency.now.rows) 0) (StandsForItself (length k.rows)) g.C.Number.fits) (sym (ap (λ (h : FilteredLists g.row.C.Denot). h.adjacency) x.0)) d;
  banned = IfOk-from_err _ _ c.from_residual.ensures.0;
  errors = refused_as _ c.from_residual.result c.in_err-answer.field-0.0 c.from_residual.ensures.1 c.in_err-answer.ensures.errors;
  least = IfOk-from_err _ _ c.from_residual.ensures.0;
  parts = IfOk-from_err _ _ c.from_residual.ensures.0;
  adjacency = let s = c.args.filtered.now in let here : FilteredLists g.row.C.Denot = record { adjacency = s.adjacency.now; onward = s.onward.items; spur = s.spur; banned = s.banned } in sym (ap (λ (h : FilteredLists g.row.C.Denot). h.adjacency) (c.in_err-answer.ensures.graph here (refl, c.requires.whole.inside, c.requires.wide)).0);
  onward = let s = c.args.filtered.now in let here : FilteredLists g.row.C.Denot = record { adjacency = s.adjacency.now; onward = s.onward.items; spur = s.spur; banned = s.banned } in sym (ap (λ (h : FilteredLists g.row.C.Denot). h.onward) (c.in_err-answer.ensures.graph here (refl, c.requires.whole.inside, c.requires.wide)).0);
  spur = let s = c.args.filtered.now in let here : FilteredLists g.row.C.Denot = record { adjacency = s.adjacency.now; onward = s.onward.items; spur = s.spur; banned = s.banned } in sym (ap (λ (h : FilteredLists g.row.C.Denot). h.spur) (c.in_err-answer.ensures.graph here (refl, c.requires.whole.inside, c.requires.wide)).0);
}

pub returns-clause-errors : goal.returns-clause-errors
returns-clause-errors g c = tt

pub returns-clause-overflow : goal.returns-clause-overflow
returns-clause-overflow g c = λ e. absurd (ok_is_no_error _ _ _ refl e)

pub returns-in-None-clause-overflow : goal.returns-in-None-clause-overflow
returns-in-None-clause-overflow g c = λ e. absurd (ok_is_no_error _ _ _ refl e)

pub returns-in-None-clause-parts : goal.returns-in-None-clause-parts
returns-in-None-clause-parts g c = tt

pub cheapest_path-requires-clause-inside : goal.cheapest_path-requires-clause-inside
cheapest_path-requires-clause-inside g c = c.requires.some

pub cheapest_path-requires-clause-begins : goal.cheapest_path-requires-clause-begins
cheapest_path-requires-clause-begins g c = (0, (refl, c.requires.some))

pub cheapest_path-requires-clause-graph : goal.cheapest_path-requires-clause-graph
cheapest_path-requires-clause-graph g c = let s = c.args.filtered.now in let here : FilteredLists g.row.C.Denot = record { adjacency = s.adjacency.now; onward = s.onward.items; spur = s.spur; banned = s.banned } in (here, (refl, c.requires.whole.inside, c.requires.wide))

pub returns-in-None-clause-banned : goal.returns-in-None-clause-banned
returns-in-None-clause-banned g c = c.take-banned.ensures.nothing

pub returns-clause-banned : goal.returns-clause-banned
returns-clause-banned g c = c.take-banned.ensures.nothing

pub returns-clause-parts : goal.returns-clause-parts
returns-clause-parts g c = let s = c.args.filtered.now in let here : FilteredLists g.row.C.Denot = record { adjacency = s.adjacency.now; onward = s.onward.items; spur = s.spur; banned = s.banned } in (refl, c.take-banned.ensures.taken ∙ sym (ap (λ (h : FilteredLists g.row.C.Denot). h.banned) (c.in_ok-answer.ensures.graph here (refl, c.requires.whole.inside, c.requires.wide)).0))
