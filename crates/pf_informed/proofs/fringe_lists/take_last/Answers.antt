use Rattle.std.proofs.Common.{arith, sym, ◌∙◌}
use Rattle.pf_informed.proofs.FringeLemmas.{at_some, at_none, last_in, rest_in, StillWait-last, StillWait-stale}
use Rattle.pf_informed.proofs.Bounds.{nothing_left}
use Rattle.pf_informed.proofs.fringe_lists.take_last.Goals as goal

pub current_cost-requires-clause-labelled : goal.current_cost-requires-clause-labelled
current_cost-requires-clause-labelled g c =
    let q = c.requires.queue in
    let l = q.labelled c.in-Some.entry (c.entries.invariant.within c.in-Some.entry (last_in _ _ c.in-Some.entry c.in-Some.ensures.items)) in
    (l.0, l.1, l.2, l.3)

pub entries-preserved : goal.entries-preserved
entries-preserved g c =
    let i = c.entries.invariant in
    let e = c.in-Some.entry in
    let is = c.in-Some.ensures.items in
    record {
      within = λ f h. i.within f (rest_in _ _ e is f h);
      waits = StillWait-stale g.C.Number.value c.args.labels.now.items c.args.estimates.now.items _ _ _ e is i.waits (at_none _ _ c.current_cost.result (sym c.is_some.ensures ∙ c.if-is_some.false) c.current_cost.ensures);
      fewer = omega (arith, i.fewer, c.in-Some.ensures.len);
    }

pub entries-init : goal.entries-init
entries-init g c = record { within = λ e h. h; waits = λ k l h w. w; fewer = omega arith }

pub entries-smaller : goal.entries-smaller
entries-smaller g c = omega (arith, c.in-Some.ensures.len)

pub returns-then-is_some : goal.returns-then-is_some
returns-then-is_some g c = record {
  taken =
      let i = c.entries.invariant in
      let e = c.in-Some.entry in
      let is = c.in-Some.ensures.items in
      record {
        here = i.within e (last_in _ _ e is);
        newest = (at_some _ _ c.current_cost.result (sym c.is_some.ensures ∙ c.if-is_some.true) c.current_cost.ensures).1.1;
        rest = λ f h. i.within f (rest_in _ _ e is f h);
        left = StillWait-last g.C.Number.value c.args.labels.now.items c.args.estimates.now.items _ _ _ e is i.waits;
      };
  fewer = omega (arith, c.entries.invariant.fewer, c.in-Some.ensures.len);
}

pub returns : goal.returns
returns g c = record {
  fewer = nothing_left c.pop.new.self.items _ c.pop.new.self.ok.0 c.in_default.ensures.cases.1;
  taken =
      let was = nothing_left c.entries.entries.items _ c.entries.entries.ok.0 c.in_default.ensures.cases.0 in
      (nothing_left c.pop.new.self.items _ c.pop.new.self.ok.0 c.in_default.ensures.cases.1, rw was at c.entries.invariant.waits);
}
