use Rattle.std.proofs.Common.{◌<◌, ◌≤◌, ◌∙◌, ◌++◌, ℕ, List, drop, length, refl, subst, sym}
use Rattle.pf_yen.specs.Internal.Filtered.{FilteredLists}
use Rattle.pf_yen.specs.Internal.Led.{graph_led_by, IsWayAt}
use Rattle.pf_yen.proofs.FilteredWalks.{filtered_from_zero}
use Rattle.pf_yen.proofs.LedLemmas.{led_whole, some_numbers, none_along, best_along, named_at}
use Rattle.pf_yen.proofs.ResultLemmas.{ok_so}
use Rattle.pf_yen.proofs.led.led_way.Goals as goal

pub cheapest_path-requires-clause-graph : goal.cheapest_path-requires-clause-graph
cheapest_path-requires-clause-graph g c =
    let k = c.args.filtered.now.adjacency.now in
    let l = c.in-Some.ensures in
    let w = led_whole g.C.Number.value g.C.Number.fits k c.requires.whole c.in-Some.reduced.remaining.now c.in-Some.reduced.rows.now l in
    (graph_led_by (record { filtered = c.args.filtered; rows = c.in-Some.reduced.rows }), (refl, w.inside, c.requires.wide ∙ sym l.reduced.wide, sym l.reduced.wide))

pub way_on-requires : goal.way_on-requires
way_on-requires g c =
    let value = g.C.Number.value in
    let l = c.in-Some.ensures in
    let w = led_whole value g.C.Number.fits c.args.filtered.now.adjacency.now c.requires.whole c.in-Some.reduced.remaining.now c.in-Some.reduced.rows.now l in
    let here : FilteredLists g.row.C.Denot = graph_led_by (record { filtered = c.args.filtered; rows = c.in-Some.reduced.rows }) in
    let b = rw c.in-Ok-Some.field-0-is at (c.in-Ok-Some.ensures.best here (refl, w.inside, c.requires.wide ∙ sym l.reduced.wide, sym l.reduced.wide) (filtered_from_zero value here w)) in
    record { some = subst (λ (v : List ℕ). 1 ≤ length v) (sym c.deref.ensures.value) (some_numbers _ _ _ _ b.path.numbered) }

pub returns-in-Ok-Some-clause-named : goal.returns-in-Ok-Some-clause-named
returns-in-Ok-Some-clause-named g c =
    let value = g.C.Number.value in
    let fits = g.C.Number.fits in
    let s = c.args.filtered.now in
    let k = s.adjacency.now in
    let l = c.in-Some.ensures in
    let costs = c.in-Some.reduced.remaining.now in
    let rows = c.in-Some.reduced.rows.now in
    let w = led_whole value fits k c.requires.whole costs rows l in
    let here : FilteredLists g.row.C.Denot = graph_led_by (record { filtered = c.args.filtered; rows = c.in-Some.reduced.rows }) in
    let b = rw c.in-Ok-Some.field-0-is at (c.in-Ok-Some.ensures.best here (refl, w.inside, c.requires.wide ∙ sym l.reduced.wide, sym l.reduced.wide) (filtered_from_zero value here w)) in
    let some : s.spur < length rows = subst (λ (n : ℕ). s.spur < n) (sym l.reduced.wide) c.requires.inside in
    ok_so c.way_on.result _ _ (λ named h q is pre.
    named_at value k q s.banned _ c.total_behind-total.result named (subst (λ (v : List ℕ). IsWayAt (v ++ drop 1 c.in-Ok-Some.behind.items) c.total_behind-total.result named) is (subst (λ (v : List ℕ). IsWayAt (c.args.begin.now ++ drop 1 v) c.total_behind-total.result named) c.deref.ensures.value h))
    (λ cost e.
    let t = rw e at c.total_behind-total.ensures in
    let at = rw t.3 at c.cost_at-rest.ensures in
    best_along value fits k c.requires.whole costs rows l s.onward.items s.spur s.banned q c.requires.inside s.spent pre _ _ some _ _ b cost t.0 t.1 t.2 at t.4)) c.way_on.ensures.way

pub returns-in-Ok-None-clause-named : goal.returns-in-Ok-None-clause-named
returns-in-Ok-None-clause-named g c = λ q is pre.
    let value = g.C.Number.value in
    let fits = g.C.Number.fits in
    let s = c.args.filtered.now in
    let k = s.adjacency.now in
    let l = c.in-Some.ensures in
    let costs = c.in-Some.reduced.remaining.now in
    let rows = c.in-Some.reduced.rows.now in
    let w = led_whole value fits k c.requires.whole costs rows l in
    let here : FilteredLists g.row.C.Denot = graph_led_by (record { filtered = c.args.filtered; rows = c.in-Some.reduced.rows }) in
    let none = rw c.in-Ok-None.field-0-is at (c.in-Ok-None.ensures.best here (refl, w.inside, c.requires.wide ∙ sym l.reduced.wide, sym l.reduced.wide) (filtered_from_zero value here w)) in
    let some : s.spur < length rows = subst (λ (n : ℕ). s.spur < n) (sym l.reduced.wide) c.requires.inside in
    none_along value fits k c.requires.whole costs rows l s.onward.items s.spur s.banned q c.requires.inside s.spent pre _ some none

pub returns-in-Err-CostOverflow : goal.returns-in-Err-CostOverflow
returns-in-Err-CostOverflow g c = record { named = λ q is pre. tt; refused = tt }
