use Rattle.std.proofs.Common.{◌∙◌, ap, sym, subst, arith, rules, get_or, length, ◌-◌, ◌+◌, ◌*◌, ◌^◌, ◌<◌, ℕ, Fits, w64}
use Rattle.std.specs.Prelude.{slice_set}
use Rattle.std.specs.Ordering.{is_some_and, is_lt}
use Rattle.std.proofs.lemmas.Int.{ints}
use Rattle.pf_base.proofs.ListLemmas.{at_place, lt_means}
use Rattle.pf_queue.specs.Parts.{IsArranged}
use Rattle.pf_queue.proofs.EntryLemmas.{cost_at_get, rearranged_wide}
use Rattle.pf_queue.proofs.MarkLemmas.{IsPassing, passing_none, passing_more, passed_hidden, passed_exposed, passed_all, stopped, sized}
use Rattle.pf_queue.proofs.sinking.sink.Goals.{else-marks-test, then-marks-test+then-not-lt}
use Rattle.pf_queue.proofs.sinking.sink.Goals as goal

pub marks-init : goal.marks-init
marks-init g c =
    passing_none g.C.Number.value c.args.first c.args.near (length c.args.entries.now - 1) c.args.entries.now (get_or c.args.entries.now (length c.args.entries.now - 1) c.index-entries-hole.result).0 c.args.marks.now (omega (arith, c.requires.some))
    (cost_at_get g.C.Number.value c.args.entries.now (length c.args.entries.now - 1) c.index-entries-hole.result (omega (arith, c.requires.some))) c.requires.arranged

pub swap-requires-clause-a_in_bounds : goal.swap-requires-clause-a_in_bounds
swap-requires-clause-a_in_bounds g c =
    let p = c.marks.invariant in
    let l = p.left c.marks.index c.index-marks-index.result (at_place c.marks.marks c.marks.index _ _ c.marks-test.true (sym c.index-marks-index.is)) (omega arith) in
    omega (arith, l.1, p.ends, p.len)

pub overflow_add-marks : goal.overflow_add-marks
overflow_add-marks g c =
    let p = c.marks.invariant in
    let l = p.left c.marks.index c.index-marks-index.result (at_place c.marks.marks c.marks.index _ _ c.marks-test.true (sym c.index-marks-index.is)) (omega arith) in
    search (l.1, p.ends, p.len, c.marks.auto.hole-fits, rules)

pub marks-preserved : goal.marks-preserved
marks-preserved g c =
    let value = g.C.Number.value in
    let p = c.marks.invariant in
    let cost = (get_or c.args.entries.now (length c.args.entries.now - 1) c.index-entries-hole.result).0 in
    let m = c.index-marks-index.result in
    let less = rw c.if-not-lt.false at (lt_means (value cost) (value m.1) c.lt.result (c.lt.ensures ∙ ap (is_some_and is_lt) (g.met.C.Number.order_law cost m.1 g.met.C.Integral.exact_law))) in
    subst (λ es. IsPassing value c.args.first c.args.near (length c.args.entries.now - 1) c.args.entries.now cost (c.marks.index + 1) m.0 es (slice_set c.marks.marks c.marks.index (m.0 + 1, m.1))) (sym c.swap.ensures.after)
    (passing_more value c.args.first c.args.near (length c.args.entries.now - 1) c.args.entries.now cost c.requires.arranged.front c.marks.index c.marks.hole c.marks.entries c.marks.marks p m.0 m.1 (at_place c.marks.marks c.marks.index _ _ c.marks-test.true (sym c.index-marks-index.is)) c.marks-test.true less)

pub returns-then-lt-clause-arranged : goal.returns-then-lt-clause-arranged
returns-then-lt-clause-arranged g c =
    let value = g.C.Number.value in
    let n = length c.args.entries.now - 1 in
    let cost = (get_or c.args.entries.now n c.index-entries-hole.result).0 in
    let p = c.marks.invariant in
    sized value c.args.first c.args.first n (length c.marks.entries) c.marks.entries c.marks.marks (sym p.len)
    (elim c.marks-test.branch as (λ _. IsArranged value c.args.first c.args.first (n + 1) c.marks.entries c.marks.marks) [
      | else-marks-test w ↦ passed_hidden value c.args.first c.args.near n c.args.entries.now cost c.requires.arranged.front c.marks.index c.marks.hole c.marks.entries c.marks.marks p (passed_all value cost c.marks.index c.marks.marks w.marks-test.false)
      | then-marks-test+then-not-lt w ↦
          let m = w.index-marks-index.result in
          let less = rw w.if-not-lt.true at (lt_means (value cost) (value m.1) w.lt.result (w.lt.ensures ∙ ap (is_some_and is_lt) (g.met.C.Number.order_law cost m.1 g.met.C.Integral.exact_law))) in
          passed_hidden value c.args.first c.args.near n c.args.entries.now cost c.requires.arranged.front c.marks.index c.marks.hole c.marks.entries c.marks.marks p
          (stopped value c.args.first c.args.near n c.args.entries.now cost c.marks.index c.marks.hole c.marks.entries c.marks.marks p m (at_place c.marks.marks c.marks.index _ _ w.marks-test.true (sym w.index-marks-index.is)) less)
    ])

pub returns-then-lt-clause-rearranged : goal.returns-then-lt-clause-rearranged
returns-then-lt-clause-rearranged g c =
    let p = c.marks.invariant in
    rearranged_wide g.C.Number.value c.args.near (length c.args.entries.now - 1 + 1) c.args.first (length c.args.entries.now) c.args.entries.now c.marks.entries c.requires.arranged.front (omega (arith, c.requires.some)) p.rearranged

pub returns-else-lt-clause-arranged : goal.returns-else-lt-clause-arranged
returns-else-lt-clause-arranged g c =
    let value = g.C.Number.value in
    let n = length c.args.entries.now - 1 in
    let e = get_or c.args.entries.now n c.index-entries-hole.result in
    let cost = e.0 in
    let p = c.marks.invariant in
    let a = c.requires.arranged in
    let is = cost_at_get value c.args.entries.now n c.index-entries-hole.result (omega (arith, c.requires.some)) in
    let f = get_or c.marks.entries (c.args.near - 1) c.index-entries-near.result in
    let last = cost_at_get value c.marks.entries (c.args.near - 1) c.index-entries-near.result (omega (arith, p.len, a.inside, c.if-first-near.true)) in
    let low = rw c.if-lt.false at (lt_means (value cost) (value f.0) c.lt-then-first-near.result (c.lt-then-first-near.ensures ∙ ap (is_some_and is_lt) (g.met.C.Number.order_law cost f.0 g.met.C.Integral.exact_law))) in
    sized value c.args.first c.args.near n (length c.marks.entries) c.marks.entries c.marks.marks (sym p.len)
    (elim c.marks-test.branch as (λ _. IsArranged value c.args.first c.args.near (n + 1) c.marks.entries c.marks.marks) [
      | else-marks-test w ↦ passed_exposed value c.args.first c.args.near n c.args.entries.now cost a.front c.marks.index c.marks.hole c.marks.entries c.marks.marks p (passed_all value cost c.marks.index c.marks.marks w.marks-test.false) a.inside a.exposed (λ _. omega (arith, ints, last, low)) is
      | then-marks-test+then-not-lt w ↦
          let m = w.index-marks-index.result in
          let less = rw w.if-not-lt.true at (lt_means (value cost) (value m.1) w.lt.result (w.lt.ensures ∙ ap (is_some_and is_lt) (g.met.C.Number.order_law cost m.1 g.met.C.Integral.exact_law))) in
          passed_exposed value c.args.first c.args.near n c.args.entries.now cost a.front c.marks.index c.marks.hole c.marks.entries c.marks.marks p
          (stopped value c.args.first c.args.near n c.args.entries.now cost c.marks.index c.marks.hole c.marks.entries c.marks.marks p m (at_place c.marks.marks c.marks.index _ _ w.marks-test.true (sym w.index-marks-index.is)) less)
          a.inside a.exposed (λ _. omega (arith, ints, last, low)) is
    ])

pub returns-else-lt-clause-rearranged : goal.returns-else-lt-clause-rearranged
returns-else-lt-clause-rearranged g c =
    let p = c.marks.invariant in
    rearranged_wide g.C.Number.value c.args.near (length c.args.entries.now - 1 + 1) c.args.first (length c.args.entries.now) c.args.entries.now c.marks.entries c.requires.arranged.front (omega (arith, c.requires.some)) p.rearranged

pub returns-else-first-near-clause-arranged : goal.returns-else-first-near-clause-arranged
returns-else-first-near-clause-arranged g c =
    let value = g.C.Number.value in
    let n = length c.args.entries.now - 1 in
    let cost = (get_or c.args.entries.now n c.index-entries-hole.result).0 in
    let p = c.marks.invariant in
    let a = c.requires.arranged in
    let is = cost_at_get value c.args.entries.now n c.index-entries-hole.result (omega (arith, c.requires.some)) in
    sized value c.args.first c.args.near n (length c.marks.entries) c.marks.entries c.marks.marks (sym p.len)
    (elim c.marks-test.branch as (λ _. IsArranged value c.args.first c.args.near (n + 1) c.marks.entries c.marks.marks) [
      | else-marks-test w ↦ passed_exposed value c.args.first c.args.near n c.args.entries.now cost a.front c.marks.index c.marks.hole c.marks.entries c.marks.marks p (passed_all value cost c.marks.index c.marks.marks w.marks-test.false) a.inside a.exposed (λ more. absurd (omega (arith, more, c.if-first-near.false))) is
      | then-marks-test+then-not-lt w ↦
          let m = w.index-marks-index.result in
          let less = rw w.if-not-lt.true at (lt_means (value cost) (value m.1) w.lt.result (w.lt.ensures ∙ ap (is_some_and is_lt) (g.met.C.Number.order_law cost m.1 g.met.C.Integral.exact_law))) in
          passed_exposed value c.args.first c.args.near n c.args.entries.now cost a.front c.marks.index c.marks.hole c.marks.entries c.marks.marks p
          (stopped value c.args.first c.args.near n c.args.entries.now cost c.marks.index c.marks.hole c.marks.entries c.marks.marks p m (at_place c.marks.marks c.marks.index _ _ w.marks-test.true (sym w.index-marks-index.is)) less)
          a.inside a.exposed (λ more. absurd (omega (arith, more, c.if-first-near.false))) is
    ])

pub returns-else-first-near-clause-rearranged : goal.returns-else-first-near-clause-rearranged
returns-else-first-near-clause-rearranged g c =
    let p = c.marks.invariant in
    rearranged_wide g.C.Number.value c.args.near (length c.args.entries.now - 1 + 1) c.args.first (length c.args.entries.now) c.args.entries.now c.marks.entries c.requires.arranged.front (omega (arith, c.requires.some)) p.rearranged

pub overflow_sub-hole : goal.overflow_sub-hole
overflow_sub-hole g c = omega (arith, c.requires.some)

pub bounds-entries-hole : goal.bounds-entries-hole
bounds-entries-hole g c = omega (arith, c.requires.some)

pub bounds-entries-hole-2 : goal.bounds-entries-hole-2
bounds-entries-hole-2 g c = omega (arith, c.requires.some)

pub bounds-marks-index : goal.bounds-marks-index
bounds-marks-index g c = c.marks-test.true

pub swap-requires-clause-b_in_bounds : goal.swap-requires-clause-b_in_bounds
swap-requires-clause-b_in_bounds g c = let p = c.marks.invariant in omega (arith, p.ends, p.len)

pub bounds-marks-index-in-marks : goal.bounds-marks-index-in-marks
bounds-marks-index-in-marks g c = c.marks-test.true

pub overflow_add-index : goal.overflow_add-index
overflow_add-index g c = search (c.marks-test.true, rules)

pub marks-smaller : goal.marks-smaller
marks-smaller g c = search rules

pub overflow_sub-last : goal.overflow_sub-last
overflow_sub-last g c = omega (arith, c.if-first-near.true)

pub bounds-entries-near : goal.bounds-entries-near
bounds-entries-near g c = omega (arith, c.marks.invariant.len, c.requires.arranged.inside, c.if-first-near.true)

pub bounds-entries-near-then-first-near : goal.bounds-entries-near-then-first-near
bounds-entries-near-then-first-near g c = omega (arith, c.marks.invariant.len, c.requires.arranged.inside, c.if-first-near.true)

-- the offset of an element fits where the whole does
offset_fits : (i n k : ℕ) → i < n → n * k < 2 ^ 63 → Fits w64 (i * k)
offset_fits i n k l m = search rules

pub offset_bounds-entries-hole : goal.offset_bounds-entries-hole
offset_bounds-entries-hole g c = offset_fits (length c.args.entries.now - 1) (length c.args.entries.now) _ (omega (arith, c.requires.some)) c.well_formed.0.1

pub offset_bounds-marks-index : goal.offset_bounds-marks-index
offset_bounds-marks-index g c = offset_fits c.marks.index (length c.args.marks.now) _ (omega (arith, c.marks-test.true, c.marks.auto.marks)) c.well_formed.1.0.1

pub offset_bounds-marks-index-in-marks : goal.offset_bounds-marks-index-in-marks
offset_bounds-marks-index-in-marks g c = offset_fits c.marks.index (length c.args.marks.now) _ (omega (arith, c.marks-test.true, c.marks.auto.marks)) c.well_formed.1.0.1

pub offset_bounds-entries-near : goal.offset_bounds-entries-near
offset_bounds-entries-near g c = offset_fits (c.args.near - 1) (length c.args.entries.now) _ (omega (arith, c.requires.some, c.requires.arranged.inside, c.if-first-near.true)) c.well_formed.0.1
