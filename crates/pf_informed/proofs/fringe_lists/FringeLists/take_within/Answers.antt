use Rattle.std.proofs.Common.{arith, ◌++◌, ◌∷◌, [], List, ap, subst, sym, length, length-append, refl}
use Rattle.std.specs.Prelude.{◌≤ℤ◌}
use Rattle.std.proofs.lemmas.Int.{ints}
use Rattle.std.proofs.lemmas.List.Elements.{Contains-append_left}
use Rattle.pf_informed.specs.Internal.Waiting.{Entry, IsQueue}
use Rattle.pf_informed.specs.Internal.Fringe.{listed, StillWait}
use Rattle.pf_informed.proofs.FringeLemmas.{StillWait-put_off, queue_put_off, queue_rest, taken_within, queue_in, none_more, rest_waits}
use Rattle.pf_base.proofs.Outcomes.{if_refused, on_refused, refused_as}
use Rattle.pf_informed.proofs.Bounds.{without_first}
use Rattle.pf_informed.proofs.fringe_lists.FringeLists.take_within.Goals as goal

pub take_last-requires : goal.take_last-requires
take_last-requires g c = record {
  queue = queue_in g.C.Number.value c.args.labels.now.items c.args.estimates.now.items (listed c.entries.self) c.entries.self.current.items c.entries.invariant.queue (λ e h. Contains-append_left c.entries.self.current.items c.entries.self.later.items e h);
  sums = c.requires.sums;
}

pub entries-preserved : goal.entries-preserved
entries-preserved g c =
    let i = c.entries.invariant in
    let e = c.in-Some.entry in
    let n = c.in-Some.ensures in
    let value = g.C.Number.value in
    let labels = c.args.labels.now.items in
    let current = c.entries.self.current.items in
    let current' = c.take_last.new.entries.items in
    let later = c.entries.self.later.items in
    let pushed = c.in_ok-push.ensures.items in
    record {
      limit = i.limit;
      queue = subst (λ (xs : List (Entry g.row.C.Denot)). IsQueue value labels c.args.estimates.now.items (current' ++ xs)) (sym pushed) (queue_put_off value labels c.args.estimates.now.items e current current' later n.taken i.queue);
      waits = subst (λ (xs : List (Entry g.row.C.Denot)). StillWait value labels c.args.estimates.now.items (listed c.args.self.now) (current' ++ xs)) (sym pushed) (StillWait-put_off value labels c.args.estimates.now.items e current current' later n.taken (listed c.args.self.now) i.waits);
      fewer = omega (arith, i.fewer, n.fewer, ap length pushed, length-append current' c.push.new.self.items, length-append later (e ∷ []), length-append current later);
    }

pub returns-else-is_less : goal.returns-else-is_less
returns-else-is_less g c = record {
  limit = c.entries.invariant.limit;
  queue = queue_rest g.C.Number.value c.args.labels.now.items c.args.estimates.now.items c.in-Some.entry c.entries.self.current.items c.take_last.new.entries.items c.entries.self.later.items c.in-Some.ensures.taken c.entries.invariant.queue;
  taken =
      let value = g.C.Number.value in
      let low : value c.in-Some.entry.0 ≤ℤ value c.entries.self.limit = omega (arith, ints, c.if-is_less.ensures, ap value c.sum_of.ensures) in
      taken_within value c.args.labels.now.items c.args.estimates.now.items c.in-Some.entry c.entries.self.current.items c.take_last.new.entries.items c.entries.self.later.items c.in-Some.ensures.taken c.entries.self.limit (listed c.args.self.now) c.label_of.result c.label_of.ensures c.entries.invariant.queue c.entries.invariant.waits low;
  fewer = omega (arith, c.entries.invariant.fewer, c.in-Some.ensures.fewer, length-append c.entries.self.current.items c.entries.self.later.items, length-append c.take_last.new.entries.items c.entries.self.later.items);
  refused = tt;
}

pub returns-clause-queue : goal.returns-clause-queue
returns-clause-queue g c = queue_in g.C.Number.value c.args.labels.now.items c.args.estimates.now.items (listed c.entries.self) _ c.entries.invariant.queue (none_more g.C.Number.value c.args.labels.now.items c.args.estimates.now.items c.entries.self.current.items c.take_last.new.entries.items c.entries.self.later.items c.in_default.ensures.taken.0)

pub returns-clause-taken : goal.returns-clause-taken
returns-clause-taken g c = (c.in_default.ensures.taken.0, rest_waits g.C.Number.value c.args.labels.now.items c.args.estimates.now.items c.entries.self.current.items c.take_last.new.entries.items c.entries.self.later.items c.in_default.ensures.taken.0 c.in_default.ensures.taken.1 (listed c.args.self.now) c.entries.invariant.waits)

pub returns-in_err-push : goal.returns-in_err-push
returns-in_err-push g c = record {
  limit = on_refused _ c.from_residual.result _ c.from_residual.ensures.1;
  queue = on_refused _ c.from_residual.result _ c.from_residual.ensures.1;
  taken = if_refused _ c.from_residual.result _ c.from_residual.ensures.1;
  fewer = if_refused _ c.from_residual.result _ c.from_residual.ensures.1;
  refused = refused_as _ c.from_residual.result _ c.from_residual.ensures.1 refl;
}

pub entries-init : goal.entries-init
entries-init g c = record { limit = refl; queue = c.requires.queue; waits = λ k l h w. w; fewer = omega arith }

pub entries-smaller : goal.entries-smaller
entries-smaller g c = omega (arith, c.in-Some.ensures.fewer)

pub returns-clause-limit : goal.returns-clause-limit
returns-clause-limit g c = c.entries.invariant.limit

pub returns-clause-refused : goal.returns-clause-refused
returns-clause-refused g c = tt

pub returns-clause-fewer : goal.returns-clause-fewer
returns-clause-fewer g c = without_first _ c.entries.self.later.items c.entries.self.current.items _ c.in_default.ensures.fewer c.entries.invariant.fewer

pub label_of-requires : goal.label_of-requires
label_of-requires g c =
    let q = c.entries.invariant.queue in
    let l = q.labelled c.in-Some.entry (Contains-append_left c.entries.self.current.items c.entries.self.later.items c.in-Some.entry c.in-Some.ensures.taken.here) in
    (l.0, l.1)
