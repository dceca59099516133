use Rattle.std.proofs.Common.{List, ◌++◌, arith, subst, sym, inr, refl, inl}
use Rattle.pf_informed.specs.Internal.Waiting.{Entry}
use Rattle.pf_informed.specs.Internal.Fringe.{listed, IsRaising, IsBelowWaiting}
use Rattle.pf_informed.proofs.RaisingLemmas.{raising_start, queue_later, raising_more, raised_below, raised_taken, raised_queue}
use Rattle.pf_base.proofs.ListLemmas.{Contains-head}
use Rattle.pf_base.proofs.Outcomes.{if_refused, on_refused, refused_as}
use Rattle.pf_informed.proofs.Bounds.{none_below, without_rest, none_more}
use Rattle.pf_informed.proofs.fringe_lists.FringeLists.raise_limit.Goals as goal

pub take_last-requires : goal.take_last-requires
take_last-requires g c = record {
  queue = rw c.requires.over at c.requires.queue;
  sums = c.requires.sums;
}

pub returns-in_default-clause-taken : goal.returns-in_default-clause-taken
returns-in_default-clause-taken g c = λ k l h w.
    let u = c.in_default.ensures.taken.1 k l h (rw c.requires.over at w) in
    let gone = u.1 in
    absurd (none_below _ gone.1)

pub entries-init : goal.entries-init
entries-init g c =
    let e = c.in-Some.least in
    let r = raising_start g.C.Number.value c.args.labels.now.items c.args.estimates.now.items e c.args.self.now.later.items c.take_last.new.entries.items c.in-Some.ensures.taken (rw c.requires.over at c.requires.queue) c.in-Some.ensures.fewer in
    record { raising = rw c.requires.over r }

pub take_last-requires-in-entries : goal.take_last-requires-in-entries
take_last-requires-in-entries g c = record {
  queue = queue_later g.C.Number.value c.args.labels.now.items c.args.estimates.now.items _ c.entries.least c.entries.self.current.items c.entries.self.later.items c.entries.invariant.raising;
  sums = c.requires.sums;
}

pub entries-preserved : goal.entries-preserved
entries-preserved g c =
    let value = g.C.Number.value in
    let labels = c.args.labels.now.items in
    let estimates = c.args.estimates.now.items in
    let n = c.in-Some-take_last.ensures in
    let r = raising_more value labels estimates (listed c.args.self.now) c.entries.least c.entries.self.current.items c.entries.self.later.items c.entries.invariant.raising
    c.in-Some-take_last.entry c.take_last-in-entries.new.entries.items n.taken n.fewer c.keep_least.new.least c.keep_least.result c.keep_least.ensures.least c.keep_least.ensures.both in
    record { raising = subst (λ (xs : List (Entry g.row.C.Denot)). IsRaising value labels estimates (listed c.args.self.now) c.keep_least.new.least xs c.take_last-in-entries.new.entries.items) (sym c.in_ok-push.ensures.items) r }

pub returns-in_err-push : goal.returns-in_err-push
returns-in_err-push g c = record {
  queue = on_refused _ c.from_residual.result _ c.from_residual.ensures.1;
  limit = on_refused _ c.from_residual.result _ c.from_residual.ensures.1;
  taken = if_refused _ c.from_residual.result _ c.from_residual.ensures.1;
  fewer = if_refused _ c.from_residual.result _ c.from_residual.ensures.1;
  refused = refused_as _ c.from_residual.result _ c.from_residual.ensures.1 refl;
}

pub returns-in_default-clause-fewer : goal.returns-in_default-clause-fewer
returns-in_default-clause-fewer g c = rw (c.in_default.ensures.taken.0, c.requires.over) (none_more _)

pub returns-in_default-clause-limit : goal.returns-in_default-clause-limit
returns-in_default-clause-limit g c = inl refl

pub returns-in_default-clause-refused : goal.returns-in_default-clause-refused
returns-in_default-clause-refused g c = tt

pub returns : goal.returns
returns g c =
    let t = c.in_default-take_last.ensures.taken in
    record {
      queue = rw t.0 (raised_queue g.C.Number.value c.args.labels.now.items c.args.estimates.now.items (listed c.args.self.now) c.entries.least c.entries.self.current.items c.entries.self.later.items c.entries.invariant.raising t.1);
      limit =
          let b = raised_below g.C.Number.value c.args.labels.now.items c.args.estimates.now.items (listed c.args.self.now) c.entries.least c.entries.self.current.items c.entries.self.later.items c.entries.invariant.raising t.1 in
          inr (c.known.ensures, subst (IsBelowWaiting g.C.Number.value c.args.labels.now.items c.args.estimates.now.items (listed c.args.self.now)) (sym c.sum_of-self.ensures) b);
      taken = rw t.0 (raised_taken g.C.Number.value c.args.labels.now.items c.args.estimates.now.items (listed c.args.self.now) c.entries.least c.entries.self.current.items c.entries.self.later.items c.entries.invariant.raising t.1 c.sum_of-self.result c.sum_of-self.ensures c.label_of.result c.label_of.ensures);
      fewer = rw c.in_default-take_last.ensures.taken.0 (without_rest c.entries.self.current.items c.entries.self.later.items _ c.entries.invariant.raising.fewer);
      refused = tt;
    }

pub entries-smaller : goal.entries-smaller
entries-smaller g c = omega (arith, c.in-Some-take_last.ensures.fewer)

pub label_of-requires : goal.label_of-requires
label_of-requires g c =
    let r = c.entries.invariant.raising in
    let q = r.queue in
    let l = q.labelled c.entries.least (Contains-head (c.entries.self.current.items ++ c.entries.self.later.items) c.entries.least) in
    (l.0, l.1)
