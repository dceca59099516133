use Rattle.std.proofs.Common.{◌≡◌, ◌≤◌, ◌∙◌, arith, sym, subst, List, length}
use Rattle.pf_informed.specs.Internal.Waiting.{Entry, IsQueue}
use Rattle.pf_informed.proofs.WaitingLemmas.{taken_in, IsQueue-rest, waits_on, is_taken}
use Rattle.pf_informed.proofs.Bounds.{none_below}
use Rattle.pf_informed.proofs.queue.take_least.Goals as goal

pub current_cost-requires-clause-labelled : goal.current_cost-requires-clause-labelled
current_cost-requires-clause-labelled g c =
    let q = c.entries.invariant.queue in
    let l = q.labelled c.in-Some.entry (taken_in g.C.Number.value c.args.labels.now.items c.args.estimates.now.items _ _ c.in-Some.entry q c.in-Some.ensures.first.0) in
    (l.0, l.1, l.2, l.3)

pub returns-in-Some-current_cost : goal.returns-in-Some-current_cost
returns-in-Some-current_cost g c =
    let value = g.C.Number.value in
    let labels = c.args.labels.now.items in
    let estimates = c.args.estimates.now.items in
    let i = c.entries.invariant in
    let e = c.in-Some.ensures in
    let n = c.in-Some-current_cost.ensures in
    record {
      queue = IsQueue-rest value labels estimates _ _ c.in-Some.entry i.queue e.first.0;
      taken = is_taken value labels estimates _ _ c.in-Some.entry i.queue e.first.0 _ i.waits c.in-Some-current_cost.cost n.0 n.1 e.least;
      fewer = omega (arith, e.first.1, i.fewer);
    }

pub entries-preserved : goal.entries-preserved
entries-preserved g c =
    let value = g.C.Number.value in
    let labels = c.args.labels.now.items in
    let estimates = c.args.estimates.now.items in
    let i = c.entries.invariant in
    let e = c.in-Some.ensures in
    record {
      queue = IsQueue-rest value labels estimates _ _ c.in-Some.entry i.queue e.first.0;
      waits = λ k m h w. waits_on value labels estimates _ _ c.in-Some.entry i.queue e.first.0 c.in_default-current_cost.ensures k m h (i.waits k m h w);
      fewer = omega (arith, e.first.1, i.fewer);
    }

pub entries-init : goal.entries-init
entries-init g c = record {
  queue = c.requires.queue;
  waits = λ k m h w. w;
  fewer = omega arith;
}

pub entries-smaller : goal.entries-smaller
entries-smaller g c = omega (arith, c.in-Some.ensures.first.1)

pub returns : goal.returns
returns g c =
    let i = c.entries.invariant in
    let e = c.in_default.ensures.first in
    let same : c.entries.queue.entries ≡ c.take_first.new.self.entries = e.0 ∙ sym e.1 in
    record {
      queue = subst (λ (es : List (Entry g.row.C.Denot)). IsQueue g.C.Number.value c.args.labels.now.items c.args.estimates.now.items es) same i.queue;
      taken = λ k l h w. let gone = (rw e.0 at (i.waits k l h w)).1 in absurd (none_below _ gone.1);
      fewer = subst (λ (es : List (Entry g.row.C.Denot)). length es ≤ length c.args.queue.now.entries) same i.fewer;
    }
