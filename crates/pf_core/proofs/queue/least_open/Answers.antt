use Rattle.std.proofs.Common.{◌∙◌, ◌≡◌, sym, subst, arith, ap, length, true≢false, Some}
use Rattle.std.proofs.lemmas.List.Sorted.{IsPermutation-refl, length_permutation}
use Rattle.std.specs.Prelude.{IsPermutation}
use Rattle.pf_core.specs.Labels.{HasLabel}
use Rattle.pf_core.proofs.QueueLemmas.{entry_inside, least_entry, IsQueue-skip, IsQueue-moved, all_settled, again_is, same_number, none_some}
use Rattle.pf_core.proofs.queue.least_open.Goals as goal

pub is_open-requires : goal.is_open-requires
is_open-requires g c =
    let q = IsQueue-moved g.C.Number.value c.args.labels.now.items _ _ c.in-Some.ensures.same c.entries.invariant.queue in
    rw c.deref.ensures.value (entry_inside g.C.Number.value c.args.labels.now.items _ c.in-Some.entry q c.in-Some.ensures.least.0)

pub returns-then-is_open-clause-queue : goal.returns-then-is_open-clause-queue
returns-then-is_open-clause-queue g c = IsQueue-moved g.C.Number.value c.args.labels.now.items _ _ c.in-Some.ensures.same c.entries.invariant.queue

pub returns-then-is_open-clause-least : goal.returns-then-is_open-clause-least
returns-then-is_open-clause-least g c =
    let o = rw c.deref.ensures.value at c.if-is_open.ensures in
    let q = IsQueue-moved g.C.Number.value c.args.labels.now.items _ _ c.in-Some.ensures.same c.entries.invariant.queue in
    (o.0, least_entry g.C.Number.value c.args.labels.now.items _ c.in-Some.entry q c.in-Some.ensures.least.0 c.in-Some.ensures.least.1 o.0 o.1 o.2)

pub returns-then-is_open-clause-again : goal.returns-then-is_open-clause-again
returns-then-is_open-clause-again g c = λ k f o.
    let r = again_is _ c.args.queue.now.front c.entries.queue.front (Some c.in-Some.entry) k (c.entries.invariant.front k f o) f c.in-Some.ensures.again in
    ap Some (same_number c.in-Some.entry r.0 k r.1)

pub entries-smaller : goal.entries-smaller
entries-smaller g c =
    let moved = length_permutation c.entries.queue.items c.least.new.self.items c.in-Some.ensures.same in
    let taken = ap length (rw c.in-Some.ensures.front at c.take_first.ensures.taken) in
    omega (arith, moved, taken)

pub entries-preserved : goal.entries-preserved
entries-preserved g c = record {
  queue =
      let q = IsQueue-moved g.C.Number.value c.args.labels.now.items _ _ c.in-Some.ensures.same c.entries.invariant.queue in
      let taken = rw c.in-Some.ensures.front at c.take_first.ensures.taken in
      IsQueue-skip g.C.Number.value c.args.labels.now.items c.least.new.self.items c.take_first.new.self.items c.in-Some.entry q (subst (IsPermutation c.least.new.self.items) taken (IsPermutation-refl c.least.new.self.items)) (rw c.deref.ensures.value at c.if-is_open.ensures);
  front = λ k f o.
      let r = again_is _ c.args.queue.now.front c.entries.queue.front (Some c.in-Some.entry) k (c.entries.invariant.front k f o) f c.in-Some.ensures.again in
      let n = same_number c.in-Some.entry r.0 k r.1 in
      let stale = rw c.deref.ensures.value at c.if-is_open.ensures in
      absurd (true≢false (sym (stale o.0 (subst (λ i. HasLabel c.args.labels.now.items i o.0) (sym n) o.1)) ∙ o.2));
}

pub returns-clause-queue : goal.returns-clause-queue
returns-clause-queue g c = IsQueue-moved g.C.Number.value c.args.labels.now.items _ _ c.in_default.ensures.same c.entries.invariant.queue

pub returns-clause-least : goal.returns-clause-least
returns-clause-least g c = all_settled g.C.Number.value c.args.labels.now.items _ (IsQueue-moved g.C.Number.value c.args.labels.now.items _ _ c.in_default.ensures.same c.entries.invariant.queue) c.in_default.ensures.least

pub returns-clause-again : goal.returns-clause-again
returns-clause-again g c = λ k f o.
    let r = again_is _ c.args.queue.now.front c.entries.queue.front _ k (c.entries.invariant.front k f o) f c.in_default.ensures.again in
    absurd (none_some _ r.1)
