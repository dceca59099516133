use Rattle.std.proofs.Common.{◌∙◌, sym}
use Rattle.std.proofs.lemmas.List.Sorted.{IsPermutation-refl, IsPermutation-trans, IsPermutation-append_left, IsPermutation-append_right}
use Rattle.pf_informed.proofs.Bounds.{nothing_left}
use Rattle.pf_informed.proofs.BucketLemmas.{bucket_filled, bucket_permuted}
use borrow.Author.Tests.{eqb-true}
use Rattle.pf_informed.proofs.queue.Queue.fill_bucket.Goals as goal

pub returns-then-not-is_empty : goal.returns-then-not-is_empty
returns-then-not-is_empty g c = IsPermutation-refl c.args.self.now.entries

pub invariant_of-self : goal.invariant_of-self
invariant_of-self g c =
    let s = c.self.inside in
    bucket_permuted g.C.Number.value s.bucket.items s.later.items c.least.new.self.items s.sum s.is_below c.in_default.ensures.same c.self.invariant

pub returns-in_default : goal.returns-in_default
returns-in_default g c =
    let s = c.self.inside in
    rw (← c.self.view_is) (IsPermutation-append_right s.bucket.items s.later.items c.least.new.self.items c.in_default.ensures.same)

pub gather-requires : goal.gather-requires
gather-requires g c = record { above = c.in-Some.ensures.least.1 }

pub invariant_of-self-2 : goal.invariant_of-self-2
invariant_of-self-2 g c = bucket_filled g.C.Number.value c.self.inside.bucket.items c.gather.new.bucket.items c.put_in_order.new.bucket.items c.gather.new.later.items c.in-Some.first.0 (nothing_left c.self.inside.bucket.items _ c.self.inside.bucket.ok.0 (eqb-true _ 0 (sym c.is_empty.ensures ∙ c.if-not-is_empty.false))) c.gather.ensures.alike c.put_in_order.ensures c.gather.ensures.above

pub returns : goal.returns
returns g c =
    let s = c.self.inside in
    rw (← c.self.view_is) (IsPermutation-trans _ _ _ (IsPermutation-append_right s.bucket.items s.later.items c.least.new.self.items c.in-Some.ensures.same)
    (IsPermutation-trans _ _ _ c.gather.ensures.moved (IsPermutation-append_left c.gather.new.later.items c.gather.new.bucket.items c.put_in_order.new.bucket.items c.put_in_order.ensures)))
