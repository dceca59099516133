use Rattle.std.proofs.Common.{arith, ◌++◌}
use Rattle.std.proofs.lemmas.List.Sorted.{IsPermutation-refl, length_permutation}
use Rattle.pf_informed.proofs.Bounds.{nothing_left}
use Rattle.pf_informed.proofs.BucketLemmas.{bucket_shorter, bucket_still, first_taken, later_taken, taken_last}
use Rattle.pf_informed.proofs.queue.Queue.take_any.Goals as goal

pub invariant_of-self : goal.invariant_of-self
invariant_of-self g c =
    let s = c.self.inside in
    bucket_shorter g.C.Number.value s.bucket.items s.later.items s.sum s.is_below c.self.invariant c.in-Some.entry c.pop.new.self.items c.in-Some.ensures.items

pub returns-in-Some : goal.returns-in-Some
returns-in-Some g c =
    let s = c.self.inside in
    let moved = taken_last s.bucket.items c.pop.new.self.items s.later.items c.in-Some.entry c.in-Some.ensures.items in
    rw (← c.self.view_is) (moved, omega (arith, length_permutation _ _ moved))

pub invariant_of-self-2 : goal.invariant_of-self-2
invariant_of-self-2 g c =
    let s = c.self.inside in
    let was = nothing_left s.bucket.items _ s.bucket.ok.0 c.in_default.ensures.cases.0 in
    let now = nothing_left c.pop.new.self.items _ c.pop.new.self.ok.0 c.in_default.ensures.cases.1 in
    let taken = later_taken g.C.Number.value s.bucket.items c.pop.new.self.items s.later.items c.take_later.new.later.items s.sum c.take_later.result was now c.take_later.ensures in
    bucket_still g.C.Number.value s.bucket.items s.later.items c.pop.new.self.items c.take_later.new.later.items s.sum s.is_below c.take_later.result taken c.self.invariant

pub returns : goal.returns
returns g c =
    let s = c.self.inside in
    let was = nothing_left s.bucket.items _ s.bucket.ok.0 c.in_default.ensures.cases.0 in
    let now = nothing_left c.pop.new.self.items _ c.pop.new.self.ok.0 c.in_default.ensures.cases.1 in
    let taken = later_taken g.C.Number.value s.bucket.items c.pop.new.self.items s.later.items c.take_later.new.later.items s.sum c.take_later.result was now c.take_later.ensures in
    rw (← c.self.view_is) (first_taken g.C.Number.value (s.bucket.items ++ s.later.items) s.bucket.items s.later.items c.pop.new.self.items c.take_later.new.later.items c.take_later.result (IsPermutation-refl (s.bucket.items ++ s.later.items)) taken)
