use Rattle.std.proofs.Common.{◌∙◌, ap, arith}
use Rattle.std.specs.Ordering.{is_some_and, is_lt}
use Rattle.std.proofs.lemmas.Int.{ints}
use Rattle.std.proofs.lemmas.List.Sorted.{IsPermutation-refl}
use Rattle.pf_base.proofs.ListLemmas.{lt_means}
use Rattle.pf_informed.proofs.BucketLemmas.{taken_first, least_left}
use Rattle.pf_informed.proofs.Bounds.{none_below}
use Rattle.pf_informed.proofs.queue.take_below.Goals as goal

pub returns-in_default : goal.returns-in_default
returns-in_default g c = let e = c.in_default.ensures in (e.same, λ f h. let gone = rw e.least at h in absurd (none_below _ gone.1))

pub returns-then-not-lt : goal.returns-then-not-lt
returns-then-not-lt g c =
    let value = g.C.Number.value in
    let e = c.in-Some.ensures in
    let low = rw c.if-not-lt.true at (lt_means (value c.in-Some.first.0) (value c.args.sum) c.lt.result (c.lt.ensures ∙ ap (is_some_and is_lt) (g.met.C.Number.order_law c.in-Some.first.0 c.args.sum g.met.C.Integral.exact_law))) in
    (e.same, λ f h. omega (arith, ints, low, e.least.1 f h))

pub returns : goal.returns
returns g c =
    let value = g.C.Number.value in
    let e = c.in-Some.ensures in
    let moved = taken_first c.least.new.self.items c.least.new.self.items c.take_first.new.self.items c.least.new.self.front c.in-Some.first (IsPermutation-refl c.least.new.self.items) c.take_first.ensures.taken e.front in (
      taken_first c.args.later.now.items c.least.new.self.items c.take_first.new.self.items c.least.new.self.front c.in-Some.first e.same c.take_first.ensures.taken e.front,
      least_left value c.least.new.self.items c.take_first.new.self.items c.in-Some.first moved e.least.1,
      rw c.if-not-lt.false at (lt_means (value c.in-Some.first.0) (value c.args.sum) c.lt.result (c.lt.ensures ∙ ap (is_some_and is_lt) (g.met.C.Number.order_law c.in-Some.first.0 c.args.sum g.met.C.Integral.exact_law))),
    )
