use Rattle.std.proofs.Common.{◌∙◌, ◌++◌, ◌∷◌, List, ap, subst, sym, arith}
use Rattle.std.specs.Prelude.{IsPermutation}
use Rattle.std.specs.Ordering.{is_some_and, is_lt}
use Rattle.std.proofs.lemmas.Int.{ints}
use Rattle.pf_base.proofs.ListLemmas.{lt_means}
use Rattle.pf_informed.specs.Internal.Waiting.{Entry, IsBucket}
use Rattle.pf_informed.proofs.BucketLemmas.{put_between, put_behind, bucket_more, bucket_before, bucket_below}
use Rattle.pf_informed.proofs.queue.Queue.push.Goals.{then-is_below, else-is_below}
use Rattle.pf_informed.proofs.queue.Queue.push.Goals as goal

pub invariant_of-self : goal.invariant_of-self
invariant_of-self g c =
    let value = g.C.Number.value in
    let s = c.self.inside in
    let above = rw c.if-not-is_below.true at (lt_means (value c.args.sum) (value s.sum) c.lt-is_below.result (c.lt-is_below.ensures ∙ ap (is_some_and is_lt) (g.met.C.Number.order_law c.args.sum s.sum g.met.C.Integral.exact_law))) in
    let below = rw c.if-not-lt.true at (lt_means (value s.sum) (value c.args.sum) c.lt.result (c.lt.ensures ∙ ap (is_some_and is_lt) (g.met.C.Number.order_law s.sum c.args.sum g.met.C.Integral.exact_law))) in
    bucket_more value s.bucket.items s.later.items s.sum s.is_below c.self.invariant (c.args.sum, c.args.number) c.push_reserved.new.self.items c.push_reserved.ensures.items (omega (arith, ints, above, below))

pub returns-then-len-capacity-clause-added : goal.returns-then-len-capacity-clause-added
returns-then-len-capacity-clause-added g c =
    let s = c.self.inside in
    rw (← c.self.view_is) (subst (λ (es : List (Entry g.row.C.Denot)). IsPermutation ((c.args.sum, c.args.number) ∷ (s.bucket.items ++ s.later.items)) (es ++ s.later.items)) (sym c.push_reserved.ensures.items) (put_between s.bucket.items s.later.items (c.args.sum, c.args.number)))

pub invariant_of-self-2 : goal.invariant_of-self-2
invariant_of-self-2 g c =
    let value = g.C.Number.value in
    let s = c.self.inside in
    let later = c.push.new.self.items in
    let now = c.if-is_below.self-inside in
    let order = lt_means (value c.args.sum) (value s.sum) c.lt-is_below.result (c.lt-is_below.ensures ∙ ap (is_some_and is_lt) (g.met.C.Number.order_law c.args.sum s.sum g.met.C.Integral.exact_law)) in
    elim c.if-is_below.branch as (λ _. IsBucket value now.bucket.items later now.sum now.is_below) [
      | then-is_below w ↦ rw w.self-inside-is (bucket_below value s.bucket.items s.later.items s.sum s.is_below c.self.invariant later)
      | else-is_below w ↦ rw w.self-inside-is (bucket_before value s.bucket.items s.later.items s.sum s.is_below c.self.invariant (c.args.sum, c.args.number) later (rw w.self-inside-is at c.push.ensures.added) (rw w.if-is_below.false at order))
    ]

pub returns-clause-added : goal.returns-clause-added
returns-clause-added g c =
    let s = c.self.inside in
    let entry : Entry g.row.C.Denot = (c.args.sum, c.args.number) in
    let now = c.if-is_below.self-inside in
    rw (← c.self.view_is) (elim c.if-is_below.branch as (λ _. IsPermutation (entry ∷ (s.bucket.items ++ s.later.items)) (now.bucket.items ++ c.push.new.self.items)) [
      | then-is_below w ↦ rw w.self-inside-is (put_behind s.bucket.items s.later.items c.push.new.self.items entry (rw w.self-inside-is at c.push.ensures.added))
      | else-is_below w ↦ rw w.self-inside-is (put_behind s.bucket.items s.later.items c.push.new.self.items entry (rw w.self-inside-is at c.push.ensures.added))
    ])
