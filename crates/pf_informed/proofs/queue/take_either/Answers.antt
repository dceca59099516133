use Rattle.std.proofs.Common.{arith}
use Rattle.std.proofs.lemmas.Int.{ints}
use Rattle.pf_informed.proofs.BucketLemmas.{out_of_later, either_order}
use Rattle.pf_informed.proofs.queue.take_either.Goals as goal

pub returns-in-Some : goal.returns-in-Some
returns-in-Some g c =
    let e = c.in-Some.ensures in
    out_of_later g.C.Number.value c.in-Some.entry c.args.bucket.now.items c.args.later.now.items c.args.bucket.now.items c.take_below.new.later.items c.args.sum e.0 e.1 (λ f h. omega (arith, ints, e.2, c.requires f h))

pub take_front-requires-clause-alike : goal.take_front-requires-clause-alike
take_front-requires-clause-alike g c = c.requires

pub take_front-requires-clause-above : goal.take_front-requires-clause-above
take_front-requires-clause-above g c = c.in_default.ensures.1

pub returns : goal.returns
returns g c = either_order g.C.Number.value c.take_front.result c.args.bucket.now.items c.args.later.now.items c.take_below.new.later.items c.take_front.new.bucket.items c.take_front.new.later.items c.args.sum c.in_default.ensures.0 c.take_front.ensures
