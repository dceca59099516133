use Rattle.pf_informed.proofs.Bounds.{nothing_left}
use Rattle.pf_informed.proofs.BucketLemmas.{out_of_bucket, later_taken}
use Rattle.pf_informed.proofs.queue.take_front.Goals as goal

pub returns-in-Some : goal.returns-in-Some
returns-in-Some g c = out_of_bucket g.C.Number.value c.in-Some.entry c.args.bucket.now.items c.args.later.now.items c.pop.new.self.items c.args.later.now.items c.args.sum c.in-Some.ensures.items c.requires.alike c.requires.above

pub returns : goal.returns
returns g c =
    let was = nothing_left c.args.bucket.now.items _ c.args.bucket.now.ok.0 c.in_default.ensures.cases.0 in
    let now = nothing_left c.pop.new.self.items _ c.pop.new.self.ok.0 c.in_default.ensures.cases.1 in
    later_taken g.C.Number.value c.args.bucket.now.items c.pop.new.self.items c.args.later.now.items c.take_later.new.later.items c.args.sum c.take_later.result was now c.take_later.ensures
