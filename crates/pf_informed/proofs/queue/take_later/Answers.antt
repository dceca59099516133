use Rattle.std.proofs.lemmas.List.Sorted.{IsPermutation-refl}
use Rattle.pf_informed.proofs.BucketLemmas.{taken_first, least_left, none_before}
use Rattle.pf_informed.proofs.queue.take_later.Goals as goal

pub returns-in_default : goal.returns-in_default
returns-in_default g c = let e = c.in_default.ensures in (none_before c.args.later.now.items c.least.new.self.items e.same e.least, e.least)

pub returns : goal.returns
returns g c =
    let e = c.in-Some.ensures in
    let moved = taken_first c.least.new.self.items c.least.new.self.items c.take_first.new.self.items c.least.new.self.front c.in-Some.first (IsPermutation-refl c.least.new.self.items) c.take_first.ensures.taken e.front in (
      taken_first c.args.later.now.items c.least.new.self.items c.take_first.new.self.items c.least.new.self.front c.in-Some.first e.same c.take_first.ensures.taken e.front,
      least_left g.C.Number.value c.least.new.self.items c.take_first.new.self.items c.in-Some.first moved e.least.1,
    )
