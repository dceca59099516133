use Rattle.std.specs.BinaryHeap.{heap_items}
use Rattle.pf_yen.specs.Internal.Candidates.{waiting_plans, chosen_plan}
use Rattle.pf_yen.specs.Internal.Classes.{plan_of}
use Rattle.pf_yen.proofs.WalkLemmas.{whole, some_listed, some_partition, fresh_plans, map_none, chose, still_ended, still_open, refused_for}
use Rattle.pf_yen.proofs.directed.yen.YenPathsBy.choose.Goals as goal

pub choose-requires-clause-whole : goal.choose-requires-clause-whole
choose-requires-clause-whole g c =
    let r = c.requires.walk in
    let v = rw (← c.self.view_is) at r.3 in
    whole v g.met.N.Eq.laws (rw (← c.self.view_is) at c.requires.adjacency.0)

pub choose-requires-clause-some : goal.choose-requires-clause-some
choose-requires-clause-some g c =
    let r = c.requires.walk in
    let v = rw (← c.self.view_is) at r.3 in
    some_listed v g.met.N.Eq.laws (rw (← c.self.view_is) at c.requires.adjacency.0)

pub choose-requires-clause-partition : goal.choose-requires-clause-partition
choose-requires-clause-partition g c =
    let r = c.requires.walk in
    let v = rw (← c.self.view_is) at r.3 in
    some_partition v g.met.N.Eq.laws

pub choose-requires-clause-fresh : goal.choose-requires-clause-fresh
choose-requires-clause-fresh g c = λ h.
    let r = c.requires.walk in
    let v = rw (← c.self.view_is) at r.3 in
    let f = fresh_plans v g.met.N.Eq.laws h in
    (map_none plan_of (heap_items c.self.inside.plans.waiting) f.0, f.1)

pub returns-clause-walk : goal.returns-clause-walk
returns-clause-walk g c = λ edges start test w.
    let v = rw (← c.self.view_is) at w in
    let adjacency = rw (← c.self.view_is) at c.requires.adjacency in
    let e = c.choose.ensures in
    let r = c.choose.result in
    let p = c.choose.new.self in
    let why = refused_for v g.met.N.Eq.laws adjacency.0 r e.overflow e.due e.errors in
    let free = rw (← c.self.view_is) at c.requires.free in
    let after = chose v g.met.N.Eq.laws adjacency.0 adjacency.1 free r p.has_begun (waiting_plans (heap_items p.waiting)) (chosen_plan p.chosen) p.is_given e.begun e.first e.goes_on e.begins e.kept in
    (after, rw (← c.self.view_is) why)

pub returns-clause-ended : goal.returns-clause-ended
returns-clause-ended g c = λ ended.
    let w = c.requires.walk in
    let v = rw (← c.self.view_is) at w.3 in
    let e = c.choose.ensures in
    let p = c.choose.new.self in
    still_ended v c.choose.result p.has_begun (waiting_plans (heap_items p.waiting)) (chosen_plan p.chosen) p.is_given e.begun e.goes_on e.due (rw (← c.self.view_is) at ended)

pub returns-clause-open : goal.returns-clause-open
returns-clause-open g c =
    let w = c.requires.walk in
    let v = rw (← c.self.view_is) at w.3 in
    let e = c.choose.ensures in
    let p = c.choose.new.self in
    still_open v c.choose.result p.has_begun (waiting_plans (heap_items p.waiting)) (chosen_plan p.chosen) p.is_given e.kept e.due
