use Rattle.std.proofs.Common.{sym, subst, ◌≡◌, ◌++◌, ℤ, List, [], Option, Some, None}
use Rattle.std.specs.Prelude.{⊤, ◌≤ℤ◌, Contains, IsPermutation, MatchOption}
use Rattle.pf_informed.specs.Internal.Waiting.{Entry, IsTakenOut, Queued}
use Rattle.pf_informed.proofs.BucketLemmas.{bucket_still, first_taken}
use Rattle.pf_informed.proofs.queue.Queue.take_first.Goals as goal

-- none that is left has a lesser sum than what was taken out
least_taken : {C : Type 0} (value : C → ℤ) (bucket later bucket' later' : List (Entry C)) (r : Option (Entry C)) → MatchOption r ((bucket ++ later ≡ []) × (bucket' ++ later' ≡ [])) (λ e. IsTakenOut value e bucket later bucket' later')
    → MatchOption r ⊤ (λ e. (f : Entry C) → Contains (bucket' ++ later') f → value e.0 ≤ℤ value f.0)
least_taken value bucket later bucket' later' None h = tt
least_taken value bucket later bucket' later' (Some e) h = h.least

pub take_either-requires : goal.take_either-requires
take_either-requires g c = c.self.invariant.alike

pub invariant_of-self : goal.invariant_of-self
invariant_of-self g c =
    let s = c.self.inside in
    bucket_still g.C.Number.value s.bucket.items s.later.items c.take_either.new.bucket.items c.take_either.new.later.items s.sum s.is_below c.take_either.result c.take_either.ensures c.self.invariant

pub returns-then-self-clause-first : goal.returns-then-self-clause-first
returns-then-self-clause-first g c =
    let s = c.self.inside in
    first_taken g.C.Number.value c.args.self.now.entries s.bucket.items s.later.items c.take_either.new.bucket.items c.take_either.new.later.items c.take_either.result
    (subst (λ (q : Queued g.row.C.Denot). IsPermutation c.args.self.now.entries q.entries) (sym c.self.view_is) c.fill_bucket.ensures) c.take_either.ensures

pub returns-then-self-clause-least : goal.returns-then-self-clause-least
returns-then-self-clause-least g c = least_taken g.C.Number.value c.self.inside.bucket.items c.self.inside.later.items c.take_either.new.bucket.items c.take_either.new.later.items c.take_either.result c.take_either.ensures

pub take_front-requires-clause-alike : goal.take_front-requires-clause-alike
take_front-requires-clause-alike g c = c.self.invariant.alike

pub take_front-requires-clause-above : goal.take_front-requires-clause-above
take_front-requires-clause-above g c = c.self.invariant.above c.if-self.false

pub invariant_of-self-2 : goal.invariant_of-self-2
invariant_of-self-2 g c =
    let s = c.self.inside in
    bucket_still g.C.Number.value s.bucket.items s.later.items c.take_front.new.bucket.items c.take_front.new.later.items s.sum s.is_below c.take_front.result c.take_front.ensures c.self.invariant

pub returns-clause-first : goal.returns-clause-first
returns-clause-first g c =
    let s = c.self.inside in
    first_taken g.C.Number.value c.args.self.now.entries s.bucket.items s.later.items c.take_front.new.bucket.items c.take_front.new.later.items c.take_front.result
    (subst (λ (q : Queued g.row.C.Denot). IsPermutation c.args.self.now.entries q.entries) (sym c.self.view_is) c.fill_bucket.ensures) c.take_front.ensures

pub returns-clause-least : goal.returns-clause-least
returns-clause-least g c = least_taken g.C.Number.value c.self.inside.bucket.items c.self.inside.later.items c.take_front.new.bucket.items c.take_front.new.later.items c.take_front.result c.take_front.ensures
