use Rattle.std.proofs.Common.{◌≡◌, ◌+◌, ◌≤◌, ◌++◌, ◌∙◌, ℕ, List, ap, arith, length, length-append, inl, inr}
use Rattle.std.specs.Prelude.{◌⊎◌}
use Rattle.std.proofs.lemmas.Option.{MatchOption-at_some, MatchOption-at_none}
use Rattle.pf_base.proofs.Outcomes.{on_ok, if_refused, on_refused, refused_as}
use Rattle.pf_informed.specs.Internal.Fringe.{listed, IsBelowWaiting}
use Rattle.pf_informed.proofs.FringeLemmas.{moved_from, queue_in, moved_wait, nothing_before, below_before, taken_before}
use Rattle.pf_informed.proofs.Outcomes.{answer_or_none}
use Rattle.pf_informed.proofs.fringe_lists.FringeLists.take.Goals as goal

-- what is left in all, once entries went from the queue to the lists
module _ {A : Type 0} (a b a' b' : List A) (h h' n m : ℕ) where
  as_many : h' + length a' ≡ h + length a → b' ≡ b → n ≤ m → m ≤ length (a' ++ b') → h' + n ≤ h + length (a ++ b)
  as_many count same le over = omega (arith, ap length same, length-append a b, length-append a' b')

  one_fewer : h' + length a' ≡ h + length a → b' ≡ b → n + 1 ≤ m → m ≤ length (a' ++ b') → h' + n + 1 ≤ h + length (a ++ b)
  one_fewer count same le over = omega (arith, ap length same, length-append a b, length-append a' b')

pub take_within-requires : goal.take_within-requires
take_within-requires g c =
    let t = c.in_ok-take_in.ensures in
    let old = c.args.self.now in
    let mid = c.take_in.new.self in
    record {
      queue = queue_in g.C.Number.value c.args.labels.now.items c.args.estimates.now.items _ _ c.requires.queue (moved_from c.args.queue.now.entries old.current.items old.later.items mid.current.items mid.later.items t.same t.later);
      sums = c.requires.sums;
    }

pub returns-in_err-take_in : goal.returns-in_err-take_in
returns-in_err-take_in g c = record {
  queue = on_refused _ c.from_residual.result _ c.from_residual.ensures.1;
  limit = on_refused _ c.from_residual.result _ c.from_residual.ensures.1;
  taken = if_refused _ c.from_residual.result _ c.from_residual.ensures.1;
  fewer = if_refused _ c.from_residual.result _ c.from_residual.ensures.1;
  refused = refused_as _ c.from_residual.result _ c.from_residual.ensures.1 c.in_err-take_in.ensures.refused;
}

pub returns-in_err-taken : goal.returns-in_err-taken
returns-in_err-taken g c = record {
  queue = on_refused _ c.from_residual-in_err-taken.result _ c.from_residual-in_err-taken.ensures.1;
  limit = on_refused _ c.from_residual-in_err-taken.result _ c.from_residual-in_err-taken.ensures.1;
  taken = if_refused _ c.from_residual-in_err-taken.result _ c.from_residual-in_err-taken.ensures.1;
  fewer = if_refused _ c.from_residual-in_err-taken.result _ c.from_residual-in_err-taken.ensures.1;
  refused = refused_as _ c.from_residual-in_err-taken.result _ c.from_residual-in_err-taken.ensures.1 c.in_err-taken.ensures.refused;
}

pub raise_limit-requires-clause-over : goal.raise_limit-requires-clause-over
raise_limit-requires-clause-over g c = (MatchOption-at_none _ _ c.in_default.is c.in_ok-taken.ensures.taken).0

pub raise_limit-requires-clause-queue : goal.raise_limit-requires-clause-queue
raise_limit-requires-clause-queue g c = c.in_ok-taken.ensures.queue

pub returns : goal.returns
returns g c = record {
  limit =
      let value = g.C.Number.value in
      let labels = c.args.labels.now.items in
      let estimates = c.args.estimates.now.items in
      let t = c.in_ok-take_in.ensures in
      let old = c.args.self.now in
      let mid = c.take_in.new.self in
      let moved = moved_wait value labels estimates c.args.queue.now.entries old.current.items old.later.items mid.current.items mid.later.items t.same t.later in
      let over = MatchOption-at_none _ _ c.in_default.is c.in_ok-taken.ensures.taken in
      let limit = c.raise_limit.new.self.limit in
      let first = c.args.queue.now.entries ++ listed old in
      on_ok c.raise_limit.result c.raise_limit.ensures.limit (λ r. elim r as (λ _. (limit ≡ old.limit) ⊎ (g.C.Number.fits (value limit) × IsBelowWaiting value labels estimates first limit)) [
        | inl same ↦ inl (same ∙ c.in_ok-taken.ensures.limit ∙ t.limit)
        | inr low ↦ inr (low.0, below_before value labels estimates first (listed mid) moved limit (below_before value labels estimates (listed mid) (listed c.take_within.new.self) over.1 limit low.1))
      ]);
  taken =
      let value = g.C.Number.value in
      let labels = c.args.labels.now.items in
      let estimates = c.args.estimates.now.items in
      let t = c.in_ok-take_in.ensures in
      let old = c.args.self.now in
      let mid = c.take_in.new.self in
      let moved = moved_wait value labels estimates c.args.queue.now.entries old.current.items old.later.items mid.current.items mid.later.items t.same t.later in
      let over = MatchOption-at_none _ _ c.in_default.is c.in_ok-taken.ensures.taken in
      let first = c.args.queue.now.entries ++ listed old in
      let limit = c.raise_limit.new.self.limit in
      rw t.emptied (answer_or_none _ _ _ _ c.raise_limit.result
      (λ none. nothing_before value labels estimates first (listed mid) moved (nothing_before value labels estimates (listed mid) (listed c.take_within.new.self) over.1 none))
      (λ x taken. taken_before value labels estimates first (listed mid) moved x.number x.cost limit (listed c.raise_limit.new.self) (taken_before value labels estimates (listed mid) (listed c.take_within.new.self) over.1 x.number x.cost limit (listed c.raise_limit.new.self) taken))
      c.raise_limit.ensures.taken);
  refused = c.raise_limit.ensures.refused;
  queue = on_ok c.raise_limit.result c.raise_limit.ensures.queue (λ q. rw c.in_ok-take_in.ensures.emptied q);
  fewer =
      let t = c.in_ok-take_in.ensures in
      let old = c.args.self.now in
      let mid = c.take_in.new.self in
      let over = MatchOption-at_none _ _ c.in_default.is c.in_ok-taken.ensures.fewer in
      answer_or_none _ _ _ _ c.raise_limit.result
      (λ none. as_many old.current.items old.later.items mid.current.items mid.later.items _ _ _ _ t.count t.later none over)
      (λ x some. one_fewer old.current.items old.later.items mid.current.items mid.later.items _ _ _ _ t.count t.later some over) c.raise_limit.ensures.fewer;
}

pub returns-in-Some : goal.returns-in-Some
returns-in-Some g c = record {
  taken =
      let value = g.C.Number.value in
      let labels = c.args.labels.now.items in
      let estimates = c.args.estimates.now.items in
      let t = c.in_ok-take_in.ensures in
      let old = c.args.self.now in
      let mid = c.take_in.new.self in
      let moved = moved_wait value labels estimates c.args.queue.now.entries old.current.items old.later.items mid.current.items mid.later.items t.same t.later in
      let taken = MatchOption-at_some _ _ c.in-Some.taken c.in-Some.is c.in_ok-taken.ensures.taken in
      rw t.emptied (taken_before value labels estimates _ (listed mid) moved c.in-Some.taken.number c.in-Some.taken.cost c.take_within.new.self.limit (listed c.take_within.new.self) taken);
  refused = tt;
  queue = rw c.in_ok-take_in.ensures.emptied c.in_ok-taken.ensures.queue;
  limit = inl (c.in_ok-taken.ensures.limit ∙ c.in_ok-take_in.ensures.limit);
  fewer =
      let t = c.in_ok-take_in.ensures in
      let old = c.args.self.now in
      let mid = c.take_in.new.self in
      one_fewer old.current.items old.later.items mid.current.items mid.later.items _ _ _ _ t.count t.later (MatchOption-at_some _ _ c.in-Some.taken c.in-Some.is c.in_ok-taken.ensures.fewer) (omega arith);
}
