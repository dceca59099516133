use Rattle.std.proofs.Common.{refl, sym, ◌∙◌, inr, arith, ◌≡◌, ◌++◌, ◌∷◌, []}
use Rattle.std.proofs.lemmas.Result.{IfOk-from_err}
use Rattle.std.proofs.lemmas.Option.{slice_get_within}
use Rattle.pf_base.proofs.Outcomes.{refused_as}
use Rattle.pf_orders.proofs.OrderLemmas.{is_none, is_some}
use Rattle.pf_orders.proofs.RoundLemmas.{grouping_start, grouping_next, levels_of}
use Rattle.pf_orders.proofs.rounds.group_numbers.Goals as goal

pub returns-in_err-group : goal.returns-in_err-group
returns-in_err-group g c =
    let r = c.from_residual in
    record {
      levels = IfOk-from_err _ _ r.ensures.0;
      refused = refused_as _ r.result _ r.ensures.1 c.in_err-group.ensures.refused;
    }

pub rounds-init : goal.rounds-init
rounds-init g c = rw c.new-groups.ensures.items (grouping_start c.args.rows.items c.args.counts.items c.in_ok-group.group.items c.requires.counted c.requires.wide (rw c.deref.ensures.value at c.in_ok-group.ensures.exact) c.in_ok-group.ensures.once)

pub round-requires-clause-counted : goal.round-requires-clause-counted
round-requires-clause-counted g c =
    let v = c.rounds.invariant in
    v.counted

pub round-requires-clause-wide : goal.round-requires-clause-wide
round-requires-clause-wide g c =
    let v = c.rounds.invariant in
    v.wide ∙ sym v.len

pub round-requires-clause-inside : goal.round-requires-clause-inside
round-requires-clause-inside g c =
    let v = c.rounds.invariant in
    λ i h.
    let at = v.was_free i (inr (rw c.deref-in-rounds.ensures.value at h)) in
    let l = slice_get_within c.rounds.counts.items i 0 at in
    omega (arith, l, v.wide, v.len)

pub returns-in_err-next : goal.returns-in_err-next
returns-in_err-next g c =
    let r = c.from_residual-in_err-next in
    record {
      levels = IfOk-from_err _ _ r.ensures.0;
      refused = refused_as _ r.result _ r.ensures.1 c.in_err-next.ensures.refused;
    }

pub returns-in_err-push : goal.returns-in_err-push
returns-in_err-push g c =
    let r = c.from_residual-in_err-push in
    record {
      levels = IfOk-from_err _ _ r.ensures.0;
      refused = refused_as _ r.result _ r.ensures.1 refl;
    }

pub rounds-preserved : goal.rounds-preserved
rounds-preserved g c =
    let e : c.push.new.self.items ≡ c.rounds.groups.items ++ c.rounds.group ∷ [] = c.in_ok-push.ensures.items in
    let some = is_some c.rounds.group _ c.is_empty.ensures c.rounds-test.true in
    rw e (grouping_next c.args.rows.items c.rounds.rows.items c.round.new.rows.items c.rounds.counts.items c.round.new.counts.items c.rounds.groups.items c.rounds.group c.in_ok-next.next.items some c.rounds.invariant (rw c.deref-in-rounds.ensures.value at c.in_ok-next.ensures.round))

pub returns-in_err-remaining : goal.returns-in_err-remaining
returns-in_err-remaining g c =
    let r = c.from_residual-in_err-remaining in
    record {
      levels = IfOk-from_err _ _ r.ensures.0;
      refused = refused_as _ r.result _ r.ensures.1 c.in_err-remaining.ensures.refused;
    }

pub returns : goal.returns
returns g c = record {
  levels =
      let none = is_none c.rounds.group _ c.is_empty.ensures c.rounds-test.false in
      levels_of c.args.rows.items c.rounds.rows.items c.rounds.counts.items c.rounds.groups.items c.rounds.group.items _ c.rounds.invariant none (rw c.deref-2.ensures.value at c.in_ok-remaining.ensures.exact) c.in_ok-remaining.ensures.once;
  refused = tt;
}
