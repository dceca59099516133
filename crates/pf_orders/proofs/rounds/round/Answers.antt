use Rattle.std.proofs.Common.{◌≡◌, ◌∙◌, [], ℕ, List, arith, get_or, take, slice_get, Some, subst, sym, ap}
use Rattle.std.specs.Prelude.{Vec}
use Rattle.std.proofs.lemmas.List.{take_more, take_all}
use Rattle.std.proofs.lemmas.Result.{IfOk-from_err}
use Rattle.pf_orders.specs.Internal.Rounds.{IsRound}
use Rattle.pf_base.proofs.Outcomes.{refused_as}
use Rattle.pf_base.proofs.ListLemmas.{at_place, Contains-index}
use Rattle.pf_orders.proofs.OrderLemmas.{member_of}
use Rattle.pf_orders.proofs.RoundLemmas.{round_more, row_enough}
use Rattle.pf_orders.proofs.rounds.round.Goals as goal

pub index_mut-requires : goal.index_mut-requires
index_mut-requires g c =
    let group = c.args.group.now in
    let i = c.numbers.number-index in
    let l = c.requires.inside (get_or group i 0) (member_of group (get_or group i 0) (Contains-index group i 0 c.numbers-test.true)) in
    omega (arith, l, c.numbers.invariant.wide, c.numbers.rows.ok)

pub release-requires-clause-inside : goal.release-requires-clause-inside
release-requires-clause-inside g c = λ j h.
    let group = c.args.group.now in
    let i = c.numbers.number-index in
    let t = get_or group i 0 in
    let rows = c.numbers.rows.items in
    let v = c.numbers.invariant in
    let l = c.requires.inside t (member_of group t (Contains-index group i 0 c.numbers-test.true)) in
    let row = c.replace-row.result in
    let placed : slice_get rows t ≡ Some c.index_mut.result.now = at_place rows t _ _ (omega (arith, l, v.wide)) (sym c.index_mut.ensures.value) in
    let at : slice_get rows t ≡ Some row = placed ∙ ap Some (sym c.replace-row.ensures.value) in
    v.counted.inside t j (row, at, rw c.deref.ensures.value at h)

pub release-requires-clause-enough : goal.release-requires-clause-enough
release-requires-clause-enough g c = λ j k h.
    let group = c.args.group.now in
    let i = c.numbers.number-index in
    let t = get_or group i 0 in
    let rows = c.numbers.rows.items in
    let v = c.numbers.invariant in
    let l = c.requires.inside t (member_of group t (Contains-index group i 0 c.numbers-test.true)) in
    let row = c.replace-row.result in
    let placed : slice_get rows t ≡ Some c.index_mut.result.now = at_place rows t _ _ (omega (arith, l, v.wide)) (sym c.index_mut.ensures.value) in
    let at : slice_get rows t ≡ Some row = placed ∙ ap Some (sym c.replace-row.ensures.value) in
    let none : c.replace-row.new.dest.items ≡ [] = ap (λ (w : Vec ℕ g.row.A.Denot). w.items) c.replace-row.ensures.after ∙ c.new.ensures.items in
    rw c.deref.ensures.value (row_enough rows t row c.replace-row.new.dest at none c.numbers.counts.items v.counted j k h)

pub numbers-preserved : goal.numbers-preserved
numbers-preserved g c =
    let group = c.args.group.now in
    let i = c.numbers.number-index in
    let t = get_or group i 0 in
    let rows = c.numbers.rows.items in
    let v = c.numbers.invariant in
    let l = c.requires.inside t (member_of group t (Contains-index group i 0 c.numbers-test.true)) in
    let row = c.replace-row.result in
    let placed : slice_get rows t ≡ Some c.index_mut.result.now = at_place rows t _ _ (omega (arith, l, v.wide)) (sym c.index_mut.ensures.value) in
    let at : slice_get rows t ≡ Some row = placed ∙ ap Some (sym c.replace-row.ensures.value) in
    let none : c.replace-row.new.dest.items ≡ [] = ap (λ (w : Vec ℕ g.row.A.Denot). w.items) c.replace-row.ensures.after ∙ c.new.ensures.items in
    let e = c.in_ok-release.ensures in
    let falls = rw c.deref.ensures.value at e.falls in
    let f = e.freed in
    rw (take_more group i 0 c.numbers-test.true, f.1)
    (round_more rows t row c.replace-row.new.dest at none c.numbers.counts.items c.release.new.counts.items f.0 v.counted falls f.2 (take i group) c.numbers.next.items c.args.counts.now.items c.args.rows.now.items v)

pub returns-in_err-release : goal.returns-in_err-release
returns-in_err-release g c =
    let r = c.from_residual in
    record {
      round = IfOk-from_err _ _ r.ensures.0;
      refused = refused_as _ r.result _ r.ensures.1 c.in_err-release.ensures.refused;
    }

pub returns : goal.returns
returns g c = record {
  round = subst (λ (ks : List ℕ). IsRound ks c.numbers.next.items c.args.counts.now.items c.numbers.counts.items c.args.rows.now.items c.numbers.rows.items) (take_all _ _ c.numbers-test.false) c.numbers.invariant;
  refused = tt;
}
