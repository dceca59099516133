use Rattle.std.proofs.Common.{arith, subst}
use Rattle.std.proofs.lemmas.Int.{ints}
use Rattle.num_traits.specs.Laws.{Checks}
use Rattle.pf_residual.specs.Networks.{capacity}
use Rattle.pf_residual.proofs.ChangeLemmas.{replaced_sum}
use Rattle.pf_residual.proofs.SumLemmas.{pair_sum_has}
use Rattle.pf_flow.proofs.changes.sum_after.Goals as goal

pub exchanged-requires-clause-old : goal.exchanged-requires-clause-old
exchanged-requires-clause-old g c =
    let above = c.requires.network.capacities.at c.args.from c.args.to c.requires.from c.requires.to in
    let old = c.requires.old in
    omega (arith, ints, above, old)

pub exchanged-requires-clause-within : goal.exchanged-requires-clause-within
exchanged-requires-clause-within g c =
    let has = pair_sum_has c.requires.network.capacities c.args.from c.args.to c.requires.from c.requires.to in
    let old = c.requires.old in
    let sum = c.in_ok-sum.ensures.sum in
    omega (arith, ints, has, old, sum)

pub returns-clause-sum : goal.returns-clause-sum
returns-clause-sum g c =
    let N = g.S.FlowStore.network c.args.store.now in
    let value = g.C.Number.value in
    let more = replaced_sum (capacity N) c.args.from c.args.to (value c.args.number) N.vertices c.requires.from c.requires.to in
    let old = c.requires.old in
    let sum = c.in_ok-sum.ensures.sum in
    subst (λ z. Checks value g.C.Number.fits z c.exchanged.result) (omega (arith, ints, more, old, sum)) c.exchanged.ensures
