use Rattle.std.proofs.Common.{rules, ◌≡◌, ◌∙◌, Some, arith, get_or, sym, ap, subst, pos}
use Rattle.std.specs.Prelude.{◌+ℤ◌, slice_get}
use Rattle.std.proofs.lemmas.Int.{ints}
use Rattle.std.proofs.lemmas.Option.{slice_get-get_or, slice_get_within}
use Rattle.std.proofs.lemmas.List.{take_all}
use Rattle.pf_base.proofs.ListLemmas.{at_place}
use Rattle.pf_residual.specs.Internal.Cancelling.{IsTakenOff, net_of, gained}
use Rattle.pf_residual.proofs.CycleLemmas.{next_apart, taken_none, taken_more, balance_more}
use Rattle.pf_residual.proofs.cancelling.cycle.take_off.Goals as goal

pub bounds-amounts-number : goal.bounds-amounts-number
bounds-amounts-number g c =
    let i = c.arcs.number-index in
    let k = get_or c.args.cycle.now i 0 in
    let o = c.requires.each k (i, slice_get-get_or c.args.cycle.now i 0 c.arcs-test.true) in
    let l = slice_get_within c.args.amounts.now k o.0 o.1 in
    omega (arith, l, c.arcs.invariant.taken.len)

pub offset_bounds-amounts-number : goal.offset_bounds-amounts-number
offset_bounds-amounts-number g c = let l = bounds-amounts-number g c in search rules

pub bounds-amounts-number-in-arcs : goal.bounds-amounts-number-in-arcs
bounds-amounts-number-in-arcs g c =
    let i = c.arcs.number-index in
    let k = get_or c.args.cycle.now i 0 in
    let o = c.requires.each k (i, slice_get-get_or c.args.cycle.now i 0 c.arcs-test.true) in
    let l = slice_get_within c.args.amounts.now k o.0 o.1 in
    omega (arith, l, c.arcs.invariant.taken.len)

pub offset_bounds-amounts-number-in-arcs : goal.offset_bounds-amounts-number-in-arcs
offset_bounds-amounts-number-in-arcs g c = let l = bounds-amounts-number-in-arcs g c in search rules

pub minus-requires : goal.minus-requires
minus-requires g c =
    let value = g.C.Number.value in
    let exact = g.met.C.Integral.exact_law in
    let i = c.arcs.number-index in
    let k = get_or c.args.cycle.now i 0 in
    let now = c.arcs.amounts in
    let xs = c.args.amounts.now in
    let x = c.index-amounts-number.result in
    let o = c.requires.each k (i, slice_get-get_or c.args.cycle.now i 0 c.arcs-test.true) in
    let l = slice_get_within xs k o.0 o.1 in
    let at : slice_get now k ≡ Some x = at_place now k _ _ (omega (arith, l, c.arcs.invariant.taken.len)) (sym c.index-amounts-number.is) in
    let was : slice_get now k ≡ slice_get xs k = c.arcs.invariant.taken.same k (next_apart c.args.cycle.now i c.arcs-test.true c.requires.once) in
    let same : Some x ≡ Some o.0 = sym at ∙ was ∙ o.1 in
    let v : x ≡ o.0 = cc in
    let e : value x ≡ value o.0 = ap value v in
    let m = o.2 in
    let p = c.requires.amount in
    g.C.Number.between_law (pos 0) _ (value x) exact (g.met.C.Zero.zero_fits_law exact) c.known.ensures (omega (arith, ints, e, m)) (omega (arith, ints, p))

pub arcs-init : goal.arcs-init
arcs-init g c = record { taken = taken_none g.C.Number.value (g.C.Number.value c.args.amount) c.args.amounts.now; balance = λ side ends l. omega (arith, ints) }

pub arcs-preserved : goal.arcs-preserved
arcs-preserved g c =
    let value = g.C.Number.value in
    let i = c.arcs.number-index in
    let k = get_or c.args.cycle.now i 0 in
    let now = c.arcs.amounts in
    let xs = c.args.amounts.now in
    let x = c.index-amounts-number.result in
    let o = c.requires.each k (i, slice_get-get_or c.args.cycle.now i 0 c.arcs-test.true) in
    let l = slice_get_within xs k o.0 o.1 in
    let at : slice_get now k ≡ Some x = at_place now k _ _ (omega (arith, l, c.arcs.invariant.taken.len)) (sym c.index-amounts-number.is) in
    record {
      taken = taken_more value (value c.args.amount) c.args.cycle.now i c.arcs-test.true xs now x c.minus.result at c.minus.ensures c.requires.once c.arcs.invariant.taken;
      balance = λ side ends long. balance_more value (value c.args.amount) c.args.cycle.now i c.arcs-test.true xs now x c.minus.result at c.minus.ensures side ends (c.arcs.invariant.taken.len ∙ long) (c.arcs.invariant.balance side ends long);
    }

pub bounds-cycle-number-index : goal.bounds-cycle-number-index
bounds-cycle-number-index g c = c.arcs-test.true

pub offset_bounds-cycle-number-index : goal.offset_bounds-cycle-number-index
offset_bounds-cycle-number-index g c = omega (arith, c.arcs-test.true)

pub arcs-smaller : goal.arcs-smaller
arcs-smaller g c = omega (arith, c.arcs-test.true)

pub returns-clause-taken : goal.returns-clause-taken
returns-clause-taken g c =
    let all = take_all c.arcs.number-index c.args.cycle.now c.arcs-test.false in
    subst (λ ks. IsTakenOff g.C.Number.value (g.C.Number.value c.args.amount) ks c.args.amounts.now c.arcs.amounts) all c.arcs.invariant.taken

pub returns-clause-balance : goal.returns-clause-balance
returns-clause-balance g c = λ side ends long.
    let value = g.C.Number.value in
    let all = take_all c.arcs.number-index c.args.cycle.now c.arcs-test.false in
    subst (λ ks. net_of value side ends c.arcs.amounts +ℤ gained side (value c.args.amount) ends ks ≡ net_of value side ends c.args.amounts.now) all (c.arcs.invariant.balance side ends long)
