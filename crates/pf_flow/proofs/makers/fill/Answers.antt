use Rattle.std.proofs.Common.{◌≡◌, ◌∙◌, ◌<◌, ◌+◌, ◌*◌, ◌/◌, ◌%◌, arith, inl, inr, refl, sym, ap, subst, rules, length}
use Rattle.pf_base.specs.Places.{number}
use Rattle.pf_residual.specs.Capacities.{square_table, AreRefused}
use Rattle.pf_residual.proofs.NetworkLemmas.{none_sum}
use Rattle.pf_residual.proofs.FillLemmas.{square_negative, square_above, filled_start, filled_more, filled_all, filled_refused, place_parts, number_read}
use Rattle.pf_flow.proofs.makers.fill.Goals as goal

pub returns-then-has_negative-clause-refused : goal.returns-then-has_negative-clause-refused
returns-then-has_negative-clause-refused g c =
    let N = g.S.FlowStore.network c.args.store.now in
    let source = (g.met.S.FlowStore.network_law c.args.store.now).source_in in
    inr (inl (refl, square_negative g.C.Number.value c.args.capacities.now N.vertices c.requires.square (omega (arith, source)) c.if-has_negative.ensures))

pub places-init : goal.places-init
places-init g c =
    let N = g.S.FlowStore.network c.args.store.now in
    let zero = ap g.C.Number.value c.zero-sum.ensures ∙ g.met.C.Zero.zero_law g.met.C.Integral.exact_law in
    (filled_start c.requires.unused c.requires.none, zero ∙ sym (none_sum N c.requires.none))

pub returns-in_err-sum-clause-refused : goal.returns-in_err-sum-clause-refused
returns-in_err-sum-clause-refused g c =
    let N = g.S.FlowStore.network c.args.store.now in
    let M = g.S.FlowStore.network c.places.store in
    let value = g.C.Number.value in
    let exact = g.met.C.Integral.exact_law in
    let source = (g.met.S.FlowStore.network_law c.places.store).source_in in
    let shape = c.places.invariant.0.shape.vertices in
    let k = c.places.place in
    let inside : k < N.vertices * N.vertices = subst (λ n. k < n) c.requires.square c.places-test.true in
    let parts = place_parts c.size-size.result M.vertices k (c.size-size.ensures ∙ sym shape) (omega (arith, source)) (subst (λ n. k < n * n) (sym shape) inside) in
    let read = number_read value c.args.capacities.now k c.index-capacities-place.result c.places-test.true c.index-capacities-place.is in
    let same : value c.index-capacities-place.result ≡ square_table value N.vertices c.args.capacities.now (k / c.size-size.result) (k % c.size-size.result) =
    sym read ∙ ap (number value c.args.capacities.now) (sym (subst (λ n. (k / c.size-size.result) * n + k % c.size-size.result ≡ k) shape parts.2)) in
    let refused : AreRefused g.C.Number.fits N.vertices (square_table value N.vertices c.args.capacities.now) c.in_err-sum.field-0.0 =
    filled_refused (λ x y z. g.C.Number.between_law x y z exact) (g.met.C.Zero.zero_fits_law exact) k (k / c.size-size.result) (k % c.size-size.result) (value c.index-capacities-place.result)
    c.places.invariant.0 (square_above value c.args.capacities.now N.vertices c.requires.square c.if-has_negative.ensures) parts.0 parts.1 same c.in_err-sum.field-0.0 c.in_err-sum.ensures.refused in
    search (rules, refused)

pub places-preserved : goal.places-preserved
places-preserved g c =
    let N = g.S.FlowStore.network c.args.store.now in
    let M = g.S.FlowStore.network c.places.store in
    let value = g.C.Number.value in
    let source = (g.met.S.FlowStore.network_law c.places.store).source_in in
    let shape = c.places.invariant.0.shape.vertices in
    let k = c.places.place in
    let inside : k < N.vertices * N.vertices = subst (λ n. k < n) c.requires.square c.places-test.true in
    let parts = place_parts c.size-size.result M.vertices k (c.size-size.ensures ∙ sym shape) (omega (arith, source)) (subst (λ n. k < n * n) (sym shape) inside) in
    let read = number_read value c.args.capacities.now k c.index-capacities-place.result c.places-test.true c.index-capacities-place.is in
    let same : value c.index-capacities-place.result ≡ square_table value N.vertices c.args.capacities.now (k / c.size-size.result) (k % c.size-size.result) =
    sym read ∙ ap (number value c.args.capacities.now) (sym (subst (λ n. (k / c.size-size.result) * n + k % c.size-size.result ≡ k) shape parts.2)) in
    (filled_more k (k / c.size-size.result) (k % c.size-size.result) (value c.index-capacities-place.result) c.places.invariant.0 parts.2 parts.1 same c.in_ok-sum.ensures.changed c.in_ok-sum.ensures.unused, c.in_ok-sum.ensures.sum)

pub nonzero_div-place : goal.nonzero_div-place
nonzero_div-place g c =
    let source = (g.met.S.FlowStore.network_law c.args.store.now).source_in in
    omega (arith, source, c.size-size.ensures)

pub nonzero_rem-place : goal.nonzero_rem-place
nonzero_rem-place g c =
    let source = (g.met.S.FlowStore.network_law c.args.store.now).source_in in
    omega (arith, source, c.size-size.ensures)

pub bounds-capacities-place : goal.bounds-capacities-place
bounds-capacities-place g c = c.places-test.true

pub offset_bounds-capacities-place : goal.offset_bounds-capacities-place
offset_bounds-capacities-place g c = omega (arith, c.places-test.true)

pub put_capacity-requires-clause-unused : goal.put_capacity-requires-clause-unused
put_capacity-requires-clause-unused g c = c.places.invariant.0.unused

pub put_capacity-requires-clause-sum : goal.put_capacity-requires-clause-sum
put_capacity-requires-clause-sum g c = c.places.invariant.1

pub put_capacity-requires-clause-from : goal.put_capacity-requires-clause-from
put_capacity-requires-clause-from g c =
    let N = g.S.FlowStore.network c.args.store.now in
    let M = g.S.FlowStore.network c.places.store in
    let source = (g.met.S.FlowStore.network_law c.places.store).source_in in
    let shape = c.places.invariant.0.shape.vertices in
    let k = c.places.place in
    let inside : k < N.vertices * N.vertices = subst (λ n. k < n) c.requires.square c.places-test.true in
    (place_parts c.size-size.result M.vertices k (c.size-size.ensures ∙ sym shape) (omega (arith, source)) (subst (λ n. k < n * n) (sym shape) inside)).0

pub put_capacity-requires-clause-to : goal.put_capacity-requires-clause-to
put_capacity-requires-clause-to g c =
    let N = g.S.FlowStore.network c.args.store.now in
    let M = g.S.FlowStore.network c.places.store in
    let source = (g.met.S.FlowStore.network_law c.places.store).source_in in
    let shape = c.places.invariant.0.shape.vertices in
    let k = c.places.place in
    let inside : k < N.vertices * N.vertices = subst (λ n. k < n) c.requires.square c.places-test.true in
    (place_parts c.size-size.result M.vertices k (c.size-size.ensures ∙ sym shape) (omega (arith, source)) (subst (λ n. k < n * n) (sym shape) inside)).1

pub places-smaller : goal.places-smaller
places-smaller g c = omega (arith, c.places-test.true)

pub returns-clause-unused : goal.returns-clause-unused
returns-clause-unused g c = c.places.invariant.0.unused

pub returns-clause-shape : goal.returns-clause-shape
returns-clause-shape g c = c.places.invariant.0.shape

pub returns-clause-capacities : goal.returns-clause-capacities
returns-clause-capacities g c =
    let end : c.places.place ≡ length c.args.capacities.now = omega arith in
    filled_all c.places.place c.places.invariant.0 (end ∙ c.requires.square)
