use Rattle.std.proofs.Common.{arith}
use Rattle.std.proofs.lemmas.Option.{slice_get_within}
use Rattle.pf_flow.proofs.taking_back.number_of.Goals as goal

pub arcs-init : goal.arcs-init
arcs-init c = let o = c.requires.listed in (o.0, o.1, omega arith, o.2, o.3, o.4)

pub offset_bounds-ends-number : goal.offset_bounds-ends-number
offset_bounds-ends-number c =
    let i = c.arcs.invariant in
    omega (arith, slice_get_within c.args.ends.now i.0 i.1 i.3, i.2)

pub bounds-ends-number : goal.bounds-ends-number
bounds-ends-number c =
    let i = c.arcs.invariant in
    omega (arith, slice_get_within c.args.ends.now i.0 i.1 i.3, i.2)

pub offset_bounds-ends-number-else-ends-number : goal.offset_bounds-ends-number-else-ends-number
offset_bounds-ends-number-else-ends-number c =
    let i = c.arcs.invariant in
    omega (arith, slice_get_within c.args.ends.now i.0 i.1 i.3, i.2)

pub bounds-ends-number-else-ends-number : goal.bounds-ends-number-else-ends-number
bounds-ends-number-else-ends-number c =
    let i = c.arcs.invariant in
    omega (arith, slice_get_within c.args.ends.now i.0 i.1 i.3, i.2)

pub overflow_add-number : goal.overflow_add-number
overflow_add-number c =
    let i = c.arcs.invariant in
    omega (arith, slice_get_within c.args.ends.now i.0 i.1 i.3, i.2)

pub arcs-smaller : goal.arcs-smaller
arcs-smaller c =
    let i = c.arcs.invariant in
    omega (arith, slice_get_within c.args.ends.now i.0 i.1 i.3, i.2)
